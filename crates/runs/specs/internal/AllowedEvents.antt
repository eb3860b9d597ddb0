-- The events that are allowed in a state, as a list.
-- No reader has to believe it: the law `AllowedAreListed` says that it has exactly the events of which `Allowed` of
-- `Steps.antt` holds.
use Rattle.std.specs.Prelude.{ℕ, suc, ◌*◌, List, [], ◌∷◌, ◌++◌, true, false, Option, Some, None}
use Rattle.address.specs.declared.Entry.{Entry}
use Rattle.address.specs.declared.Entry.TheVariants.{Ordered, Branch}
use Rattle.system.specs.Expression.{Store, by_guards, decide}
use Rattle.system.specs.Residual.{Residual, done, halted, inside, beside, assign, send, receive, sync, held, loop, while, test, choose, closing, drain}
use Rattle.runs.specs.Moves.{Move, assigns, tests, turns, sends, receives, syncs, opens, releases, closes}
use Rattle.runs.specs.Events.{Located, at, sent}
use Rattle.runs.specs.internal.Made.{event_of}
use Rattle.runs.specs.Steps.{State}
use Rattle.runs.specs.declared.event.Event.{Event}

-- moves, each at a place behind the entry
abbrev pub behind : Entry → List Located → List Located
behind x [] = []
behind x (l ∷ ls) = at (x ∷ l.place) l.move ∷ behind x ls

-- the opens of arms on these channels, the first of them arm k; what is received is not said yet
abbrev pub opens_from : ℕ → List ℕ → List Located
opens_from k [] = []
opens_from k (c ∷ cs) = at (Ordered 0 ∷ []) (opens c k None) ∷ opens_from (suc k) cs

-- the moves that a residual offers over a store, a test with the arm that it takes
abbrev pub offers : Store → Residual → List Located
offers s done = []
offers s halted = []
offers s (inside i child next) = behind (Ordered i) (offers s child)
offers s (beside k child rest) = behind (Branch k) (offers s child) ++ offers s rest
offers s (assign x w e) = at [] (assigns x w e) ∷ []
offers s (send c w e) = at (Ordered 0 ∷ []) (sends c w e false) ∷ at (Ordered 0 ∷ []) (sends c w e true) ∷ []
offers s (receive c x) = at [] (receives c (Some x)) ∷ []
offers s (sync c) = at (Ordered 0 ∷ []) (syncs c false) ∷ at (Ordered 0 ∷ []) (syncs c true) ∷ []
offers s (held c) = at (Ordered 1 ∷ []) (releases c) ∷ []
offers s (loop k body) = at (Ordered (2 * k) ∷ []) turns ∷ []
offers s (while k e body) =
    at (Ordered (2 * k) ∷ []) (tests (by_guards (e ∷ []) false) (decide s (by_guards (e ∷ []) false))) ∷ []
offers s (test d arms) = at (Ordered 0 ∷ []) (tests d (decide s d)) ∷ []
offers s (choose channels arms) = opens_from 0 channels
offers s (closing c) = at (Ordered 2 ∷ []) (closes c) ∷ []
offers s (drain c k) = at (Ordered k ∷ []) (receives c None) ∷ []

-- a move that meets another: an open receives what is sent
abbrev pub received_by : Store → Move → Move → Move
received_by s (sends c w e true) (opens d k v) = opens d k (Some (sent s w e))
received_by s m n = n

-- the second move at its place, as the first one meets it
abbrev pub meets : Store → Located → Located → Located
meets s l k = at k.place (received_by s l.move k.move)

-- the elements that there are
abbrev pub those : {X : Type 0} → Option X → List X → List X
those None rest = rest
those (Some x) rest = x ∷ rest

-- the events of one move alone
abbrev pub events_alone : Store → List Located → List Event
events_alone s [] = []
events_alone s (l ∷ ls) = those (event_of s (l ∷ [])) (events_alone s ls)

-- the events of the move l with each of the others
abbrev pub events_with : Store → Located → List Located → List Event
events_with s l [] = []
events_with s l (k ∷ ks) = those (event_of s (l ∷ meets s l k ∷ [])) (events_with s l ks)

-- the events of two moves, the first of the one list and the second of the other
abbrev pub events_together : Store → List Located → List Located → List Event
events_together s [] ks = []
events_together s (l ∷ ls) ks = events_with s l ks ++ events_together s ls ks

-- the events that these moves make
abbrev pub events_among : Store → List Located → List Event
events_among s ls = events_alone s ls ++ events_together s ls ls

-- the events that are allowed in a state
abbrev pub allowed_events : State → List Event
allowed_events S = events_among S.store (offers S.store S.residual)
