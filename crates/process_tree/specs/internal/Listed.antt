-- The offers of a residual, one by one, and how the code collects them.
-- No reader has to believe it: the clauses of `Tree::ready` say in the words of `Offers.antt` what is listed.
use Rattle.std.specs.Prelude.{ℕ, zero, suc, ◌+◌, ◌*◌, List, [], ◌∷◌, ◌++◌, Bool, true, false, ◌&&◌, cond, Option, Some, None}
use Rattle.address.specs.declared.Entry.{Entry}
use Rattle.address.specs.declared.Entry.TheVariants.{Ordered, Branch}
use Rattle.system.specs.Expression.{Expression}
use Rattle.system.specs.Residual.{Residual, done, halted, inside, beside, assign, send, receive, sync, held, loop, while, test, choose, closing, drain}
use Rattle.runs.specs.Moves.{Place}
use Rattle.process_tree.specs.Proc.{waiting, holding, past, Proc, idle, stopped, once, sender, fresh, turn, ended_at_once, ended, untested, skipped, took, unopened, entered, closed, sequence, parallel, drained, Procs, no_procs, proc}
use Rattle.process_tree.specs.Remaining.{residual_once, residual_sender, channel_of}
use Rattle.process_tree.specs.declared.finder.Finder.{Finder}
use Rattle.process_tree.specs.declared.offer.Offer.{Offer}
use Rattle.process_tree.specs.declared.offer.OfferKind.{OfferKind}
use Rattle.process_tree.specs.declared.offer.OfferKind.TheVariants.{Assigns, Tests, Turns, Sends, Receives, Syncs, Opens, Releases, Closes}

-- an offer at a place
abbrev pub offer_at : Place → OfferKind → Offer
offer_at a k = record { place = a; kind = k }

-- offers, each at a place behind the entry
abbrev pub behind : Entry → List Offer → List Offer
behind x [] = []
behind x (r ∷ rs) = offer_at (x ∷ r.place) r.kind ∷ behind x rs

-- the openings of arms on these channels, the first of them arm k
abbrev pub opens_from : ℕ → List ℕ → List Offer
opens_from k [] = []
opens_from k (c ∷ cs) = offer_at (Ordered 0 ∷ []) (Opens c k) ∷ opens_from (suc k) cs

-- what a residual offers
abbrev pub offers_of : Residual → List Offer
offers_of done = []
offers_of halted = []
offers_of (inside i child next) = behind (Ordered i) (offers_of child)
offers_of (beside k child rest) = behind (Branch k) (offers_of child) ++ offers_of rest
offers_of (assign x w e) = offer_at [] (Assigns x) ∷ []
offers_of (send c w e) = offer_at (Ordered 0 ∷ []) (Sends c) ∷ []
offers_of (receive c x) = offer_at [] (Receives c (Some x)) ∷ []
offers_of (sync c) = offer_at (Ordered 0 ∷ []) (Syncs c) ∷ []
offers_of (held c) = offer_at (Ordered 1 ∷ []) (Releases c) ∷ []
offers_of (loop k body) = offer_at (Ordered (2 * k) ∷ []) Turns ∷ []
offers_of (while k e body) = offer_at (Ordered (2 * k) ∷ []) Tests ∷ []
offers_of (test d arms) = offer_at (Ordered 0 ∷ []) Tests ∷ []
offers_of (choose channels arms) = opens_from 0 channels
offers_of (closing c) = offer_at (Ordered 2 ∷ []) (Closes c) ∷ []
offers_of (drain c k) = offer_at (Ordered k ∷ []) (Receives c None) ∷ []

-- a loop before turn n
abbrev pub again_at : ℕ → Option Expression → List Offer
again_at n None = offer_at (Ordered (2 * n) ∷ []) Turns ∷ []
again_at n (Some e) = offer_at (Ordered (2 * n) ∷ []) Tests ∷ []

-- what a walk through a process lists, and whether it finds it finished
pub record Listing : Type 0 where
  pub offers : List Offer
  pub over : Bool

-- what is finished
abbrev pub nothing : Listing
nothing = record { offers = []; over = true }

-- what is at work
abbrev pub at_work : List Offer → Listing
at_work rs = record { offers = rs; over = false }

-- child i, or what comes after it where it is finished
abbrev pub one_after : ℕ → Listing → Listing → Listing
one_after i x rest = cond x.over rest (at_work (behind (Ordered i) x.offers))

-- branch k, and the rest beside it
abbrev pub both : ℕ → Listing → Listing → Listing
both k x rest = record { offers = behind (Branch k) x.offers ++ rest.offers; over = x.over && rest.over }

abbrev mutual
  -- what is listed of a process
  pub listed : Proc → Listing
  listed idle = nothing
  listed stopped = at_work []
  listed (once o true) = nothing
  listed (once o false) = at_work (offers_of (residual_once o))
  listed (sender x waiting) = at_work (offers_of (residual_sender x))
  listed (sender x holding) = at_work (offers_of (held (channel_of x)))
  listed (sender x past) = nothing
  listed (fresh g c) = at_work (again_at 0 g)
  listed (turn g c n q) = one_after (2 * n + 1) (listed q) (at_work (again_at (n + 1) g))
  listed (ended_at_once g c) = nothing
  listed (ended g c n q) = nothing
  listed (untested d cs) = at_work (offer_at (Ordered 0 ∷ []) Tests ∷ [])
  listed (skipped d cs) = nothing
  listed (took d cs j q) = one_after 1 (listed q) nothing
  listed (unopened ds cs) = at_work (opens_from 0 ds)
  listed (entered ds cs c v q) = one_after 1 (listed q) (at_work (offers_of (closing c)))
  listed (closed ds cs c v q) = nothing
  listed (sequence ps) = listed_sequence 0 0 ps
  listed (parallel ps) = listed_parallel 0 ps
  listed (drained c n) = at_work (offers_of (drain c n))

  -- of children one after another without so many of the first, the first with number n
  pub listed_sequence : ℕ → ℕ → Procs → Listing
  listed_sequence k n no_procs = nothing
  listed_sequence zero n (proc p ps) = one_after n (listed p) (listed_sequence zero (n + 1) ps)
  listed_sequence (suc k) n (proc p ps) = listed_sequence k (n + 1) ps

  -- of children side by side, the first in branch n
  pub listed_parallel : ℕ → Procs → Listing
  listed_parallel n no_procs = nothing
  listed_parallel n (proc p ps) = both n (listed p) (listed_parallel (n + 1) ps)

-- offers, each at a place below this one
abbrev pub below : Place → List Offer → List Offer
below p [] = []
below p (r ∷ rs) = offer_at (p ++ r.place) r.kind ∷ below p rs

-- more offers are found, at places below that of the finder
abbrev pub added : List Offer → Finder → Finder
added rs w = record { entries = w.entries; found = w.found ++ below w.entries rs }

-- one entry further down
abbrev pub down : Entry → Finder → Finder
down x w = record { entries = w.entries ++ x ∷ []; found = w.found }

-- without the last
abbrev pub without_last : {X : Type 0} → List X → List X
without_last [] = []
without_last (x ∷ []) = []
without_last (x ∷ y ∷ ys) = x ∷ without_last (y ∷ ys)

-- one entry up
abbrev pub up : Finder → Finder
up w = record { entries = without_last w.entries; found = w.found }

-- what is listed of a process
abbrev pub lists : Proc → Finder → Finder
lists p w = added (listed p).offers w

-- of one at this entry
abbrev pub lists_at : Entry → Proc → Finder → Finder
lists_at x p w = added (behind x (listed p).offers) w
