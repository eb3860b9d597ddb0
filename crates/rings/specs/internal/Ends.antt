-- What a walk through a tree finds for all that is sought at once: ends of channels, each with its place.
-- No reader has to believe it: `proofs/Summed.antt` ties it to `stands` of what is left of the tree.
use Rattle.std.specs.Prelude.{◌≡◌, ◌↔◌, ◌==◌, ℕ, ◌+◌, ◌*◌, List, [], ◌∷◌, ◌++◌, Bool, true, false, ◌||◌, cond, is_none, Option, Some, None, slice_get}
use Rattle.std.specs.BTreeSet.{BTreeSet, contains}
use Rattle.std.specs.Ordering.{nat_cmp}
use Rattle.address.specs.declared.Entry.{Entry}
use Rattle.address.specs.declared.Entry.TheVariants.{Ordered, Branch}
use Rattle.dependence.specs.LastEvents.{Uses}
use Rattle.dependence.specs.declared.uses.UseTable.{UseTable}
use Rattle.runs.specs.Moves.{Place}
use Rattle.runs.specs.Tests.{same_entry, same_place}
use Rattle.local_actions.specs.declared.action.LocalAction.{LocalAction}
use Rattle.process_tree.specs.Children.{proc_at}
use Rattle.process_tree.specs.Code.{Once, assigning, receiving, Sender, sending, syncing, Code, continues, halts, moves_once, may_be_held, repeats, decides, awaits, in_turn, side_by_side, drains, Codes, no_code, code}
use Rattle.process_tree.specs.Proc.{waiting, holding, past, Proc, idle, stopped, once, sender, fresh, turn, ended_at_once, ended, untested, skipped, took, unopened, entered, closed, sequence, parallel, drained, Procs, no_procs, proc}
use Rattle.syntax.specs.Lists.{In}
use Rattle.system.specs.Expression.{Expression}
use Rattle.rings.specs.Partners.{is_receive, is_send, is_close, sought_by}
use Rattle.rings.specs.declared.ends.Kind.{Kind}
use Rattle.rings.specs.declared.ends.Summary.{Summary}
use Rattle.rings.specs.declared.ends.Summary.TheVariants as summary
use Rattle.rings.specs.declared.ends.Kind.TheVariants.{There, Later, Within}
use Rattle.rings.specs.declared.line.Line as line
use Rattle.rings.specs.declared.line.Line.TheVariants as lines
use Rattle.rings.specs.declared.line.Tail as code_tail
use Rattle.rings.specs.declared.line.Tail.TheVariants as tails
use Rattle.rings.specs.declared.partner.Partner.{Partner}
use Rattle.rings.specs.declared.partner.Partner.TheVariants as partner
use Rattle.rings.specs.declared.sought.Sought.{Sought}
use Rattle.rings.specs.declared.sought.Sought.TheVariants as sought
use Rattle.rings.specs.internal.Loosened.{is_marked}
use Rattle.rings.specs.internal.Placed.{Placed, placed}

-- ---- ends

-- one that stands at the root of the part that is looked at
abbrev pub there : Sought → Placed
there s = placed s [] There

-- its channel
abbrev pub channel_of : Sought → ℕ
channel_of (sought.Receiver c) = c
channel_of (sought.Sender c) = c
channel_of (sought.Partner c) = c
channel_of (sought.Close c) = c

abbrev pub is_partner : Sought → ℕ → Bool
is_partner (sought.Partner d) c = d == c
is_partner _ c = false

-- whether the second is what the first seeks
abbrev pub same_sought : Sought → Sought → Bool
same_sought s (sought.Receiver c) = is_receive s c
same_sought s (sought.Sender c) = is_send s c
same_sought s (sought.Partner c) = is_partner s c
same_sought s (sought.Close c) = is_close s c

-- whether one of the ends is what is sought
abbrev pub has : Sought → List Placed → Bool
has s [] = false
has s (e ∷ es) = same_sought s e.sought || has s es

-- whether an action on some channel waits for another: the channels are marked
abbrev pub wants : List Bool → ℕ → Bool
wants w c = is_marked (slice_get w c)

-- ---- which ends are partners of an action

-- place a is neither place p nor below it
abbrev pub clear : Place → Place → Bool
clear [] a = false
clear (x ∷ p) [] = true
clear (x ∷ p) (y ∷ a) = cond (same_entry y x) (clear p a) true

-- whether an end that counts so counts for the action at a place, or for one that stands elsewhere
abbrev pub counts : Option Place → Kind → Place → Bool
counts None k p = true
counts (Some a) There p = clear p a
counts (Some a) Later p = clear p a
counts (Some a) Within p = true

-- a partner behind both places
abbrev pub behind_both : Place → Place → Partner
behind_both p q = cond (same_place p q) (partner.Behind q) partner.Open

-- a partner behind a place, or another one
abbrev pub behind_too : Place → Partner → Partner
behind_too p partner.Gone = partner.Behind p
behind_too p (partner.Behind q) = behind_both p q
behind_too p partner.Open = partner.Open

-- an end, or another partner
abbrev pub or_end : Kind → Place → Partner → Partner
or_end There p r = partner.Open
or_end Later p r = behind_too p r
or_end Within p r = behind_too p r

abbrev pub or_end_if : Bool → Bool → Kind → Place → Partner → Partner
or_end_if true true k p r = or_end k p r
or_end_if true false k p r = r
or_end_if false b k p r = r

abbrev pub with_end : Sought → Option Place → Placed → Partner → Partner
with_end s own e r = or_end_if (same_sought s e.sought) (counts own e.kind e.place) e.kind e.place r

-- the partner among these ends
abbrev pub counted : Sought → Option Place → List Placed → Partner
counted s own [] = partner.Gone
counted s own (e ∷ es) = with_end s own e (counted s own es)

abbrev pub is_open : Partner → Bool
is_open (partner.Behind a) = false
is_open partner.Gone = false
is_open partner.Open = true

-- the partner of an action
abbrev pub partner_by : List Placed → Place → Option Sought → Partner
partner_by es a None = partner.Open
partner_by es a (Some s) = counted s (Some a) es

abbrev pub partner_from : List Placed → LocalAction → Partner
partner_from es x = partner_by es x.place (sought_by x.action)

-- the channel of each end
abbrev pub channels : List Placed → List ℕ
channels [] = []
channels (e ∷ es) = channel_of e.sought ∷ channels es

-- the table has the numbers of the ends on each channel
abbrev pub HasEnds : UseTable → List Placed → Type 0
HasEnds uses es = (c i : ℕ) → Uses uses c i ↔ (slice_get (channels es) i ≡ Some c)

-- ---- which channels are wanted

-- a number is marked, and what was
abbrev pub MarksAlso : ℕ → List Bool → List Bool → Type 0
MarksAlso c old new = (wants new c ≡ true) × ((i : ℕ) → wants old i ≡ true → wants new i ≡ true)

abbrev pub Wanted : Option Sought → List Bool → List Bool → Type 0
Wanted None old new = (i : ℕ) → wants old i ≡ true → wants new i ≡ true
Wanted (Some s) old new = MarksAlso (channel_of s) old new

-- the channels are marked on which one of the actions waits for another
abbrev pub WantsEach : List LocalAction → List Bool → Type 0
WantsEach xs w =
    (x : LocalAction) (s : Sought) → In x xs → sought_by x.action ≡ Some s → wants w (channel_of s) ≡ true

-- ---- what a walk finds in a part of a tree

pub data Sum : Type 0 where
  -- nothing is left to do there
  finished : Sum
  -- something is: whether it never ends, and the ends there
  working : Bool → List Placed → Sum

-- each somewhere here, in turns
abbrev pub within : List Sought → List Placed
within [] = []
within (s ∷ ss) = placed s [] Within ∷ within ss

-- what the code has found
abbrev pub sum_of : Summary → Sum
sum_of summary.Over = finished
sum_of (summary.AtWork e ends) = working e ends.items
sum_of (summary.InTurns e ss) = working e (within ss.items)

abbrev pub ends_in : Sum → List Placed
ends_in finished = []
ends_in (working e es) = es

abbrev pub farther : Entry → Placed → Placed
farther x e = placed e.sought (x ∷ e.place) e.kind

-- in the child at this entry
abbrev pub under : Entry → List Placed → List Placed
under x [] = []
under x (e ∷ es) = farther x e ∷ under x es

-- ---- what stands behind a child at work: where it is does not count, only what is sought there

pub data Tail : Type 0 where
  -- nothing is left to do there
  no_tail : Tail
  -- something is: whether it never ends, and what is sought there
  tail : Bool → List Sought → Tail

-- as the code has it
abbrev pub tail_as : code_tail.Tail → Tail
tail_as tails.Over = no_tail
tail_as (tails.AtWork e ss) = tail e ss.items

abbrev pub soughts : List Placed → List Sought
soughts [] = []
soughts (e ∷ es) = e.sought ∷ soughts es

abbrev pub is_among : Sought → List Sought → Bool
is_among s [] = false
is_among s (t ∷ ts) = same_sought s t || is_among s ts

-- of one part alone
abbrev pub tail_of : Sum → Tail
tail_of finished = no_tail
tail_of (working e es) = tail e (soughts es)

-- a part at work, and what stands behind it
abbrev pub longer : Bool → List Placed → Tail → Tail
longer true es t = tail true (soughts es)
longer false es no_tail = tail false (soughts es)
longer false es (tail f ss) = tail f (ss ++ soughts es)

abbrev pub tail_before : Sum → Tail → Tail
tail_before finished t = t
tail_before (working e es) t = longer e es t

abbrev pub behind_entry : Entry → Sought → Placed
behind_entry x s = placed s (x ∷ []) Later

-- behind the child at this entry, what is not passed over
abbrev pub later_but : (Sought → Bool) → Entry → List Sought → List Placed
later_but passed x [] = []
later_but passed x (s ∷ ss) = cond (passed s) (later_but passed x ss) (behind_entry x s ∷ later_but passed x ss)

-- the same, what is not in the child
abbrev pub later : Entry → List Placed → List Sought → List Placed
later x es ss = later_but (λ s. has s es) x ss

abbrev pub behind_work : Entry → Bool → List Placed → Tail → Sum
behind_work x true es t = working true (under x es)
behind_work x false es no_tail = working false (under x es)
behind_work x false es (tail f ss) = working f (later x es ss ++ under x es)

-- in the child at this entry, or in what comes behind it, of which the tail is enough where the child is at work
abbrev pub in_row : Entry → Sum → Sum → Tail → Sum
in_row x finished r t = r
in_row x (working e es) r t = behind_work x e es t

abbrev pub after : Entry → Sum → Sum → Sum
after x c r = in_row x c r (tail_of r)

-- children one after another, as the code has them: what is found in them, and what they are behind another child
abbrev pub line_sum : line.Line → Sum
line_sum lines.Over = finished
line_sum (lines.AtWork x e ends t) = behind_work x e ends.items (tail_as t)

abbrev pub line_tail : line.Line → Tail
line_tail lines.Over = no_tail
line_tail (lines.AtWork x e ends t) = longer e ends.items (tail_as t)

-- each thing that is sought has a number of its own
abbrev pub number_of : Sought → ℕ
number_of (sought.Receiver c) = 4 * c
number_of (sought.Sender c) = 4 * c + 1
number_of (sought.Partner c) = 4 * c + 2
number_of (sought.Close c) = 4 * c + 3

-- whether its number is in the set
abbrev pub is_in : BTreeSet ℕ → Sought → Bool
is_in set s = contains nat_cmp set (number_of s)

-- the set has the numbers of the ends
abbrev pub HasNumbers : BTreeSet ℕ → List Placed → Type 0
HasNumbers set es = (s : Sought) → is_in set s ≡ has s es

abbrev pub beside_work : Entry → Bool → List Placed → Sum → Sum
beside_work x e es finished = working e (under x es)
beside_work x e es (working f rs) = working (e || f) (rs ++ under x es)

-- in the branch at this entry, or in those beside it
abbrev pub beside : Entry → Sum → Sum → Sum
beside x finished r = r
beside x (working e es) r = beside_work x e es r

-- somewhere here
abbrev pub all_here : Kind → List Placed → List Placed
all_here k [] = []
all_here k (e ∷ es) = placed e.sought [] k ∷ all_here k es

abbrev pub here : Kind → Sum → List Placed
here k finished = []
here k (working e es) = all_here k es

abbrev pub gathered : Kind → List Sum → List Placed
gathered k [] = []
gathered k (x ∷ xs) = here k x ++ gathered k xs

abbrev pub in_turns : Bool → Sum → Sum
in_turns endless x = working endless (here Within x)

-- these ends of a channel, if an action waits on it
abbrev pub if_wanted : List Bool → ℕ → List Placed → List Placed
if_wanted w c es = cond (wants w c) es []

abbrev pub one : List Bool → ℕ → Sought → Sum
one w c s = working false (if_wanted w c (there s ∷ []))

abbrev pub once_sum : List Bool → Once → Sum
once_sum w (assigning x v e) = working false []
once_sum w (receiving c x) = one w c (sought.Receiver c)

abbrev pub sync_sum : List Bool → ℕ → Sum
sync_sum w c = working false (if_wanted w c (there (sought.Sender c) ∷ there (sought.Partner c) ∷ []))

abbrev pub sender_sum : List Bool → Sender → Sum
sender_sum w (sending c v e) = one w c (sought.Sender c)
sender_sum w (syncing c) = sync_sum w c

abbrev pub arm : List Bool → ℕ → List Placed
arm w c = if_wanted w c (there (sought.Receiver c) ∷ there (sought.Partner c) ∷ [])

abbrev pub arm_ends : List Bool → List ℕ → List Placed
arm_ends w [] = []
arm_ends w (d ∷ ds) = arm w d ++ arm_ends w ds

abbrev pub tested : List Sum → Sum
tested xs = working false (gathered Within xs)

abbrev pub armed : List Bool → List ℕ → List Sum → Sum
armed w ds xs = working false (gathered Later xs ++ arm_ends w ds)

-- children one after another, behind another child
abbrev pub tail_in_turn : List Sum → Tail
tail_in_turn [] = no_tail
tail_in_turn (x ∷ xs) = tail_before x (tail_in_turn xs)

-- in children one after another, the first with number n
abbrev pub sum_in_turn : ℕ → List Sum → Sum
sum_in_turn n [] = finished
sum_in_turn n (x ∷ xs) = in_row (Ordered n) x (sum_in_turn (n + 1) xs) (tail_in_turn xs)

-- in children side by side, the first in branch n
abbrev pub sum_abreast : ℕ → List Sum → Sum
sum_abreast n [] = finished
sum_abreast n (x ∷ xs) = beside (Branch n) x (sum_abreast (n + 1) xs)

abbrev mutual
  -- in a command
  pub code_sum : List Bool → Code → Sum
  code_sum w continues = finished
  code_sum w halts = working true []
  code_sum w (moves_once o) = once_sum w o
  code_sum w (may_be_held x) = sender_sum w x
  code_sum w (repeats g c) = in_turns (is_none g) (code_sum w c)
  code_sum w (decides d cs) = tested (codes_sum w cs)
  code_sum w (awaits ds cs) = armed w ds (codes_sum w cs)
  code_sum w (in_turn cs) = sum_in_turn 0 (codes_sum w cs)
  code_sum w (side_by_side cs) = sum_abreast 0 (codes_sum w cs)
  code_sum w (drains c) = one w c (sought.Receiver c)

  -- in each
  pub codes_sum : List Bool → Codes → List Sum
  codes_sum w no_code = []
  codes_sum w (code c cs) = code_sum w c ∷ codes_sum w cs

-- in the turns of a loop
abbrev pub again_sum : List Bool → Option Expression → Code → Sum
again_sum w g c = in_turns (is_none g) (code_sum w c)

abbrev mutual
  -- in a process
  pub proc_sum : List Bool → Proc → Sum
  proc_sum w idle = finished
  proc_sum w stopped = working true []
  proc_sum w (once o true) = finished
  proc_sum w (once o false) = once_sum w o
  proc_sum w (sender x waiting) = sender_sum w x
  proc_sum w (sender x holding) = working false []
  proc_sum w (sender x past) = finished
  proc_sum w (fresh g c) = again_sum w g c
  proc_sum w (turn g c n q) = after (Ordered (2 * n + 1)) (proc_sum w q) (again_sum w g c)
  proc_sum w (ended_at_once g c) = finished
  proc_sum w (ended g c n q) = finished
  proc_sum w (untested d cs) = tested (codes_sum w cs)
  proc_sum w (skipped d cs) = finished
  proc_sum w (took d cs j q) = after (Ordered 1) (proc_sum w q) finished
  proc_sum w (unopened ds cs) = armed w ds (codes_sum w cs)
  proc_sum w (entered ds cs c v q) = after (Ordered 1) (proc_sum w q) (one w c (sought.Close c))
  proc_sum w (closed ds cs c v q) = finished
  proc_sum w (sequence ps) = sum_in_turn 0 (procs_sum w ps)
  proc_sum w (parallel ps) = sum_abreast 0 (procs_sum w ps)
  proc_sum w (drained c n) = one w c (sought.Receiver c)

  -- in each
  pub procs_sum : List Bool → Procs → List Sum
  procs_sum w no_procs = []
  procs_sum w (proc p ps) = proc_sum w p ∷ procs_sum w ps

-- this is what is found in child i of a sequence
abbrev pub SumAt : List Bool → Procs → ℕ → Sum → Type 0
SumAt w ps i x = (p : Proc) → proc_at ps i ≡ Some p → x ≡ proc_sum w p
