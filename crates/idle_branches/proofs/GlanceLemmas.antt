-- What a look at a branch tells of its next step.
use Rattle.std.proofs.Common.{◌≡◌, ℕ, zero, suc, ◌+◌, ◌-◌, List, [], ◌∷◌, Bool, true, false, if◌then◌else◌, length, Option, Some, None, refl, sym, ap, ◌∙◌, arith}
use Rattle.std.specs.Prelude.{nat_lt, nat_le, ◌==◌}
use Rattle.std.proofs.lemmas.Bool.Decides.{nat_tests}
use Rattle.address.specs.Places.{Before}
use Rattle.address.specs.declared.Entry.TheVariants.{Ordered, Branch}
use Rattle.system.specs.Named.{as_number}
use Rattle.system.specs.declared.command.Command.{Command}
use Rattle.system.specs.declared.system.System.{System}
use Rattle.system_places.specs.SystemBranches.{branch_at, branch_of_port, branch_within, branches_of, parallel_of}
use Rattle.runs.specs.Moves.{Place, Move, assigns, tests, turns, sends, receives, syncs, opens, releases, closes}
use Rattle.runs.specs.Events.{Located, at, Makes, assigning, testing, turning, meeting, opening as opens_with_data, opening_without_data, shutting, syncing, acting, sent}
use Rattle.runs.specs.Steps.{State, Run, opening}
use Rattle.runs.specs.declared.event.Event.{Event}
use Rattle.runs.proofs.public.AtOnce.{Offers, OffersAll, offered}
use Rattle.runs.proofs.public.FromOpening.{states_are_well_formed}
use Rattle.runs.proofs.public.Options.{none-some}
use Rattle.local_actions.specs.Actions.{Decided, Offered, action_of}
use Rattle.local_actions.specs.declared.action.ActionKind.{ActionKind}
use Rattle.local_actions.specs.declared.action.ActionKind.TheVariants.{Assigns, Tests, Turns, Sends, Receives, Syncs, Opens, Releases, Closes}
use Rattle.local_actions.specs.declared.action.LocalAction.{LocalAction}
use Rattle.idle_branches.specs.Idle.{AreEnds, IdleIn, given_on}
use Rattle.idle_branches.specs.declared.ends.Ends.{Ends}
use Rattle.idle_branches.specs.declared.sight.Sight.{Sight}
use Rattle.idle_branches.specs.internal.Known.{GivesOn, Known, known_at}
use Rattle.idle_branches.specs.internal.Sights.{IsSeen, NoneGives, SeenIn, number_at, number_within, takes_on, waits_on}
use Rattle.idle_branches.proofs.ChainLemmas.{number-is, port-is, run-keeps, whole-number, whole-opens}
use Rattle.idle_branches.proofs.IdleLemmas.{gives-move, same-branch, shown}

-- ---- kinds of actions
pub waits-gives : (a : ActionKind) (c : ℕ) → waits_on a ≡ Some c → given_on a ≡ Some c
waits-gives (Assigns x v read) c is = cc
waits-gives (Tests k read) c is = cc
waits-gives Turns c is = cc
waits-gives (Sends d v read) c is = is
waits-gives (Receives d x) c is = cc
waits-gives (Syncs d) c is = cc
waits-gives (Opens d k) c is = cc
waits-gives (Releases d) c is = is
waits-gives (Closes d) c is = cc

pub takes-none : (a : ActionKind) (c : ℕ) → takes_on a ≡ Some c → given_on a ≡ None
takes-none (Assigns x v read) c is = cc
takes-none (Tests k read) c is = cc
takes-none Turns c is = cc
takes-none (Sends d v read) c is = cc
takes-none (Receives d x) c is = refl
takes-none (Syncs d) c is = cc
takes-none (Opens d k) c is = refl
takes-none (Releases d) c is = cc
takes-none (Closes d) c is = refl

-- ---- a branch without a step
-- what is seen acts in no event
abbrev pub Still : Sight → State → Type 0
Still Sight.Nothing S = Unit {0}
Still (Sight.Gives c) S = Unit {0}
Still (Sight.Takes c) S = NoneGives S c
Still Sight.Acts S = ⊥
Still (Sight.Syncs c) S = ⊥
Still Sight.Unknown S = ⊥

-- it does not act alone
alone : (sight : Sight) (S : State) (a : ActionKind) → waits_on a ≡ None → takes_on a ≡ None → IsSeen sight a → Still sight S → ⊥
alone Sight.Nothing S a w t seen still = seen
alone (Sight.Gives c) S a w t seen still = none-some c (sym w ∙ seen)
alone (Sight.Takes c) S a w t seen still = none-some c (sym t ∙ seen)
alone Sight.Acts S a w t seen still = still
alone (Sight.Syncs c) S a w t seen still = still
alone Sight.Unknown S a w t seen still = still

-- nor with another
with-other : (sight : Sight) (S : State) (a : ActionKind) (d : ℕ) (y : LocalAction) → takes_on a ≡ Some d → waits_on a ≡ None
    → Offered S y → given_on y.action ≡ Some d → IsSeen sight a → Still sight S → ⊥
with-other Sight.Nothing S a d y t w offer given seen still = seen
with-other (Sight.Gives c) S a d y t w offer given seen still = none-some c (sym w ∙ seen)
with-other (Sight.Takes c) S a d y t w offer given seen still = still y offer (given ∙ (sym t ∙ seen))
with-other Sight.Acts S a d y t w offer given seen still = still
with-other (Sight.Syncs c) S a d y t w offer given seen still = still
with-other Sight.Unknown S a d y t w offer given seen still = still

-- the number of a branch of the system
within-there : (o : Option (List Command)) (way : Place) (k : ℕ) → branch_within o way ≡ Some k → number_within o way ≡ Some k
within-there None way k is = is
within-there (Some children) [] k is = none-some k is
within-there (Some children) (Ordered n ∷ way) k is = none-some k is
within-there (Some children) (Branch n ∷ way) k is =
    ap (λ (j : ℕ). Some j) (number-is (nat_lt n (length children)) n k is)

pub number-there : (system : System) (a : Place) (k : ℕ) → branch_at system a ≡ Some k → number_at system a ≡ Some k
number-there system [] k is = none-some k is
number-there system (Ordered n ∷ way) k is = none-some k is
number-there system (Branch zero ∷ way) k is = within-there (parallel_of system.main) way k is
number-there system (Branch (suc i) ∷ way) k is =
    let off : (suc i == 0) ≡ false = grind (arith, nat_tests) in
    let there : branch_of_port system (suc i) ≡ Some k =
    sym (ap (λ (b : Bool). if b then branch_within (parallel_of system.main) way else branch_of_port system (suc i)) off) ∙ is in
    let port : as_number (branches_of system.main + (suc i - 1)) ≡ Some k = port-is (nat_le (suc i) (length system.environment)) _ k there in
    let number : branches_of system.main + (suc i - 1) ≡ k = number-is (nat_le (branches_of system.main + (suc i - 1)) 4294967295) _ k port in
    let same : branches_of system.main + i ≡ k = omega arith in
    ap (λ (j : ℕ). Some j) same

-- what is offered behind a place of a branch is seen in it
pub seen-behind-place : (system : System) (S : State) (k : ℕ) (sight : Sight) (a : Place) (x : LocalAction) → SeenIn system S k sight
    → Offered S x → Before a x.place → branch_at system a ≡ Some k → IsSeen sight x.action
seen-behind-place system S k sight a x seen offer before is =
    seen x offer (number-there system x.place k (sym (same-branch system a x.place before) ∙ is))

module _ (system : System) (S : State) (k : ℕ) (sight : Sight) (seen : SeenIn system S k sight) (still : Still sight S) where
  shown-at : (a : Place) (m : Move) → Offers S.residual (at a m) → Decided S.store m → number_at system a ≡ Some k → IsSeen sight (action_of S.store m)
  shown-at a m o d is = seen (record { place = a; action = action_of S.store m }) (shown S a m o d) is

  no-event : (ls : List Located) (x : Event) → Makes S.store ls x → OffersAll S.residual ls → number_at system (acting x) ≡ Some k → ⊥
  no-event ls x (assigning a y w e) o is = alone sight S _ refl refl (shown-at a (assigns y w e) o.0 tt is) still
  no-event ls x (testing a d n g) o is = alone sight S _ refl refl (shown-at a (tests d n) o.0 g is) still
  no-event ls x (turning a) o is = alone sight S _ refl refl (shown-at a turns o.0 tt is) still
  no-event ls x (meeting a b c w e y p) o is =
      with-other sight S _ c (record { place = a; action = action_of S.store (sends c w e false) }) refl refl
      (shown S a (sends c w e false) o.0 tt) refl (shown-at b (receives c y) o.1.0 tt is) still
  no-event ls x (opens_with_data a b c w n e p) o is =
      with-other sight S _ c (record { place = a; action = action_of S.store (sends c w e true) }) refl refl
      (shown S a (sends c w e true) o.0 tt) refl (shown-at b (opens c n (Some (sent S.store w e))) o.1.0 tt is) still
  no-event ls x (opening_without_data a b c n p) o is =
      with-other sight S _ c (record { place = a; action = action_of S.store (syncs c true) }) refl refl
      (shown S a (syncs c true) o.0 tt) refl (shown-at b (opens c n None) o.1.0 tt is) still
  no-event ls x (shutting a b c p) o is =
      with-other sight S _ c (record { place = a; action = action_of S.store (releases c) }) refl refl
      (shown S a (releases c) o.0 tt) refl (shown-at b (closes c) o.1.0 tt is) still
  no-event ls x (syncing a b c p l) o is = alone sight S _ refl refl (shown-at a (syncs c false) o.0 tt is) still

  pub idle-seen : (h : List Event) → Run (opening system) h S → IdleIn system S k
  idle-seen h run x (U, next) acts =
      no-event next.moves x next.makes
      (offered S.residual U.residual S.store next.moves x (states_are_well_formed system h S run) next.makes next.moved)
      (number-there system (acting x) k acts)

-- ---- the other side of a channel
-- nobody is there where none of those is that may be
pub none-gives : (system : System) (ends : Ends) (h : List Event) (S : State) (c : ℕ) → AreEnds system ends → Run (opening system) h S
    → ((g : ℕ) → GivesOn ends.used.giving.items g c → (x : LocalAction) → Offered S x → number_at system x.place ≡ Some g
    → given_on x.action ≡ Some c → ⊥) → NoneGives S c
none-gives system ends h S c are run none x offer given =
    let known : ℕ → Known = known_at ends.used.acting.items ends.used.giving.items in
    let whole = run-keeps known system (opening system) S h (whole-opens known system are.fit) run in
    let one = whole-number known system S.residual x.place offer.move offer.after whole offer.possible in
    none one.0 (gives-move (known one.0) S offer.move c one.2 (ap given_on (sym offer.shown) ∙ given)) x offer one.1 given
