-- In a system that shares its channels well a choice means one of the allowed events.
use Rattle.std.proofs.Common.{◌≡◌, ℕ, List, Bool, Option, Some, None, refl, sym, ◌∙◌, ap, subst}
use Rattle.std.specs.declared.cmp.Ordering.TheVariants.{Less}
use Rattle.runs.proofs.public.SharingWidths.{KeepsSharing}
use Rattle.address.specs.Order.{order_of}
use Rattle.address.specs.internal.OrderLaws.{less-not-equal}
use Rattle.address.proofs.public.Total.{order-itself}
use Rattle.runs.specs.Events.{Located, Makes, assigning, testing, turning, meeting, opening, opening_without_data, shutting, syncing, acting}
use Rattle.runs.specs.Steps.{State, Allowed}
use Rattle.runs.specs.Choices.{choice_of, opened_arm}
use Rattle.runs.specs.Ready.{other, Chosen}
use Rattle.system.specs.Expression.{Store}
use Rattle.runs.specs.declared.event.Event.{Event}
use Rattle.runs.specs.declared.event.Choice.{Choice}
use Rattle.runs.specs.declared.event.Kind.{Kind}
use Rattle.runs.specs.declared.event.Kind.TheVariants.{Test, Open}
use Rattle.runs.proofs.Choices.{one_choice}
use Rattle.runs.proofs.public.WellFormed.{WellFormed}
use Rattle.runs.proofs.Acting.{one_acting}
use Rattle.runs.proofs.OneEvent.{OneArm}

-- what an event's kind says of its arm
abbrev ArmIs : Kind → Option ℕ → ℕ → Type 0
ArmIs Test arm n = Unit {0}
ArmIs Open arm n = arm ≡ Some n
ArmIs _ arm n = arm ≡ None

made-arm : (s : Store) (ls : List Located) (e : Event) → Makes s ls e → ArmIs e.kind e.arm (opened_arm e.kind e.arm)
made-arm s ls e (assigning a x w f) = refl
made-arm s ls e (testing a d k h) = tt
made-arm s ls e (turning a) = refl
made-arm s ls e (meeting a b c w f x h) = refl
made-arm s ls e (opening a b c w k f h) = refl
made-arm s ls e (opening_without_data a b c k h) = refl
made-arm s ls e (shutting a b c h) = refl
made-arm s ls e (syncing a b c h o) = refl

-- what two allowed events with one choice have in common
pub record Alike (e f : Event) : Type 0 where
  pub acts : acting e ≡ acting f
  pub one_arm : OneArm e f
  pub kind : e.kind ≡ f.kind
  pub arm_number : opened_arm e.kind e.arm ≡ opened_arm f.kind f.arm

pub alike : (S : State) (e f : Event) → WellFormed S.residual → Allowed S e → Allowed S f → choice_of e ≡ choice_of f → Alike e f
alike S e f w (T, one) (U, two) same =
    let number : opened_arm e.kind e.arm ≡ opened_arm f.kind f.arm = ap (λ (c : Choice). c.arm) same in
    let arms : OneArm e f = λ k j.
    let h : e.arm ≡ Some (opened_arm e.kind e.arm) = subst (λ k. ArmIs k e.arm (opened_arm e.kind e.arm)) k (made-arm S.store one.moves e one.makes) in
    let g : f.arm ≡ Some (opened_arm f.kind f.arm) = subst (λ k. ArmIs k f.arm (opened_arm f.kind f.arm)) j (made-arm S.store two.moves f two.makes) in
    h ∙ ap (λ n. Some n) number ∙ sym g in
    record {
      acts = ap (λ (c : Choice). c.place) same;
      one_arm = arms;
      kind = (one_acting S e f T U w one two (ap (λ (c : Choice). c.place) same) arms).0;
      arm_number = number;
    }

-- of the events allowed in a state, two with one choice are one
pub choice-means-one : (is_sync is_shared : ℕ → Bool) (S : State) (e f : Event) → KeepsSharing is_sync is_shared S.residual → WellFormed S.residual →
    Allowed S e → Allowed S f → choice_of e ≡ choice_of f → e ≡ f
choice-means-one is_sync is_shared S e f keeps w (T, one) (U, two) same =
    let a = alike S e f w (T, one) (U, two) same in
    one_choice is_sync is_shared S e f T U keeps w one two a.acts a.one_arm

-- and the choice means each of them
pub means : (is_sync is_shared : ℕ → Bool) (S : State) (e : Event) → KeepsSharing is_sync is_shared S.residual → WellFormed S.residual →
    Allowed S e → Chosen S (choice_of e) e
means is_sync is_shared S e keeps w allowed = record {
  allowed = allowed;
  choice = refl;
  least = λ f a same less.
      let one = choice-means-one is_sync is_shared S f e keeps w a allowed same in
      less-not-equal (sym (subst (λ (g : Event). order_of (other g) (other e) ≡ Less) one less) ∙ order-itself (other e));
}
