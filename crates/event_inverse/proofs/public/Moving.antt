-- The moves of an event, one after another: made, taken back, and made after others.
use Rattle.std.proofs.Common.{◌≡◌, List, [], ◌∷◌, Option, Some, option_map, refl, sym, ap, ap₂, subst, ◌∙◌}
use Rattle.syntax.specs.Lists.{Every}
use Rattle.system.specs.Residual.{Residual}
use Rattle.address.specs.Places.{Before}
use Rattle.runs.specs.Moves.{Place}
use Rattle.runs.specs.Asking.{ask_of}
use Rattle.runs.specs.declared.ask.Ask.{Ask}
use Rattle.runs.specs.Events.{Located}
use Rattle.runs.specs.internal.Made.{all_ask}
use Rattle.runs.specs.Steps.{Moves}
use Rattle.runs.proofs.public.Options.{and_then-at}
use Rattle.process_tree.specs.Proc.{Proc}
use Rattle.process_tree.specs.Remaining.{remaining}
use Rattle.process_tree.specs.Advanced.{Moved, advanced}
use Rattle.process_tree.specs.Retreated.{retreated}
use Rattle.process_tree.proofs.public.Asking.{some-elim, map-elim, then-elim}
use Rattle.process_tree.proofs.public.Simulation.{does}
use Rattle.process_tree.proofs.public.Back.{back}
use Rattle.process_tree.proofs.public.Swap.{swap}
use Rattle.event_inverse.specs.Grown.{all_advanced}
use Rattle.event_inverse.specs.internal.Reverted.{all_retreated}

-- a process, and what moves took out on the way to it
abbrev pub Walked : Type 0
Walked = Proc × List (Option Proc)

-- a move, and then others
abbrev and_others : List (Place × Ask) → Moved → Option Walked
and_others ks x = option_map (λ y. (y.0, x.1 ∷ y.1)) (all_advanced x.0 ks)

-- the moves of what is left are made by the tree
pub all-does : (p : Proc) (ls : List Located) (q : Residual) → Moves (remaining [] p) ls q → (x : Walked) × (all_advanced p (all_ask ls) ≡ Some x) × (remaining [] x.0 ≡ q)
all-does p [] q h = ((p, []), refl, h)
all-does p (l ∷ ls) q h =
    let d = does p [] l.place l.move h.0 h.1 in
    let rest = all-does d.0.0 ls q (subst (λ (r : Residual). Moves r ls q) (sym d.2) h.2) in (
      (rest.0.0, d.0.1 ∷ rest.0.1),
      and_then-at (and_others (all_ask ls)) (advanced p l.place (ask_of l.move)) d.0 d.1 ∙ ap (option_map (λ y. (y.0, d.0.1 ∷ y.1))) rest.1,
      rest.2,
    )

-- moves taken back, the last first
pub all-back : (p : Proc) (ks : List (Place × Ask)) (y : Walked) → all_advanced p ks ≡ Some y → all_retreated y.0 ks y.1 ≡ Some p
all-back p [] y h = some-elim (p, []) y (λ y. all_retreated y.0 [] y.1 ≡ Some p) h refl
all-back p (k ∷ ks) y h =
    then-elim (and_others ks) (advanced p k.0 k.1) y (all_retreated y.0 (k ∷ ks) y.1 ≡ Some p) h
    (λ x e g. map-elim (λ y. (y.0, x.1 ∷ y.1)) (all_advanced x.0 ks) y (λ y. all_retreated y.0 (k ∷ ks) y.1 ≡ Some p) g
    (λ z i. and_then-at (λ q. retreated q k.0 x.1) (all_retreated z.0 ks z.1) x.0 (all-back x.0 ks z i) ∙ back p k.0 k.1 x e))

-- a move made after others
abbrev PastAll : Proc → Place → Ask → Moved → List (Place × Ask) → Walked → Type 0
PastAll p a k x ks y = (z : Walked) × (all_advanced p ks ≡ Some z) × (advanced z.0 a k ≡ Some (y.0, x.1)) × (z.1 ≡ y.1)

-- it can be, where its place is before none of theirs
one-past : (p : Proc) (a : Place) (k : Ask) (x : Moved) (ks : List (Place × Ask)) (y : Walked) → advanced p a k ≡ Some x → all_advanced x.0 ks ≡ Some y
    → Every (λ m. Before a m.0 → ⊥) ks → PastAll p a k x ks y
one-past p a k x [] y e h none = some-elim (x.0, []) y (PastAll p a k x []) h ((p, []), refl, e, refl)
one-past p a k x (m ∷ ks) y e h none =
    then-elim (and_others ks) (advanced x.0 m.0 m.1) y (PastAll p a k x (m ∷ ks) y) h
    (λ u i g. map-elim (λ y. (y.0, u.1 ∷ y.1)) (all_advanced u.0 ks) y (PastAll p a k x (m ∷ ks)) g
    (λ w j. let s = swap p a k x m.0 m.1 u e i none.0 in
    let rest = one-past s.0.0 a k (u.0, x.1) ks w s.2 j none.1 in (
      (rest.0.0, s.0.1 ∷ rest.0.1),
      and_then-at (and_others ks) (advanced p m.0 m.1) s.0 s.1 ∙ ap (option_map (λ y. (y.0, s.0.1 ∷ y.1))) rest.1,
      rest.2,
      ap₂ (λ o os. o ∷ os) s.3 rest.3,
    )))

-- moves made after others
abbrev pub AllPast : Proc → List (Place × Ask) → Walked → List (Place × Ask) → Walked → Type 0
AllPast p js x ks y = (z : Walked) × (all_advanced p ks ≡ Some z) × (all_advanced z.0 js ≡ Some (y.0, x.1)) × (z.1 ≡ y.1)

-- they can be, where no place of theirs is before one of the others
pub all-past : (p : Proc) (js : List (Place × Ask)) (x : Walked) (ks : List (Place × Ask)) (y : Walked) → all_advanced p js ≡ Some x → all_advanced x.0 ks ≡ Some y
    → Every (λ j. Every (λ k. Before j.0 k.0 → ⊥) ks) js → AllPast p js x ks y
all-past p [] x ks y e h none =
    some-elim (p, []) x (λ x. all_advanced x.0 ks ≡ Some y → AllPast p [] x ks y) e (λ h. (y, h, refl, refl)) h
all-past p (j ∷ js) x ks y e h none =
    then-elim (and_others js) (advanced p j.0 j.1) x (AllPast p (j ∷ js) x ks y) e
    (λ u i g. map-elim (λ y. (y.0, u.1 ∷ y.1)) (all_advanced u.0 js) x (λ x. all_advanced x.0 ks ≡ Some y → AllPast p (j ∷ js) x ks y) g
    (λ w c h. let later = all-past u.0 js w ks y c h none.1 in
    let first = one-past p j.0 j.1 u ks later.0 i later.1 none.0 in (
      first.0,
      first.1,
      and_then-at (and_others js) (advanced first.0.0 j.0 j.1) (later.0.0, u.1) first.2 ∙ ap (option_map (λ y. (y.0, u.1 ∷ y.1))) later.2,
      first.3 ∙ later.3,
    )) h)
