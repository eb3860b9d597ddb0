-- Which live events are marked after a reply.
use Rattle.std.proofs.Common.{◌≡◌, ◌≢◌, ℕ, ◌==◌, List, ◌∷◌, Bool, true, false, cond, not, Result, Ok, Err, refl, sym, ◌∙◌, ap, eqb-true, eq-eqb}
use Rattle.runs.specs.Dependence.{Without, ended, stays, leaves}
use Rattle.runs.specs.declared.event.Event.{Event}
use Rattle.runs.specs.declared.command.Refusal.{Refusal}
use Rattle.machine.specs.Marks.{without_ticket, marks_behind}
use Rattle.machine.specs.Results.{step_reply}

-- another ticket is not the same
pub not-same : (u t : ℕ) → u ≢ t → (u == t) ≡ false
not-same u t other = by_test (u == t) refl
  where
    by_test : (b : Bool) → (u == t) ≡ b → b ≡ false
    by_test true is = absurd (other (eqb-true u t is))
    by_test false is = refl

-- the tickets but one, as a function
pub without-left : (t : ℕ) (xs ys : List ℕ) → Without (λ u. u ≡ t) xs ys → ys ≡ without_ticket t xs
without-left t xs ys ended = refl
without-left t xs ys (stays {x = u} {l = l} {k = k} out w) =
    ap (λ (z : List ℕ). u ∷ z) (without-left t l k w)
    ∙ sym (ap (λ (b : Bool). cond (not b) (u ∷ without_ticket t l) (without_ticket t l)) (not-same u t out))
without-left t xs ys (leaves {x = u} {l = l} gone w) =
    without-left t l ys w ∙ sym (ap (λ (b : Bool). cond (not b) (u ∷ without_ticket t l) (without_ticket t l)) (eq-eqb u t gone))

-- ---- what takes nothing back changes none
pub step-marks : (r : Result (ℕ × Event) Refusal) (before after : List ℕ) → after ≡ before → after ≡ marks_behind (step_reply r) before
step-marks (Ok entry) before after is = is
step-marks (Err why) before after is = is
