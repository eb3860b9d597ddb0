-- Which actions are helped is told of each of them.
use Rattle.std.proofs.Common.{◌≡◌, ℕ, suc, ◌+◌, List, [], ◌∷◌, map, length, Bool, Option, Some, option_map, slice_get, refl, ap, ap₂, ◌∙◌, arith}
use Rattle.std.proofs.lemmas.Option.{slice_get-map}
use Rattle.system.specs.Residual.{Residual}
use Rattle.machine.specs.AtMachine.{AtMachine}
use Rattle.local_actions.specs.declared.action.LocalAction.{LocalAction}
use Rattle.rings.specs.Partners.{partner_in}
use Rattle.rings.specs.declared.partner.Partner.{Partner}
use Rattle.waiting.specs.Input.{is_helped}
use Rattle.waiting.specs.internal.Helps.{helps}

pub helps-length : (m : AtMachine) (ps : List Partner) (n : ℕ) (xs : List LocalAction) → length (helps m ps n xs) ≡ length xs
helps-length m ps n [] = refl
helps-length m ps n (x ∷ xs) = let rest = helps-length m ps (n + 1) xs in omega (arith, rest)

module _ (m : AtMachine) (r : Residual) (ps : List Partner) where
  each : (n : ℕ) (xs : List LocalAction) → ((k : ℕ) (x : LocalAction) → slice_get xs k ≡ Some x → slice_get ps (n + k) ≡ Some (partner_in r x))
      → helps m ps n xs ≡ map (λ (x : LocalAction). is_helped m x (Some (partner_in r x))) xs
  each n [] h = refl
  each n (x ∷ xs) h =
      let first : slice_get ps n ≡ Some (partner_in r x) = ap (slice_get ps) (sym-zero n) ∙ h 0 x refl in
      ap₂ (λ (b : Bool) (bs : List Bool). b ∷ bs) (ap (λ (o : Option Partner). is_helped m x o) first)
      (each (n + 1) xs (λ k y e. ap (slice_get ps) (shifted n k) ∙ h (suc k) y e))
    where
      sym-zero : (i : ℕ) → i ≡ i + 0
      sym-zero i = omega arith

      shifted : (i k : ℕ) → (i + 1) + k ≡ i + suc k
      shifted i k = omega arith

  pub helps-are : (xs : List LocalAction) → ps ≡ map (partner_in r) xs → helps m ps 0 xs ≡ map (λ (x : LocalAction). is_helped m x (Some (partner_in r x))) xs
  helps-are xs given =
      each 0 xs (λ k x e. ap (slice_get ps) (plain k) ∙ ap (λ (qs : List Partner). slice_get qs k) given ∙ slice_get-map (partner_in r) xs k
      ∙ ap (λ (o : Option LocalAction). option_map (partner_in r) o) e)
    where
      plain : (k : ℕ) → 0 + k ≡ k
      plain k = omega arith
