-- What the tests of equality and of apart places tell.
use Rattle.std.proofs.Common.{◌≡◌, ◌⊎◌, ℕ, ◌==◌, [], ◌∷◌, true, false, not, ◌||◌, Decides, inl, inr, ⊎_elim}
use Rattle.std.specs.Prelude.{◌≢◌}
use Rattle.std.proofs.lemmas.Bool.{cases_eq}
use Rattle.std.proofs.lemmas.Bool.Decides.{Decides-eqb, Decides-and, Decides-or, Decides-not, Decides-like}
use Rattle.address.specs.declared.Entry.TheVariants.{Ordered, Branch}
use Rattle.runs.specs.Moves.{Place}
use Rattle.address.specs.Places.{Apart}
use Rattle.runs.specs.internal.Below.{apart}
pub use Rattle.runs.specs.internal.EventLaws.{same_list-decides, same_option-decides, same_entry-decides, same_place-decides, same_word-decides, same_kind-decides, same_number-decides, same_event-decides}

-- at branch numbers that are equal the rest decides
branch_forward : (i j : ℕ) (a b : Place) → (i ≢ j) ⊎ Apart a b → (i ≢ j) ⊎ ((i ≡ j) × Apart a b)
branch_forward i j a b h =
    elim (cases_eq i j) [
      | inl e ↦ ⊎_elim (λ n. inl n) (λ p. inr (e, p)) h
      | inr n ↦ inl n
    ]

-- the test of apart places decides whether they are apart
pub apart-decides : (a b : Place) → Decides (apart a b) (Apart a b)
apart-decides [] b = (λ e. cc, λ h. absurd h)
apart-decides (x ∷ a) [] = (λ e. cc, elim x as (λ z. Apart (z ∷ a) [] → false ≡ true) [ Ordered i ↦ absurd | Branch i ↦ absurd ])
apart-decides (Ordered i ∷ a) (Ordered j ∷ b) = Decides-and (i == j) (apart a b) (Decides-eqb i j) (apart-decides a b)
apart-decides (Ordered i ∷ a) (Branch j ∷ b) = (λ e. cc, λ h. absurd h)
apart-decides (Branch i ∷ a) (Ordered j ∷ b) = (λ e. cc, λ h. absurd h)
apart-decides (Branch i ∷ a) (Branch j ∷ b) =
    Decides-like (not (i == j) || apart a b) (branch_forward i j a b)
    (⊎_elim (λ n. inl n) (λ m. inr m.1))
    (Decides-or (not (i == j)) (apart a b) (Decides-not (i == j) (Decides-eqb i j)) (apart-decides a b))
