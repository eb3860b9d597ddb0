use Rattle.std.proofs.Common.{◌≡◌, ◌⊎◌, ℕ, Some, length, take}
use Rattle.std.specs.Prelude.{slice_get}
use Rattle.syntax.specs.Lists.{In}
use Rattle.past.proofs.blocks.raise.Given as goal

-- the bound stands at the places passed
abbrev pub invariant-loop-place : goal.invariant-loop-place
invariant-loop-place l = record {
  size : length l.lasts ≡ length l.fn.lasts;
  raised : (p : ℕ) → In p (take l.place-index l.places) → slice_get l.lasts p ≡ Some l.bound;
  other : (p : ℕ) → (slice_get l.lasts p ≡ slice_get l.fn.lasts p) ⊎ (slice_get l.lasts p ≡ Some l.bound);
}
