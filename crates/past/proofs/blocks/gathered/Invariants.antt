use Rattle.std.proofs.Common.{◌≡◌, ◌↔◌, ℕ, true, take}
use Rattle.past.specs.internal.Blocks.{AnyHas}
use Rattle.past.specs.internal.Lanes.{has}
use Rattle.past.proofs.blocks.gathered.Given as goal

-- the lanes at the places passed
abbrev pub invariant-loop-place : goal.invariant-loop-place
invariant-loop-place l = record {
  reached : (k : ℕ) → (has l.reached k ≡ true) ↔ AnyHas (λ m. m.reached) l.marks l.first (take l.place-index l.places) k;
  behind : (k : ℕ) → (has l.behind k ≡ true) ↔ AnyHas (λ m. m.behind) l.marks l.first (take l.place-index l.places) k;
}
