use Rattle.std.proofs.Common.{◌≡◌, ◌++◌, ℕ, take, slice_get}
use Rattle.std.specs.List.{flat_map}
use Rattle.waiting.specs.WaitingText.{ring_line}
use Rattle.waiting.proofs.text.write_round.Given as goal

-- the lines of the actions passed are written
abbrev pub invariant-loop-held : goal.invariant-loop-held
invariant-loop-held l =
    l.out.items
    ≡ l.initial.out.items ++ flat_map (λ (j : ℕ). ring_line l.checked (slice_get l.actions j)) (take l.held-index l.ring)
