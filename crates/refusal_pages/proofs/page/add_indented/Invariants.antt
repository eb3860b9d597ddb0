use Rattle.std.proofs.Common.{◌≡◌, ◌++◌, List, ℕ, Bor, string_bytes}
use Rattle.std.specs.Prelude.{flat_map}
use Rattle.refusal_pages.specs.PageText.{indented_line}
use Rattle.refusal_pages.proofs.page.add_indented.Given as goal

abbrev pub invariant-loop-line : goal.invariant-loop-line
invariant-loop-line l =
    string_bytes l.text ≡ string_bytes l.fn.text ++ flat_map (λ (line : Bor (List ℕ)). indented_line line.now) l.yielded
