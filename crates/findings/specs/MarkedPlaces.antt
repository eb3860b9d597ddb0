-- Where what is marked beside a fault begins.
use Rattle.std.specs.Prelude.{ℕ, Bool, List, [], ◌∷◌, ◌++◌, ◌==◌, map, if◌then◌else◌}
use Rattle.std.specs.List.{list_any}
use Rattle.findings.specs.declared.finding.Beside.{Beside}

abbrev pub marked_at : List Beside → List ℕ
marked_at marks = map (λ (mark : Beside). mark.start) marks

abbrev pub begins_at : ℕ → Beside → Bool
begins_at at mark = mark.start == at

-- one more, where none begins there
abbrev pub marked_once : ℕ → List Beside → List ℕ
marked_once at marks = if list_any (begins_at at) marks then marked_at marks else marked_at marks ++ at ∷ []
