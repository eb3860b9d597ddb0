-- The marks of a finding before they are put in order.
use Rattle.std.proofs.Common.{◌≡◌, ◌++◌, ◌∷◌, [], List, map, ap, ◌∙◌}
use Rattle.marked_lines.specs.declared.marks.Mark.{Mark}
use Rattle.findings.specs.Marking.{seen, seen_beside}
use Rattle.findings.specs.declared.finding.Beside.{Beside}

pub begun : (first pushed all : List Mark) (mark : Mark) (beside whole : List Beside) → first ≡ []
    → pushed ≡ first ++ mark ∷ [] → map seen all ≡ map seen pushed ++ map seen_beside beside → beside ≡ whole
    → map seen all ≡ seen mark ∷ map seen_beside whole
begun first pushed all mark beside whole none one more same =
    more ∙ ap (λ z. map seen z ++ map seen_beside beside) (one ∙ ap (λ z. z ++ mark ∷ []) none)
    ∙ ap (λ z. seen mark ∷ map seen_beside z) same
