use Rattle.std.proofs.Common.{List, map, subst, rules, IsPermutation}
use Rattle.std.proofs.lemmas.List.Sorted.{IsNonDecreasingBy-from_sort_by_key, IsPermutation-map}
use Rattle.marked_lines.specs.declared.marks.Mark.{Mark}
use Rattle.findings.specs.Marking.{Seen, seen}
use Rattle.findings.proofs.Marked.{begun}
use Rattle.findings.proofs.finding.Finding.marks.Goals as goal

pub returns : goal.returns
returns c = (
  subst (λ (xs : List Seen). IsPermutation xs (map seen c.sort_by_key.new.self.items))
      (begun c.new-marks.result.items c.push.new.self.items c.add_marks_beside.new.marks.items _ c.as_slice.result.now
      c.args.self.now.beside.items c.new-marks.ensures.items c.in_ok-push.ensures.items c.in_ok-add_marks_beside.ensures
      c.as_slice.ensures.value)
      (IsPermutation-map seen c.add_marks_beside.new.marks.items c.sort_by_key.new.self.items
      c.in_ok-sort_by_key.ensures.permutation),
  IsNonDecreasingBy-from_sort_by_key (λ (mark : Mark). mark.start) _ c.in_ok-sort_by_key.ensures.sorted
      (λ a r q k. search rules),
)
