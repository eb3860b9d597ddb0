use Rattle.std.proofs.Common.{◌≡◌, ◌∙◌, ◌-◌, ℕ, List, Bool, take, drop, subst}
use Rattle.std.specs.Prelude.{IfOk}
use Rattle.runs.specs.Live.{Live}
use Rattle.dependence.specs.Shown.{tickets_marked}
use Rattle.dependence.proofs.MarkEnds.{tickets-taken, unset-passed}
use Rattle.dependence.proofs.public.Markings.{tickets-passed}
use Rattle.dependence.proofs.marks.copy_marked.Goals as goal

pub returns : goal.returns
returns c =
    let l : Live = c.args.list.now.live in
    let marks : List Bool = c.args.marks.now in
    let from : ℕ = c.first_index-from.result in
    let left : tickets_marked (drop from l) (take (c.args.end - from) (drop from marks)) ≡ tickets_marked l marks =
    tickets-taken (drop from l) (drop from marks) (c.args.end - from) (unset-passed marks from c.args.end c.requires.ended.none) ∙ tickets-passed l marks from c.first_index-from.ensures.none in
    subst (λ (ts : List ℕ). IfOk c.copy_each.result (λ tickets. tickets.items ≡ ts)) left c.copy_each.ensures
