use Rattle.std.proofs.Common.{◌≡◌, ◌∙◌, ◌-◌, ◌<◌, ℕ, List, Bool, take, drop, arith, rules}
use Rattle.std.specs.List.{count_by}
use Rattle.dependence.proofs.MarkEnds.{count-taken, ends-inside, marked-inside, unset-passed}
use Rattle.dependence.proofs.public.Markings.{count-passed, marked-count, unmarked-before}
use Rattle.dependence.proofs.marks.count_marked.Goals as goal

pub slice_bounds-iter-count : goal.slice_bounds-iter-count
slice_bounds-iter-count c =
    let before : c.index_of_live-from.result < c.args.end =
    marked-inside c.args.list.now.live c.args.marks.now c.args.ticket c.index_of_live-from.result c.args.end c.requires.rising c.index_of_live-from.ensures c.requires.marked c.requires.ended in
    omega arith

pub slice_bounds-iter-start : goal.slice_bounds-iter-start
slice_bounds-iter-start c =
    let before : c.index_of_live-from.result < c.args.end =
    marked-inside c.args.list.now.live c.args.marks.now c.args.ticket c.index_of_live-from.result c.args.end c.requires.rising c.index_of_live-from.ensures c.requires.marked c.requires.ended in
    omega arith

pub slice_bounds-iter-end : goal.slice_bounds-iter-end
slice_bounds-iter-end c = let inside = ends-inside c.args.marks.now c.args.end c.requires.ended in omega arith

pub returns : goal.returns
returns c =
    let marks : List Bool = c.args.marks.now in
    let from : ℕ = c.index_of_live-from.result in
    let none = unmarked-before c.args.list.now.live marks c.args.ticket from c.requires.rising c.requires.size c.index_of_live-from.ensures c.requires.lower in
    let counted : c.count.result ≡ count_by (λ (m : Bool). m) (take (c.args.end - from) (drop from marks)) = search rules in
    counted ∙ count-taken (drop from marks) (c.args.end - from) (unset-passed marks from c.args.end c.requires.ended.none) ∙ count-passed marks from none
    ∙ marked-count c.args.list.now.live marks c.requires.size
