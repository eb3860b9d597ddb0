-- Child by child, from the last.
use Rattle.std.proofs.Common.{◌≡◌, ℕ, ◌+◌, ◌-◌, ◌<◌, ◌≤◌, length, arith, List, ◌++◌, map, refl, sym, ap}
use Rattle.address.specs.declared.Entry.TheVariants.{Ordered, Branch}
use Rattle.process_tree.specs.View.{code_view}
use Rattle.rings.specs.internal.Ends.{code_sum, line_sum, line_tail, sum_of, Sum, codes_sum, gathered, here}
use Rattle.rings.proofs.Rows.{turned, branched, fresh-turn, fresh-behind, fresh-branch, fresh-end, fresh-no-tail, fresh-last}
use Rattle.process_tree.specs.Translation.{row_of}
use Rattle.process_tree.specs.declared.code.Code.{Code}
use Rattle.rings.specs.internal.Placed.{Placed}
use Rattle.rings.proofs.Added.{some-added, all-added}
use Rattle.rings.proofs.fresh.+look_fresh.Goals as goal

pub look_in_turn-children-init : goal.look_in_turn-children-init
look_in_turn-children-init t c = (
  omega arith,
  fresh-end c.args.wanted.now c.args.codes.now (length c.args.codes.now) (omega arith),
  fresh-no-tail c.args.wanted.now c.args.codes.now (length c.args.codes.now) (omega arith),
)

pub look_in_turn-children-preserved : goal.look_in_turn-children-preserved
look_in_turn-children-preserved t c =
    let i : ℕ = c.children.number - 1 in
    let upto : c.children.number ≤ length c.args.codes.now = c.children.invariant.0 in
    let next : c.children.number ≡ i + 1 = omega arith in
    let less : i < length c.args.codes.now = omega arith in (
      omega arith,
      fresh-turn c.args.wanted.now c.args.codes.now i c.children.number c.index-codes-number.result (line_sum c.children.line) _ (line_tail c.children.line) next less
          c.index-codes-number.is c.children.invariant.1 c.children.invariant.2
          (turned (code_sum c.args.wanted.now (code_view c.index-codes-number.result)) (Ordered i) c.in_ok-entry.entry (sum_of c.in_ok-child.child) (line_sum c.children.line) _
          (line_tail c.children.line) c.in_ok-entry.ensures c.in_ok-child.ensures c.in_ok-line.ensures.sum),
      fresh-behind c.args.wanted.now c.args.codes.now i c.children.number c.index-codes-number.result (sum_of c.in_ok-child.child) (line_tail c.children.line) _ next less
          c.index-codes-number.is c.in_ok-child.ensures c.children.invariant.2 c.in_ok-line.ensures.behind,
    )

pub look_abreast-children-init : goal.look_abreast-children-init
look_abreast-children-init t c = (omega arith, fresh-last c.args.wanted.now c.args.codes.now (length c.args.codes.now) (omega arith))

pub look_abreast-children-preserved : goal.look_abreast-children-preserved
look_abreast-children-preserved t c =
    let i : ℕ = c.children.number - 1 in
    let upto : c.children.number ≤ length c.args.codes.now = c.children.invariant.0 in
    let next : c.children.number ≡ i + 1 = omega arith in
    let less : i < length c.args.codes.now = omega arith in (
      omega arith,
      fresh-branch c.args.wanted.now c.args.codes.now i c.children.number c.index-codes-number.result (sum_of c.children.found) _ next less
          c.index-codes-number.is c.children.invariant.1
          (branched (code_sum c.args.wanted.now (code_view c.index-codes-number.result)) (Branch i) c.in_ok-entry.entry (sum_of c.in_ok-child.child) (sum_of c.children.found) _
          c.in_ok-entry.ensures c.in_ok-child.ensures c.in_ok-found.ensures),
    )

pub gather-loop-code-preserved : goal.gather-loop-code-preserved
gather-loop-code-preserved t c =
    let found : List Code → List Placed = λ cs. gathered c.args.kind (codes_sum c.args.wanted.now (row_of (map code_view cs))) in
    some-added found c.loop-code.ends.items c.add_here.new.ends.items (here c.args.kind (sum_of c.in_ok-part.part)) _ c.args.codes.now c.loop-code.code-index c.code-item.result
    c.code-item.result c.loop-code-test.true c.code-item.is c.in_ok-add_here.ensures
    (λ rest. ap (λ (s : Sum). here c.args.kind s ++ found rest) (sym c.in_ok-part.ensures)) c.loop-code.invariant

pub gather-returns : goal.gather-returns
gather-returns t c =
    all-added (λ (cs : List Code). gathered c.args.kind (codes_sum c.args.wanted.now (row_of (map code_view cs)))) c.loop-code.ends.items _ c.args.codes.now c.loop-code.code-index
    c.loop-code-test.false refl c.loop-code.invariant
