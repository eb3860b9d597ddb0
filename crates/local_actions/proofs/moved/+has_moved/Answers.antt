-- None of the children that were looked at has made a move.
use Rattle.std.proofs.Common.{◌≡◌, ◌-◌, suc, min, length, sym, ◌∙◌, subst, arith, rules}
use Rattle.process_tree.specs.View.{proc_view}
use Rattle.local_actions.proofs.public.Begun.{Still, begun-row, row-still, row-at, still-more, moved-at, last-at, last-none, none-moved}
use Rattle.local_actions.proofs.moved.+has_moved.Goals as goal

pub last_moved-children-init : goal.last_moved-children-init
last_moved-children-init t c =
    let e : c.min-number.result ≡ min (length c.args.begun.now) (length c.args.row.now.codes) = first_of (omega arith, cc, search rules) in
    (omega (arith, e), omega (arith, e), row-still c.args.begun.now c.args.row.now c.min-number.result e)

pub last_moved-returns-then-has_moved-clause-any : goal.last_moved-returns-then-has_moved-clause-any
last_moved-returns-then-has_moved-clause-any t c =
    let at = row-at c.args.begun.now c.args.row.now (c.children.number - 1) c.index-begun-number.result (omega (arith, c.children.invariant.0)) (omega (arith, c.children.invariant.1)) c.index-begun-number.is in
    sym (moved-at (begun-row c.args.begun.now c.args.row.now) (c.children.number - 1) (proc_view c.index-begun-number.result) at (sym c.has_moved.ensures ∙ c.if-has_moved.true))

pub last_moved-returns-then-has_moved-clause-last : goal.last_moved-returns-then-has_moved-clause-last
last_moved-returns-then-has_moved-clause-last t c =
    let at = row-at c.args.begun.now c.args.row.now (c.children.number - 1) c.index-begun-number.result (omega (arith, c.children.invariant.0)) (omega (arith, c.children.invariant.1)) c.index-begun-number.is in
    let n : c.children.number ≡ suc (c.children.number - 1) = omega arith in
    last-at (begun-row c.args.begun.now c.args.row.now) (c.children.number - 1) (proc_view c.index-begun-number.result) at (sym c.has_moved.ensures ∙ c.if-has_moved.true)
    (subst (λ n. Still n (begun-row c.args.begun.now c.args.row.now)) n c.children.invariant.2)

pub last_moved-children-preserved : goal.last_moved-children-preserved
last_moved-children-preserved t c =
    let at = row-at c.args.begun.now c.args.row.now (c.children.number - 1) c.index-begun-number.result (omega (arith, c.children.invariant.0)) (omega (arith, c.children.invariant.1)) c.index-begun-number.is in
    let n : c.children.number ≡ suc (c.children.number - 1) = omega arith in (
      omega (arith, c.children.invariant.0),
      omega (arith, c.children.invariant.1),
      still-more (begun-row c.args.begun.now c.args.row.now) c.children.number (c.children.number - 1) (proc_view c.index-begun-number.result) n c.children.invariant.2 at
          (sym c.has_moved.ensures ∙ c.if-has_moved.false),
    )

pub last_moved-returns-clause-any : goal.last_moved-returns-clause-any
last_moved-returns-clause-any t c =
    let n : c.children.number ≡ 0 = omega arith in
    sym (none-moved (begun-row c.args.begun.now c.args.row.now) (subst (λ n. Still n (begun-row c.args.begun.now c.args.row.now)) n c.children.invariant.2))

pub last_moved-returns-clause-last : goal.last_moved-returns-clause-last
last_moved-returns-clause-last t c =
    let n : c.children.number ≡ 0 = omega arith in
    last-none (begun-row c.args.begun.now c.args.row.now) (subst (λ n. Still n (begun-row c.args.begun.now c.args.row.now)) n c.children.invariant.2)
