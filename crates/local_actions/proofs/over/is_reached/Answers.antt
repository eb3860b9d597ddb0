use Rattle.std.proofs.Common.{◌≡◌, ◌+◌, false, true, refl, rules, arith}
use Rattle.local_actions.proofs.public.Begun.{begun-row}
use Rattle.local_actions.proofs.public.Endings.{came-more, not-come, gone-past, is-come, is-elsewhere}
use Rattle.local_actions.proofs.over.is_reached.Goals as goal

pub returns-then-child-number : goal.returns-then-child-number
returns-then-child-number c =
    is-elsewhere c.args.child (begun-row c.args.begun.now c.args.row.now) false refl
    (gone-past c.args.child (begun-row c.args.begun.now c.args.row.now) (omega (arith, c.first_at_work-number.ensures)))

pub returns-then-not-child_over : goal.returns-then-not-child_over
returns-then-not-child_over c =
    let is : c.child_over.result ≡ false = first_of (cc, search rules) in
    is-elsewhere c.args.child (begun-row c.args.begun.now c.args.row.now) false refl
    (not-come c.children.number c.args.child (begun-row c.args.begun.now c.args.row.now) c.children-test.true (c.child_over.ensures.open_ is) c.children.invariant.1)

pub children-preserved : goal.children-preserved
children-preserved c =
    let is : c.child_over.result ≡ true = first_of (cc, search rules) in (
      omega arith,
      came-more c.children.number (c.children.number + 1) (begun-row c.args.begun.now c.args.row.now) (omega arith) (c.child_over.ensures.over is) c.children.invariant.1,
    )

pub returns : goal.returns
returns c = is-come c.children.number c.args.child (begun-row c.args.begun.now c.args.row.now) true refl (omega (arith, c.children.invariant.0)) c.children.invariant.1
