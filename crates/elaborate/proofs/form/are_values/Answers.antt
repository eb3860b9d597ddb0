use Rattle.std.proofs.Common.{◌++◌, ◌∷◌, [], sym, ◌∙◌, eqb-true}
use Rattle.std.proofs.lemmas.List.{nil_from_length}
use Rattle.elaborate.proofs.Numbers.{not_nil}
use Rattle.elaborate.proofs.Readings.{pending_start, pending_more, pending_stuck, pending_end}
use Rattle.elaborate.proofs.form.are_values.Goals as goal

pub loop-rest-init : goal.loop-rest-init
loop-rest-init c = ([], pending_start c.args.text.now)

pub returns-in_default-clause-none : goal.returns-in_default-clause-none
returns-in_default-clause-none c =
    λ other. pending_stuck c.args.text.now c.loop-rest.invariant.0 c.loop-rest.rest.now c.loop-rest.invariant.1
    (not_nil c.loop-rest.rest.now c.is_empty.result c.is_empty.ensures c.loop-rest-test.true) c.in_default.ensures

pub loop-rest-preserved : goal.loop-rest-preserved
loop-rest-preserved c =
    let found = c.loop-rest.invariant.0 in (
      found ++ c.in-Some.field-0-0 ∷ [],
      pending_more c.args.text.now found c.loop-rest.rest.now c.in-Some.field-0-0 c.in-Some.after.now
          c.loop-rest.invariant.1 c.in-Some.ensures,
    )

pub returns-clause-some : goal.returns-clause-some
returns-clause-some c =
    λ yes. (
      c.loop-rest.invariant.0,
      pending_end c.args.text.now c.loop-rest.invariant.0 c.loop-rest.rest.now c.loop-rest.invariant.1
          (nil_from_length c.loop-rest.rest.now (eqb-true _ _ (sym c.is_empty.ensures ∙ c.loop-rest-test.false))),
    )
