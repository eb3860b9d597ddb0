use Rattle.trace_file.proofs.LineLemmas.{not-nil}
use Rattle.trace_file.proofs.LongLemmas.{passed-more, not-passed}
use Rattle.trace_file.proofs.long.is_place.Goals as goal

pub returns-in_default : goal.returns-in_default
returns-in_default c =
    not-passed c.args.text.now c.loop-rest.rest.now c.loop-rest.invariant
    (not-nil c.loop-rest.rest.now c.is_empty.result c.is_empty.ensures c.loop-rest-test.true) c.in_default.ensures

pub loop-rest-preserved : goal.loop-rest-preserved
loop-rest-preserved c =
    passed-more c.args.text.now c.loop-rest.rest.now c.in-Some.after.now c.loop-rest.invariant (c.in-Some.field-0-0, c.in-Some.ensures)
