use Rattle.std.proofs.Common.{ap, sym, ◌∙◌}
use Rattle.std.proofs.lemmas.List.{take_rest}
use Rattle.dap_frames.specs.Header as model
use Rattle.dap_frames.proofs.Headers.{header-more}
use Rattle.dap_frames.proofs.header.header_length.Goals as goal

pub loop-i-preserved : goal.loop-i-preserved
loop-i-preserved c =
    c.loop-i.invariant
    ∙ header-more c.args.bytes.now c.loop-i.i c.loop-i-test.true
    (ap model.ends_here (sym (take_rest c.args.bytes.now c.loop-i.i)) ∙ sym c.ends_here.ensures.value ∙ c.if-ends_here.false)
