use Rattle.std.proofs.Common.{◌∙◌, sym, nat_lt, ◌≤◌, length, true, arith}
use Rattle.std.proofs.lemmas.Bool.Decides.{nat_tests}
use Rattle.dap_frames.proofs.Headers.{key-cut}
use Rattle.dap_frames.proofs.header.begins_with.Goals as goal

pub returns-then-i-text-clause-value : goal.returns-then-i-text-clause-value
returns-then-i-text-clause-value c =
    let end : length c.args.text.now ≤ c.loop-i.i = omega (arith, c.if-i-text.true) in
    sym (c.loop-i.invariant.rest ∙ key-cut c.args.key.now c.args.text.now c.loop-i.i c.loop-i-test.true end)
