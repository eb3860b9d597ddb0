use Rattle.std.proofs.Common.{◌≡◌, ◌+◌, ◌-◌, ◌≤◌, refl, arith}
use Rattle.dap_server.specs.internal.Reading.{held}
use Rattle.dap_server.proofs.Framing.{body_taken, whole_is}
use Rattle.dap_server.proofs.input.Input.whole.Goals as goal

pub pass-requires : goal.pass-requires
pass-requires c = (whole_is (held c.args.self.now) c.args.from c.args.to c.requires.whole).within

pub returns-clause-next : goal.returns-clause-next
returns-clause-next c =
    let passed : c.pass.new.self.start ≡ c.args.self.now.start + c.args.to = c.pass.ensures.start in
    let rises : c.args.from ≤ c.args.to = c.requires.rises in
    let first : c.pass.new.self.start - (c.args.to - c.args.from) ≡ c.args.self.now.start + c.args.from = omega arith in
    body_taken c.args.self.now c.pass.new.self c.args.from c.args.to (c.pass.new.self.start - (c.args.to - c.args.from))
    c.pass.new.self.start c.requires.whole first passed c.pass.ensures.bytes refl
