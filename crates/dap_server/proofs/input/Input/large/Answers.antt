use Rattle.dap_server.specs.internal.Reading.{held}
use Rattle.dap_server.proofs.Framing.{large_is, large_passed}
use Rattle.dap_server.proofs.input.Input.large.Goals as goal

pub pass-requires : goal.pass-requires
pass-requires g c = (large_is (held c.args.self.now) c.args.from c.args.length c.requires).within

pub returns-in-Ok-clause-next : goal.returns-in-Ok-clause-next
returns-in-Ok-clause-next g c =
    let came = c.in-Ok.ensures.passes.0 in let passed = c.in-Ok.ensures.passes.1 in (
      came,
      c.in-Ok.ensures.passes.2,
      large_passed c.args.self.now c.pass_over.new.self (held c.pass.new.self) came passed c.args.from c.args.length c.requires c.pass.ensures.held
          c.in-Ok.ensures.passes.3 c.in-Ok.ensures.passes.4,
    )
