use Rattle.std.proofs.Common.{Some, None, sym, ◌∙◌}
use Rattle.shell_desk.proofs.DeedLemmas.{from-held}
use Rattle.shell_desk.proofs.bench.Bench.run_from.Goals as goal

pub returns-in-Some : goal.returns-in-Some
returns-in-Some g c =
    from-held c.args.self.now c.run_past.new.self c.args.limit c.run_past.result (Some c.in-Some.line)
    (sym c.in-Some.is ∙ c.held.ensures) c.run_past.ensures

pub returns-in-None : goal.returns-in-None
returns-in-None g c =
    from-held c.args.self.now c.run.new.self c.args.limit c.run.result None (sym c.in-None.is ∙ c.held.ensures) c.run.ensures
