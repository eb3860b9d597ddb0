use Rattle.shell_desk.proofs.bench.Bench.run_on.Goals as goal

pub returns : goal.returns
returns g c = (c.run_from-end.new.self, c.run_from-end.ensures, c.stop_at.ensures)
