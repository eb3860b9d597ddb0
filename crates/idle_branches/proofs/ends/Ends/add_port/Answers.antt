use Rattle.std.proofs.Common.{ℕ, ◌+◌, ap}
use Rattle.system.specs.Translation.{branch_of}
use Rattle.idle_branches.proofs.GatherLemmas.{part-added}
use Rattle.idle_branches.proofs.ends.Ends.add_port.Goals as goal

pub returns : goal.returns
returns c =
    part-added c.args.self.now (record { count = c.from.result + 1; used = c.add_port.new.self; givers = c.args.self.now.givers }) c.in_ok-number.number
    (branch_of c.args.port.now) c.in_ok-number.ensures (ap (λ (n : ℕ). n + 1) c.from.ensures) c.in_ok-add_port.ensures
