use Rattle.std.proofs.Common.{ℕ, ◌+◌, ap}
use Rattle.system.specs.Translation.{residual_of}
use Rattle.idle_branches.proofs.GatherLemmas.{part-added}
use Rattle.idle_branches.proofs.ends.Ends.add_branch.Goals as goal

pub returns : goal.returns
returns c =
    part-added c.args.self.now (record { count = c.from.result + 1; used = c.add_command.new.used; givers = c.args.self.now.givers }) c.in_ok-number.number
    (residual_of c.args.command.now) c.in_ok-number.ensures (ap (λ (n : ℕ). n + 1) c.from.ensures) c.in_ok-add_command.ensures
