use Rattle.idle_branches.specs.internal.Known.{Acts, Gives}
use Rattle.idle_branches.proofs.GatherLemmas.{adds-both, on-ok}
use Rattle.idle_branches.proofs.used.Used.add_both.Goals as goal

pub returns : goal.returns
returns c =
    on-ok c.add_gift.result
    (adds-both c.args.branch c.args.self.now c.add_act.new.self c.add_gift.new.self (λ u. Acts u c.args.channel)
    (λ u. Gives u c.args.channel) c.in_ok-add_act.ensures)
    c.add_gift.ensures
