use Rattle.std.proofs.Common.{sym, subst}
use Rattle.system.specs.Translation.{branch_of}
use Rattle.system.specs.declared.system.Branch.{Branch}
use Rattle.idle_branches.specs.internal.Known.{Acts, Fits, Gives}
use Rattle.idle_branches.proofs.GatherLemmas.{adds-map, feed-fits, on-ok, syncs-fit}
use Rattle.idle_branches.proofs.used.Used.add_port.Goals as goal

pub returns-in-Feed : goal.returns-in-Feed
returns-in-Feed c =
    on-ok c.add_gift.result
    (adds-map c.args.branch c.args.self.now c.add_gift.new.self (λ u. Gives u c.in-Feed.channel) (λ u. Fits u (branch_of c.args.port.now))
    (λ u f. subst (λ (b : Branch). Fits u (branch_of b)) (sym c.in-Feed.is) (feed-fits u 0 c.in-Feed.channel _ _ f)))
    c.add_gift.ensures

pub returns-in-Drain : goal.returns-in-Drain
returns-in-Drain c =
    on-ok c.add_act.result
    (adds-map c.args.branch c.args.self.now c.add_act.new.self (λ u. Acts u c.in-Drain.channel) (λ u. Fits u (branch_of c.args.port.now))
    (λ u f. subst (λ (b : Branch). Fits u (branch_of b)) (sym c.in-Drain.is) f))
    c.add_act.ensures

pub returns-in-Syncs : goal.returns-in-Syncs
returns-in-Syncs c =
    on-ok c.add_both.result
    (adds-map c.args.branch c.args.self.now c.add_both.new.self (λ u. Acts u c.in-Syncs.channel × Gives u c.in-Syncs.channel)
    (λ u. Fits u (branch_of c.args.port.now))
    (λ u f. subst (λ (b : Branch). Fits u (branch_of b)) (sym c.in-Syncs.is) (syncs-fit u 0 c.in-Syncs.channel _ f)))
    c.add_both.ensures
