use Rattle.std.proofs.Common.{Some, cond, nat_eq, ap, ◌∙◌}
use Rattle.std.specs.Map.{lookup}
use Rattle.sharing_check.specs.internal.Counting.{join_widths}
use Rattle.sharing_check.proofs.CountTables.{listed_more}
use Rattle.sharing_check.proofs.widths.Widths.add.Goals as goal

pub returns : goal.returns
returns c =
    let old = c.args.self.now.by_channel.entries in
    listed_more old c.insert.new.self.entries c.args.how c.args.channel c.args.width
    (λ q. c.in_ok-insert.ensures.updates.0 q
    ∙ ap (λ w. cond (nat_eq c.args.channel q) (Some w) (lookup (nat_eq q) old))
    (c.join-width.ensures ∙ ap (λ w. join_widths c.args.how w c.args.width) c.of.ensures))
