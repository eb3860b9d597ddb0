use Rattle.std.proofs.Common.{rules, of_calls}
use Rattle.std.proofs.lemmas.Fn.{always_returns_same}
use Rattle.channel_uses.specs.internal.Parts.{ends_before}
use Rattle.channel_uses.proofs.Searches.{ends-parted, ended-at}
use Rattle.channel_uses.proofs.search.ended_before.Goals as goal

pub returns-clause-counted : goal.returns-clause-counted
returns-clause-counted c cs n h =
    let parted = c.partition_point.ensures.partitioned (ends_before c.args.found) (always_returns_same _ _ _ (λ a r f k. search (rules, of_calls)))
    (λ i j d l m e. ends-parted cs n c.args.found c.args.parts.now i j d h l m e) in
    ended-at c.args.found c.partition_point.result c.args.parts.now parted.0 parted.1
