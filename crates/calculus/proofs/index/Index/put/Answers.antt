use Rattle.std.proofs.Common.{◌∙◌}
use Rattle.calculus.proofs.IndexLaws.{put-at}
use Rattle.calculus.proofs.index.Index.put.Goals as goal

pub returns : goal.returns
returns c =
    put-at c.args.self.now _ c.in_ok-key.key c.args.place c.args.address.now (c.in_ok-key.ensures.items ∙ c.entries.ensures) c.in_ok-insert.ensures.updates
