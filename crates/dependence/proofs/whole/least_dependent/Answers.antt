use Rattle.std.proofs.Common.{◌∙◌}
use Rattle.dependence.proofs.Wholes.{first-follower}
use Rattle.dependence.proofs.whole.least_dependent.Goals as goal

pub returns : goal.returns
returns c =
    first-follower c.args.list.now.live c.args.ticket c.followers_of.result.now c.copied.result c.requires.rising c.followers_of.ensures
    (c.copied.ensures ∙ c.first.ensures.value)
