use Rattle.std.proofs.Common.{subst}
use Rattle.slots.specs.Places.{rank}
use Rattle.dependence.specs.internal.Listed.{Listed, LinksOf}
use Rattle.dependence.proofs.ListedLaws.{stands-at, links-stand}
use Rattle.dependence.proofs.live_list.LiveList.links_of.Goals as goal

pub returns : goal.returns
returns c =
    let at = c.kept_of-kept.ensures in
    subst (λ (s : Listed). LinksOf s c.args.ticket c.kept_of-kept.result.now.links) c.self.view_is (
      rank c.self.inside.slots.entries at.0,
      (c.kept_of-kept.result.now.event, stands-at c.self.inside.slots.entries c.args.ticket at.0 c.kept_of-kept.result.now at.1),
      links-stand c.self.inside.slots.entries c.args.ticket at.0 c.kept_of-kept.result.now at.1,
    )
