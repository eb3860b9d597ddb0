use Rattle.std.proofs.Common.{◌∙◌}
use Rattle.elaborate.specs.SourceSize.{whole, system_size}
use Rattle.elaborate.proofs.Sizes.{system_cut, small_decided}
use Rattle.elaborate.proofs.count.is_small.Goals as goal

pub returns : goal.returns
returns c =
    small_decided c.within_limits.result c.in_ok-size.size (system_size whole c.args.procedures.now c.args.ports c.args.values)
    (c.in_ok-size.ensures ∙ system_cut c.args.procedures.now c.args.ports c.args.values) c.within_limits.ensures
