use Rattle.std.proofs.Common.{◌∙◌, ap}
use Rattle.past.specs.internal.Lanes.{has}
use Rattle.past.proofs.LaneLaws.{has-alone, one-shifted}
use Rattle.past.proofs.lanes.alone.Goals as goal

pub returns : goal.returns
returns c = λ k. ap (λ n. has n k) (one-shifted c.args.lane c.requires) ∙ has-alone c.args.lane k
