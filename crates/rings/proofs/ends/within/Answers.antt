use Rattle.std.proofs.Common.{◌∙◌, List, ◌++◌, ap}
use Rattle.rings.specs.declared.ends.Kind.TheVariants.{Within}
use Rattle.rings.specs.internal.Placed.{Placed}
use Rattle.rings.specs.internal.Ends.{all_here, within}
use Rattle.rings.proofs.Turns.{here_within}
use Rattle.rings.proofs.ends.within.Goals as goal

pub returns : goal.returns
returns c =
    c.in_ok-add_each_here.ensures ∙ ap (λ (es : List Placed). es ++ all_here Within (within c.args.soughts.now)) c.in_ok-ends.ensures.items ∙ here_within c.args.soughts.now
