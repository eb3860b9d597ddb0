use Rattle.std.proofs.Common.{◌∙◌, List, ◌++◌, ap}
use Rattle.rings.specs.declared.sought.Sought.{Sought}
use Rattle.rings.specs.internal.Ends.{soughts, within, working}
use Rattle.rings.proofs.Turns.{here_soughts}
use Rattle.rings.proofs.ends.sought_in_turns.Goals as goal

pub returns : goal.returns
returns c =
    ap (λ (ss : List Sought). working c.args.endless (within ss))
    (c.in_ok-add_soughts.ensures ∙ ap (λ (ss : List Sought). ss ++ soughts c.args.ends.now) c.in_ok-soughts.ensures.items)
    ∙ ap (working c.args.endless) (here_soughts c.args.ends.now)
