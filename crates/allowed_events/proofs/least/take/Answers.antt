-- The event that is taken, or not.
use Rattle.std.proofs.Common.{cond, sym, ap, ◌∙◌}
use Rattle.allowed_events.proofs.LeastChosen.{taken-so}
use Rattle.allowed_events.proofs.least.take.Goals as goal

pub returns-then-not-is_wanted : goal.returns-then-not-is_wanted
returns-then-not-is_wanted c =
    sym (ap (λ t. cond t c.args.made c.args.least.now) c.if-not-is_wanted.true) ∙ taken-so c.args.made c.args.least.now c.is_wanted.result c.is_wanted.ensures

pub returns : goal.returns
returns c =
    sym (ap (λ t. cond t c.args.made c.args.least.now) c.if-not-is_wanted.false) ∙ taken-so c.args.made c.args.least.now c.is_wanted.result c.is_wanted.ensures
