-- The open of one arm.
use Rattle.std.proofs.Common.{◌∙◌, option_map, sym, ap}
use Rattle.local_actions.specs.declared.action.ActionKind.TheVariants.{Opens}
use Rattle.local_actions.proofs.public.Sites.{open_is}
use Rattle.local_actions.proofs.site.opening.Goals as goal

pub returns-in-Some : goal.returns-in-Some
returns-in-Some c = sym (open_is c.args.arm c.args.channels.now ∙ ap (option_map (λ d. Opens d c.args.arm)) (sym c.in-Some.ensures.value))

pub returns-in-None : goal.returns-in-None
returns-in-None c = sym (open_is c.args.arm c.args.channels.now ∙ ap (option_map (λ d. Opens d c.args.arm)) (sym c.in-None.ensures.value))
