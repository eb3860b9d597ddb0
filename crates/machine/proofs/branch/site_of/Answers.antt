use Rattle.std.proofs.Common.{◌∙◌, ap, sym}
use Rattle.std.specs.Option.{option_copied}
use Rattle.machine.specs.internal.Sites.{site_among}
use Rattle.machine.specs.declared.branch.Site.TheVariants.{Child}
use Rattle.machine.proofs.Sites.{site-parallel, site-other}
use Rattle.machine.proofs.branch.site_of.Goals as goal

pub returns-in-Some : goal.returns-in-Some
returns-in-Some c =
    site-parallel c.args.system.now c.in-Some.children.now c.args.branch c.site_among.result
    (sym c.parallel_of.ensures ∙ ap option_copied c.in-Some.is) (c.site_among.ensures ∙ ap (λ n. site_among n c.args.branch Child) c.len.ensures)

pub returns-in-None : goal.returns-in-None
returns-in-None c =
    site-other c.args.system.now c.args.branch c.site_among-in-None.result (sym c.parallel_of.ensures ∙ ap option_copied c.in-None.is) c.site_among-in-None.ensures
