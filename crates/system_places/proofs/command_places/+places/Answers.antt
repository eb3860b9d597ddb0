-- The child of a number among what is found in the children.
use Rattle.std.proofs.Common.{◌∙◌, sym, ap}
use Rattle.std.specs.Option.{option_copied}
use Rattle.system_places.specs.CommandPlaces.{found_in}
use Rattle.system_places.proofs.ChildPlaces.{child_found, child_missing}
use Rattle.system_places.proofs.command_places.+places.Goals as goal

pub in_child-returns-in-Some : goal.in_child-returns-in-Some
in_child-returns-in-Some t c =
    c.found_in.ensures ∙ child_found (found_in c.args.all) c.args.children.now c.args.number c.args.way.now c.in-Some.child.now (sym c.get.ensures.value ∙ ap option_copied c.in-Some.is)

pub in_child-returns-in-None : goal.in_child-returns-in-None
in_child-returns-in-None t c =
    child_missing (found_in c.args.all) c.args.children.now c.args.number c.args.way.now (sym c.get.ensures.value ∙ ap option_copied c.in-None.is)
