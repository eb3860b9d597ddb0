-- One entry less.
use Rattle.std.proofs.Common.{refl, ap, ◌∙◌}
use Rattle.local_actions.specs.Walk.{up}
use Rattle.local_actions.proofs.public.Walks.{walk-is, take-less}
use Rattle.local_actions.proofs.cursor.Cursor.leave.Goals as goal

pub returns : goal.returns
returns c =
    walk-is _ _ _ _ _ _ (c.pop.ensures.rest ∙ take-less _ c.self.inside.entries.items refl) refl refl ∙ ap up c.self.view_is
