use Rattle.std.proofs.Common.{◌∙◌, ℕ, List, ap, refl, subst, sym, true}
use Rattle.past.specs.Past.{ListsTickets, tickets_of}
use Rattle.past.specs.declared.past.PastEvent.{PastEvent}
use Rattle.picture_drawing.proofs.cones.cones_of.Goals as goal

pub consequences-requires : goal.consequences-requires
consequences-requires c = c.requires.live

pub returns : goal.returns
returns c = record {
  live = c.requires.live;
  ticket = refl;
  causes = subst (λ (ts : List ℕ). ListsTickets true c.args.live.now.live c.args.ticket ts)
      (sym (c.in_ok-causes.ensures ∙ ap (λ (es : List PastEvent). tickets_of es) c.as_slice.ensures)) c.requires.tickets;
  consequences = c.in_ok-consequences.ensures;
}
