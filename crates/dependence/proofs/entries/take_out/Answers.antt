use Rattle.std.proofs.Common.{◌∙◌, ℕ, List, sym, subst}
use Rattle.runs.specs.Live.{Live}
use Rattle.runs.specs.declared.event.Event.{Event}
use Rattle.dependence.specs.declared.links.Links.{Links}
use Rattle.dependence.specs.internal.Tables.{Linked}
use Rattle.dependence.proofs.public.ListPlaces.{got-here}
use Rattle.dependence.proofs.public.Linking.{part-linked}
use Rattle.dependence.proofs.Edges.{taken-at}
use Rattle.dependence.proofs.entries.take_out.Goals as goal

pub unlink_all-requires : goal.unlink_all-requires
unlink_all-requires c =
    let l : Live = c.args.list.now.live in
    let links : List Links = c.args.list.now.links in
    let index : ℕ = c.take-kept.ensures.0 in
    let x : ℕ × Event = (c.args.ticket, c.take-kept.result.event) in
    let m : Links = c.take-kept.result.links in
    let out = c.take-kept.ensures.1 in
    let taken =
    taken-at l c.take-kept.new.self.live links c.take-kept.new.self.links index x m c.as_slice.result.now c.requires.rising c.requires.linked
    (c.args.ticket, (x.1, out.stands), c.requires.alone) (sym (got-here l index x x out.stands)) (sym (got-here links index m m out.linked)) out.live out.links c.as_slice.ensures in
    record { rising = taken.rising; absent = taken.absent; live = taken.live; falling = taken.falling; linked = taken.linked }

pub returns : goal.returns
returns c =
    let out = c.take-kept.ensures.1 in
    record {
      taken = (
        c.take-kept.ensures.0,
        out.stands,
        c.unlink_all.ensures.same.live ∙ out.live,
      );
      linked = subst (λ (k : Live). Linked k c.unlink_all.new.list.links) (sym c.unlink_all.ensures.same.live)
          (part-linked c.take-kept.new.self.live c.args.ticket c.unlink_all.new.list.links c.unlink_all.ensures.linked);
    }
