use Rattle.std.proofs.Common.{◌∙◌, List, Some, refl, sym, ap, subst}
use Rattle.dependence.specs.declared.kept.Kept.{Kept}
use Rattle.dependence.specs.internal.Listed.{Listed}
use Rattle.dependence.specs.internal.Tables.{FollowersChanged, Removed}
use Rattle.indexmap.specs.IndexMap.{set_value_at}
use Rattle.slots.specs.Places.{filled, rank}
use Rattle.dependence.specs.declared.links.Links.{Links}
use Rattle.dependence.specs.internal.Listed.{links_kept, LinksOf}
use Rattle.dependence.proofs.ListedLaws.{stands-at, links-stand, held-at, listed-changed, live-changed, room-changed, changed-kept}
use Rattle.slots.proofs.public.PlaceLaws.{none-some, value-is}
use Rattle.std.proofs.lemmas.Option.{slice_get_within}
use Rattle.dependence.proofs.live_list.LiveList.remove_follower.Goals as goal

pub remove-requires : goal.remove-requires
remove-requires c =
    let on = c.place_of-place.ensures in
    let place = c.place_of-place.result in
    let k : Kept = c.in-Some.kept in
    let at = held-at c.self.inside.slots.entries place c.args.lead on.0 k c.index_mut.result.now on.1 c.index_mut.ensures.value c.in-Some.is in
    c.requires.ordered k.links (subst (λ (s : Listed). LinksOf s c.args.lead k.links) c.self.view_is
    (rank c.self.inside.slots.entries place, (k.event, stands-at c.self.inside.slots.entries c.args.lead place k at), links-stand c.self.inside.slots.entries c.args.lead place k at))

pub unreachable-requires : goal.unreachable-requires
unreachable-requires c =
    let on = c.place_of-place.ensures in
    none-some on.0 (sym c.in-None.is ∙ value-is c.self.inside.slots.entries c.place_of-place.result c.args.lead on.0 c.index_mut.result.now on.1 c.index_mut.ensures.value)

pub invariant_of-self : goal.invariant_of-self
invariant_of-self c =
    let on = c.place_of-place.ensures in
    let place = c.place_of-place.result in
    let k : Kept = c.in-Some.kept in
    let at = held-at c.self.inside.slots.entries place c.args.lead on.0 k c.index_mut.result.now on.1 c.index_mut.ensures.value c.in-Some.is in
    listed-changed c.self.inside.slots.entries c.self.inside.counts.items c.self.inside.count place c.args.lead k (record { event = k.event; links = record { followers = c.remove.new.tickets; leads = k.links.leads } }) at c.self.invariant

pub returns-clause-same : goal.returns-clause-same
returns-clause-same c =
    let on = c.place_of-place.ensures in
    let place = c.place_of-place.result in
    let k : Kept = c.in-Some.kept in
    let at = held-at c.self.inside.slots.entries place c.args.lead on.0 k c.index_mut.result.now on.1 c.index_mut.ensures.value c.in-Some.is in
    record {
      live = live-changed c.self.inside.slots.entries place c.args.lead k (record { event = k.event; links = record { followers = c.remove.new.tickets; leads = k.links.leads } }) at refl ∙ ap (λ (s : Listed). s.live) c.self.view_is;
      room = room-changed c.self.inside.slots.entries _ _ place _ ∙ ap (λ (s : Listed). s.room) c.self.view_is;
    }

pub returns-clause-changed : goal.returns-clause-changed
returns-clause-changed c =
    let on = c.place_of-place.ensures in
    let place = c.place_of-place.result in
    let k : Kept = c.in-Some.kept in
    let at = held-at c.self.inside.slots.entries place c.args.lead on.0 k c.index_mut.result.now on.1 c.index_mut.ensures.value c.in-Some.is in
    let m : Kept = record { event = k.event; links = record { followers = c.remove.new.tickets; leads = k.links.leads } } in
    let new : List Links = links_kept (filled (set_value_at c.self.inside.slots.entries place (Some m))) in
    subst (λ (s : Listed). FollowersChanged s.live c.args.lead (Removed c.args.ticket) s.links new) c.self.view_is
    (changed-kept c.self.inside.slots.entries place c.args.lead k m (Removed c.args.ticket) at c.remove.ensures refl)

pub index_mut-requires : goal.index_mut-requires
index_mut-requires c = slice_get_within c.self.inside.slots.entries c.place_of-place.result _ c.place_of-place.ensures.1
