use Rattle.std.proofs.Common.{◌∙◌, ◌≡◌, ◌∷◌, ◌++◌, [], ℕ, List, Some, refl, sym, ap, subst}
use Rattle.std.proofs.lemmas.Result.{MatchResult-from_err}
use Rattle.dependence.specs.declared.kept.Kept.{Kept}
use Rattle.dependence.specs.internal.Listed.{Listed}
use Rattle.dependence.specs.internal.Tables.{FollowersChanged}
use Rattle.indexmap.specs.IndexMap.{set_value_at}
use Rattle.slots.specs.Places.{filled}
use Rattle.dependence.specs.declared.links.Links.{Links}
use Rattle.dependence.specs.internal.Listed.{links_kept}
use Rattle.dependence.proofs.ListedLaws.{held-at, listed-changed, live-changed, room-changed, changed-kept}
use Rattle.slots.proofs.public.PlaceLaws.{none-some, value-is}
use Rattle.std.proofs.lemmas.Option.{slice_get_within}
use Rattle.dependence.proofs.live_list.LiveList.add_follower.Goals as goal

pub invariant_of-self : goal.invariant_of-self
invariant_of-self c =
    let on = c.place_of-place.ensures in
    let place = c.place_of-place.result in
    let k : Kept = c.in-Some.kept in
    let at = held-at c.self.inside.slots.entries place c.args.lead on.0 k c.index_mut.result.now on.1 c.index_mut.ensures.value c.in-Some.is in
    listed-changed c.self.inside.slots.entries c.self.inside.counts.items c.self.inside.count place c.args.lead k (record { event = k.event; links = record { followers = c.push.new.self; leads = k.links.leads } }) at c.self.invariant

pub returns-in_err-push-in-Some-clause-same : goal.returns-in_err-push-in-Some-clause-same
returns-in_err-push-in-Some-clause-same c =
    let on = c.place_of-place.ensures in
    let place = c.place_of-place.result in
    let k : Kept = c.in-Some.kept in
    let at = held-at c.self.inside.slots.entries place c.args.lead on.0 k c.index_mut.result.now on.1 c.index_mut.ensures.value c.in-Some.is in
    record {
      live = live-changed c.self.inside.slots.entries place c.args.lead k (record { event = k.event; links = record { followers = c.push.new.self; leads = k.links.leads } }) at refl ∙ ap (λ (s : Listed). s.live) c.self.view_is;
      room = room-changed c.self.inside.slots.entries _ _ place _ ∙ ap (λ (s : Listed). s.room) c.self.view_is;
    }

pub returns-in_err-push-in-Some-clause-changed : goal.returns-in_err-push-in-Some-clause-changed
returns-in_err-push-in-Some-clause-changed c =
    let on = c.place_of-place.ensures in
    let place = c.place_of-place.result in
    let k : Kept = c.in-Some.kept in
    let at = held-at c.self.inside.slots.entries place c.args.lead on.0 k c.index_mut.result.now on.1 c.index_mut.ensures.value c.in-Some.is in
    let m : Kept = record { event = k.event; links = record { followers = c.push.new.self; leads = k.links.leads } } in
    let new : List Links = links_kept (filled (set_value_at c.self.inside.slots.entries place (Some m))) in
    MatchResult-from_err c.from_residual.result _ _ c.from_residual.ensures.0 (λ refused.
    subst (λ (s : Listed). FollowersChanged s.live c.args.lead (λ (b : List ℕ) (a : List ℕ). a ≡ b) s.links new) c.self.view_is
    (changed-kept c.self.inside.slots.entries place c.args.lead k m (λ (b : List ℕ) (a : List ℕ). a ≡ b) at (ap (λ f. f.items) c.in_err-push-in-Some.ensures.err) refl))

pub unreachable-requires : goal.unreachable-requires
unreachable-requires c =
    let on = c.place_of-place.ensures in
    none-some on.0 (sym c.in-None.is ∙ value-is c.self.inside.slots.entries c.place_of-place.result c.args.lead on.0 c.index_mut.result.now on.1 c.index_mut.ensures.value)

pub invariant_of-self-2 : goal.invariant_of-self-2
invariant_of-self-2 c =
    let on = c.place_of-place.ensures in
    let place = c.place_of-place.result in
    let k : Kept = c.in-Some.kept in
    let at = held-at c.self.inside.slots.entries place c.args.lead on.0 k c.index_mut.result.now on.1 c.index_mut.ensures.value c.in-Some.is in
    listed-changed c.self.inside.slots.entries c.self.inside.counts.items c.self.inside.count place c.args.lead k (record { event = k.event; links = record { followers = c.push.new.self; leads = k.links.leads } }) at c.self.invariant

pub returns-clause-same : goal.returns-clause-same
returns-clause-same c =
    let on = c.place_of-place.ensures in
    let place = c.place_of-place.result in
    let k : Kept = c.in-Some.kept in
    let at = held-at c.self.inside.slots.entries place c.args.lead on.0 k c.index_mut.result.now on.1 c.index_mut.ensures.value c.in-Some.is in
    record {
      live = live-changed c.self.inside.slots.entries place c.args.lead k (record { event = k.event; links = record { followers = c.push.new.self; leads = k.links.leads } }) at refl ∙ ap (λ (s : Listed). s.live) c.self.view_is;
      room = room-changed c.self.inside.slots.entries _ _ place _ ∙ ap (λ (s : Listed). s.room) c.self.view_is;
    }

pub returns-clause-changed : goal.returns-clause-changed
returns-clause-changed c =
    let on = c.place_of-place.ensures in
    let place = c.place_of-place.result in
    let k : Kept = c.in-Some.kept in
    let at = held-at c.self.inside.slots.entries place c.args.lead on.0 k c.index_mut.result.now on.1 c.index_mut.ensures.value c.in-Some.is in
    let m : Kept = record { event = k.event; links = record { followers = c.push.new.self; leads = k.links.leads } } in
    let new : List Links = links_kept (filled (set_value_at c.self.inside.slots.entries place (Some m))) in
    subst (λ (s : Listed). FollowersChanged s.live c.args.lead (λ (b : List ℕ) (a : List ℕ). a ≡ b ++ c.args.ticket ∷ []) s.links new) c.self.view_is
    (changed-kept c.self.inside.slots.entries place c.args.lead k m (λ (b : List ℕ) (a : List ℕ). a ≡ b ++ c.args.ticket ∷ []) at c.in_ok-push-in-Some.ensures.ok refl)

pub index_mut-requires : goal.index_mut-requires
index_mut-requires c = slice_get_within c.self.inside.slots.entries c.place_of-place.result _ c.place_of-place.ensures.1
