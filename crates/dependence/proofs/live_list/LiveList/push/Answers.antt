use Rattle.std.proofs.Common.{◌≡◌, ◌∙◌, ◌∷◌, ◌++◌, ◌+◌, ◌<◌, [], ℕ, List, Option, Some, length, take, drop, refl, sym, ap, subst, arith}
use Rattle.syntax.specs.Lists.{In}
use Rattle.slots.specs.Places.{Places, filled}
use Rattle.slots.proofs.public.PlaceLaws.{filled-short}
use Rattle.runs.specs.Live.{LiveAt}
use Rattle.runs.proofs.public.Tickets.{rising-in}
use Rattle.dependence.specs.declared.kept.Kept.{Kept}
use Rattle.dependence.specs.internal.Listed.{Listed, IsListed, events_kept, links_kept}
use Rattle.dependence.proofs.Edges.{take-whole}
use Rattle.dependence.proofs.ListedLaws.{places-below, live-kept, listed-pushed, live-pushed, links-pushed}
use Rattle.dependence.proofs.live_list.LiveList.push.Goals as goal

pub push-requires-clause-above : goal.push-requires-clause-above
push-requires-clause-above c =
    places-below 0 c.args.ticket c.self.inside.slots.entries c.self.invariant.rising c.self.invariant.last (λ t k i.
    (rising-in 0 c.args.ticket c.args.self.now.live t k.event c.requires.rising
    (subst (λ (s : Listed). LiveAt s.live t k.event) c.self.view_is (live-kept c.self.inside.slots.entries t k i))).1)

pub overflow_add-self : goal.overflow_add-self
overflow_add-self c =
    let short = filled-short c.self.inside.slots.entries in
    let count = c.self.invariant.count in
    let len = c.len-len.ensures.len in
    let small = c.len-len.ensures.small in
    omega arith

pub invariant_of-self : goal.invariant_of-self
invariant_of-self c =
    let es : Places Kept = c.self.inside.slots.entries in
    let k : Kept = record { event = c.args.event; links = record { followers = c.new.result; leads = c.args.leads } } in
    let above = places-below 0 c.args.ticket es c.self.invariant.rising c.self.invariant.last (λ t k i.
    (rising-in 0 c.args.ticket c.args.self.now.live t k.event c.requires.rising (subst (λ (s : Listed). LiveAt s.live t k.event) c.self.view_is (live-kept es t k i))).1) in
    let whole : take c.self.inside.counts.len (c.push.new.counts ++ drop (length c.push.new.counts) c.self.inside.counts.items) ≡ c.push.new.counts =
    take-whole c.push.new.counts c.self.inside.counts.items c.self.inside.counts.len (c.push.auto.counts ∙ ap length c.as_mut_slice.ensures.value)
    (sym c.as_mut_slice.ensures.len ∙ ap length c.as_mut_slice.ensures.value) in
    subst (λ (ns : List ℕ). IsListed c.push.new.slots.entries ns (c.self.inside.count + 1)) (sym whole)
    (listed-pushed es c.push.new.slots.entries c.self.inside.counts.items c.push.new.counts c.self.inside.count c.args.ticket k c.push.ensures.pushed above c.self.invariant
    c.push.ensures.counted)

pub returns-clause-live : goal.returns-clause-live
returns-clause-live c =
    let k : Kept = record { event = c.args.event; links = record { followers = c.new.result; leads = c.args.leads } } in
    ap (λ (ps : Places Kept). events_kept (filled ps)) c.push.ensures.pushed ∙ live-pushed c.self.inside.slots.entries c.args.ticket k
    ∙ ap (λ (s : Listed). s.live ++ (c.args.ticket, c.args.event) ∷ []) c.self.view_is

pub returns-clause-links : goal.returns-clause-links
returns-clause-links c =
    let k : Kept = record { event = c.args.event; links = record { followers = c.new.result; leads = c.args.leads } } in (
      k.links,
      ap (λ (ps : Places Kept). links_kept (filled ps)) c.push.ensures.pushed ∙ links-pushed c.self.inside.slots.entries c.args.ticket k
          ∙ ap (λ (s : Listed). s.links ++ k.links ∷ []) c.self.view_is,
      c.new.ensures.items,
      refl,
    )
