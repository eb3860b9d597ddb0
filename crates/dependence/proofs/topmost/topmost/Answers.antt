use Rattle.std.proofs.Common.{◌≡◌, ◌∙◌, ◌<◌, ◌-◌, ◌+◌, ◌↔◌, ℕ, suc, List, Bool, [], ◌∷◌, ◌++◌, cond, length, IsTrue, sym, ap, subst, arith}
use Rattle.system.specs.Expression.{is_in}
use Rattle.runs.specs.InOrder.{InOrder}
use Rattle.runs.specs.declared.event.Event.{Event}
use Rattle.syntax.specs.Lists.{In}
use Rattle.dependence.specs.Followers.{ListsFollowers}
use Rattle.dependence.specs.internal.Sweeping.{FlagAt, Swept}
use Rattle.dependence.proofs.public.Linking.{linked-there}
use Rattle.dependence.proofs.public.ListPlaces.{at-one}
use Rattle.dependence.proofs.public.Standing.{lesser-stands}
use Rattle.dependence.proofs.Sweeps.{swept-none, swept-next, swept-all}
use Rattle.dependence.proofs.topmost.topmost.Goals as goal

pub is_flagged-below-requires-clause-live : goal.is_flagged-below-requires-clause-live
is_flagged-below-requires-clause-live c = λ t i.
    let p : ℕ = c.loop-index.index - 1 in
    let less : p < length c.args.list.now.live = omega arith in
    let here = linked-there c.args.list.now.live c.args.list.now.links p c.linked_at-ticket.result.1.now c.requires.linked less c.linked_at-ticket.ensures.links in
    let f = (here.followers.exactly t).0 (subst (λ (k : List ℕ). In t k) (c.as_slice-followers.ensures) i) in
    (f.dependent.dependent, f.dependent.dependent_live)

pub is_flagged-below-requires-clause-passed : goal.is_flagged-below-requires-clause-passed
is_flagged-below-requires-clause-passed c = λ t i j on.
    let p : ℕ = c.loop-index.index - 1 in
    let less : p < length c.args.list.now.live = omega arith in
    let here = linked-there c.args.list.now.live c.args.list.now.links p c.linked_at-ticket.result.1.now c.requires.linked less c.linked_at-ticket.ensures.links in
    let f = (here.followers.exactly t).0 (subst (λ (k : List ℕ). In t k) (c.as_slice-followers.ensures) j) in
    let above : p < i = lesser-stands 0 c.requires.rising.0 c.args.list.now.live p i here.ticket t here.event on.0 c.requires.rising.1 here.stands on.1 f.dependent.less in
    let count : c.loop-index.index + length c.loop-index.flags.items ≡ c.args.high = c.loop-index.invariant.swept.count in
    let size : length c.as_slice.result.now ≡ length c.loop-index.flags.items = ap length c.as_slice.ensures.value in
    omega arith

pub is_flagged-below-requires-clause-ascending : goal.is_flagged-below-requires-clause-ascending
is_flagged-below-requires-clause-ascending c =
    let p : ℕ = c.loop-index.index - 1 in
    let less : p < length c.args.list.now.live = omega arith in
    let here = linked-there c.args.list.now.live c.args.list.now.links p c.linked_at-ticket.result.1.now c.requires.linked less c.linked_at-ticket.ensures.links in
    subst (λ (k : List ℕ). InOrder ◌<◌ k) (sym (c.as_slice-followers.ensures)) here.followers.ascending

pub loop-index-init : goal.loop-index-init
loop-index-init c =
    let first = swept-none c.args.list.now.live c.args.candidates.now c.args.low c.args.high c.requires.stand c.requires.rising.0 0 c.requires.rising.1 in
    record {
      low = c.requires.order;
      high = omega arith;
      swept = subst (λ (k : List Bool). Swept c.args.list.now.live c.args.candidates.now c.args.high c.args.high k c.new-kept.result.items) (sym c.new-flags.ensures.items)
          (subst (λ (k : List ℕ). Swept c.args.list.now.live c.args.candidates.now c.args.high c.args.high [] k) (sym c.new-kept.ensures.items) first);
    }

pub loop-index-preserved : goal.loop-index-preserved
loop-index-preserved c =
    let p : ℕ = c.loop-index.index - 1 in
    let less : p < length c.args.list.now.live = omega arith in
    let below : p < c.args.high = omega arith in
    let step : suc p ≡ c.loop-index.index = omega arith in
    let here = linked-there c.args.list.now.live c.args.list.now.links p c.linked_at-ticket.result.1.now c.requires.linked less c.linked_at-ticket.ensures.links in
    let ticket : c.linked_at-ticket.result.0 ≡ here.ticket =
    ap (λ (x : ℕ × Event). x.0) (at-one c.args.list.now.live p (c.linked_at-ticket.result.0, c.linked_at-ticket.ensures.ticket.0) (here.ticket, here.event) c.linked_at-ticket.ensures.ticket.1 here.stands) in
    let flags : c.as_slice.result.now ≡ c.loop-index.flags.items = c.as_slice.ensures.value in
    let told : IsTrue c.is_flagged-below.result ↔ ((v : ℕ) × In v c.as_slice-followers.result.now × FlagAt c.args.list.now.live c.args.high c.loop-index.flags.items v) =
    subst (λ (k : List Bool). IsTrue c.is_flagged-below.result ↔ ((v : ℕ) × In v c.as_slice-followers.result.now × FlagAt c.args.list.now.live c.args.high k v)) flags
    c.is_flagged-below.ensures in
    record {
      low = omega arith;
      high = omega arith;
      swept = swept-next 0 c.requires.rising.0 c.args.list.now.live c.args.candidates.now c.args.low c.args.high c.loop-index.index p here.ticket here.event
          c.loop-index.flags.items c.push.new.self.items c.loop-index.kept.items c.keep_if.new.kept.items c.as_slice-followers.result.now
          c.is_among-is_one.result c.is_flagged-below.result c.either.result c.alone.result c.requires.rising.1 c.requires.stand step here.stands below
          (subst (λ (k : List ℕ). ListsFollowers c.args.list.now.live here.ticket k) (sym (c.as_slice-followers.ensures)) here.followers)
          c.loop-index.invariant.swept
          (c.is_among-is_one.ensures ∙ ap (λ (k : ℕ). is_in k c.args.candidates.now) ticket) told c.either.ensures c.alone.ensures c.in_ok-push.ensures.items
          (c.in_ok-keep_if.ensures ∙ ap (λ (k : ℕ). cond c.alone.result (c.loop-index.kept.items ++ k ∷ []) c.loop-index.kept.items) ticket);
    }

pub returns : goal.returns
returns c = record {
  falling = c.loop-index.invariant.swept.falling;
  topmost = swept-all 0 c.requires.rising.0 c.args.list.now.live c.args.candidates.now c.args.low c.args.high c.loop-index.index c.loop-index.flags.items
      c.loop-index.kept.items c.requires.rising.1 c.requires.stand c.loop-index-test.false c.loop-index.invariant.swept;
}

pub is_among-is_one-requires : goal.is_among-is_one-requires
is_among-is_one-requires c = c.requires.ascending
