use Rattle.std.proofs.Common.{◌≡◌, ◌∙◌, ◌+◌, List, true, length, slice_get, refl, sym, ap, arith, rules, eqb-true, eq-eqb, true≢false}
use Rattle.rings.specs.declared.ring.Seen.{Seen}
use Rattle.rings.specs.internal.Search.{is_new, same_at, waits}
use Rattle.rings.proofs.FirstFound.{goes-further, none-first, not-begun, found-first}
use Rattle.rings.proofs.Marked.{at-first, none-left, searched, was-new, names, not-new, one-more}
use Rattle.rings.proofs.Trailing.{no-way}
use Rattle.rings.proofs.ring.first_ring.Goals as goal

pub loop-start-init : goal.loop-start-init
loop-start-init c = (
  at-first (length c.args.actions.now) (waits c.args.actions.now c.args.partners.now c.args.marks.now) (same_at c.args.actions.now) c.in_ok-trail.trail.seen.items c.in_ok-trail.ensures.size
      c.in_ok-trail.ensures.done c.in_ok-trail.ensures.on_way,
  record {
    opens = c.in_ok-trail.ensures.left;
    size = c.in_ok-trail.ensures.held;
    on_way = no-way c.args.tables.now.standing c.args.actions.now c.in_ok-trail.trail.held.items;
  },
  not-begun c.args.actions.now c.args.partners.now c.args.marks.now c.in_ok-trail.trail.seen.items c.in_ok-trail.ensures.done,
)

pub ring_from-requires-clause-start : goal.ring_from-requires-clause-start
ring_from-requires-clause-start c =
    let on : c.is_new.result ≡ true = c.if-not-is_new.false in
    was-new c.loop-start.trail.seen.items c.loop-start.start (ap (λ (l : List Seen). is_new (slice_get l c.loop-start.start)) (sym c.as_slice.ensures.value) ∙ sym c.is_new.ensures ∙ on)

pub loop-start-preserved : goal.loop-start-preserved
loop-start-preserved c =
    let none : length c.in_ok-ring.ring.items ≡ 0 = sym c.in_ok-ring.ring.ok.0 ∙ eqb-true _ _ (sym c.is_empty.ensures ∙ c.if-not-is_empty.false) in (
      searched (length c.args.actions.now) (waits c.args.actions.now c.args.partners.now c.args.marks.now) (same_at c.args.actions.now) c.loop-start.trail.seen.items
          c.ring_from.new.trail.seen.items c.loop-start.start (c.loop-start.start + 1) c.in_ok-ring.ring.items c.loop-start.invariant.0 refl none c.in_ok-ring.ensures.ring,
      c.in_ok-ring.ensures.sound,
      goes-further c.args.actions.now c.args.partners.now c.args.marks.now c.loop-start.trail.seen.items c.ring_from.new.trail.seen.items c.in_ok-ring.ring.items c.loop-start.invariant.2 none
          (c.in_ok-ring.ensures.first c.loop-start.invariant.2.0 c.loop-start.invariant.2.1),
    )

pub returns-clause-ring : goal.returns-clause-ring
returns-clause-ring c =
    none-left (length c.args.actions.now) (waits c.args.actions.now c.args.partners.now c.args.marks.now) (same_at c.args.actions.now) c.loop-start.trail.seen.items c.loop-start.start _
    c.loop-start.invariant.0 (omega arith) (search rules)

pub returns-clause-first : goal.returns-clause-first
returns-clause-first c =
    none-first c.args.actions.now c.args.partners.now c.args.marks.now c.loop-start.trail.seen.items c.loop-start.start _ c.loop-start.invariant.0 c.loop-start.invariant.2 (omega arith)
    (search rules)

pub loop-start-preserved-then-not-is_new : goal.loop-start-preserved-then-not-is_new
loop-start-preserved-then-not-is_new c = (
  one-more (length c.args.actions.now) (waits c.args.actions.now c.args.partners.now c.args.marks.now) (same_at c.args.actions.now) c.loop-start.trail.seen.items c.loop-start.start
      (c.loop-start.start + 1) c.loop-start.invariant.0 refl
      (not-new c.loop-start.trail.seen.items c.loop-start.start
      (ap (λ (l : List Seen). is_new (slice_get l c.loop-start.start)) (sym c.as_slice.ensures.value) ∙ sym c.is_new.ensures ∙ c.if-not-is_new.true)),
  c.loop-start.invariant.1,
  c.loop-start.invariant.2,
)

pub returns-then-not-is_empty-clause-ring : goal.returns-then-not-is_empty-clause-ring
returns-then-not-is_empty-clause-ring c =
    names (length c.args.actions.now) (waits c.args.actions.now c.args.partners.now c.args.marks.now) (same_at c.args.actions.now) c.loop-start.trail.seen.items
    c.ring_from.new.trail.seen.items c.loop-start.start c.in_ok-ring.ring.items
    (λ e. true≢false (sym (eq-eqb _ _ (c.in_ok-ring.ring.ok.0 ∙ e)) ∙ sym c.is_empty.ensures ∙ c.if-not-is_empty.true)) c.in_ok-ring.ensures.ring

pub returns-then-not-is_empty-clause-first : goal.returns-then-not-is_empty-clause-first
returns-then-not-is_empty-clause-first c =
    found-first c.args.actions.now c.args.partners.now c.args.marks.now c.loop-start.trail.seen.items c.ring_from.new.trail.seen.items c.in_ok-ring.ring.items c.loop-start.invariant.2
    (λ e. true≢false (sym (eq-eqb _ _ (c.in_ok-ring.ring.ok.0 ∙ e)) ∙ sym c.is_empty.ensures ∙ c.if-not-is_empty.true))
    (c.in_ok-ring.ensures.first c.loop-start.invariant.2.0 c.loop-start.invariant.2.1)
