use Rattle.std.proofs.Common.{◌∙◌, ◌-◌, ◌/◌, ◌<◌, Option, Some, length, sym, ap, subst, arith}
use Rattle.std.specs.Prelude.{slice_set, slice_index_or}
use Rattle.std.proofs.lemmas.Option.{slice_get-get_or, slice_get_within}
use Rattle.indexmap.specs.IndexMap.{set_value_at}
use Rattle.slots.specs.Places.{Places, filled, Counted}
use Rattle.slots.proofs.public.PlaceLaws.{none-some, value-is, filled-taken, rise-set, length-edited}
use Rattle.slots.proofs.public.CountLaws.{counted-taken, block-some}
use Rattle.slots.proofs.edits.take_at.Goals as goal

pub overflow_sub-counts : goal.overflow_sub-counts
overflow_sub-counts g c =
    let h = c.requires.here in
    let less = slice_get_within c.args.slots.now.entries c.args.place (h.0, Some h.1) h.2 in
    let all = c.requires.counted.all in
    let inside : c.args.place / 64 < length c.args.counts.now = omega arith in
    block-some c.args.slots.now.entries c.args.counts.now c.args.place h.0 h.1 (slice_index_or c.args.counts.now (c.args.place / 64) 0) h.2
    (slice_get-get_or c.args.counts.now (c.args.place / 64) 0 inside) c.requires.counted

pub index_mut-requires : goal.index_mut-requires
index_mut-requires g c = let h = c.requires.here in slice_get_within c.args.slots.now.entries c.args.place (h.0, Some h.1) h.2

pub unreachable-requires : goal.unreachable-requires
unreachable-requires g c =
    let h = c.requires.here in
    let is = value-is c.args.slots.now.entries c.args.place h.0 h.1 c.index_mut.result.now h.2 c.index_mut.ensures.value in
    none-some h.1 (sym c.in-None.is ∙ c.take.ensures.value ∙ is)

pub returns-clause-filled : goal.returns-clause-filled
returns-clause-filled g c =
    let h = c.requires.here in
    ap (λ (o : Option _). filled (set_value_at c.args.slots.now.entries c.args.place o)) c.take.ensures.after ∙ filled-taken c.args.slots.now.entries c.args.place h.0 h.1 h.2

pub returns-clause-counted : goal.returns-clause-counted
returns-clause-counted g c =
    let h = c.requires.here in
    let es : Places _ = c.args.slots.now.entries in
    let less = slice_get_within es c.args.place (h.0, Some h.1) h.2 in
    let all = c.requires.counted.all in
    let inside : c.args.place / 64 < length c.args.counts.now = omega arith in
    subst (λ (o : Option _). Counted (set_value_at es c.args.place o) (slice_set c.args.counts.now (c.args.place / 64) (slice_index_or c.args.counts.now (c.args.place / 64) 0 - 1)))
    (sym c.take.ensures.after)
    (counted-taken es c.args.counts.now c.args.place h.0 h.1 (slice_index_or c.args.counts.now (c.args.place / 64) 0) h.2
    (slice_get-get_or c.args.counts.now (c.args.place / 64) 0 inside) c.requires.counted)

pub returns-clause-rising : goal.returns-clause-rising
returns-clause-rising g c = λ r. rise-set 0 c.args.slots.now.entries c.args.place c.take.new.self r

pub returns-clause-item : goal.returns-clause-item
returns-clause-item g c =
    let h = c.requires.here in
    let is = value-is c.args.slots.now.entries c.args.place h.0 h.1 c.index_mut.result.now h.2 c.index_mut.ensures.value in
    (h.0, h.2 ∙ ap (λ (o : Option _). Some (h.0, o)) (sym is ∙ sym c.take.ensures.value ∙ c.in-Some.is))

pub returns-clause-size : goal.returns-clause-size
returns-clause-size g c = length-edited c.args.slots.now.entries c.args.place c.take.new.self
