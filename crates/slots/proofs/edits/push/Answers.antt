use Rattle.std.proofs.Common.{◌≡◌, ◌∙◌, ◌+◌, ◌/◌, ◌<◌, ◌≤◌, ◌++◌, ◌∷◌, [], ℕ, Some, length, sym, subst, arith}
use Rattle.std.specs.Prelude.{slice_set, slice_index_or}
use Rattle.std.proofs.lemmas.Option.{slice_get-get_or}
use Rattle.indexmap.proofs.CallerLemmas.{insert_entry-new}
use Rattle.slots.specs.Places.{Places, Counted}
use Rattle.slots.proofs.public.PlaceLaws.{above-absent, on-ok}
use Rattle.slots.proofs.public.CountLaws.{counted-pushed, block-most}
use Rattle.slots.proofs.edits.push.Goals as goal

pub overflow_add-counts : goal.overflow_add-counts
overflow_add-counts g c =
    let len = c.len-number.ensures.len in
    let room = c.requires.block in
    let inside : c.len-number.result / 64 < length c.args.counts.now = omega arith in
    let most : slice_index_or c.args.counts.now (c.len-number.result / 64) 0 ≤ 64 =
    block-most c.args.slots.now.entries c.args.counts.now (c.len-number.result / 64) (slice_index_or c.args.counts.now (c.len-number.result / 64) 0)
    (slice_get-get_or c.args.counts.now (c.len-number.result / 64) 0 inside) c.requires.counted in
    omega arith

pub returns-clause-pushed : goal.returns-clause-pushed
returns-clause-pushed g c =
    on-ok c.insert.result c.unwrap.result _ c.unwrap.ensures c.insert.ensures.entries
    ∙ insert_entry-new _ c.args.slots.now c.args.ticket (Some c.args.item) (above-absent c.args.ticket c.args.slots.now.entries c.requires.above)

pub returns-clause-counted : goal.returns-clause-counted
returns-clause-counted g c =
    let es : Places _ = c.args.slots.now.entries in
    let pushed : c.insert.new.self.entries ≡ es ++ (c.args.ticket, Some c.args.item) ∷ [] =
    on-ok c.insert.result c.unwrap.result _ c.unwrap.ensures c.insert.ensures.entries
    ∙ insert_entry-new _ c.args.slots.now c.args.ticket (Some c.args.item) (above-absent c.args.ticket es c.requires.above) in
    let len : c.len-number.result ≡ length es = c.len-number.ensures.len in
    let room = c.requires.block in
    let inside : length es / 64 < length c.args.counts.now = omega arith in
    subst (λ (k : Places _). Counted k (slice_set c.args.counts.now (c.len-number.result / 64) (slice_index_or c.args.counts.now (c.len-number.result / 64) 0 + 1))) (sym pushed)
    (subst (λ (n : ℕ). Counted (es ++ (c.args.ticket, Some c.args.item) ∷ []) (slice_set c.args.counts.now (n / 64) (slice_index_or c.args.counts.now (n / 64) 0 + 1))) (sym len)
    (counted-pushed es c.args.counts.now c.args.ticket c.args.item (slice_index_or c.args.counts.now (length es / 64) 0)
    (slice_get-get_or c.args.counts.now (length es / 64) 0 inside) c.requires.block c.requires.counted))
