use Rattle.std.specs.Prelude.{◌⊎◌, slice_get}
use Rattle.std.proofs.Common.{◌≡◌, ◌∙◌, ◌+◌, ◌-◌, ◌*◌, ◌<◌, ◌≤◌, ℕ, length, filter, sym, ap, subst, arith, rules}
use Rattle.indexmap.proofs.CallerLemmas.{filter-RetainsPairs}
use Rattle.slots.specs.Places.{Places, filled, RiseFrom}
use Rattle.slots.proofs.public.PlaceLaws.{filled-short}
use Rattle.slots.proofs.public.CountLaws.{is_filled, filled-kept, full-kept, rise-kept, none-empty, counted-full}
use Rattle.slots.proofs.edits.close_up.Goals as goal

pub returns : goal.returns
returns g c =
    let es : Places _ = c.args.slots.now.entries in
    let kept : c.retain.new.self.entries ≡ filter is_filled es = filter-RetainsPairs _ is_filled _ (λ k v b w f call. search rules) _ _ c.retain.ensures.filtered in
    let whole : filled c.retain.new.self.entries ≡ filled es = ap filled kept ∙ filled-kept es in
    let full : length (filled c.retain.new.self.entries) ≡ length c.retain.new.self.entries =
    ap (λ (k : Places _). length (filled k)) kept ∙ full-kept es ∙ ap length (sym kept) in
    let fits : length c.retain.new.self.entries ≤ 64 * length c.count_all.new.counts =
    let short = filled-short es in let same = ap length whole in let all = c.requires.counted.all in let size = c.count_all.ensures.size in omega arith in
    record {
      filled = whole;
      counted = counted-full c.retain.new.self.entries c.count_all.new.counts full fits (λ b n at.
          subst (λ (len : ℕ). ((64 * b + 64 ≤ len) × (n ≡ 64)) ⊎ ((len < 64 * b + 64) × (n ≡ len - 64 * b))) c.len.ensures.len (c.count_all.ensures.counted b n at));
      rising = subst (λ (k : Places _). RiseFrom 0 k) (sym kept) (rise-kept 0 es c.requires.rising);
      last = λ place t up at. none-empty es place t (sym (ap (λ (k : Places _). slice_get k place) kept) ∙ at);
      room = c.retain.ensures.room.0;
    }
