use Rattle.std.proofs.Common.{◌≡◌, ◌∙◌, ◌-◌, ◌<◌, ◌++◌, ◌∷◌, [], ℕ, None, length, length-append, take, refl, sym, ap, subst, arith}
use Rattle.slots.specs.Places.{Places, filled, Counted, RiseFrom}
use Rattle.slots.proofs.public.PlaceLaws.{last-cut, rise-less}
use Rattle.slots.proofs.public.CountLaws.{counted-cut, filled-cut}
use Rattle.slots.proofs.edits.cut_end.Goals as goal

pub loop-slots-init : goal.loop-slots-init
loop-slots-init g c = record { filled = refl; counted = c.requires.counted; rising = c.requires.rising; room = omega arith }

pub loop-slots-smaller : goal.loop-slots-smaller
loop-slots-smaller g c =
    let ends = c.ends_empty.ensures.yes c.loop-slots-test.true in
    let es : Places _ = c.loop-slots.slots.entries in
    let cut = last-cut es ends.0 (ends.1, None) ends.2 ends.3 in
    let index : c.len-last.result - 1 ≡ ends.0 = let len = c.len-last.ensures.len in let up = ends.2 in omega arith in
    let is : c.truncate.new.self.entries ≡ take ends.0 es = c.truncate.ensures.entries ∙ ap (λ (k : ℕ). take k es) index in
    let size = length-append (take ends.0 es) ((ends.1, None) ∷ []) in
    let whole : length es ≡ length (take ends.0 es ++ (ends.1, None) ∷ []) = ap length cut in
    let short : length c.truncate.new.self.entries ≡ length (take ends.0 es) = ap length is in
    let less : length c.truncate.new.self.entries < length es = omega arith in
    less

pub loop-slots-preserved : goal.loop-slots-preserved
loop-slots-preserved g c =
    let ends = c.ends_empty.ensures.yes c.loop-slots-test.true in
    let es : Places _ = c.loop-slots.slots.entries in
    let cut = last-cut es ends.0 (ends.1, None) ends.2 ends.3 in
    let index : c.len-last.result - 1 ≡ ends.0 = let len = c.len-last.ensures.len in let up = ends.2 in omega arith in
    let is : c.truncate.new.self.entries ≡ take ends.0 es = c.truncate.ensures.entries ∙ ap (λ (k : ℕ). take k es) index in
    record {
      filled = ap filled is ∙ sym (filled-cut (take ends.0 es) ends.1) ∙ ap filled (sym cut) ∙ c.loop-slots.invariant.filled;
      counted = subst (λ (k : Places _). Counted k c.args.counts.now) (sym is)
          (counted-cut (take ends.0 es) c.args.counts.now ends.1 (subst (λ (k : Places _). Counted k c.args.counts.now) cut c.loop-slots.invariant.counted));
      rising = subst (λ (k : Places _). RiseFrom 0 k) (sym is)
          (rise-less 0 (take ends.0 es) ((ends.1, None) ∷ []) (subst (λ (k : Places _). RiseFrom 0 k) cut c.loop-slots.invariant.rising));
      room = let kept = c.truncate.ensures.room.0 in let was = c.loop-slots.invariant.room in omega arith;
    }

pub returns : goal.returns
returns g c = record {
  filled = c.loop-slots.invariant.filled;
  counted = c.loop-slots.invariant.counted;
  rising = c.loop-slots.invariant.rising;
  last = c.ends_empty.ensures.no c.loop-slots-test.false;
  room = c.loop-slots.invariant.room;
}
