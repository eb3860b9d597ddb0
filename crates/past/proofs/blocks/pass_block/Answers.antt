use Rattle.std.proofs.Common.{◌≡◌, ◌∙◌, inl, inr, ◌<◌, ◌≤◌, ℕ, List, Some, get_or, length, length-set, sym, ap, subst, arith}
use Rattle.std.specs.Prelude.{slice_get}
use Rattle.std.proofs.lemmas.Option.{slice_get-get_or}
use Rattle.dependence.proofs.public.ListPlaces.{at-one}
use Rattle.past.specs.declared.blocks.Mark.{Mark}
use Rattle.past.specs.declared.past.PastEvent.{PastEvent}
use Rattle.past.specs.internal.Blocks.{IsHandedOn}
use Rattle.past.specs.internal.Near.{told}
use Rattle.past.proofs.BlockLaws.{handed-first, handed-next, marked-first, marked-next, marks-here, open-first, open-last, open-next, opens}
use Rattle.past.proofs.blocks.pass_block.Goals as goal

pub loop-place-init : goal.loop-place-init
loop-place-init c =
    let begins = c.requires.begins in
    let ends = c.requires.ends in
    record {
      low = omega arith;
      high = omega arith;
      over = omega arith;
      most = ends;
      marks = c.requires.marks;
      marked = marked-first c.args.leads.now c.requires.down c.args.asked c.args.whole.now c.args.first c.args.end c.args.marks.now;
      near = c.requires.near;
      open_to = open-first c.args.leads.now c.requires.down c.args.asked c.args.whole.now c.args.first c.args.end c.args.near.now (omega arith) c.requires.listed;
      handed = handed-first c.args.leads.now c.requires.down c.args.asked c.args.whole.now c.args.first c.args.end;
    }

pub add_at-requires-clause-falling : goal.add_at-requires-clause-falling
add_at-requires-clause-falling c = λ on before at.
    let place : ℕ = c.loop-place.place in
    let x : PastEvent = c.index-whole-place.result in
    let test = c.loop-place-test.true in
    let most = c.loop-place.invariant.most in
    let inside : place < length c.args.whole.now = omega arith in
    let at_x = slice_get-get_or c.args.whole.now place x inside ∙ ap (λ (y : PastEvent). Some y) (sym c.index-whole-place.is) in
    ((c.loop-place.invariant.open_to place before (x, at_x, sym c.is_told-is_told.ensures ∙ on) at).1 (omega arith)).falling

pub add_at-requires-clause-behind : goal.add_at-requires-clause-behind
add_at-requires-clause-behind c = λ on before at p i.
    let place : ℕ = c.loop-place.place in
    let x : PastEvent = c.index-whole-place.result in
    let test = c.loop-place-test.true in
    let most = c.loop-place.invariant.most in
    let inside : place < length c.args.whole.now = omega arith in
    let at_x = slice_get-get_or c.args.whole.now place x inside ∙ ap (λ (y : PastEvent). Some y) (sym c.index-whole-place.is) in
    ((((c.loop-place.invariant.open_to place before (x, at_x, sym c.is_told-is_told.ensures ∙ on) at).1 (omega arith)).exactly p).0 i).0

pub loop-place-preserved : goal.loop-place-preserved
loop-place-preserved c =
    let place : ℕ = c.loop-place.place in
    let whole : List PastEvent = c.args.whole.now in
    let leads : List (List ℕ) = c.args.leads.now in
    let x : PastEvent = c.index-whole-place.result in
    let test = c.loop-place-test.true in
    let most = c.loop-place.invariant.most in
    let low = c.loop-place.invariant.low in
    let over = c.loop-place.invariant.over in
    let begins = c.requires.begins in
    let size = c.requires.size in
    let size_lasts = c.requires.lasts.size in
    let size_marks = c.loop-place.invariant.marks in
    let inside : place < length whole = omega arith in
    let at_x = slice_get-get_or whole place x inside ∙ ap (λ (y : PastEvent). Some y) (sym c.index-whole-place.is) in
    let last : ℕ = get_or c.args.lasts.now place 0 in
    let inside_lasts : place < length c.args.lasts.now = omega arith in
    let at_last : slice_get c.args.lasts.now place ≡ Some last = slice_get-get_or c.args.lasts.now place 0 inside_lasts in
    let last_most : last ≤ length leads = c.requires.lasts.most place last at_last in
    let least = c.handed_until-until.ensures.least in
    let one = marks-here leads c.requires.down c.args.asked whole c.args.first c.args.end place c.below_at-below.result c.mark_of-mark.result x c.is_told-is_told.result
    at_x c.is_told-is_told.ensures c.below_at-below.ensures c.mark_of-mark.ensures.reached c.mark_of-mark.ensures.behind in
    let those = opens leads c.requires.down c.args.asked whole c.args.first c.args.end place c.without-nearest.result c.below_at-below.result c.requires.width
    c.below_at-below.ensures c.without-nearest.ensures in
    let adds = c.in_ok-add_at.ensures in
    let size_near = c.loop-place.invariant.near in
    let size_new = adds.size in
    let within_marks : place < length c.loop-place.marks = omega arith in
    record {
      low = omega arith;
      high = omega arith;
      over = omega arith;
      most = elim c.handed_until-until.ensures.most [ inl is ↦ omega arith | inr is ↦ omega arith ];
      marks = omega (arith, length-set {A = Mark});
      marked = marked-next leads c.requires.down c.args.asked whole c.args.first c.args.end place c.loop-place.marks c.mark_of-mark.result within_marks one
          c.loop-place.invariant.marked;
      near = omega arith;
      open_to = open-next leads c.requires.down c.args.asked whole c.args.first c.args.end place c.without-nearest.result c.loop-place.near c.add_at.new.near
          c.is_told-is_told.result (omega arith)
          (λ h. c.is_told-is_told.ensures ∙ ap (λ (y : PastEvent). told c.args.asked y) (at-one whole place x h.0 at_x h.1) ∙ h.2) (sym size_new) those adds
          c.loop-place.invariant.open_to;
      handed = handed-next leads c.requires.down c.args.asked whole c.args.first c.args.end place c.loop-place.until c.handed_until-until.result last c.args.lasts.now
          c.mark_of-mark.result c.requires.width one c.requires.lasts at_last least c.handed_until-until.ensures.handed c.loop-place.invariant.handed;
    }

pub returns-clause-near : goal.returns-clause-near
returns-clause-near c =
    let test = c.loop-place-test.false in
    let high = c.loop-place.invariant.high in
    let over = c.loop-place.invariant.over in
    let begins = c.requires.begins in
    let same_place : c.loop-place.until ≡ c.loop-place.place = omega arith in (
      c.loop-place.invariant.near,
      open-last c.args.leads.now c.requires.down c.args.asked c.args.whole.now c.args.first c.args.end c.loop-place.place c.loop-place.near (omega arith) (omega arith)
          (subst (λ (k : ℕ). IsHandedOn c.args.asked c.args.whole.now c.args.leads.now c.args.first c.args.end c.loop-place.place k) same_place
          c.loop-place.invariant.handed)
          c.loop-place.invariant.open_to,
    )
