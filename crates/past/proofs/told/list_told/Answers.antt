use Rattle.std.proofs.Common.{◌≡◌, ◌∙◌, ◌<◌, ◌+◌, ◌++◌, ◌∷◌, [], ℕ, suc, List, true, Some, drop, length, refl, sym, ap, subst, arith}
use Rattle.std.proofs.lemmas.Option.{slice_get-get_or}
use Rattle.syntax.specs.Lists.{In}
use Rattle.runs.specs.Live.{Live}
use Rattle.dependence.proofs.public.ListPlaces.{drop-all, drop-next, in-at}
use Rattle.runs.proofs.public.Lists.{every-in}
use Rattle.past.specs.Past.{Tells, tickets_of}
use Rattle.past.specs.declared.past.PastEvent.{PastEvent}
use Rattle.past.specs.internal.Near.{Told, ToldAt, tickets_at}
use Rattle.past.proofs.Telling.{near-causes, near-within, ticket-at, tickets-length, told-all, told-passed, untold-passed}
use Rattle.past.proofs.told.list_told.Goals.{then-is_told+in_ok-with_causes+in_ok-push, else-is_told}
use Rattle.past.proofs.told.list_told.Goals as goal

pub with_causes-requires : goal.with_causes-requires
with_causes-requires c = λ p i.
    let l : Live = c.args.live.now.live in
    let whole : List PastEvent = c.args.whole.now in
    let place : ℕ = c.loop-place.place in
    let x : PastEvent = c.index-whole-place.result in
    let list : List ℕ = c.index-near-place.result in
    let at = slice_get-get_or whole place x c.loop-place-test.true ∙ ap (λ (y : PastEvent). Some y) (sym c.index-whole-place.is) in
    let size = c.requires.near.size in
    let count = tickets-length whole in
    let test = c.loop-place-test.true in
    let inside : place < length c.args.near.now = omega arith in
    let at_list = slice_get-get_or c.args.near.now place list inside ∙ ap (λ (ks : List ℕ). Some ks) (sym c.index-near-place.is) in
    let told : ToldAt c.args.asked whole place true = (x, at, sym c.is_told.ensures ∙ c.if-is_told.true) in
    let near = c.requires.near.lists place x.ticket list told (ticket-at whole place x at) at_list in
    subst (λ (ts : List ℕ). p < length ts) (sym c.requires.tickets)
    (near-within 0 c.requires.rising.0 l c.args.asked c.requires.live.0 c.requires.rising.1 c.requires.live.1 whole c.requires.whole
    x.ticket list near p (subst (λ (ks : List ℕ). In p ks) c.as_slice.ensures i))

pub loop-place-preserved : goal.loop-place-preserved
loop-place-preserved c =
    let l : Live = c.args.live.now.live in
    let whole : List PastEvent = c.args.whole.now in
    let place : ℕ = c.loop-place.place in
    let x : PastEvent = c.index-whole-place.result in
    let at = slice_get-get_or whole place x c.loop-place-test.true ∙ ap (λ (y : PastEvent). Some y) (sym c.index-whole-place.is) in
    let next : suc place ≡ place + 1 = omega arith in
    let left : drop place whole ≡ x ∷ drop (place + 1) whole =
    drop-next whole place x at ∙ ap (λ (k : ℕ). x ∷ drop k whole) next in
    let few = c.loop-place.invariant.few in
    let told = c.loop-place.invariant.told in
    let size = c.requires.near.size in
    let count = tickets-length whole in
    let test = c.loop-place-test.true in
    let inside : place < length c.args.near.now = omega arith in
    let joined : (es : List PastEvent) (n : ℕ) → c.if-is_told.events ≡ es → c.if-is_told.left_out ≡ n
    → Told l c.args.asked whole (drop (place + 1) whole) es n
    → Told l c.args.asked whole (drop (place + 1) whole) c.if-is_told.events c.if-is_told.left_out =
    λ es n events_are count_is t.
    subst (λ (m : ℕ). Told l c.args.asked whole (drop (place + 1) whole) c.if-is_told.events m) (sym count_is)
    (subst (λ (fs : List PastEvent). Told l c.args.asked whole (drop (place + 1) whole) fs n) (sym events_are) t) in
    elim c.if-is_told.branch [
      | then-is_told+in_ok-with_causes+in_ok-push w ↦
          let list : List ℕ = w.index-near-place.result in
          let at_list = slice_get-get_or c.args.near.now place list inside ∙ ap (λ (ks : List ℕ). Some ks) (sym w.index-near-place.is) in
          let told_here : ToldAt c.args.asked whole place true = (x, at, sym c.is_told.ensures ∙ w.if-is_told.true) in
          let near = c.requires.near.lists place x.ticket list told_here (ticket-at whole place x at) at_list in
          let lists = near-causes 0 c.requires.rising.0 l c.args.asked c.requires.live.0 c.requires.rising.1 c.requires.live.1 whole c.requires.whole
          x.ticket list near in
          let made : PastEvent = record { ticket = x.ticket; index = x.index; carries = x.carries; causes = tickets_at (tickets_of whole) list } in
          let made_is : w.in_ok-with_causes.field-0 ≡ made = w.in_ok-with_causes.ensures
          ∙ ap (λ (ks : List ℕ). record { ticket = x.ticket; index = x.index; carries = x.carries; causes = tickets_at c.args.tickets.now ks }) w.as_slice.ensures
          ∙ ap (λ (ts : List ℕ). record { ticket = x.ticket; index = x.index; carries = x.carries; causes = tickets_at ts list }) c.requires.tickets in
          let tells = every-in (λ (y : PastEvent). Tells l y) whole x c.requires.whole.tells (in-at whole place x at) in
          record {
            few = let same = w.left_out-is in omega arith;
            told = joined (c.loop-place.events ++ made ∷ []) c.loop-place.left_out
                (w.events-is ∙ w.in_ok-push.ensures.ok ∙ ap (λ (y : PastEvent). c.loop-place.events ++ y ∷ []) made_is) w.left_out-is
                (told-passed l c.args.asked whole (drop place whole) (drop (place + 1) whole) x made c.loop-place.events c.loop-place.left_out told left
                (sym c.is_told.ensures ∙ w.if-is_told.true) refl (record { event = tells.event; stands = tells.stands; carries = tells.carries }) lists);
          }
      | else-is_told w ↦ record {
        few = let same = w.left_out-is in omega arith;
        told = joined c.loop-place.events (c.loop-place.left_out + 1) w.events-is w.left_out-is
            (untold-passed l c.args.asked whole (drop place whole) (drop (place + 1) whole) x c.loop-place.events c.loop-place.left_out told left
            (sym c.is_told.ensures ∙ w.if-is_told.false));
      }
    ]

pub returns : goal.returns
returns c =
    told-all 0 c.requires.rising.0 c.args.live.now.live c.args.asked c.requires.live.0 c.requires.rising.1 c.requires.live.1 c.args.whole.now c.requires.whole
    (drop c.loop-place.place c.args.whole.now) c.loop-place.events c.loop-place.left_out c.loop-place.invariant.told
    (drop-all c.args.whole.now c.loop-place.place c.loop-place-test.false)
