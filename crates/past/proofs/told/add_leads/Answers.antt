use Rattle.std.proofs.Common.{◌≡◌, ◌∙◌, ◌<◌, ◌≤◌, ◌++◌, ◌∷◌, [], ℕ, List, Some, length, length-append, sym, ap, subst, arith}
use Rattle.std.specs.Prelude.{slice_get}
use Rattle.std.proofs.lemmas.Option.{slice_get-get_or}
use Rattle.syntax.specs.Lists.{In}
use Rattle.runs.specs.Live.{Live}
use Rattle.past.specs.Past.{tickets_of}
use Rattle.past.specs.declared.past.PastEvent.{PastEvent}
use Rattle.past.specs.internal.Near.{AreLeads}
use Rattle.past.proofs.Telling.{lead-among, leads-more, placed-at, ticket-at}
use Rattle.past.proofs.told.add_leads.Goals as goal

pub places_of-requires-clause-among : goal.places_of-requires-clause-among
places_of-requires-clause-among c = λ u i.
    let l : Live = c.args.live.now.live in
    let whole : List PastEvent = c.args.whole.now in
    let place : ℕ = c.len-in-places.result in
    let x : PastEvent = c.index-whole-len.result in
    let less : place < length whole = omega (arith, c.len.ensures, c.places-test.true, c.len-in-places.ensures) in
    let at = slice_get-get_or whole place x less ∙ ap (λ (y : PastEvent). Some y) (sym c.index-whole-len.is) in
    let cause : In u x.causes = subst (λ (ks : List ℕ). In u ks) (c.as_slice.ensures ∙ ap (λ (y : PastEvent). y.causes) (sym c.index-whole-len.is)) i in
    subst (λ (ts : List ℕ). In u ts) (sym c.requires.tickets)
    (lead-among 0 c.requires.rising.0 l c.args.asked c.requires.live.0 c.requires.rising.1 c.requires.live.1 whole c.requires.whole place u x at cause)

pub places-preserved : goal.places-preserved
places-preserved c =
    let l : Live = c.args.live.now.live in
    let whole : List PastEvent = c.args.whole.now in
    let leads : List (List ℕ) = c.places.leads in
    let place : ℕ = c.len-in-places.result in
    let x : PastEvent = c.index-whole-len.result in
    let here : place ≡ length leads = c.len-in-places.ensures in
    let less : place < length whole = omega (arith, c.len.ensures, c.places-test.true, c.len-in-places.ensures) in
    let at = slice_get-get_or whole place x less ∙ ap (λ (y : PastEvent). Some y) (sym c.index-whole-len.is) in
    let some_is = c.as_slice.ensures ∙ ap (λ (y : PastEvent). y.causes) (sym c.index-whole-len.is) in
    let made : List ℕ = c.in_ok-places.places.items in
    let placed = placed-at 0 c.requires.rising.0 l c.args.asked c.requires.live.0 c.requires.rising.1 c.requires.live.1 whole c.requires.whole
    c.args.tickets.now c.as_slice.result.now made place x c.requires.tickets at some_is c.in_ok-places.ensures in
    let new_is : c.push.new.self ≡ leads ++ made ∷ [] = c.in_ok-push.ensures.ok ∙ ap (λ (k : List ℕ). leads ++ k ∷ []) c.from_vec.ensures in
    let one = length-append leads (made ∷ []) in
    record {
      within = subst (λ (k : List (List ℕ)). length k ≤ length whole) (sym new_is) (omega arith);
      lists = subst (λ (k : List (List ℕ)). (q s : ℕ) (places : List ℕ) → slice_get (tickets_of whole) q ≡ Some s → slice_get k q ≡ Some places
          → AreLeads l (tickets_of whole) s places) (sym new_is)
          (leads-more l (tickets_of whole) leads made x.ticket c.places.invariant.lists
          (subst (λ (k : ℕ). slice_get (tickets_of whole) k ≡ Some x.ticket) here (ticket-at whole place x at)) placed);
    }
