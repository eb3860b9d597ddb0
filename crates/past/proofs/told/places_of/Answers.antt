use Rattle.std.proofs.Common.{◌≡◌, ◌∙◌, ◌+◌, ◌++◌, ◌∷◌, [], ℕ, suc, List, get_or, take, sym, ap, subst, arith}
use Rattle.std.proofs.lemmas.Option.{slice_get-get_or}
use Rattle.dependence.proofs.public.ListPlaces.{in-read, take-all, take-next}
use Rattle.past.specs.internal.Near.{ArePlaces}
use Rattle.past.proofs.Telling.{places-more}
use Rattle.past.proofs.told.places_of.Goals as goal

pub place_of-requires-clause-among : goal.place_of-requires-clause-among
place_of-requires-clause-among c = c.requires.among _ (in-read c.args.some.now c.loop-ticket.ticket-index c.loop-ticket-test.true)

pub loop-ticket-preserved : goal.loop-ticket-preserved
loop-ticket-preserved c =
    let i : ℕ = c.loop-ticket.ticket-index in
    let next : suc i ≡ i + 1 = omega arith in
    let u : ℕ = get_or c.args.some.now i 0 in
    let more = places-more c.args.tickets.now (take i c.args.some.now) c.loop-ticket.places.items u c.place_of.result c.loop-ticket.invariant c.place_of.ensures in
    subst (λ (ps : List ℕ). ArePlaces c.args.tickets.now (take (i + 1) c.args.some.now) ps) (sym c.in_ok-push.ensures.items)
    (subst (λ (k : List ℕ). ArePlaces c.args.tickets.now k (c.loop-ticket.places.items ++ c.place_of.result ∷ []))
    (sym (ap (λ (n : ℕ). take n c.args.some.now) (sym next) ∙ take-next c.args.some.now i u (slice_get-get_or c.args.some.now i 0 c.loop-ticket-test.true))) more)

pub returns : goal.returns
returns c =
    subst (λ (k : List ℕ). ArePlaces c.args.tickets.now k c.loop-ticket.places.items)
    (take-all c.args.some.now c.loop-ticket.ticket-index c.loop-ticket-test.false) c.loop-ticket.invariant
