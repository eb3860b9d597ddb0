use Rattle.std.proofs.Common.{◌≡◌, ◌⊎◌, inl, inr, ℕ, List, [], ◌∷◌, take, get_or, subst}
use Rattle.syntax.specs.Lists.{In}
use Rattle.runs.proofs.public.Lists.{in-parts}
use Rattle.dependence.specs.internal.Found.{AccessesFound}
use Rattle.dependence.proofs.Candidacy.{found-none, found-then, found-some}
use Rattle.dependence.proofs.public.ListPlaces.{in-read, take-all}
use Rattle.dependence.proofs.public.Tabling.{read-next}
use Rattle.dependence.proofs.accesses.NewEvent.add_accesses.Goals as goal

pub loop-ticket-init : goal.loop-ticket-init
loop-ticket-init c = found-none c.args.self.now.list.now.live c.args.self.now.event.now _ c.args.found.now.items (λ t e i none. none)

pub add_access-requires-clause-direct : goal.add_access-requires-clause-direct
add_access-requires-clause-direct c = c.requires.direct _ (in-read c.args.tickets.now c.loop-ticket.ticket-index c.loop-ticket-test.true)

pub loop-ticket-preserved : goal.loop-ticket-preserved
loop-ticket-preserved c =
    let new = c.args.self.now in
    let ts : List ℕ = take c.loop-ticket.ticket-index c.args.tickets.now in
    let one : ℕ = get_or c.args.tickets.now c.loop-ticket.ticket-index 0 in
    let next = read-next c.args.tickets.now c.loop-ticket.ticket-index c.loop-ticket-test.true in
    found-some new.list.now.live new.event.now (λ t. In t ts ⊎ (t ≡ one)) _ c.args.found.now.items c.add_access.new.found.items
    (λ t e i j. elim (in-parts t ts (one ∷ []) (subst (λ (k : List ℕ). In t k) next j)) [
      | inl a ↦ inl a
      | inr (inl a) ↦ inr a
      | inr (inr a) ↦ absurd a
    ])
    (found-then new.list.now.live new.event.now (λ t. In t ts) (λ t. t ≡ one) c.args.found.now.items c.loop-ticket.found.items c.add_access.new.found.items
    c.loop-ticket.invariant c.in_ok-add_access.ensures)

pub returns : goal.returns
returns c =
    subst (λ (k : List ℕ). AccessesFound c.args.self.now.list.now.live c.args.self.now.event.now (λ (t : ℕ). In t k) c.args.found.now.items c.loop-ticket.found.items)
    (take-all c.args.tickets.now c.loop-ticket.ticket-index c.loop-ticket-test.false) c.loop-ticket.invariant
