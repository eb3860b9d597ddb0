use Rattle.std.proofs.Common.{List, ℕ, get_or, eqb-true, eq-eqb, sym, subst, ◌∙◌}
use Rattle.std.proofs.lemmas.List.{get_or_default}
use Rattle.syntax.specs.Lists.{In}
use Rattle.dependence.proofs.TicketLaws.{at-in, among-at, not-among}
use Rattle.dependence.proofs.tickets.is_among.Goals as goal

pub returns-in-Some : goal.returns-in-Some
returns-in-Some c =
    let at = c.in-Some.ensures.lookup in
    let ts : List ℕ = c.args.tickets.now in
    let n : ℕ = c.args.count in
    let found : ℕ = c.in-Some.found.now in (
      λ h. subst (λ (v : ℕ). In v ts) (sym at.1 ∙ eqb-true found c.args.ticket h) (at-in ts n found at.3.0),
      λ i. eq-eqb found c.args.ticket (at.1 ∙ get_or_default ts n found 0 at.3.0 ∙ among-at ts c.args.ticket n c.requires.ascends c.requires.parts at.3.0 i),
    )

pub returns-in-None : goal.returns-in-None
returns-in-None c = (
  λ h. absurd (Rattle.std.proofs.Common.true≢false (sym h)),
  λ i. absurd (not-among c.args.tickets.now c.args.ticket c.args.count c.requires.parts c.in-None.ensures.lookup.3 i),
)
