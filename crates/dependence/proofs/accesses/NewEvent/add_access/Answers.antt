use Rattle.std.proofs.Common.{◌≡◌, ℕ, List, sym, subst}
use Rattle.std.proofs.lemmas.Result.{IfOk-weaker}
use Rattle.syntax.specs.Lists.{In}
use Rattle.dependence.proofs.Candidacy.{found-one, found-there, leads-itself}
use Rattle.dependence.proofs.accesses.NewEvent.add_access.Goals as goal

pub returns-then-is_found : goal.returns-then-is_found
returns-then-is_found c =
    found-there c.args.self.now.list.now.live c.args.self.now.event.now (λ t. t ≡ c.args.ticket) c.args.found.now.items
    (λ t e i is. subst (λ (v : ℕ). In v c.args.found.now.items) (sym is) (subst (λ (k : List ℕ). In c.args.ticket k) c.as_slice.ensures.value (c.is_found.ensures c.if-is_found.true)))

pub returns : goal.returns
returns c =
    let new = c.args.self.now in
    IfOk-weaker c.add_if.result _ _ (λ _ found.
    found-one new.list.now.live new.event.now c.args.ticket c.is_before-by_place.result c.args.found.now.items c.add_if.new.found.items
    (λ on. leads-itself new.list.now.live new.event.now c.args.ticket (c.is_before-by_place.ensures.0 on)) c.requires.direct found) c.add_if.ensures
