use Rattle.std.proofs.Common.{refl, sym, subst, Option, codes}
use Rattle.std.specs.Option.{option_map}
use Rattle.serde_json.specs.View.{view}
use Rattle.serde_json.specs.declared.value.Value.{Value}
use Rattle.dap_messages.specs.Written.{Holds}
use Rattle.dap_messages.proofs.Heading.{has_put, has_stays, keeps_put, keeps_same}
use Rattle.dap_messages.proofs.message.add_body.Goals as goal

pub returns-in-Some-clause-head : goal.returns-in-Some-clause-head
returns-in-Some-clause-head c =
    keeps_put c.args.members.now c.value.new.self (codes "body") (view c.in-Some.body) refl refl refl refl c.value.ensures

pub returns-in-Some-clause-success : goal.returns-in-Some-clause-success
returns-in-Some-clause-success c =
    λ d k. has_stays c.args.members.now c.value.new.self (codes "success") (codes "body") d (view c.in-Some.body) refl c.value.ensures k

pub returns-in-None-clause-head : goal.returns-in-None-clause-head
returns-in-None-clause-head c = keeps_same c.args.members.now

pub returns-in-None-clause-success : goal.returns-in-None-clause-success
returns-in-None-clause-success c = λ d k. k

pub returns-in-Some-clause-body : goal.returns-in-Some-clause-body
returns-in-Some-clause-body c = λ none.
    subst (λ (b : Option Value). Holds c.value.new.self (codes "body") (option_map view b)) (sym c.in-Some.is)
    (has_put c.args.members.now c.value.new.self (codes "body") (view c.in-Some.body) c.value.ensures)

pub returns-in-None-clause-body : goal.returns-in-None-clause-body
returns-in-None-clause-body c = λ none.
    subst (λ (b : Option Value). Holds c.args.members.now (codes "body") (option_map view b)) (sym c.in-None.is) none
