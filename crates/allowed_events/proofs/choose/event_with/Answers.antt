-- The event of the choice is the least of those in which the action at its place acts that opens its arm.
use Rattle.std.proofs.Common.{[], refl, Result, Ok, Err, OnErr}
use Rattle.std.proofs.lemmas.Result.{IfOk-weaker}
use Rattle.process_tree.specs.View.{tree_view}
use Rattle.process_tree.proofs.public.Formed.{left-formed}
use Rattle.local_actions.specs.View.{state_of}
use Rattle.allowed_events.proofs.LeastChosen.{least-chosen, none-chosen}
use Rattle.allowed_events.proofs.choose.event_with.Goals as goal

-- an error has told what holds anyhow
known : {T E P : Type 0} (r : Result T E) → P → OnErr r P
known (Ok x) p = tt
known (Err e) p = p

pub returns-in_default-clause-found : goal.returns-in_default-clause-found
returns-in_default-clause-found c = λ code table stems tidy.
    none-chosen (state_of c.args.tree.now c.args.store.now) c.args.choice.now c.in_ok-action.field-0 (left-formed (tree_view c.args.tree.now) []) (c.in_ok-action.ensures.found tidy) c.in_default.not-Some

pub returns-clause-found : goal.returns-clause-found
returns-clause-found c = λ code table stems tidy.
    IfOk-weaker c.least_acted.result _ _
    (λ least l. least-chosen (state_of c.args.tree.now c.args.store.now) c.args.choice.now c.in_ok-action.field-0 (left-formed (tree_view c.args.tree.now) []) (c.in_ok-action.ensures.found tidy) _ least
    refl c.in-Some.is l)
    (c.least_acted.ensures code table stems tidy)

pub returns-clause-offered : goal.returns-clause-offered
returns-clause-offered c = λ tidy.
    let there = (c.in_ok-action.ensures.found tidy c.in-Some.action).0 c.in-Some.is in
    known c.least_acted.result (c.in-Some.action, there.0, there.1)
