use Rattle.std.proofs.Common.{◌≡◌, ◌∙◌, ◌∷◌, [], List, Some, length, option_map, append_assoc, ap, arith, subst, sym}
use Rattle.std.specs.Vec.Iter.{into_iter_items}
use Rattle.serde_json.specs.View.{view}
use Rattle.serde_json.specs.declared.value.Value.{Value}
use Rattle.dap_messages.specs.declared.told.Told.{Told}
use Rattle.dap_requests.specs.Said.{Tells}
use Rattle.dap_requests.specs.Sets.{texts_of}
use Rattle.dap_requests.proofs.Moving.{all_yielded, tells_more}
use Rattle.dap_requests.proofs.breakpoints.tell_texts.Goals as goal

pub loop-body-preserved : goal.loop-body-preserved
loop-body-preserved c =
    let at = c.loop-body in
    let steps : into_iter_items at.body-iterator ≡ c.in-Some.body ∷ into_iter_items c.next.new.self = c.in-Some.ensures.steps.0 in
    record {
      rest = append_assoc at.yielded (c.in-Some.body ∷ []) _ ∙ rw (← steps) at.invariant.rest;
      left = (let was = at.invariant.left in let gone = c.in-Some.ensures.steps.1 in let short = ap length steps in omega arith);
      told = tells_more Told.Output at.yielded c.in-Some.body c.args.answer.now at.answer c.add.new.self (option_map view (Some c.in-Some.body)) at.invariant.told c.add.ensures;
      same = ((c.add.ensures).outcome ∙ at.invariant.same.0, (c.add.ensures).effect ∙ at.invariant.same.1);
    }

pub returns-clause-tells : goal.returns-clause-tells
returns-clause-tells c =
    let at = c.loop-body in
    subst (λ (xs : List Value). Tells c.args.answer.now (texts_of xs) at.answer)
    (all_yielded at.yielded (into_iter_items at.body-iterator) c.args.texts.items at.invariant.rest (sym c.in-None.ensures.steps.0 ∙ at.invariant.left)) at.invariant.told
