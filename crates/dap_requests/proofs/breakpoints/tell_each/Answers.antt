use Rattle.std.proofs.Common.{◌≡◌, ◌∙◌, ◌∷◌, [], List, Some, length, append_assoc, ap, arith, subst, sym}
use Rattle.std.specs.Vec.Iter.{into_iter_items}
use Rattle.serde_json.specs.Data.{object}
use Rattle.serde_json.specs.View.{members_view}
use Rattle.serde_json.specs.declared.value.Value.{Value}
use Rattle.dap_messages.specs.declared.told.Told.{Told}
use Rattle.dap_requests.specs.Said.{Tells}
use Rattle.dap_requests.specs.Sets.{changes_of}
use Rattle.dap_requests.proofs.Moving.{all_yielded, tells_more}
use Rattle.dap_requests.proofs.breakpoints.tell_each.Goals as goal

pub loop-one-preserved : goal.loop-one-preserved
loop-one-preserved c =
    let at = c.loop-one in
    let steps : into_iter_items at.one-iterator ≡ c.in-Some.one ∷ into_iter_items c.next.new.self = c.in-Some.ensures.steps.0 in
    record {
      rest = append_assoc at.yielded (c.in-Some.one ∷ []) _ ∙ rw (← steps) at.invariant.rest;
      left = (let was = at.invariant.left in let gone = c.in-Some.ensures.steps.1 in let short = ap length steps in omega arith);
      told = tells_more Told.Breakpoint at.yielded c.in-Some.one c.args.answer.now at.answer c.note.new.self (Some (object (members_view c.value.new.self.made.entries))) at.invariant.told c.note.ensures.adds;
      same = ((c.note.ensures.adds).outcome ∙ at.invariant.same.0, (c.note.ensures.adds).effect ∙ at.invariant.same.1);
    }

pub returns-clause-tells : goal.returns-clause-tells
returns-clause-tells c =
    let at = c.loop-one in
    subst (λ (xs : List Value). Tells c.args.answer.now (changes_of xs) at.answer)
    (all_yielded at.yielded (into_iter_items at.one-iterator) c.args.shown.items at.invariant.rest (sym c.in-None.ensures.steps.0 ∙ at.invariant.left)) at.invariant.told
