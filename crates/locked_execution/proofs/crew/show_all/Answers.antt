use Rattle.std.proofs.Common.{◌≡◌, ◌++◌, ◌∷◌, [], length, sym, ap, ◌∙◌, subst, append_assoc, append-nil, arith}
use Rattle.std.specs.Vec.Iter.{into_iter_items}
use Rattle.recorded_calls.specs.History.{calls_by}
use Rattle.locked_object.specs.Keepers.{history}
use Rattle.locked_object.specs.Passes.{number, seen_history, own}
use Rattle.locked_execution.specs.Working.{HasAllOf}
use Rattle.locked_execution.proofs.WorkLemmas.{none_left, fit_here, has_more}
use Rattle.locked_execution.proofs.crew.show_all.Goals as goal

pub show-requires-clause-keeper : goal.show-requires-clause-keeper
show-requires-clause-keeper c = c.loop-pass.invariant.keeper

pub show-requires-clause-pass : goal.show-requires-clause-pass
show-requires-clause-pass c =
    let at = c.loop-pass in
    let steps : into_iter_items at.pass-iterator ≡ c.in-Some.pass ∷ into_iter_items c.next.new.self = c.in-Some.ensures.steps.0 in
    fit_here _ _ at.yielded (into_iter_items c.next.new.self) c.args.passes.items c.in-Some.pass (ap (λ l. at.yielded ++ l) (sym steps) ∙ at.invariant.rest) c.requires.passes

pub loop-pass-preserved : goal.loop-pass-preserved
loop-pass-preserved c =
    let at = c.loop-pass in
    let steps : into_iter_items at.pass-iterator ≡ c.in-Some.pass ∷ into_iter_items c.next.new.self = c.in-Some.ensures.steps.0 in
    let shown = c.show.ensures in
    let p = c.in-Some.pass in
    let q = c.show.new.pass in
    let of_q : calls_by (number q) (seen_history q) ≡ own q = subst (λ n. calls_by n (seen_history q) ≡ own q) (sym q.numbered) shown.pass.0.own_calls in
    let of_p : calls_by (number p) (seen_history q) ≡ own p = subst (λ n. calls_by n (seen_history q) ≡ own p) shown.pass.1 (of_q ∙ shown.pass.2) in
    let here : calls_by (number p) (history at.keeper) ≡ own p = subst (λ log. calls_by (number p) log ≡ own p) shown.seen of_p in
    record {
      rest = append_assoc at.yielded (c.in-Some.pass ∷ []) _ ∙ rw (← steps) at.invariant.rest;
      left = (let was = at.invariant.left in let gone = c.in-Some.ensures.steps.1 in let short = ap length steps in omega arith);
      keeper = shown.keeper;
      count = shown.passes ∙ at.invariant.count;
      all = subst (λ log. HasAllOf log (at.yielded ++ c.in-Some.pass ∷ [])) (sym shown.same.1) (has_more (history at.keeper) at.yielded c.in-Some.pass at.invariant.all here);
    }

pub returns : goal.returns
returns c =
    let at = c.loop-pass in
    let gone : into_iter_items at.pass-iterator ≡ [] = none_left (into_iter_items at.pass-iterator) (sym at.invariant.left ∙ c.in-None.ensures.steps.0) in
    let done : at.yielded ≡ c.args.passes.items = sym (append-nil at.yielded) ∙ ap (λ l. at.yielded ++ l) (sym gone) ∙ at.invariant.rest in
    record {
      keeper = at.invariant.keeper;
      count = at.invariant.count;
      all = subst (HasAllOf (history at.keeper)) done at.invariant.all;
    }
