use Rattle.std.proofs.Common.{◌≡◌, ◌++◌, ◌∷◌, [], length, sym, ap, ◌∙◌, append_assoc, arith}
use Rattle.std.specs.Vec.Iter.{into_iter_items}
use Rattle.object_workers.proofs.Gathering.{counted_more, counts_within}
use Rattle.object_workers.proofs.threads.counted.Goals as goal

pub overflow_add-stepped : goal.overflow_add-stepped
overflow_add-stepped g c =
    let at = c.loop-worker in
    let steps : into_iter_items at.worker-iterator ≡ c.in-Some.worker ∷ into_iter_items c.next.new.self = c.in-Some.ensures.steps.0 in
    let within = counts_within (λ w. w.stepped) at.yielded (into_iter_items c.next.new.self) c.args.workers.items c.in-Some.worker (ap (λ l. at.yielded ++ l) (sym steps) ∙ at.invariant.rest) in
    let is = at.invariant.counted.1 in
    let few = c.requires.few.0 in
    omega arith

pub overflow_add-lost : goal.overflow_add-lost
overflow_add-lost g c =
    let at = c.loop-worker in
    let steps : into_iter_items at.worker-iterator ≡ c.in-Some.worker ∷ into_iter_items c.next.new.self = c.in-Some.ensures.steps.0 in
    let within = counts_within (λ w. w.lost) at.yielded (into_iter_items c.next.new.self) c.args.workers.items c.in-Some.worker (ap (λ l. at.yielded ++ l) (sym steps) ∙ at.invariant.rest) in
    let is = at.invariant.counted.2 in
    let few = c.requires.few.1 in
    omega arith

pub loop-worker-preserved : goal.loop-worker-preserved
loop-worker-preserved g c =
    let at = c.loop-worker in
    let steps : into_iter_items at.worker-iterator ≡ c.in-Some.worker ∷ into_iter_items c.next.new.self = c.in-Some.ensures.steps.0 in
    record {
      rest = append_assoc at.yielded (c.in-Some.worker ∷ []) _ ∙ rw (← steps) at.invariant.rest;
      left = (let was = at.invariant.left in let gone = c.in-Some.ensures.steps.1 in let short = ap length steps in omega arith);
      room = c.push_reserved.ensures.capacity ∙ at.invariant.room;
      counted = counted_more at.yielded at.done.items _ c.in-Some.worker at.stepped at.lost at.invariant.counted c.push_reserved.ensures.items;
    }
