use Rattle.std.proofs.Common.{◌≡◌, ◌∷◌, [], length, refl, ap, ◌∙◌, append_assoc, length-append, arith}
use Rattle.std.specs.Vec.Iter.{into_iter_items}
use Rattle.object_workers.proofs.Gathering.{ready_more, ready_length}
use Rattle.object_workers.proofs.Numbers.{comes_one}
use Rattle.object_workers.proofs.threads.make_ready.Goals as goal

pub another-requires-clause-rule : goal.another-requires-clause-rule
another-requires-clause-rule g c = comes_one _ _ _

pub push_reserved-requires : goal.push_reserved-requires
push_reserved-requires g c =
    let at = c.loop-pass in
    let steps : into_iter_items at.pass-iterator ≡ c.in-Some.pass ∷ into_iter_items c.next.new.self = c.in-Some.ensures.steps.0 in
    let all = ap length at.invariant.rest in
    let parts = length-append at.yielded (into_iter_items at.pass-iterator) in
    let one = ap length steps in
    let same = ready_length _ 0 _ _ at.invariant.ready in
    let room = at.invariant.room in
    let enough = c.requires.room.1 in
    omega arith

pub loop-pass-preserved : goal.loop-pass-preserved
loop-pass-preserved g c =
    let at = c.loop-pass in
    let steps : into_iter_items at.pass-iterator ≡ c.in-Some.pass ∷ into_iter_items c.next.new.self = c.in-Some.ensures.steps.0 in
    record {
      fits = (c.another.ensures.queue.0.0 ∙ at.invariant.fits.0, c.another.ensures.queue.0.2 ∙ at.invariant.fits.1);
      rest = append_assoc at.yielded (c.in-Some.pass ∷ []) _ ∙ rw (← steps) at.invariant.rest;
      left = (let was = at.invariant.left in let gone = c.in-Some.ensures.steps.1 in let short = ap length steps in omega arith);
      room = c.push_reserved.ensures.capacity ∙ at.invariant.room;
      empty = c.another.ensures.rule.0 ∙ at.invariant.empty;
      number = (let was = at.invariant.number in let more = length-append at.yielded (c.in-Some.pass ∷ []) in omega arith);
      ready = ready_more _ 0 at.yielded at.workers.items _ c.in-Some.pass _ at.invariant.ready c.push_reserved.ensures.items (refl, refl, refl, c.another.ensures.queue.1.0, c.another.ensures.queue.1.1, c.another.ensures.rule.1, (let is = at.invariant.number in omega arith));
    }

pub overflow_add-number : goal.overflow_add-number
overflow_add-number g c =
    let at = c.loop-pass in
    let all = ap length at.invariant.rest in
    let parts = length-append at.yielded (into_iter_items at.pass-iterator) in
    let is = at.invariant.number in
    let few = c.requires.few in
    omega arith
