use Rattle.std.proofs.Common.{refl, ◌∙◌, heap_items}
use Rattle.trace_file.proofs.Queues.{joins}
use Rattle.trace_file.proofs.queue.add_free.Goals as goal

pub returns : goal.returns
returns c =
    joins c.args.live.now.live c.args.index c.event_at.ensures.0 c.event_at.result.now _ (heap_items c.args.free.now) (heap_items c.push.new.self)
    c.event_at.ensures.1 refl (c.entries-acting.ensures ∙ c.acting_place.ensures) c.in_ok-push.ensures.permutation c.in_ok-push.ensures.heap_order
