use Rattle.std.proofs.Common.{◌≡◌, ◌+◌, ◌<◌, ℕ, [], length, take, get_or, Some, sym, ap, ◌∙◌, subst, arith, heap_items}
use Rattle.std.specs.Prelude.{slice_get}
use Rattle.std.proofs.lemmas.Option.{slice_get-get_or}
use Rattle.trace_file.specs.internal.Waiting.{IsQueue}
use Rattle.trace_file.proofs.Queues.{queue-none, first-joined, first-kept}
use Rattle.trace_file.proofs.queue.first_free.Goals as goal
use Rattle.trace_file.proofs.queue.first_free.Goals.{then-left-index-eq0+in_ok-add_free, else-left-index-eq0}

pub loop-index-init : goal.loop-index-init
loop-index-init c =
    queue-none c.args.live.now.live [] c.args.left.now (heap_items c.new-free.result) c.new-free.ensures.items c.new-free.ensures.heap_order (λ i free. free.0.3)

pub loop-index-preserved : goal.loop-index-preserved
loop-index-preserved c =
    let l = c.args.live.now.live in
    let left = c.args.left.now in
    let k = c.loop-index.index in
    let size : length left ≡ length l = c.requires.size in
    let less : k < length left = c.loop-index-test.true in
    let held : slice_get left k ≡ Some (get_or left k 0) = slice_get-get_or left k 0 less in
    elim c.if-left-index-eq0.branch [
      | then-left-index-eq0+in_ok-add_free w ↦
          subst (λ h. IsQueue l (take (k + 1) l) left (heap_items h)) (sym w.free-is)
          (first-joined l left k (heap_items c.loop-index.free) (heap_items w.add_free.new.free) c.requires.rising (omega (arith, size, less))
          (held ∙ ap (λ (n : ℕ). Some n) w.if-left-index-eq0.true) c.loop-index.invariant w.in_ok-add_free.ensures)
      | else-left-index-eq0 w ↦
          subst (λ h. IsQueue l (take (k + 1) l) left (heap_items h)) (sym w.free-is)
          (first-kept l left k (get_or left k 0) (heap_items c.loop-index.free) c.requires.rising held w.if-left-index-eq0.false c.loop-index.invariant)
    ]
