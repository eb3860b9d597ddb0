use Rattle.std.proofs.Common.{◌≡◌, ℕ, List, length, sym, subst, arith, heap_items}
use Rattle.runs.specs.Live.{events}
use Rattle.trace_file.specs.internal.Waiting.{IsQueue, SomeTelling, TellsAll}
use Rattle.trace_file.proofs.Taking.{Progress, Taken, progress-none, popped, some-telling, progress-told, progress-all, empty-list, runs-once, written-back}
use Rattle.trace_file.proofs.canonical.canonical_order.Goals as goal

pub loop-next-init : goal.loop-next-init
loop-next-init c =
    progress-none c.args.live.now.live c.new-order.result.items c.in_ok-left.left.items (heap_items c.in_ok-free.free) c.is_sound.ensures.rising
    c.new-order.ensures.items c.in_ok-left.ensures
    (subst (λ (left : List ℕ). IsQueue c.args.live.now.live c.args.live.now.live left (heap_items c.in_ok-free.free)) c.as_slice.ensures.value c.in_ok-free.ensures)

pub tell_followers-requires-clause-telling : goal.tell_followers-requires-clause-telling
tell_followers-requires-clause-telling c =
    let l = c.args.live.now.live in
    let order = c.in-Some.ensures.heap_order c.loop-next.invariant.ready.queue.heap in
    let taken : Taken l c.push.new.self.items c.in-Some.field-0.0.index c.loop-next.left.items (heap_items c.pop.new.self) =
    popped l c.loop-next.order.items c.push.new.self.items c.loop-next.left.items (heap_items c.loop-next.free) (heap_items c.pop.new.self) c.in-Some.field-0
    c.is_sound.ensures.rising (runs-once (events l) c.requires) c.loop-next.invariant c.in-Some.ensures.permutation order.0 order.1 c.in_ok-push.ensures.items in
    subst (λ (left : List ℕ). SomeTelling l c.in-Some.field-0.0.index left (heap_items c.pop.new.self)) (sym c.as_mut_slice.ensures.value)
    (some-telling l c.push.new.self.items c.in-Some.field-0.0.index c.loop-next.left.items (heap_items c.pop.new.self) taken)

pub loop-next-preserved : goal.loop-next-preserved
loop-next-preserved c =
    let l = c.args.live.now.live in
    let order = c.in-Some.ensures.heap_order c.loop-next.invariant.ready.queue.heap in
    let taken : Taken l c.push.new.self.items c.in-Some.field-0.0.index c.loop-next.left.items (heap_items c.pop.new.self) =
    popped l c.loop-next.order.items c.push.new.self.items c.loop-next.left.items (heap_items c.loop-next.free) (heap_items c.pop.new.self) c.in-Some.field-0
    c.is_sound.ensures.rising (runs-once (events l) c.requires) c.loop-next.invariant c.in-Some.ensures.permutation order.0 order.1 c.in_ok-push.ensures.items in
    let told : TellsAll l c.in-Some.field-0.0.index c.loop-next.left.items (heap_items c.pop.new.self) c.tell_followers.new.left (heap_items c.tell_followers.new.free) =
    subst (λ (left : List ℕ). TellsAll l c.in-Some.field-0.0.index left (heap_items c.pop.new.self) c.tell_followers.new.left (heap_items c.tell_followers.new.free))
    c.as_mut_slice.ensures.value c.in_ok-tell_followers.ensures in
    let next : Progress l c.push.new.self.items c.tell_followers.new.left (heap_items c.tell_followers.new.free) =
    progress-told l c.push.new.self.items c.in-Some.field-0.0.index c.loop-next.left.items c.tell_followers.new.left (heap_items c.pop.new.self)
    (heap_items c.tell_followers.new.free) taken told in
    let size : length c.tell_followers.new.left ≡ length l = next.ready.counts.size in
    let was : length c.loop-next.left.items ≡ length l = c.loop-next.invariant.ready.counts.size in
    let long = c.loop-next.left.ok.0 in
    subst (λ (left : List ℕ). Progress l c.push.new.self.items left (heap_items c.tell_followers.new.free))
    (sym (written-back c.loop-next.left.items c.tell_followers.new.left c.loop-next.left.len (omega (arith, size, was, long)))) next

pub returns : goal.returns
returns c =
    let long = c.loop-next.free.data.ok.0 in
    let none = c.in_default.ensures.none in
    progress-all c.args.live.now.live c.loop-next.order.items c.loop-next.left.items (heap_items c.loop-next.free) c.is_sound.ensures.rising c.loop-next.invariant
    (empty-list (heap_items c.loop-next.free) (omega (arith, long, none)))
