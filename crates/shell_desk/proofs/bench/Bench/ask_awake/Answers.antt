use Rattle.std.proofs.Common.{◌≡◌, ◌<◌, List, ℕ, arith, sym, ap, ◌∙◌, subst, Some, None}
use Rattle.shell_desk.specs.declared.sleepers.Sleepers.{Sleepers}
use Rattle.shell_desk.specs.internal.Sleeping.{AllSleep, AsksBetween, SleepsBehind}
use Rattle.shell_desk.proofs.AwakeLemmas.{between-ends, between-goes-on, between-none}
use Rattle.shell_desk.proofs.bench.Bench.ask_awake.Goals as goal

pub loop-next-init : goal.loop-next-init
loop-next-init g c = (c.requires, λ told b' asleep' h. h)

pub loop-next-preserved : goal.loop-next-preserved
loop-next-preserved g c =
    let kept : c.first_awake.new.self.asleep ≡ c.loop-next.sleepers.asleep =
    ap (λ (s : Sleepers). s.asleep) c.in-Some.ensures.same in
    let next = c.in-Some.ensures.next in
    let less : c.in-Some.next < c.args.to = next.1 in
    let m = c.ask_noted-reply.new.self in
    let behind = c.ask_noted-reply.new.sleepers.asleep in (
      omega arith,
      λ told b' asleep' h.
          c.loop-next.invariant.1 told b' asleep'
          (between-goes-on c.args.ends.now c.loop-next.branch c.in-Some.next c.args.to c.loop-next.self m b'
          c.loop-next.sleepers.asleep behind asleep' c.ask_noted-reply.result told next.0 next.1
          (subst (λ (xs : List ℕ). AllSleep xs c.loop-next.branch c.in-Some.next) kept next.2) c.ask_noted-reply.ensures.asked
          (subst (λ (xs : List ℕ). SleepsBehind c.args.ends.now m.desk.machine c.in-Some.next c.ask_noted-reply.result xs behind) kept
          c.ask_noted-reply.ensures.sleep)
          (sym c.is_busy.ensures ∙ c.if-is_busy.false) h),
    )

pub returns-then-is_busy : goal.returns-then-is_busy
returns-then-is_busy g c =
    let kept : c.first_awake.new.self.asleep ≡ c.loop-next.sleepers.asleep =
    ap (λ (s : Sleepers). s.asleep) c.in-Some.ensures.same in
    let next = c.in-Some.ensures.next in
    let m = c.ask_noted-reply.new.self in
    let behind = c.ask_noted-reply.new.sleepers.asleep in
    c.loop-next.invariant.1 (Some c.ask_noted-reply.result) m behind
    (between-ends c.args.ends.now c.loop-next.branch c.in-Some.next c.args.to c.loop-next.self m c.loop-next.sleepers.asleep behind
    c.ask_noted-reply.result next.0 next.1
    (subst (λ (xs : List ℕ). AllSleep xs c.loop-next.branch c.in-Some.next) kept next.2) c.ask_noted-reply.ensures.asked
    (subst (λ (xs : List ℕ). SleepsBehind c.args.ends.now m.desk.machine c.in-Some.next c.ask_noted-reply.result xs behind) kept
    c.ask_noted-reply.ensures.sleep)
    (sym c.is_busy.ensures ∙ c.if-is_busy.true))

pub returns : goal.returns
returns g c =
    let kept : c.first_awake.new.self.asleep ≡ c.loop-next.sleepers.asleep =
    ap (λ (s : Sleepers). s.asleep) c.in_default.ensures.same in
    c.loop-next.invariant.1 None c.loop-next.self c.first_awake.new.self.asleep
    (subst (λ (xs : List ℕ).
    AsksBetween c.args.ends.now c.loop-next.branch c.args.to c.loop-next.self c.loop-next.sleepers.asleep None c.loop-next.self xs)
    (sym kept)
    (between-none c.args.ends.now c.loop-next.branch c.args.to c.loop-next.self c.loop-next.sleepers.asleep c.loop-next.invariant.0
    (subst (λ (xs : List ℕ). AllSleep xs c.loop-next.branch c.args.to) kept c.in_default.ensures.next)))
