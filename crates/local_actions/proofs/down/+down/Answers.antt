-- Where a walk down along a place ends.
use Rattle.std.proofs.Common.{◌≡◌, ℕ, Option, ◌∙◌, ◌+◌, ◌*◌, min, length, map, false, true, refl, sym, ap, subst, rules, arith}
use Rattle.process_tree.specs.Code.{Code, Codes}
use Rattle.process_tree.specs.Proc.{Proc, idle, stopped, ended_at_once, skipped, drained, started}
use Rattle.process_tree.specs.Remaining.{with_value}
use Rattle.process_tree.specs.View.{code_view, proc_view, procs_of, repeat_view, decide_view, await_view}
use Rattle.process_tree.specs.internal.Parts.{turns_view, tested_view, gate_view}
use Rattle.process_tree.specs.internal.Received.{puts_guard}
use Rattle.system.specs.Expression.{Decision, Expression}
use Rattle.process_tree.specs.declared.proc.Gate.TheFolds.{the_lemmas}
use Rattle.process_tree.specs.declared.proc.Proc as made
use Rattle.process_tree.specs.declared.proc.Tested as made_tested
use Rattle.process_tree.specs.declared.proc.Turns as made_turns
use Rattle.process_tree.proofs.public.Forms.{fresh-is, untested-is, unopened-is, sender-seen, loop-seen, test-seen, arms-seen, sequence-seen, parallel-seen, turn-seen, took-seen, opened-seen}
use Rattle.local_actions.specs.internal.At.{Leads, LeadsOn, under}
use Rattle.local_actions.specs.declared.site.Site.TheVariants.{Nothing}
use Rattle.local_actions.specs.internal.Listed.{listed}
use Rattle.local_actions.proofs.public.Begun.{begun-row, row-at}
use Rattle.local_actions.proofs.public.Endings.{row-past-at, fresh-got, fresh-none}
use Rattle.local_actions.proofs.public.GoingDown.{turn-into, turn-open, turn-again, took-into, took-open, arm-into, arm-open, arm-close, sequence-into, sequence-nowhere, sequence-elsewhere, sequence-beside, parallel-into, parallel-nowhere, parallel-beside, procs-at, procs-end}
use Rattle.local_actions.proofs.public.Sites.{whole-here, proc-once-below, again_alone}
use Rattle.local_actions.proofs.down.+down.Goals as goal

idle-is : proc_view made.Idle ≡ idle
idle-is = search (rules, the_lemmas)

stopped-is : proc_view made.Stopped ≡ stopped
stopped-is = search (rules, the_lemmas)

drained-is : (c n : ℕ) → proc_view (made.Drained c n) ≡ drained c n
drained-is c n = search (rules, the_lemmas)

ended-is : (g : Option Expression) (c : Code) → turns_view made_turns.EndedAtOnce g c ≡ ended_at_once g c
ended-is g c = search (rules, the_lemmas)

skipped-is : (d : Decision) (cs : Codes) → tested_view made_tested.Skipped d cs ≡ skipped d cs
skipped-is d cs = search (rules, the_lemmas)

pub down-returns-then-is_empty : goal.down-returns-then-is_empty
down-returns-then-is_empty t c = λ env k.
    (env, k, λ s. whole-here c.args.place.now (listed s env (proc_view c.args.proc.now)).actions c.is_empty.result c.is_empty.ensures c.if-is_empty.true)

pub down-returns-in-Once : goal.down-returns-in-Once
down-returns-in-Once t c = λ env k. (env, k, λ s. proc-once-below c.args.place.now s env c.args.proc.now _ _ c.in-Once.is (first_of (omega arith, search rules)))

pub opened_down-returns-in-Some : goal.opened_down-returns-in-Some
opened_down-returns-in-Some t c = λ ds cs env k.
    let h = c.down.ensures (with_value c.args.channel c.args.value env) (c.receive.ensures env k) in (
      h.0,
      h.1,
      arm-into c.args.place.now c.in-Some.below.now env (with_value c.args.channel c.args.value env) h.0 c.down.result ds cs c.args.channel c.args.value (proc_view c.args.body.now) c.args.over
          c.if-over.false refl c.in-Some.ensures h.2,
    )

pub opened_down-returns-then-not-is_over : goal.opened_down-returns-then-not-is_over
opened_down-returns-then-not-is_over t c = λ ds cs env k.
    let is : c.is_over.result ≡ false = first_of (cc, search rules) in (
      env,
      k,
      arm-open c.args.place.now env ds cs c.args.channel c.args.value (proc_view c.args.body.now) c.args.over c.is_over.result c.requires c.if-over.false c.in_default.ensures c.is_over.ensures.walked
          is,
    )

pub parallel_down-returns-in_default : goal.parallel_down-returns-in_default
parallel_down-returns-in_default t c = λ env k. (env, k, parallel-beside (procs_of (map proc_view c.args.procs.now)) c.args.place.now env c.requires c.in_default.ensures)

pub parallel_down-returns-then-branch-procs : goal.parallel_down-returns-then-branch-procs
parallel_down-returns-then-branch-procs t c = λ env k. (
  env,
  k,
  parallel-nowhere (procs_of (map proc_view c.args.procs.now)) c.in-Some.number c.args.place.now c.in-Some.below.now env (procs-end c.args.procs.now c.in-Some.number (omega arith)) c.in-Some.ensures,
)

pub parallel_down-returns : goal.parallel_down-returns
parallel_down-returns t c = λ env k.
    let h = c.down.ensures env k in (
      h.0,
      h.1,
      parallel-into (procs_of (map proc_view c.args.procs.now)) c.in-Some.number (proc_view c.index-procs-branch.result) c.args.place.now c.in-Some.below.now env h.0 c.down.result
          (procs-at c.args.procs.now c.in-Some.number c.index-procs-branch.result (omega arith) c.index-procs-branch.is) c.in-Some.ensures h.2,
    )

pub sequence_down-returns-in_default : goal.sequence_down-returns-in_default
sequence_down-returns-in_default t c = λ env k. (env, k, sequence-beside (begun-row c.args.begun.now c.args.row.now) c.args.place.now env c.requires c.in_default.ensures)

pub sequence_down-returns-then-child-min : goal.sequence_down-returns-then-child-min
sequence_down-returns-then-child-min t c = λ env k.
    let is : c.is_reached.result ≡ true = first_of (cc, search rules) in
    let e : c.min.result ≡ min (length c.args.begun.now) (length c.args.row.now.codes) = first_of (omega arith, cc, search rules) in
    let h = c.down.ensures env k in (
      h.0,
      h.1,
      sequence-into (begun-row c.args.begun.now c.args.row.now) c.in-Some.number (proc_view c.index-begun-child.result) c.args.place.now c.in-Some.below.now env h.0 c.down.result (c.is_reached.ensures.reached is)
          (row-at c.args.begun.now c.args.row.now c.in-Some.number c.index-begun-child.result (omega (arith, e)) (omega (arith, e)) c.index-begun-child.is) c.in-Some.ensures h.2,
    )

pub sequence_down-returns-in-Some-get : goal.sequence_down-returns-in-Some-get
sequence_down-returns-in-Some-get t c = λ env k.
    let is : c.is_reached.result ≡ true = first_of (cc, search rules) in
    let e : c.min.result ≡ min (length c.args.begun.now) (length c.args.row.now.codes) = first_of (omega arith, cc, search rules) in (
      env,
      k,
      sequence-into (begun-row c.args.begun.now c.args.row.now) c.in-Some.number (started (code_view c.in-Some-get.code.now)) c.args.place.now c.in-Some.below.now env env c.fresh_down.result
          (c.is_reached.ensures.reached is)
          (row-past-at c.args.begun.now c.args.row.now c.in-Some.number (omega (arith, e)) ∙ fresh-got c.args.row.now.codes c.in-Some.number c.in-Some-get.code.now (sym c.in-Some-get.ensures.value))
          c.in-Some.ensures (c.fresh_down.ensures env),
    )

pub sequence_down-returns-in-None : goal.sequence_down-returns-in-None
sequence_down-returns-in-None t c = λ env k.
    let is : c.is_reached.result ≡ true = first_of (cc, search rules) in
    let e : c.min.result ≡ min (length c.args.begun.now) (length c.args.row.now.codes) = first_of (omega arith, cc, search rules) in (
      env,
      k,
      sequence-nowhere (begun-row c.args.begun.now c.args.row.now) c.in-Some.number c.args.place.now c.in-Some.below.now env (c.is_reached.ensures.reached is)
          (row-past-at c.args.begun.now c.args.row.now c.in-Some.number (omega (arith, e)) ∙ fresh-none c.args.row.now.codes c.in-Some.number (sym c.in-None.ensures.value)) c.in-Some.ensures,
    )

pub test_down-returns-in-Some : goal.test_down-returns-in-Some
test_down-returns-in-Some t c = λ env k.
    let d = (decide_view c.args.decide.now).0 in
    let cs = (decide_view c.args.decide.now).1 in
    let h = c.down.ensures env k in (
      h.0,
      h.1,
      took-into c.args.place.now c.in-Some.below.now env h.0 c.down.result (tested_view c.args.tested.now d cs) (proc_view c.deref.result.now)
          (λ s. ap (listed s env) (took-seen d cs c.args.tested.now _ c.in-Took.body c.deref.result.now c.in-Took.is c.deref.ensures)) c.in-Some.ensures h.2,
    )

pub test_down-returns-in-None : goal.test_down-returns-in-None
test_down-returns-in-None t c = λ env k.
    let d = (decide_view c.args.decide.now).0 in
    let cs = (decide_view c.args.decide.now).1 in (
      env,
      k,
      took-open c.args.place.now env (tested_view c.args.tested.now d cs) (proc_view c.in-Took.body.value)
          (λ s. ap (listed s env) (took-seen d cs c.args.tested.now _ c.in-Took.body c.in-Took.body.value c.in-Took.is refl)) c.requires c.in-None.ensures,
    )

pub turn_down-returns-in-Some : goal.turn_down-returns-in-Some
turn_down-returns-in-Some t c = λ env k.
    let h = c.down.ensures env k in (
      h.0,
      h.1,
      turn-into c.args.place.now c.in-Some.below.now (2 * c.args.turn + 1) c.args.turn env h.0 c.down.result (repeat_view c.args.repeat.now).0 (repeat_view c.args.repeat.now).1 (proc_view c.args.body.now)
          c.args.over c.if-over.false refl c.in-Some.ensures h.2,
    )

pub turn_down-returns-then-not-is_over : goal.turn_down-returns-then-not-is_over
turn_down-returns-then-not-is_over t c = λ env k.
    let is : c.is_over.result ≡ false = first_of (cc, search rules) in (
      env,
      k,
      turn-open c.args.place.now (2 * c.args.turn + 1) c.args.turn env (repeat_view c.args.repeat.now).0 (repeat_view c.args.repeat.now).1 (proc_view c.args.body.now) c.args.over c.is_over.result c.requires
          c.if-over.false refl c.in_default.ensures c.is_over.ensures.walked is,
    )

pub turn_down-returns-then-over : goal.turn_down-returns-then-over
turn_down-returns-then-over t c = λ env k. (env, k, λ s. search rules)

pub opened_down-returns-then-over : goal.opened_down-returns-then-over
opened_down-returns-then-over t c = λ ds cs env k. (env, k, λ s. search rules)

pub down-returns-in-Sender : goal.down-returns-in-Sender
down-returns-in-Sender t c = λ env k. (
  env,
  k,
  subst (λ (p : Proc). Leads p c.args.place.now env env c.phase_down.result) (sym (sender-seen c.args.proc.now _ c.get.result.now _ c.in-Sender.is c.get.ensures)) (c.phase_down.ensures env),
)

pub down-returns-in-Loop : goal.down-returns-in-Loop
down-returns-in-Loop t c =
    subst (λ (p : Proc). LeadsOn p c.args.place.now c.args.way.now c.loop_down.new.way c.loop_down.result)
    (sym (loop-seen c.args.proc.now _ c.get-in-Loop.result.now _ _ c.in-Loop.is c.get-in-Loop.ensures refl)) c.loop_down.ensures

pub down-returns-in-Test : goal.down-returns-in-Test
down-returns-in-Test t c =
    subst (λ (p : Proc). LeadsOn p c.args.place.now c.args.way.now c.test_down.new.way c.test_down.result)
    (sym (test-seen c.args.proc.now _ c.get-in-Test.result.now _ _ c.in-Test.is c.get-in-Test.ensures refl)) c.test_down.ensures

pub down-returns-in-Arms : goal.down-returns-in-Arms
down-returns-in-Arms t c =
    subst (λ (p : Proc). LeadsOn p c.args.place.now c.args.way.now c.arms_down.new.way c.arms_down.result)
    (sym (arms-seen c.args.proc.now _ c.get-in-Arms.result.now _ _ c.in-Arms.is c.get-in-Arms.ensures refl)) c.arms_down.ensures

pub down-returns-in-Sequence : goal.down-returns-in-Sequence
down-returns-in-Sequence t c =
    subst (λ (p : Proc). LeadsOn p c.args.place.now c.args.way.now c.sequence_down.new.way c.sequence_down.result)
    (sym (sequence-seen c.args.proc.now _ c.get-in-Sequence.result.now _ c.as_slice.result.now c.in-Sequence.is c.get-in-Sequence.ensures c.as_slice.ensures.value)) c.sequence_down.ensures

pub down-returns-in-Parallel : goal.down-returns-in-Parallel
down-returns-in-Parallel t c =
    subst (λ (p : Proc). LeadsOn p c.args.place.now c.args.way.now c.parallel_down.new.way c.parallel_down.result)
    (sym (parallel-seen c.args.proc.now _ c.as_slice-in-Parallel.result.now c.in-Parallel.is c.as_slice-in-Parallel.ensures.value)) c.parallel_down.ensures

pub loop_down-returns-in-Turn : goal.loop_down-returns-in-Turn
loop_down-returns-in-Turn t c =
    subst (λ (p : Proc). LeadsOn p c.args.place.now c.args.way.now c.turn_down.new.way c.turn_down.result)
    (sym (turn-seen (repeat_view c.args.repeat.now).0 (repeat_view c.args.repeat.now).1 c.args.turns.now _ _ c.in-Turn.body c.deref.result.now c.in-Turn.is c.deref.ensures)) c.turn_down.ensures

pub arms_down-returns-in-Opened : goal.arms_down-returns-in-Opened
arms_down-returns-in-Opened t c =
    let ds = (await_view c.args.waiting.now).0 in
    let cs = (await_view c.args.waiting.now).1 in
    subst (λ (p : Proc). LeadsOn p c.args.place.now c.args.way.now c.opened_down.new.way c.opened_down.result)
    (sym (opened-seen ds cs c.args.gate.now _ _ _ c.in-Opened.body c.deref.result.now c.in-Opened.is c.deref.ensures)) (c.opened_down.ensures ds cs)

pub opened_down-returns : goal.opened_down-returns
opened_down-returns t c = λ ds cs env k.
    let is : c.is_over.result ≡ true = first_of (cc, search rules) in (
      env,
      k,
      arm-close c.args.place.now env ds cs c.args.channel c.args.value c.act_down.result (proc_view c.args.body.now) c.args.over c.is_over.result c.if-over.false c.is_over.ensures.walked is c.act_down.ensures,
    )

pub sequence_down-returns-then-not-is_reached : goal.sequence_down-returns-then-not-is_reached
sequence_down-returns-then-not-is_reached t c = λ env k.
    let is : c.is_reached.result ≡ false = first_of (cc, search rules) in (
      env,
      k,
      sequence-elsewhere (begun-row c.args.begun.now c.args.row.now) c.in-Some.number c.args.place.now c.in-Some.below.now env (c.is_reached.ensures.elsewhere is) c.in-Some.ensures,
    )

pub turn_down-returns : goal.turn_down-returns
turn_down-returns t c = λ env k.
    let is : c.is_over.result ≡ true = first_of (cc, search rules) in (
      env,
      k,
      turn-again c.args.place.now (2 * (c.args.turn + 1)) c.args.turn env c.args.repeat c.behind_turn_down.result (proc_view c.args.body.now) c.args.over c.is_over.result c.if-over.false refl
          c.is_over.ensures.walked is c.behind_turn_down.ensures,
    )

pub down-returns-in-Idle : goal.down-returns-in-Idle
down-returns-in-Idle t c = λ env k. (env, k, subst (λ (p : Proc). Leads p c.args.place.now env env Nothing) (sym (ap proc_view c.in-Idle.is ∙ idle-is)) (λ s. refl))

pub down-returns-in-Stopped : goal.down-returns-in-Stopped
down-returns-in-Stopped t c = λ env k. (env, k, subst (λ (p : Proc). Leads p c.args.place.now env env Nothing) (sym (ap proc_view c.in-Stopped.is ∙ stopped-is)) (λ s. refl))

pub down-returns-in-Drained : goal.down-returns-in-Drained
down-returns-in-Drained t c = λ env k. (
  env,
  k,
  subst (λ (p : Proc). Leads p c.args.place.now env env c.act_down.result) (sym (ap proc_view c.in-Drained.is ∙ drained-is c.in-Drained.channel c.in-Drained.count)) (λ s. c.act_down.ensures s env),
)

pub loop_down-returns-in-Fresh : goal.loop_down-returns-in-Fresh
loop_down-returns-in-Fresh t c = λ env k.
    let g = (repeat_view c.args.repeat.now).0 in
    let b = (repeat_view c.args.repeat.now).1 in (
      env,
      k,
      subst (λ (p : Proc). Leads p c.args.place.now env env c.act_down.result) (sym (ap (λ u. turns_view u g b) c.in-Fresh.is ∙ fresh-is g b))
          (λ s. ap (under c.args.place.now) (again_alone s 0 (puts_guard env g)) ∙ c.act_down.ensures s env),
    )

pub loop_down-returns-in-EndedAtOnce : goal.loop_down-returns-in-EndedAtOnce
loop_down-returns-in-EndedAtOnce t c = λ env k.
    let g = (repeat_view c.args.repeat.now).0 in
    let b = (repeat_view c.args.repeat.now).1 in
    (env, k, subst (λ (p : Proc). Leads p c.args.place.now env env Nothing) (sym (ap (λ u. turns_view u g b) c.in-EndedAtOnce.is ∙ ended-is g b)) (λ s. refl))

pub arms_down-returns-in-Unopened : goal.arms_down-returns-in-Unopened
arms_down-returns-in-Unopened t c = λ env k.
    let ds = (await_view c.args.waiting.now).0 in
    let cs = (await_view c.args.waiting.now).1 in (
      env,
      k,
      subst (λ (p : Proc). Leads p c.args.place.now env env c.opens_down.result) (sym (ap (λ u. gate_view u ds cs) c.in-Unopened.is ∙ unopened-is ds cs)) (λ s. c.opens_down.ensures s env),
    )

pub test_down-returns-in-Untested : goal.test_down-returns-in-Untested
test_down-returns-in-Untested t c = λ env k.
    let d = (decide_view c.args.decide.now).0 in
    let cs = (decide_view c.args.decide.now).1 in (
      env,
      k,
      subst (λ (p : Proc). Leads p c.args.place.now env env c.act_down.result) (sym (ap (λ u. tested_view u d cs) c.in-Untested.is ∙ untested-is d cs)) (λ s. c.act_down.ensures s env),
    )

pub test_down-returns-in-Skipped : goal.test_down-returns-in-Skipped
test_down-returns-in-Skipped t c = λ env k.
    let d = (decide_view c.args.decide.now).0 in
    let cs = (decide_view c.args.decide.now).1 in
    (env, k, subst (λ (p : Proc). Leads p c.args.place.now env env Nothing) (sym (ap (λ u. tested_view u d cs) c.in-Skipped.is ∙ skipped-is d cs)) (λ s. refl))
