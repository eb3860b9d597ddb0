use Rattle.std.proofs.Common.{◌≡◌, List, true, false, inl, inr, refl, sym, ◌∙◌, subst}
use Rattle.syntax.specs.Lists.{In}
use Rattle.runs.specs.Choices.{choice_of}
use Rattle.runs.specs.declared.event.Choice.{Choice}
use Rattle.machine.specs.AtMachine.{AtMachine}
use Rattle.dap_moves.specs.Passing.{PassesBy, StopsAt}
use Rattle.dap_moves.proofs.Running.{stands_here}
use Rattle.dap_moves.proofs.run.step_or_stop.Goals as goal

pub returns-then-is_seen-clause-takes : goal.returns-then-is_seen-clause-takes
returns-then-is_seen-clause-takes c = λ turn next.
    c.step_past.ensures.takes turn c.args.seen.now.items (c.args.event.now, next, refl, inr (subst (λ (xs : List Choice). In (choice_of c.args.event.now) xs) c.as_slice.ensures.value (c.is_seen.ensures.0 c.if-is_seen.true)))

pub returns-in-Some-clause-takes : goal.returns-in-Some-clause-takes
returns-in-Some-clause-takes c = λ turn next.
    stands_here c.args.plan.now turn c.args.seen.now.items c.args.desk.now c.args.branch c.in-Some.at c.in-Some.line c.args.event.now
    c.stand.result c.stand.new.seen.items next
    (subst (λ (m : AtMachine). StopsAt m c.args.plan.now.lines.now c.args.event.now c.in-Some.at c.in-Some.line) c.machine.ensures
    c.in-Some.ensures)
    (λ there. let bad : true ≡ false = sym (c.is_seen.ensures.1 (subst (λ (xs : List Choice). In (choice_of c.args.event.now) xs) (sym c.as_slice.ensures.value) there)) ∙ c.if-is_seen.false in absurd (cc)) c.stand.ensures

pub returns-in-None-clause-takes : goal.returns-in-None-clause-takes
returns-in-None-clause-takes c = λ turn next.
    c.step_past-in-None.ensures.takes turn c.args.seen.now.items (
      c.args.event.now,
      next,
      refl,
      inl (subst (λ (m : AtMachine). PassesBy m c.args.plan.now.lines.now c.args.event.now) c.machine.ensures c.in-None.ensures),
    )
