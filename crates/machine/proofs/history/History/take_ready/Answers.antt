use Rattle.std.proofs.Common.{◌≡◌, ◌∙◌, inl, inr, ap, refl, sym, subst, List, length, Some}
use Rattle.std.specs.Prelude.{slice_get}
use Rattle.runs.specs.Choices.{choice_of}
use Rattle.runs.specs.Ready.{Chosen}
use Rattle.runs.specs.declared.event.Event.{Event}
use Rattle.event_inverse.specs.Grown.{state_of_tree}
use Rattle.machine.specs.AtMachine.{at_machine}
use Rattle.machine.specs.internal.Histories.{tree_of}
use Rattle.machine.proofs.public.Entries.{got-at}
use Rattle.machine.proofs.public.Branches.{at_machine-same, chosen-there, take-done, take-refused}
use Rattle.machine.proofs.Stepped.{limit-taken}
use Rattle.machine.proofs.history.History.take_ready.Goals as goal

pub add-requires-clause-allowed : goal.add-requires-clause-allowed
add-requires-clause-allowed c =
    let T = state_of_tree (tree_of c.args.self.now) in
    let at = c.requires.chosen in
    let is : c.swap_remove.result ≡ at.0 =
    c.swap_remove.ensures.value ∙ got-at _ c.args.index at.0 c.swap_remove.result (ap (λ (k : List Event). slice_get k c.args.index) c.into_vec-events.ensures ∙ at.1) in
    (subst (λ (e : Event). Chosen T (choice_of e) e) (sym is) at.2).allowed

pub returns-in-Some-clause-done : goal.returns-in-Some-clause-done
returns-in-Some-clause-done c = λ e at.
    let h = at_machine c.args.system.now c.args.self.now in
    let T = state_of_tree (tree_of c.args.self.now) in
    inl (
      take-refused h T e e c.in-Some.why c.requires.holds.run.runs (chosen-there T c.args.events c.args.index e c.requires.chosen at) refl
          (limit-taken (Some e) e (length h.live) h.next c.in-Some.why refl c.in-Some.ensures),
      refl,
    )

pub returns-in-Ok-clause-done : goal.returns-in-Ok-clause-done
returns-in-Ok-clause-done c = λ e at.
    let h = at_machine c.args.system.now c.args.self.now in
    let T = state_of_tree (tree_of c.args.self.now) in
    let room = c.in_default.ensures in
    inl
    (take-done h (at_machine c.args.system.now c.add.new.self) T e c.swap_remove.result c.swap_remove.result (c.in-Ok.ticket, c.in-Ok.event)
    c.requires.holds.run.runs (chosen-there T c.args.events c.args.index e c.requires.chosen at)
    (c.swap_remove.ensures.value ∙ got-at _ c.args.index e c.swap_remove.result (ap (λ (k : List Event). slice_get k c.args.index) c.into_vec-events.ensures ∙ at))
    refl room.0 room.1 c.in-Ok.ensures.done c.in-Ok.ensures.added)

pub returns-clause-done : goal.returns-clause-done
returns-clause-done c = λ e at.
    let room = c.in_default.ensures in
    inr (refl, room.0, room.1, at_machine-same c.args.system.now c.args.self.now c.add.new.self c.in-Err.ensures.unchanged c.add.ensures.marked)
