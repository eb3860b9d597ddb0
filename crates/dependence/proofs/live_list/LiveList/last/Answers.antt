use Rattle.std.proofs.Common.{◌≡◌, ◌∙◌, ◌-◌, ℕ, suc, Option, Some, length, sym, ap, subst, arith}
use Rattle.std.specs.Prelude.{slice_get}
use Rattle.std.proofs.lemmas.Option.{slice_get_within}
use Rattle.runs.specs.declared.event.Event.{Event}
use Rattle.dependence.specs.declared.kept.Kept.{Kept}
use Rattle.dependence.specs.internal.Listed.{Listed}
use Rattle.dependence.proofs.ListedLaws.{last-kept}
use Rattle.dependence.proofs.live_list.LiveList.last.Goals as goal

pub returns-in-Some-default-Some : goal.returns-in-Some-default-Some
returns-in-Some-default-Some c =
    let w = c.in-Some-default-Some in
    let es = c.self.inside.slots.entries in
    let at = sym w.ensures.entry ∙ ap (λ (o : Option Kept). Some (w.ticket.now, o)) w.field-0-1-is in
    let less = slice_get_within es (length es - 1) (w.ticket.now, Some w.kept) at in
    let last : suc (length es - 1) ≡ length es = omega arith in
    subst (λ (s : Listed). slice_get s.live (length s.live - 1) ≡ Some (w.ticket.now, c.get.result.now)) c.self.view_is
    (last-kept es (length es - 1) w.ticket.now w.kept last at ∙ ap (λ (e : Event). Some (w.ticket.now, e)) (sym c.get.ensures))
