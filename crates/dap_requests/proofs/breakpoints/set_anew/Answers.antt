use Rattle.std.proofs.Common.{ℕ, List, Some, ◌∙◌, ap, inl, inr, refl, sym}
use Rattle.serde_json.specs.View.{view}
use Rattle.dap_messages.specs.Notes.{IsRefusal}
use Rattle.dap_requests.proofs.Moving.{tells_set, tells_unset}
use Rattle.dap_requests.proofs.breakpoints.set_anew.Goals as goal

pub returns-in-Some-clause-sets : goal.returns-in-Some-clause-sets
returns-in-Some-clause-sets c = elim c.set_on.ensures.sets [
  | inl anew ↦ inr (c.as_slice.result.now, c.in-Some.ensures.lines ∙ ap (λ (xs : List ℕ). Some xs) (sym c.as_slice.ensures.value), anew.0, anew.1)
  | inr none ↦ inl (none.0, inr none.1)
]

pub returns-in-Some-clause-tells : goal.returns-in-Some-clause-tells
returns-in-Some-clause-tells c =
    tells_set (view c.args.request.now.arguments) c.args.answer.now c.lines_in.new.answer c.set_on.new.answer c.set_on.new.program
    c.in-Some.lines.items c.in-Some.ensures.lines c.in-Some.ensures.answer c.set_on.ensures.tells

pub returns-in-None-clause-sets : goal.returns-in-None-clause-sets
returns-in-None-clause-sets c = inl (refl, c.in-None.ensures.lines)

pub returns-in-None-clause-tells : goal.returns-in-None-clause-tells
returns-in-None-clause-tells c =
    tells_unset (view c.args.request.now.arguments) (IsRefusal c.lines_in.new.answer.outcome) c.args.answer.now c.lines_in.new.answer c.args.program.now
    c.in-None.ensures.lines c.in-None.ensures.answer
