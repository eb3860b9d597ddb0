use Rattle.std.proofs.Common.{◌≡◌, ◌∙◌, None, Some, false, inl, inr, sym, true}
use Rattle.dap_requests.proofs.Choosing.{targets_seen}
use Rattle.dap_requests.proofs.choices.targets_in.Goals as goal

pub returns-in-Some-sight : goal.returns-in-Some-sight
returns-in-Some-sight c = λ full. (
  Some c.in-Some.found,
  c.in-Some.ensures.found,
  targets_seen c.args.machine.now c.args.program.now.sight c.in-Some-sight.sight c.in-Some.found c.give_steps.new.answer c.in-Some-sight.is
      (c.give_steps.ensures full),
)

pub returns-in-None : goal.returns-in-None
returns-in-None c = λ full. elim c.in-None.ensures.found [
  | inl none ↦ let no : true ≡ false = sym none ∙ full in absurd (cc)
  | inr refused ↦ (None, refused.1, refused.0)
]
