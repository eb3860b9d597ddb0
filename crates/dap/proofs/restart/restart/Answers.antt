use Rattle.std.proofs.Common.{inl, inr, refl}
use Rattle.dap.proofs.Keeping.{goes_behind}
use Rattle.dap.proofs.restart.restart.Goals as goal

pub returns-in-Some : goal.returns-in-Some
returns-in-Some g c = elim c.replace.ensures [
  | inl anew ↦ inl (
    c.in-Some.ensures.0,
    c.in-Some.anew,
    c.in-Some.ensures.1,
    c.in-Some.ensures.2.0,
    goes_behind c.in-Some.ensures.2.0.found c.args.launched.now c.in-Some.anew c.replace.new.launched c.args.answer.now
        c.started_again.new.answer c.replace.new.answer c.in-Some.ensures.2.1 anew,
  )
  | inr same ↦ inr (same.0, inl same.1)
]

pub returns-in-None : goal.returns-in-None
returns-in-None g c = inr (refl, c.in-None.ensures)
