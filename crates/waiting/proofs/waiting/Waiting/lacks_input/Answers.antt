use Rattle.std.proofs.Common.{◌≡◌, Bool, true, sym, subst}
use Rattle.std.specs.Prelude.{◌↔◌}
use Rattle.waiting.specs.Lacking.{LacksInput}
use Rattle.waiting.proofs.LackLaws.{lacks-told}
use Rattle.waiting.proofs.waiting.Waiting.lacks_input.Goals as goal

pub returns-clause-meant : goal.returns-clause-meant
returns-clause-meant c = λ S told.
    subst (λ (b : Bool). (b ≡ true) ↔ LacksInput c.args.machine.now S) (sym c.passes_tests.ensures) (lacks-told c.args.machine.now S c.args.self.now told)
