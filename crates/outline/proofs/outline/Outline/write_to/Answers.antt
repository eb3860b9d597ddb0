use Rattle.std.proofs.lemmas.Result.{on_ok_weaker}
use Rattle.outline.proofs.outline.Outline.write_to.Goals as goal

-- what is told beside it is nothing
pub returns : goal.returns
returns c = on_ok_weaker c.write_system.result (λ e. (c.nothing-nothing.result, c.nothing-nothing.ensures, e)) c.write_system.ensures
