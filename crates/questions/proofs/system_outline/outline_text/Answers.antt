use Rattle.std.proofs.Common.{rules}
use Rattle.questions.proofs.system_outline.outline_text.Goals as goal

pub returns : goal.returns
returns c = (c.in_ok-outline.outline, c.in_ok-described.described, c.in_ok-outline.ensures, c.in_ok-described.ensures, search rules)
