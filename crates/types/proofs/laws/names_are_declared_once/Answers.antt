-- Each name that is used has one declaration, before it.
use Rattle.types.proofs.DeclaredBefore.{names_before_use}
use Rattle.types.proofs.TypingLaws.{names_once}
use Rattle.types.proofs.laws.names_are_declared_once.Goals as goal

pub returns : goal.returns
returns c = record { once = names_once; before = names_before_use }
