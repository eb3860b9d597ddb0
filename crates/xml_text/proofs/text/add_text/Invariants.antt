use Rattle.std.proofs.Common.{◌≡◌, ◌++◌, length}
use Rattle.xml_text.specs.Text.{escaped}
use Rattle.xml_text.proofs.text.add_text.Given as goal

abbrev pub invariant-characters : goal.invariant-characters
invariant-characters l = l.out.items ++ escaped l.characters ≡ l.initial.out.items ++ escaped l.initial.characters

abbrev pub decreases-characters : goal.decreases-characters
decreases-characters l = length l.characters
