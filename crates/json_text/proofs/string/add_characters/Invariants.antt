use Rattle.std.proofs.Common.{◌≡◌, ◌++◌, length}
use Rattle.json_text.specs.Strings.{escaped}
use Rattle.json_text.proofs.string.add_characters.Given as goal

abbrev pub invariant-characters : goal.invariant-characters
invariant-characters l = l.out.items ++ escaped l.characters ≡ l.initial.out.items ++ escaped l.initial.characters

abbrev pub decreases-characters : goal.decreases-characters
decreases-characters l = length l.characters
