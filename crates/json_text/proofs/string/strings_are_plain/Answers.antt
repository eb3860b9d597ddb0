use Rattle.json_text.proofs.Plain.{strings-plain}
use Rattle.json_text.proofs.string.strings_are_plain.Goals as goal

pub returns : goal.returns
returns c = strings-plain
