use Rattle.json_text.proofs.ReadBack.{strings-read-back}
use Rattle.json_text.proofs.string.strings_read_back.Goals as goal

pub returns : goal.returns
returns c = strings-read-back
