use Rattle.shell_desk.proofs.WordLemmas.{word-read}
use Rattle.shell_desk.proofs.word.Word.read.Goals as goal

pub returns : goal.returns
returns c = word-read c.first_spelled.result c.args.text.now c.first_spelled.ensures
