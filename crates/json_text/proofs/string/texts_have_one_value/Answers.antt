use Rattle.json_text.proofs.OneValue.{texts-have-one-value}
use Rattle.json_text.proofs.string.texts_have_one_value.Goals as goal

pub returns : goal.returns
returns c = texts-have-one-value
