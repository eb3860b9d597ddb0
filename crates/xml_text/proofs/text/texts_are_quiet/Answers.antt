use Rattle.xml_text.proofs.Quiet.{texts-quiet}
use Rattle.xml_text.proofs.text.texts_are_quiet.Goals as goal

pub returns : goal.returns
returns c = texts-quiet
