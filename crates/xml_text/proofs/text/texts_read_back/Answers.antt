use Rattle.xml_text.proofs.Back.{reads-back}
use Rattle.xml_text.proofs.text.texts_read_back.Goals as goal

pub returns : goal.returns
returns c = reads-back
