use Rattle.json_text.proofs.public.Texts.{bytes-read-back}
use Rattle.json_text.proofs.string.bytes_read_back.Goals as goal

pub returns : goal.returns
returns c = bytes-read-back
