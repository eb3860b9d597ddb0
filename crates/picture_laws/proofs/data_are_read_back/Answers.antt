use Rattle.picture_laws.proofs.DataJson.{data-are-read-back}
use Rattle.picture_laws.proofs.data_are_read_back.Goals as goal

pub returns : goal.returns
returns c = data-are-read-back c.texts_have_one_value.ensures
