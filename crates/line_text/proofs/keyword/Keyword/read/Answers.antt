use Rattle.line_text.proofs.public.KeywordLemmas.{keyword-read}
use Rattle.line_text.proofs.keyword.Keyword.read.Goals as goal

pub returns-in_default : goal.returns-in_default
returns-in_default c = keyword-read c.first_spelled.result c.args.text.now c.first_spelled.ensures
