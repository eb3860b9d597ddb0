use Rattle.json_text.proofs.public.Texts.{numbers-are-integers}
use Rattle.json_text.proofs.string.numbers_are_integers.Goals as goal

pub returns : goal.returns
returns c = numbers-are-integers
