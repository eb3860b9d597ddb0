use Rattle.std.proofs.Common.{ℕ}
use Rattle.std.specs.Prelude.{Vec}
use Rattle.std.specs.Global.{Global}
use Rattle.std.proofs.lemmas.Result.{IfOk-weaker}
use Rattle.file_answers.specs.Explained.{Explains, TellsIn}
use Rattle.file_answers.specs.Kept.{kept_of}
use Rattle.file_answers.proofs.ExplainingLemmas.{explained}
use Rattle.file_answers.proofs.explain.explanation.Goals as goal

pub returns-in_default : goal.returns-in_default
returns-in_default c =
    IfOk-weaker c.told_in.result
    (λ (words : Vec ℕ Global). TellsIn c.args.request.now (kept_of c.args.texts.now) c.args.fault words.items)
    (λ (words : Vec ℕ Global). Explains c.args.request.now (kept_of c.args.texts.now) c.args.fault words.items)
    (λ words told. explained c.args.request.now (kept_of c.args.texts.now) c.args.fault words.items c.in_default.not-Refused told)
    c.told_in.ensures
