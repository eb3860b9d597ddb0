use Rattle.std.proofs.lemmas.Result.{IfOk-weaker}
use Rattle.diagnosis.proofs.Clashed.{none_made}
use Rattle.diagnosis.proofs.clash.made_of.Goals as goal

pub returns : goal.returns
returns c =
    IfOk-weaker c.none_possible.result _ _
    (λ made h. none_made c.args.typed.now c.new.result made c.in-Err.fault c.new.ensures h.0 h.1 c.in-Err.ensures.fault) c.none_possible.ensures
