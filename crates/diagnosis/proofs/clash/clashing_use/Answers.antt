use Rattle.std.proofs.lemmas.Result.{IfOk-weaker}
use Rattle.diagnosis.proofs.Clashed.{none_told, tells_clash}
use Rattle.diagnosis.proofs.clash.clashing_use.Goals as goal

pub returns-in-Ok : goal.returns-in-Ok
returns-in-Ok c =
    IfOk-weaker c.use_in.result _ _
    (λ found h. tells_clash c.args.source.now c.args.offset c.in-Ok.typed found c.in-Ok.ensures.typed h) c.use_in.ensures

pub returns-in-Err : goal.returns-in-Err
returns-in-Err c =
    IfOk-weaker c.none_found.result _ _
    (λ found h. none_told c.args.source.now c.args.offset found c.in-Err.fault h.0 h.1 c.in-Err.ensures.fault)
    c.none_found.ensures
