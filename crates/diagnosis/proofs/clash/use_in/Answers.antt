use Rattle.std.proofs.Common.{◌≡◌, inl, [], Option, subst}
use Rattle.std.proofs.lemmas.Result.{IfOk-weaker}
use Rattle.elaborate.specs.Elaboration.{system_of}
use Rattle.system.specs.declared.system.System.{System}
use Rattle.diagnosis.specs.Clashes.{Makes}
use Rattle.diagnosis.proofs.Clashed.{told_in}
use Rattle.diagnosis.proofs.clash.use_in.Goals as goal

pub returns-in-Some : goal.returns-in-Some
returns-in-Some c =
    let made : c.in-Some.system ≡ system_of c.args.typed.now [] =
    subst (λ (o : Option System). Makes c.args.typed.now o) c.in-Some.is c.in_ok-system.ensures in
    IfOk-weaker c.other_use.result _ _
    (λ found h. told_in c.in-Some.system c.args.typed.now c.args.offset found made h) c.other_use.ensures

pub returns-in-None : goal.returns-in-None
returns-in-None c = inl (subst (λ (o : Option System). Makes c.args.typed.now o) c.in-None.is c.in_ok-system.ensures)
