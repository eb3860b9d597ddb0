use Rattle.std.proofs.Common.{inl, inr, List, subst, sym}
use Rattle.std.proofs.lemmas.Result.{IfOk-weaker}
use Rattle.described.specs.Description.{Describes}
use Rattle.system.specs.declared.system.System.{System}
use Rattle.types.specs.declared.tree.Procedure.{Procedure}
use Rattle.typed_source.specs.Source.{IsTyped}
use Rattle.questions.proofs.system_outline.described_in.Goals as goal

pub returns-in-Ok : goal.returns-in-Ok
returns-in-Ok c =
    let typed : IsTyped c.args.source.now c.procedures.result.now =
    subst (λ (ps : List Procedure). IsTyped c.args.source.now ps) (sym c.procedures.ensures) c.in-Ok.ensures.typed in
    IfOk-weaker c.describe.result _ _
    (λ d h. inl (c.procedures.result.now, typed, subst (λ (s : System). Describes c.args.source.now c.procedures.result.now s d) c.system.ensures h))
    c.describe.ensures

pub returns-in-Err : goal.returns-in-Err
returns-in-Err c =
    IfOk-weaker c.nothing_told.result _ _ (λ d h. inr (c.in-Err.fault, c.in-Err.ensures.fault, h.1, h.0))
    c.nothing_told.ensures
