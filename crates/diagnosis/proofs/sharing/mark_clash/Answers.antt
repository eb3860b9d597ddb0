use Rattle.std.proofs.Common.{◌≡◌, ◌∙◌, ◌∷◌, ◌++◌, [], ℕ, Option, None, Some, sym, ap, subst}
use Rattle.std.proofs.lemmas.List.{append-nil}
use Rattle.std.proofs.lemmas.Result.{on_ok_weaker}
use Rattle.clash_places.specs.declared.pairs.OtherUse.{OtherUse}
use Rattle.findings.specs.MarkedPlaces.{marked_at}
use Rattle.diagnosis.specs.Clashes.{TellsClash}
use Rattle.diagnosis.proofs.sharing.mark_clash.Goals as goal

pub returns-in-Some : goal.returns-in-Some
returns-in-Some c =
    let told : TellsClash c.args.source.now c.args.finding.now.start (Some c.in-Some.other) =
    subst (λ (o : Option OtherUse). TellsClash c.args.source.now c.args.finding.now.start o) c.in-Some.is c.in_ok-other.ensures in
    on_ok_weaker c.add_beside.result
    (λ marked. (Some c.in-Some.other, told, marked ∙ ap (λ (at : ℕ). marked_at c.args.finding.now.beside.items ++ at ∷ []) c.token_at.ensures))
    c.add_beside.ensures.marked

pub returns-in-None : goal.returns-in-None
returns-in-None c = (
  None,
  subst (λ (o : Option OtherUse). TellsClash c.args.source.now c.args.finding.now.start o) c.in-None.is c.in_ok-other.ensures,
  sym (append-nil (marked_at c.args.finding.now.beside.items)),
)
