use Rattle.std.proofs.Common.{length, subst, inl, inr, sym, ◌∙◌, eqb-true}
use Rattle.std.proofs.lemmas.List.{nil_from_length}
use Rattle.std.proofs.lemmas.Result.{err_from_is_err_and}
use Rattle.elaborate.specs.StimulusText.{HasForm}
use Rattle.elaborate.specs.internal.LineParts.{IsPassed}
use Rattle.elaborate.proofs.Numbers.{not_empty}
use Rattle.elaborate.proofs.Lines.{progress_other}
use Rattle.elaborate.proofs.Fronts.{kept_more, kept_end, few_more, full_more}
use Rattle.elaborate.proofs.stimulus_front.Front.read.Goals as goal

pub returns-in_err-pass-clause-fault : goal.returns-in_err-pass-clause-fault
returns-in_err-pass-clause-fault c =
    let p = err_from_is_err_and c.from_residual.result c.from_residual.ensures.1 in
    let some = not_empty (length c.loop-rest.rest.now) c.is_empty.result c.is_empty.ensures c.loop-rest-test.true in
    rw (p.1, p.2)
    (elim c.in_err-pass.ensures.err [
      | inl memory ↦ inl memory
      | inr bad ↦ inr (
        c.loop-rest.line,
        bad.0,
        progress_other c.args.text.now c.loop-rest.line _ c.loop-rest.rest.now c.length_before.result c.loop-rest.invariant.kept.passed
            c.length_before.ensures some (subst (λ t. ¬ HasForm t) c.split_at.ensures.front bad.1),
      )
    ])

pub loop-rest-preserved : goal.loop-rest-preserved
loop-rest-preserved c =
    let some = not_empty (length c.loop-rest.rest.now) c.is_empty.result c.is_empty.ensures c.loop-rest-test.true in
    let line = c.loop-rest.line in
    let most = c.args.most in
    let was = c.loop-rest.front in
    let is = c.pass.new.self in
    let passed : IsPassed most line c.split_at.result.0.now was.stimulus.entries was.is_cut is.stimulus.entries is.is_cut =
    c.in_ok-pass.ensures.passed in
    record {
      kept = rw (c.without_first-rest.ensures, c.split_at.ensures.back)
          (kept_more c.args.text.now line most was.stimulus.entries is.stimulus.entries was.is_cut is.is_cut c.loop-rest.rest.now c.length_before.result
          c.loop-rest.invariant.kept c.loop-rest.invariant.full c.length_before.ensures some
          (subst (λ t. IsPassed most line t was.stimulus.entries was.is_cut is.stimulus.entries is.is_cut) c.split_at.ensures.front passed));
      few = few_more line most c.split_at.result.0.now was.stimulus.entries is.stimulus.entries was.is_cut is.is_cut c.loop-rest.invariant.few passed;
      full = full_more line most c.split_at.result.0.now was.stimulus.entries is.stimulus.entries was.is_cut is.is_cut c.loop-rest.invariant.few c.loop-rest.invariant.full passed;
    }

pub returns-clause-entries : goal.returns-clause-entries
returns-clause-entries c =
    kept_end c.args.text.now c.loop-rest.line c.loop-rest.front.stimulus.entries c.loop-rest.front.is_cut c.loop-rest.rest.now c.loop-rest.invariant.kept
    (nil_from_length c.loop-rest.rest.now (eqb-true _ _ (sym c.is_empty.ensures ∙ c.loop-rest-test.false)))
