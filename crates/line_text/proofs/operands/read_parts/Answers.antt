use Rattle.std.proofs.Common.{refl, sym, ◌∙◌, eqb-true}
use Rattle.line_text.specs.EventText.{field}
use Rattle.line_text.proofs.public.CutLemmas.{nil-by-length, not-nil}
use Rattle.line_text.proofs.ChoiceLemmas.{no-choice-arm, no-choice-root, no-choice-place, may-be-choice}
use Rattle.line_text.proofs.operands.read_parts.Goals as goal

pub returns-in_default-clause-found : goal.returns-in_default-clause-found
returns-in_default-clause-found c =
    no-choice-arm (field c.args.text.now) c.args.text.now c.cut_at_space.result.0.now c.cut_at_space.result.1.now
    refl c.cut_at_space.ensures c.in_default.ensures

pub returns-then-is_empty-clause-found : goal.returns-then-is_empty-clause-found
returns-then-is_empty-clause-found c =
    no-choice-root (field c.args.text.now) c.args.text.now c.cut_at_space.result.0.now c.cut_at_space.result.1.now
    refl c.cut_at_space.ensures
    (nil-by-length c.cut_at_space.result.0.now (eqb-true _ _ (sym c.is_empty.ensures ∙ c.if-is_empty.true)))

pub returns-in_default-2-clause-found : goal.returns-in_default-2-clause-found
returns-in_default-2-clause-found c =
    no-choice-place (field c.args.text.now) c.args.text.now c.cut_at_space.result.0.now c.cut_at_space.result.1.now
    refl c.cut_at_space.ensures (rw c.in_default-2.is at c.in_ok-place.ensures)

pub returns-in_err-place-clause-memory : goal.returns-in_err-place-clause-memory
returns-in_err-place-clause-memory c =
    may-be-choice c.from_residual.result (field c.args.text.now) c.args.text.now c.cut_at_space.result.0.now c.cut_at_space.result.1.now
    c.in-Some.arm refl c.cut_at_space.ensures
    (not-nil c.cut_at_space.result.0.now c.is_empty.result c.is_empty.ensures c.if-is_empty.false) c.in-Some.ensures
