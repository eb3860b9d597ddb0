use Rattle.std.proofs.Common.{◌≡◌, List, ℕ, [], IfOk, MatchOption, refl, sym, ◌∙◌, subst, eqb-true}
use Rattle.std.proofs.lemmas.List.Elements.{All-nil}
use Rattle.line_text.specs.Fields.{IsNoSpace, CutAtSpace}
use Rattle.line_text.specs.Operands.{IsChoice}
use Rattle.line_text.specs.internal.NoOperand.{IsNoChoice}
use Rattle.line_text.proofs.public.CutLemmas.{nil-by-length}
use Rattle.line_text.proofs.ChoiceLemmas.{no-choice-root}
use Rattle.line_text.proofs.operands.read_choice.Goals as goal

-- an empty text is cut into two of these
cut-nothing : (text : List ℕ) → text ≡ [] → CutAtSpace text [] []
cut-nothing text e = record { joined = sym e; clear = All-nil IsNoSpace; begins = tt }

pub returns-then-is_empty-clause-found : goal.returns-then-is_empty-clause-found
returns-then-is_empty-clause-found c =
    let empty : c.in-Some.text.now ≡ [] = nil-by-length c.in-Some.text.now (eqb-true _ _ (sym c.is_empty.ensures ∙ c.if-is_empty.true)) in
    no-choice-root c.args.rest.now c.in-Some.text.now [] [] c.in-Some.ensures (cut-nothing c.in-Some.text.now empty) refl

pub returns-in_default-read-clause-found : goal.returns-in_default-read-clause-found
returns-in_default-read-clause-found c =
    subst (λ rest. IfOk c.read_parts.result (λ found. MatchOption found (IsNoChoice rest) (λ choice. IsChoice choice rest)))
    (sym c.in-Some.ensures) c.read_parts.ensures.found
