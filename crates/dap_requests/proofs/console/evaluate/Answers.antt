use Rattle.std.proofs.Common.{◌≡◌, ◌∙◌, inl, refl, sym, true, false}
use Rattle.dap_requests.proofs.console.evaluate.Goals as goal

pub returns-then-is_typed-clause-looks : goal.returns-then-is_typed-clause-looks
returns-then-is_typed-clause-looks c = λ none.
    let no : true ≡ false = sym c.if-is_typed.true ∙ c.is_typed.ensures ∙ none in absurd (cc)

pub returns-else-is_typed-clause-does : goal.returns-else-is_typed-clause-does
returns-else-is_typed-clause-does c = inl (c.evaluate_seen.ensures, refl, inl (sym c.is_typed.ensures ∙ c.if-is_typed.false))
