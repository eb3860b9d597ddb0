use Rattle.std.proofs.Common.{◌≡◌, List, true, false, inl, refl, sym, ◌∙◌, subst}
use Rattle.syntax.specs.Lists.{In}
use Rattle.runs.specs.Choices.{choice_of}
use Rattle.runs.specs.declared.event.Choice.{Choice}
use Rattle.dap_moves.proofs.Passing.{kept_new}
use Rattle.dap_moves.proofs.seen.see.Goals as goal

pub returns-then-is_seen : goal.returns-then-is_seen
returns-then-is_seen c =
    inl
    (subst (λ (xs : List Choice). In (choice_of c.args.event.now) xs) c.as_slice.ensures.value (c.is_seen.ensures.0 c.if-is_seen.true), refl)

pub returns-else-is_seen : goal.returns-else-is_seen
returns-else-is_seen c =
    kept_new c.keep.result c.args.seen.now.items (choice_of c.args.event.now) c.keep.new.seen.items
    (λ there.
    let found = c.is_seen.ensures.1 (subst (λ (xs : List Choice). In (choice_of c.args.event.now) xs) (sym c.as_slice.ensures.value) there) in
    let bad : true ≡ false = sym found ∙ c.if-is_seen.false in absurd (cc)) c.keep.ensures
