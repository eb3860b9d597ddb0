use Rattle.std.proofs.Common.{◌≡◌, ℕ, ◌<◌, ◌≤◌, ◌+◌, Bool, true, false, cond, Some, None, List, ◌∷◌, length, take, drop, nat_lt, refl, sym, ap, ◌∙◌}
use Rattle.std.specs.List.{position_or_len}
use Rattle.std.proofs.lemmas.Bool.{ltb-true, ltb-false}
use Rattle.std.proofs.lemmas.List.{take_rest}
use Rattle.syntax.specs.Texts.{is_end, lines}
use Rattle.source_view.proofs.Cuts.{cut-at, whole}
use Rattle.source_view.proofs.lines.first_line.Goals as goal

-- what the search for the end of the line says
found : (place len : ℕ) (t : Bool) (end : ℕ) → nat_lt place len ≡ t → cond t (Some place) None ≡ Some end → (place ≡ end) × (place < len)
found place len true end is e = (cc, ltb-true place len is)
found place len false end is e = cc

nowhere : (place len : ℕ) (t : Bool) → nat_lt place len ≡ t → cond t (Some place) None ≡ None → len ≤ place
nowhere place len true is e = cc
nowhere place len false is e = ltb-false place len is

pub returns-in-Some : goal.returns-in-Some
returns-in-Some c =
    let s : List ℕ = c.args.source.now in
    let place : ℕ = position_or_len is_end s in
    let at : (place ≡ c.in-Some.end) × (place < length s) = found place (length s) (nat_lt place (length s)) c.in-Some.end refl (sym c.in-Some.ensures) in
    let cut : lines s ≡ take place s ∷ lines (drop (place + 1) s) = cut-at s at.1 in
    cut ∙ (ap (λ (n : ℕ). take n s ∷ lines (drop (n + 1) s)) at.0
    ∙ ap (λ (rest : List ℕ). take c.in-Some.end s ∷ lines rest) (sym (take_rest s (c.in-Some.end + 1))))

pub returns-in-None : goal.returns-in-None
returns-in-None c =
    let s : List ℕ = c.args.source.now in
    let place : ℕ = position_or_len is_end s in
    whole s c.requires (nowhere place (length s) (nat_lt place (length s)) refl (sym c.in-None.ensures))
