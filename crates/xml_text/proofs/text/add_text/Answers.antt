use Rattle.std.proofs.Common.{◌≡◌, ◌∙◌, ℕ, List, ◌∷◌, ◌++◌, sym, ap, append_assoc}
use Rattle.xml_text.specs.Text.{character_text, escaped}
use Rattle.xml_text.proofs.text.add_text.Goals as goal

pub characters-preserved : goal.characters-preserved
characters-preserved c =
    let was : List ℕ = c.characters.out.items in
    let rest : List ℕ = c.next.new.self in
    let text : List ℕ = character_text c.in-Some.character in
    let first : c.characters.characters ≡ c.in-Some.character ∷ rest = c.in-Some.ensures.steps in
    let added : c.add_character.new.out.items ≡ was ++ text =
    c.in_ok-add_character.ensures ∙ ap (λ (n : ℕ). was ++ character_text n) c.from.ensures in
    ap (λ (xs : List ℕ). xs ++ escaped rest) added
    ∙ (append_assoc was text (escaped rest) ∙ (ap (λ (cs : List ℕ). was ++ escaped cs) (sym first) ∙ c.characters.invariant))
