-- A line is a name and what is given in one way.
use Rattle.std.proofs.Common.{◌≡◌, ◌≢◌, ℕ, ◌≤◌, [], ◌∷◌, ◌++◌, take, drop, refl, ap, sym, ◌∙◌, subst, Bool, true, false, true≢false, arith, ◌&&◌, inl, inr}
use Rattle.std.proofs.lemmas.List.{take-append-drop}
use Rattle.std.specs.List.{list_all}
use Rattle.std.specs.Fmt.{decimal}
use Rattle.lexer.specs.Bytes.{is_name_byte}
use Rattle.lexer.specs.Names.{is_name, is_word}
use Rattle.elaborate.specs.internal.CutAt.{Lacks, StartsWith, IsBefore}
use Rattle.syntax.specs.Texts.{Text}
use Rattle.elaborate.specs.StimulusText.{numbers_text, given_text, Gives, HasForm}
use Rattle.elaborate.specs.internal.LineParts.{IsNoNumbers, ReadsGiven, IsNoGiven, IsNoEntry}
use Rattle.elaborate.specs.declared.stimulus.Given.{Given}
use Rattle.elaborate.specs.declared.stimulus.Given.TheVariants.{Values, Syncs}
use Rattle.elaborate.proofs.Cuts.{heads, tails, cut_once}

-- no text behind ` =` is another text of values
pub no_given-values : (rest : Text) → IsNoNumbers rest → IsNoGiven (32 ∷ 61 ∷ rest)
no_given-values rest none (Values ns) h =
    none ns (tails 61 61 (numbers_text ns) rest (tails 32 32 (61 ∷ numbers_text ns) (61 ∷ rest) h.1), h.0)
no_given-values rest none (Syncs n) h =
    let e : 42 ≡ 61 = heads 42 61 (32 ∷ decimal n) rest (tails 32 32 (42 ∷ 32 ∷ decimal n) (61 ∷ rest) h.1) in absurd (omega (arith, e))

-- nor behind ` * ` another number
pub no_given-syncs : (rest : Text) → ((n : ℕ) → n ≤ 65536 → decimal n ≡ rest → ⊥) → IsNoGiven (32 ∷ 42 ∷ 32 ∷ rest)
no_given-syncs rest none (Values ns) h =
    let e : 61 ≡ 42 = heads 61 42 (numbers_text ns) (32 ∷ rest) (tails 32 32 (61 ∷ numbers_text ns) (42 ∷ 32 ∷ rest) h.1) in
    absurd (omega (arith, e))
no_given-syncs rest none (Syncs n) h =
    none n h.0
    (tails 32 32 (decimal n) rest (tails 42 42 (32 ∷ decimal n) (32 ∷ rest) (tails 32 32 (42 ∷ 32 ∷ decimal n) (42 ∷ 32 ∷ rest) h.1)))

-- a text that begins with neither gives nothing
pub no_given-other : (text : Text) → ((rest : Text) → text ≢ (32 ∷ 61 ∷ []) ++ rest) → ((rest : Text) → text ≢ (32 ∷ 42 ∷ 32 ∷ []) ++ rest)
    → IsNoGiven text
no_given-other text values syncs (Values ns) h = values (numbers_text ns) (sym h.1)
no_given-other text values syncs (Syncs n) h = syncs (decimal n) (sym h.1)

-- what is given begins with a space
given_start : (given : Given) → StartsWith 32 (given_text given)
given_start (Values ns) = refl
given_start (Syncs n) = refl

both_true : (a b : Bool) → (a && b) ≡ true → (a ≡ true) × (b ≡ true)
both_true true b h = (refl, h)
both_true false b h = absurd (true≢false (sym h))

-- bytes of names are no spaces
bytes_without : (text : Text) → list_all is_name_byte text ≡ true → Lacks 32 text
bytes_without [] h = tt
bytes_without (x ∷ xs) h =
    let both = both_true (is_name_byte x) (list_all is_name_byte xs) h in
    (λ e. true≢false (sym (subst (λ b. is_name_byte b ≡ true) e both.0)), bytes_without xs both.1)

-- a name has no space
name_without : (name : Text) → is_name name ≡ true → Lacks 32 name
name_without name h =
    let word = both_true (is_word name) _ h in let bytes = both_true _ (list_all is_name_byte name) word.0 in bytes_without name bytes.1

-- the parts of a line with something given
pub entry_parts : (line : Text) (count : ℕ) (name : Text) (given : Given) → IsBefore 32 line count → Gives line name given
    → (take count line ≡ name) × (drop count line ≡ given_text given)
entry_parts line count name given before g =
    cut_once 32 (take count line) name (drop count line) (given_text given) before.1 (name_without name g.0) before.2 (given_start given)
    (take-append-drop count line ∙ g.2)

-- a line whose first word is no name gives nothing
pub no_entry-name : (line : Text) (count : ℕ) → IsBefore 32 line count → is_name (take count line) ≡ false → IsNoEntry line
no_entry-name line count before other name given g =
    let parts = entry_parts line count name given before g in
    true≢false (sym (subst (λ t. is_name t ≡ true) (sym parts.0) g.0) ∙ other)

-- nor one with something else behind it
pub no_entry-given : (line : Text) (count : ℕ) → IsBefore 32 line count → IsNoGiven (drop count line) → IsNoEntry line
no_entry-given line count before none name given g =
    let parts = entry_parts line count name given before g in none given (g.1, sym parts.1)

-- a name and what is given
pub entry_read : (line : Text) (count : ℕ) (given : Given) → is_name (take count line) ≡ true → ReadsGiven (drop count line) given
    → Gives line (take count line) given
entry_read line count given named r =
    (named, r.0, sym (take-append-drop count line) ∙ ap (λ t. take count line ++ t) (sym r.1))

-- a text with something in it that gives nothing has no form
pub no_form : (line : Text) → (line ≡ [] → ⊥) → IsNoEntry line → ¬ HasForm line
no_form line some none h = elim h [ inl e ↦ some e | inr g ↦ none g.0 g.1 g.2 ]
