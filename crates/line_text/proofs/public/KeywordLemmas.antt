-- Keywords and their spellings.
use Rattle.std.proofs.Common.{◌≡◌, ℕ, Bool, true, false, List, [], ◌∷◌, Option, Some, None, MatchOption, refl, sym, ap, ◌∙◌, subst}
use Rattle.std.specs.Bool.{if◌then◌else◌}
use Rattle.std.specs.Str.{bytes_eq}
use Rattle.std.specs.List.{All}
use Rattle.std.specs.Cmp.Lexicographic.{same_text}
use Rattle.line_text.specs.declared.keyword.Keyword.{Keyword}
use Rattle.line_text.specs.declared.keyword.Keyword.TheVariants.{Step, Undo, Roll, RollValue, Blame, Ready, Consequences, Live, Value, Branch, Break, Clear, Session, View, Trace}
use Rattle.line_text.specs.Fields.{IsNoSpace}
use Rattle.line_text.specs.Keywords.{spelling}
use Rattle.line_text.specs.internal.Spelled.{first_spelled, SpellsNothing}
use Rattle.line_text.proofs.public.CutLemmas.{clear-by-test}

-- all keywords
abbrev pub all_keywords : List Keyword
all_keywords = Step ∷ Branch ∷ Undo ∷ Roll ∷ RollValue ∷ Blame ∷ Ready ∷ Consequences ∷ Live ∷ Value ∷ Break ∷ Clear ∷ Session ∷ View ∷ Trace ∷ []

-- each keyword is found by its spelling
pub all-spelled : (w : Keyword) → first_spelled all_keywords (spelling w) ≡ Some w
all-spelled Step = refl
all-spelled Undo = refl
all-spelled Roll = refl
all-spelled RollValue = refl
all-spelled Blame = refl
all-spelled Ready = refl
all-spelled Consequences = refl
all-spelled Live = refl
all-spelled Value = refl
all-spelled Branch = refl
all-spelled Break = refl
all-spelled Clear = refl
all-spelled Session = refl
all-spelled View = refl
all-spelled Trace = refl

-- a spelling has no space
pub spelling-no-space : (w : Keyword) → All IsNoSpace (spelling w)
spelling-no-space Step = clear-by-test (spelling Step) refl
spelling-no-space Undo = clear-by-test (spelling Undo) refl
spelling-no-space Roll = clear-by-test (spelling Roll) refl
spelling-no-space RollValue = clear-by-test (spelling RollValue) refl
spelling-no-space Blame = clear-by-test (spelling Blame) refl
spelling-no-space Ready = clear-by-test (spelling Ready) refl
spelling-no-space Consequences = clear-by-test (spelling Consequences) refl
spelling-no-space Live = clear-by-test (spelling Live) refl
spelling-no-space Value = clear-by-test (spelling Value) refl
spelling-no-space Branch = clear-by-test (spelling Branch) refl
spelling-no-space Break = clear-by-test (spelling Break) refl
spelling-no-space Clear = clear-by-test (spelling Clear) refl
spelling-no-space Session = clear-by-test (spelling Session) refl
spelling-no-space View = clear-by-test (spelling View) refl
spelling-no-space Trace = clear-by-test (spelling Trace) refl

-- nothing is not a keyword
none-some : (r : Option Keyword) (w : Keyword) → r ≡ None → r ≡ Some w → ⊥
none-some r w e h = cc

-- keywords that are found are the same where what is found is
same-some : (v w : Keyword) → Some v ≡ Some w → v ≡ w
same-some v w e = cc

-- nothing is found in no keywords
nothing-found : (w : Keyword) → None ≡ Some w → ⊥
nothing-found w e = cc

-- where the keyword that is found is the first, or one behind it
found-step : (v w : Keyword) (text : List ℕ) (r : Bool) (rest : Option Keyword) → r ≡ bytes_eq (spelling v) text
    → (if r then Some v else rest) ≡ Some w → (rest ≡ Some w → spelling w ≡ text) → spelling w ≡ text
found-step v w text true rest p e more =
    let same : v ≡ w = cc in ap spelling (sym same) ∙ same_text (spelling v) text p
found-step v w text false rest p e more = more e

-- a keyword that is found is spelled so
found : (ws : List Keyword) (text : List ℕ) (w : Keyword) → first_spelled ws text ≡ Some w → spelling w ≡ text
found [] text w e = absurd (nothing-found w e)
found (v ∷ ws) text w e =
    found-step v w text (bytes_eq (spelling v) text) (first_spelled ws text) refl e (λ h. found ws text w h)

-- where none is found no keyword is spelled so
not-found : (text : List ℕ) → first_spelled all_keywords text ≡ None → SpellsNothing text
not-found text e w h =
    let some : first_spelled all_keywords text ≡ Some w = subst (λ t. first_spelled all_keywords t ≡ Some w) h (all-spelled w) in
    none-some (first_spelled all_keywords text) w e some

-- what the search finds
pub keyword-read : (r : Option Keyword) (text : List ℕ) → r ≡ first_spelled all_keywords text
    → MatchOption r (SpellsNothing text) (λ w. spelling w ≡ text)
keyword-read None text e = not-found text (sym e)
keyword-read (Some w) text e = found all_keywords text w (sym e)

-- one keyword has a spelling
pub one-keyword : (v w : Keyword) (text : List ℕ) → spelling v ≡ text → spelling w ≡ text → v ≡ w
one-keyword v w text h k =
    let first : first_spelled all_keywords text ≡ Some v = subst (λ t. first_spelled all_keywords t ≡ Some v) h (all-spelled v) in
    let second : first_spelled all_keywords text ≡ Some w = subst (λ t. first_spelled all_keywords t ≡ Some w) k (all-spelled w) in
    same-some v w (sym first ∙ second)
