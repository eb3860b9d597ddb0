-- Words and their spellings.
use Rattle.std.proofs.Common.{◌≡◌, ℕ, Bool, true, false, List, [], ◌∷◌, Option, Some, None, MatchOption, refl, sym, ap, ◌∙◌, subst}
use Rattle.std.specs.Bool.{if◌then◌else◌}
use Rattle.std.specs.Str.{bytes_eq}
use Rattle.std.specs.Cmp.Lexicographic.{same_text}
use Rattle.shell_desk.specs.declared.word.Word.{Word}
use Rattle.shell_desk.specs.declared.word.Word.TheVariants.{R, N, Run, Next, Undo, Back, Why, Waiting, Outline, Vars, List as ListWord, Show, Save, SaveOver, Load, Script, ScriptOver, Help, Quit}
use Rattle.shell_desk.specs.Words.{spelling, SpellsNothing}
use Rattle.shell_desk.specs.internal.Spelled.{first_spelled}

-- all words
abbrev pub all_words : List Word
all_words = R ∷ N ∷ Run ∷ Next ∷ Undo ∷ Back ∷ Why ∷ Waiting ∷ Outline ∷ Vars ∷ ListWord ∷ Show ∷ Save ∷ SaveOver ∷ Load ∷ Script ∷ ScriptOver ∷ Help ∷ Quit ∷ []

-- each word is found by its spelling
all-spelled : (w : Word) → first_spelled all_words (spelling w) ≡ Some w
all-spelled R = refl
all-spelled N = refl
all-spelled Run = refl
all-spelled Next = refl
all-spelled Undo = refl
all-spelled Back = refl
all-spelled Why = refl
all-spelled Waiting = refl
all-spelled Outline = refl
all-spelled Vars = refl
all-spelled ListWord = refl
all-spelled Show = refl
all-spelled Save = refl
all-spelled SaveOver = refl
all-spelled Load = refl
all-spelled Script = refl
all-spelled ScriptOver = refl
all-spelled Help = refl
all-spelled Quit = refl

-- what is found is not nothing
none-some : (r : Option Word) (w : Word) → r ≡ None → r ≡ Some w → ⊥
none-some r w e h = cc

-- nothing is found in no words
nothing-found : (w : Word) → None ≡ Some w → ⊥
nothing-found w e = cc

-- where the word that is found is the first, or one behind it
found-step : (v w : Word) (text : List ℕ) (r : Bool) (rest : Option Word) → r ≡ bytes_eq (spelling v) text
    → (if r then Some v else rest) ≡ Some w → (rest ≡ Some w → spelling w ≡ text) → spelling w ≡ text
found-step v w text true rest p e more =
    let same : v ≡ w = cc in ap spelling (sym same) ∙ same_text (spelling v) text p
found-step v w text false rest p e more = more e

-- a word that is found is spelled so
found : (ws : List Word) (text : List ℕ) (w : Word) → first_spelled ws text ≡ Some w → spelling w ≡ text
found [] text w e = absurd (nothing-found w e)
found (v ∷ ws) text w e =
    found-step v w text (bytes_eq (spelling v) text) (first_spelled ws text) refl e (λ h. found ws text w h)

-- where none is found no word is spelled so
not-found : (text : List ℕ) → first_spelled all_words text ≡ None → SpellsNothing text
not-found text e w h =
    let some : first_spelled all_words text ≡ Some w = subst (λ t. first_spelled all_words t ≡ Some w) h (all-spelled w) in
    none-some (first_spelled all_words text) w e some

-- what the search finds
pub word-read : (r : Option Word) (text : List ℕ) → r ≡ first_spelled all_words text
    → MatchOption r (SpellsNothing text) (λ w. spelling w ≡ text)
word-read None text e = not-found text (sym e)
word-read (Some w) text e = found all_words text w (sym e)
