-- Runs and comments as the longest spelling at the front.
use Rattle.std.proofs.Common.{◌≡◌, ◌≢◌, ℕ, suc, ◌+◌, ◌≤◌, Bool, true, false, [], ◌∷◌, ◌++◌, length, take, drop, inl, inr, refl, sym, ◌∙◌, ap, subst, ◌⊎◌, arith}
use Rattle.std.specs.Prelude.{IsTrue}
use Rattle.std.specs.List.{list_all, prefix_len}
use Rattle.std.proofs.lemmas.Bool.{false≢true, both_ways, and_from, and_parts, cases_Bool, eqb-true}
use Rattle.std.proofs.lemmas.List.{append-nil, take_at, take_all, drop_all}
use Rattle.std.proofs.lemmas.List.Folds.{list_all-append}
use Rattle.std.proofs.lemmas.List.Sums.{prefix_len-le-length}
use Rattle.syntax.specs.Texts.{Text}
use Rattle.lexer.specs.Comment.{is_opening, is_nested_comment, IsOpenComment}
use Rattle.lexer.specs.Spelling.{begins, may_hold, IsRun, Spells}
use Rattle.lexer.specs.internal.Fronts.{class_at, IsFront}
use Rattle.lexer.specs.declared.class.Class.{Class}
use Rattle.lexer.specs.declared.class.Class.TheVariants.{Blank, LineComment, NestedComment, OpenComment, Word, Number, Symbol}
use Rattle.lexer.proofs.CommentLemmas.{whole_once}
use Rattle.lexer.proofs.MarkLemmas.{mark_extends, mark_fits}
use Rattle.lexer.proofs.PieceLemmas.{front_class, class_begun, class_opening, class_shown, begins_extends, letter_in_name}
use Rattle.lexer.proofs.SymbolLemmas.{symbol_facts}

-- the class of each spelling shows
pub class_of : (class : Class) (text : Text) → Spells class text → class_at text ≡ front_class class
class_of Symbol text s = (symbol_facts text s).class
class_of Blank text s = rw (append-nil text) at (class_shown Blank text [] (λ e. cc) s)
class_of LineComment text s = rw (append-nil text) at (class_shown LineComment text [] (λ e. cc) s)
class_of NestedComment text s = rw (append-nil text) at (class_shown NestedComment text [] (λ e. cc) s)
class_of OpenComment text s = rw (append-nil text) at (class_shown OpenComment text [] (λ e. cc) s)
class_of Word text s = rw (append-nil text) at (class_shown Word text [] (λ e. cc) s)
class_of Number text s = rw (append-nil text) at (class_shown Number text [] (λ e. cc) s)

one_more : (n : ℕ) → 1 + n ≡ suc n
one_more n = omega arith

-- the longest front of bytes that pass, one byte on
prefix_more : (p : ℕ → Bool) (b : ℕ) (text : Text) → p b ≡ true → take (prefix_len p (b ∷ text)) (b ∷ text) ≡ b ∷ take (prefix_len p text) text
prefix_more p b text e = rw (e, one_more (prefix_len p text)) refl

prefix_all : (p : ℕ → Bool) (text : Text) → list_all p (take (prefix_len p text) text) ≡ true
prefix_all p [] = refl
prefix_all p (b ∷ text) = elim (cases_Bool (p b)) [
  | inl passes ↦ subst (λ t. list_all p t ≡ true) (sym (prefix_more p b text passes)) (and_from _ _ passes (prefix_all p text))
  | inr fails ↦ rw fails refl
]

prefix_next : (p : ℕ → Bool) (text : Text) (m : ℕ) (more : Text) → drop (prefix_len p text) text ≡ m ∷ more → p m ≡ false
prefix_next p [] m more e = absurd (cc)
prefix_next p (b ∷ text) m more e = elim (cases_Bool (p b)) [
  | inl passes ↦ prefix_next p text m more (rw (passes, one_more (prefix_len p text)) at e)
  | inr fails ↦
      let here : b ∷ text ≡ m ∷ more = rw fails at e in
      let same : b ≡ m = cc in
      rw (← same) fails
]

-- what begins as a run of a class begins so within the run
begins_own : (class : Class) (text : Text) → begins class text ≡ true → begins class (take (prefix_len (may_hold class) text) text) ≡ true
begins_own Blank [] e = absurd (false≢true e)
begins_own Blank (b ∷ text) e = subst (λ t. begins Blank t ≡ true) (sym (prefix_more (may_hold Blank) b text e)) e
begins_own Word [] e = absurd (false≢true e)
begins_own Word (b ∷ text) e = subst (λ t. begins Word t ≡ true) (sym (prefix_more (may_hold Word) b text (letter_in_name b e))) e
begins_own Number [] e = absurd (false≢true e)
begins_own Number (b ∷ text) e = subst (λ t. begins Number t ≡ true) (sym (prefix_more (may_hold Number) b text e)) e
begins_own LineComment [] e = absurd (false≢true e)
begins_own LineComment (b ∷ []) e = absurd (omega (arith, mark_fits (45 ∷ 45 ∷ []) (b ∷ []) e))
begins_own LineComment (b ∷ d ∷ text) e =
    let first : 45 ≡ b = eqb-true 45 b (and_parts _ _ e).0 in
    let second : 45 ≡ d = eqb-true 45 d (and_parts _ _ (and_parts _ _ e).1).0 in
    let holds_first : may_hold LineComment b ≡ true = rw (← first) refl in
    let holds_second : may_hold LineComment d ≡ true = rw (← second) refl in
    let front = prefix_more (may_hold LineComment) b (d ∷ text) holds_first ∙ ap (λ t. b ∷ t) (prefix_more (may_hold LineComment) d text holds_second) in
    subst (λ t. begins LineComment t ≡ true) (sym front) e
begins_own NestedComment text e = absurd (false≢true e)
begins_own OpenComment text e = absurd (false≢true e)
begins_own Symbol text e = absurd (false≢true e)

-- a run is a spelling of its class
run_spelled : (class : Class) (text : Text) → IsRun class text → Spells class text
run_spelled Blank text run = run
run_spelled LineComment text run = run
run_spelled Word text run = run
run_spelled Number text run = run
run_spelled NestedComment text run = absurd (false≢true run)
run_spelled OpenComment text run = absurd (false≢true run)
run_spelled Symbol text run = absurd (false≢true run)

-- a spelling that begins as a run of a class holds what the class may
spelled_run : (class other : Class) (text : Text) → begins class text ≡ true → class ≡ front_class other → Spells other text → list_all (may_hold class) text ≡ true
spelled_run class Blank text e same s = rw same (and_parts _ _ s).1
spelled_run class LineComment text e same s = rw same (and_parts _ _ s).1
spelled_run class Word text e same s = rw same (and_parts _ _ s).1
spelled_run class Number text e same s = rw same (and_parts _ _ s).1
spelled_run class NestedComment text e same s = absurd (false≢true (rw same at e))
spelled_run class OpenComment text e same s = absurd (false≢true (rw same at e))
spelled_run class Symbol text e same s = absurd (false≢true (rw same at e))

run_stops : (class other : Class) (text : Text) (m : ℕ) (more : Text) → begins class text ≡ true → may_hold class m ≡ false → ¬ Spells other (text ++ m ∷ more)
run_stops class other text m more e stops s =
    let begun = begins_extends class text (m ∷ more) e in
    let same : class ≡ front_class other = sym (class_begun class (text ++ m ∷ more) begun) ∙ class_of other (text ++ m ∷ more) s in
    let all = spelled_run class other (text ++ m ∷ more) begun same s in
    let parts = and_parts _ _ (sym (list_all-append (may_hold class) text (m ∷ more)) ∙ all) in
    both_ways _ stops (and_parts _ _ parts.1).0

-- the longest run is the longest spelling
pub run_front : (class : Class) (rest : Text) → begins class rest ≡ true → IsFront class (prefix_len (may_hold class) rest) rest
run_front class rest e = (
  prefix_len-le-length (may_hold class) rest,
  record {
    spelled = run_spelled class _ (and_from _ _ (begins_own class rest e) (prefix_all (may_hold class) rest));
    longest = longest;
  },
)
  where
    longest : (more beyond : Text) → drop (prefix_len (may_hold class) rest) rest ≡ more ++ beyond → more ≢ [] → (other : Class) → ¬ Spells other (take (prefix_len (may_hold class) rest) rest ++ more)
    longest [] beyond split some other s = some refl
    longest (m ∷ more) beyond split some other s =
        run_stops class other _ m more (begins_own class rest e) (prefix_next (may_hold class) rest m (more ++ beyond) split) s

-- what begins with `(--` is a comment, open or whole
pub opening_spelled : (other : Class) (text : Text) → is_opening text ≡ true → Spells other text → IsTrue (is_nested_comment text) ⊎ IsOpenComment text
opening_spelled NestedComment text e s = inl s
opening_spelled OpenComment text e s = inr s
opening_spelled Blank text e s = let other = class_of Blank text s in let here = class_opening text e in absurd (cc)
opening_spelled LineComment text e s = let other = class_of LineComment text s in let here = class_opening text e in absurd (cc)
opening_spelled Word text e s = let other = class_of Word text s in let here = class_opening text e in absurd (cc)
opening_spelled Number text e s = let other = class_of Number text s in let here = class_opening text e in absurd (cc)
opening_spelled Symbol text e s = let other = class_of Symbol text s in let here = class_opening text e in absurd (cc)

-- no spelling goes on behind a whole comment
comment_stops : (other : Class) (text : Text) (m : ℕ) (more : Text) → is_nested_comment text ≡ true → ¬ Spells other (text ++ m ∷ more)
comment_stops other text m more is s =
    let opens = mark_extends (40 ∷ 45 ∷ 45 ∷ []) text (m ∷ more) (and_parts _ _ is).0 in
    elim (opening_spelled other (text ++ m ∷ more) opens s) [
      | inl whole ↦ both_ways _ (whole_once text m more is) whole
      | inr still ↦ still.1 (length text) (rw (take_at text (m ∷ more) (length text) refl) is)
    ]

pub comment_front : (rest : Text) (n : ℕ) → n ≤ length rest → is_nested_comment (take n rest) ≡ true → IsFront NestedComment n rest
comment_front rest n within is = (within, record { spelled = is; longest = longest })
  where
    longest : (more beyond : Text) → drop n rest ≡ more ++ beyond → more ≢ [] → (other : Class) → ¬ Spells other (take n rest ++ more)
    longest [] beyond split some other s = some refl
    longest (m ∷ more) beyond split some other s = comment_stops other (take n rest) m more is s

-- nothing is behind the end
no_more : (text more beyond : Text) → drop (length text) text ≡ more ++ beyond → more ≡ []
no_more text [] beyond split = refl
no_more text (m ∷ more) beyond split = let end = drop_all (length text) text (omega arith) in absurd (cc)

pub open_front : (rest : Text) → IsOpenComment rest → IsFront OpenComment (length rest) rest
open_front rest still = (
  omega arith,
  record {
    spelled = rw (take_all (length rest) rest (omega arith)) still;
    longest = λ more beyond split some other s. some (no_more rest more beyond split);
  },
)
