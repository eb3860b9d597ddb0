-- How the text of a page grows.
use Rattle.std.proofs.Common.{◌≡◌, ℕ, Bool, true, false, List, [], ◌∷◌, ◌++◌, Bor, map, length, sym, ap, ◌∙◌, refl, arith, append_assoc}
use Rattle.std.specs.Prelude.{flat_map, ◌==◌, codes}
use Rattle.std.proofs.lemmas.Bool.{ne_eqb}
use Rattle.std.proofs.lemmas.List.{append-nil}
use Rattle.std.specs.Str.Lines.{lines}
use Rattle.refusal_pages.specs.PageText.{indented_line, indented, part, example}

-- what is added behind a text that is known
pub then-added : (before behind known added : List ℕ) → before ≡ known → behind ≡ before ++ added → behind ≡ known ++ added
then-added before behind known added is more = more ∙ ap (λ (t : List ℕ). t ++ added) is

-- three parts that are added one after the other
pub three-added : (was first second third : List ℕ) → ((was ++ first) ++ second) ++ third ≡ was ++ (first ++ (second ++ third))
three-added was first second third = append_assoc (was ++ first) second third ∙ append_assoc was first (second ++ third)

-- no part is added where its text is empty
pub no-part : (was before text behind : List ℕ) (empty : Bool) → empty ≡ (length text == 0) → empty ≡ true
    → was ≡ was ++ part before text behind
unfolding part
no-part was before [] behind empty is on = sym (append-nil was)
no-part was before (byte ∷ rest) behind empty is on =
    let no : empty ≡ false = is ∙ ne_eqb (length (byte ∷ rest)) 0 (λ z. omega arith) in cc

-- one is added where it is not
pub some-part : (was before text behind : List ℕ) (empty : Bool) → empty ≡ (length text == 0) → empty ≡ false
    → ((was ++ before) ++ text) ++ behind ≡ was ++ part before text behind
unfolding part
some-part was before [] behind true is off = cc
some-part was before [] behind false is off = cc
some-part was before (byte ∷ rest) behind empty is off = three-added was before (byte ∷ rest) behind

-- no example is added where nothing is told
pub no-example : (was source told : List ℕ) (empty : Bool) → empty ≡ (length told == 0) → empty ≡ true
    → was ≡ was ++ example source told
unfolding example
no-example was source [] empty is on = sym (append-nil was)
no-example was source (byte ∷ rest) empty is on =
    let no : empty ≡ false = is ∙ ne_eqb (length (byte ∷ rest)) 0 (λ z. omega arith) in cc

-- one is added where something is
pub some-example : (was source told : List ℕ) (empty : Bool) → empty ≡ (length told == 0) → empty ≡ false
    → ((was ++ codes "\n") ++ indented source) ++ indented told ≡ was ++ example source told
unfolding example
some-example was source [] true is off = cc
some-example was source [] false is off = cc
some-example was source (byte ∷ rest) empty is off = three-added was (codes "\n") (indented source) (indented (byte ∷ rest))

-- the lines that a loop has added are those of the text
pub all-added : (was text : List ℕ) (seen : List (Bor (List ℕ))) → map (λ (line : Bor (List ℕ)). line.now) seen ≡ lines text
    → was ++ flat_map (λ (line : Bor (List ℕ)). indented_line line.now) seen ≡ was ++ indented text
unfolding indented
all-added was text seen is = ap (λ (t : List ℕ). was ++ t) (shown seen ∙ ap (λ (l : List (List ℕ)). flat_map indented_line l) is)
  where
    shown : (seen : List (Bor (List ℕ))) → flat_map (λ (line : Bor (List ℕ)). indented_line line.now) seen ≡ flat_map indented_line (map (λ (line : Bor (List ℕ)). line.now) seen)
    shown [] = refl
    shown (line ∷ rest) = ap (λ (t : List ℕ). indented_line line.now ++ t) (shown rest)
