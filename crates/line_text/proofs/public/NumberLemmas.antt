-- Numbers and names behind the keyword of a line.
use Rattle.std.proofs.Common.{◌≡◌, ℕ, ◌<◌, ◌^◌, List, [], Option, Some, None, MatchOption, sym, ap, ◌∙◌, subst, inl, inr, arith}
use Rattle.std.specs.Option.{SomeIff}
use Rattle.std.specs.Fmt.{decimal}
use Rattle.std.proofs.lemmas.Fmt.{decimal_injective}
use Rattle.system.specs.Named.{variable_from}
use Rattle.system.specs.declared.system.System.{System}
use Rattle.line_text.specs.EventText.{field}
use Rattle.decimal.specs.Reading.{Reads, IsNoNumber}
use Rattle.line_text.specs.Operands.{IsNumber, IsBranch, IsVariable, IsArm}
use Rattle.line_text.specs.internal.NoOperand.{IsNoTicket, IsNoBranch, IsNoVariable, IsNoArm}
use Rattle.line_text.proofs.public.CutLemmas.{tails}

-- equal fields have equal texts
pub field-same : (rest t u : List ℕ) → rest ≡ field t → rest ≡ field u → t ≡ u
field-same rest t u e k = tails 32 32 t u (sym e ∙ k)

-- a text with a space is not empty
empty-field : (t : List ℕ) → field t ≡ [] → ⊥
empty-field t e = cc

-- what is not found is not found
none-some : (r : Option ℕ) (x : ℕ) → r ≡ None → r ≡ Some x → ⊥
none-some r x h k = cc

-- what is found is one number
pub same-found : (x y : ℕ) → Some x ≡ Some y → x ≡ y
same-found x y e = cc

-- a field is not empty
pub field-some : (rest t : List ℕ) → rest ≡ field t → rest ≡ [] → ⊥
field-some rest t e k = empty-field t (sym e ∙ k)

-- what is read of a ticket
pub ticket-read : (r : Option ℕ) (rest text : List ℕ) → rest ≡ field text → MatchOption r (IsNoNumber text) (λ n. Reads text n)
    → MatchOption r (IsNoTicket rest) (λ n. IsNumber n rest)
ticket-read None rest text e h = λ n k. h n (k.0, field-same rest (decimal n) text k.1 e)
ticket-read (Some n) rest text e h = (h.0, e ∙ ap field (sym h.1))

-- the number that is read is the one that stands there
pub read-number : (n k : ℕ) (rest : List ℕ) → IsNumber n rest → k < 2 ^ 64 → rest ≡ field (decimal k) → k ≡ n
read-number n k rest h small e = decimal_injective k n small h.0 (field-same rest (decimal k) (decimal n) e h.1)

-- the branch whose number is read, where it has 32 bits
pub branch-read : (rest : List ℕ) (n : ℕ) (r : Option ℕ) → IsNumber n rest → SomeIff r (n < 2 ^ 32) n
    → MatchOption r (IsNoBranch rest) (λ k. IsBranch k rest)
branch-read rest n None read h =
    λ k b. h (subst (λ m. m < 2 ^ 32) (read-number n k rest read (omega (arith, b.0)) b.1) b.0)
branch-read rest n (Some k) read h = (subst (λ m. m < 2 ^ 32) (sym h.1) h.0, read.1 ∙ ap (λ m. field (decimal m)) (sym h.1))

-- the variable that is named is the one of the name
variable-name : (system : System) (rest name : List ℕ) (x : ℕ) → rest ≡ field name → IsVariable system x rest
    → variable_from 0 system.variables name ≡ Some x
variable-name system rest name x e h =
    subst (λ t. variable_from 0 system.variables t ≡ Some x) (field-same rest h.0 name h.1 e) h.2

-- the variable whose name is found
pub variable-read : (system : System) (rest name : List ℕ) (r : Option ℕ) → rest ≡ field name
    → r ≡ variable_from 0 system.variables name → MatchOption r (IsNoVariable system rest) (λ x. IsVariable system x rest)
variable-read system rest name None e none =
    λ x h. none-some (variable_from 0 system.variables name) x (sym none) (variable-name system rest name x e h)
variable-read system rest name (Some x) e at = (name, e, sym at)

-- the arm whose number is read, where it has 32 bits
pub arm-read : (rest text : List ℕ) (n : ℕ) (r : Option ℕ) → rest ≡ field text → Reads text n → SomeIff r (n < 2 ^ 32) n
    → MatchOption r (IsNoArm rest) (λ arm. IsArm arm rest)
arm-read rest text n None e read h =
    λ arm k. elim k [
      | inl z ↦ field-some rest text e z.0
      | inr s ↦
          let same : arm ≡ n =
          decimal_injective arm n (omega (arith, s.1)) read.0 (field-same rest (decimal arm) text s.0 e ∙ sym read.1) in
          h (subst (λ m. m < 2 ^ 32) same s.1)
    ]
arm-read rest text n (Some arm) e read h =
    inr (e ∙ ap field (sym read.1 ∙ ap decimal (sym h.1)), subst (λ m. m < 2 ^ 32) (sym h.1) h.0)
