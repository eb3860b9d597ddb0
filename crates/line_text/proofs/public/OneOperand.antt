-- One thing stands in a field.
use Rattle.std.proofs.Common.{◌≡◌, ℕ, List, ◌++◌, Some, sym, ap, ◌∙◌, subst, inl, inr, arith}
use Rattle.std.specs.Fmt.{decimal}
use Rattle.std.proofs.lemmas.Fmt.{decimal_injective}
use Rattle.address.specs.declared.Entry.{Entry}
use Rattle.address.specs.Text.{text_of}
use Rattle.address.proofs.public.Finds.{text_of-injective}
use Rattle.system.specs.Named.{variable_from}
use Rattle.system.specs.declared.system.System.{System}
use Rattle.runs.specs.declared.event.Choice.{Choice}
use Rattle.line_text.specs.Operands.{IsNumber, IsBranch, IsVariable, IsArm, IsChoice}
use Rattle.line_text.proofs.public.CutLemmas.{cut-same, address-no-space}
use Rattle.line_text.proofs.public.NumberLemmas.{field-same, field-some, same-found}
use Rattle.line_text.proofs.ChoiceLemmas.{arm-begins}

-- one number stands in a field
pub one-number : (m n : ℕ) (rest : List ℕ) → IsNumber m rest → IsNumber n rest → m ≡ n
one-number m n rest h k = decimal_injective m n h.0 k.0 (field-same rest (decimal m) (decimal n) h.1 k.1)

-- one branch stands in a field
pub one-branch : (m n : ℕ) (rest : List ℕ) → IsBranch m rest → IsBranch n rest → m ≡ n
one-branch m n rest h k = one-number m n rest (omega (arith, h.0), h.1) (omega (arith, k.0), k.1)

-- one variable is named
pub one-variable : (system : System) (x y : ℕ) (rest : List ℕ) → IsVariable system x rest → IsVariable system y rest → x ≡ y
one-variable system x y rest h k =
    let there : variable_from 0 system.variables h.0 ≡ Some y =
    subst (λ t. variable_from 0 system.variables t ≡ Some y) (field-same rest k.0 h.0 k.1 h.1) k.2 in
    same-found x y (sym h.2 ∙ there)

-- one arm stands there
pub one-arm : (a b : ℕ) (rest : List ℕ) → IsArm a rest → IsArm b rest → a ≡ b
one-arm a b rest h k =
    elim h [
      | inl none ↦ elim k [
        | inl other ↦ none.1 ∙ sym other.1
        | inr some ↦ absurd (field-some rest (decimal b) some.0 none.0)
      ]
      | inr some ↦ elim k [
        | inl none ↦ absurd (field-some rest (decimal a) some.0 none.0)
        | inr other ↦ one-number a b rest (omega (arith, some.1), some.0) (omega (arith, other.1), other.0)
      ]
    ]

-- equal parts make equal choices
same-choice : (c d : Choice) → c.place ≡ d.place → c.arm ≡ d.arm → c ≡ d
same-choice c d p a =
    ap (λ (x : List Entry). record c { place = x }) p ∙ ap (λ (n : ℕ). record d { arm = n }) a

-- one choice stands there
pub one-choice : (c d : Choice) (rest : List ℕ) → IsChoice c rest → IsChoice d rest → c ≡ d
one-choice c d rest h k =
    let both : (text_of c.place ≡ text_of d.place) × (h.2.0 ≡ k.2.0) =
    cut-same (text_of c.place) (text_of d.place) h.2.0 k.2.0 (address-no-space c.place h.1) (address-no-space d.place k.1)
    (arm-begins c.arm h.2.0 h.2.2) (arm-begins d.arm k.2.0 k.2.2)
    (field-same rest (text_of c.place ++ h.2.0) (text_of d.place ++ k.2.0) h.2.1 k.2.1) in
    same-choice c d (text_of-injective c.place d.place h.1 k.1 both.0)
    (one-arm c.arm d.arm k.2.0 (subst (IsArm c.arm) both.1 h.2.2) k.2.2)
