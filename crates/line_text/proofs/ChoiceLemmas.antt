-- Places and arms behind the keyword of a line.
use Rattle.std.proofs.Common.{◌≡◌, ℕ, List, [], ◌∷◌, ◌++◌, Result, Ok, Err, OnErr, refl, sym, ap, ◌∙◌, subst, inl, inr}
use Rattle.std.specs.Fmt.{decimal}
use Rattle.address.specs.declared.Entry.{Entry}
use Rattle.address.specs.declared.Entry.TheVariants.{Ordered, Branch}
use Rattle.address.specs.Text.{text_of}
use Rattle.address.specs.Reading.{IsTextOf, HasNoText}
use Rattle.runs.specs.declared.event.Choice.{Choice}
use Rattle.line_text.specs.EventText.{field}
use Rattle.line_text.specs.Fields.{BeginsField, CutAtSpace}
use Rattle.line_text.specs.Operands.{IsArm, IsChoice, MayBeChoice}
use Rattle.line_text.specs.internal.NoOperand.{IsNoArm, IsNoChoice}
use Rattle.line_text.proofs.public.CutLemmas.{cut-same, tails, address-no-space}

-- what stands for an arm is nothing or begins with a space
pub arm-begins : (arm : ℕ) (rest : List ℕ) → IsArm arm rest → BeginsField rest
arm-begins arm rest h =
    elim h [
      | inl none ↦ subst BeginsField (sym none.0) tt
      | inr some ↦ subst BeginsField (sym some.0) refl
    ]

-- a text with a byte is not empty
some-byte : (b : ℕ) (bs : List ℕ) → b ∷ bs ≡ [] → ⊥
some-byte b bs e = cc

-- an address with an empty text is the root
empty-text : (a : List Entry) → text_of a ≡ [] → a ≡ []
empty-text [] e = refl
empty-text (Ordered i ∷ a) e = absurd (some-byte 46 (decimal i ++ text_of a) e)
empty-text (Branch i ∷ a) e = absurd (some-byte 47 (decimal i ++ text_of a) e)

-- the parts of a choice are those of the cut
parts : (rest text place arm : List ℕ) → rest ≡ field text → CutAtSpace text place arm → (d : Choice) → (h : IsChoice d rest)
    → (place ≡ text_of d.place) × (arm ≡ h.2.0)
parts rest text place arm e cut d h =
    cut-same place (text_of d.place) arm h.2.0 cut.clear (address-no-space d.place h.1) cut.begins
    (arm-begins d.arm h.2.0 h.2.2)
    (cut.joined ∙ tails 32 32 text (text_of d.place ++ h.2.0) (sym e ∙ h.2.1))

-- there is no choice where there is no arm
pub no-choice-arm : (rest text place arm : List ℕ) → rest ≡ field text → CutAtSpace text place arm → IsNoArm arm → IsNoChoice rest
no-choice-arm rest text place arm e cut none d h =
    none d.arm (subst (IsArm d.arm) (sym (parts rest text place arm e cut d h).1) h.2.2)

-- there is no choice at the root
pub no-choice-root : (rest text place arm : List ℕ) → rest ≡ field text → CutAtSpace text place arm → place ≡ [] → IsNoChoice rest
no-choice-root rest text place arm e cut none d h =
    h.0 (empty-text d.place (sym (parts rest text place arm e cut d h).0 ∙ none))

-- there is no choice where there is no address
pub no-choice-place : (rest text place arm : List ℕ) → rest ≡ field text → CutAtSpace text place arm → HasNoText place → IsNoChoice rest
no-choice-place rest text place arm e cut none d h =
    none d.place (sym (parts rest text place arm e cut d h).0, h.1)

-- an address and an arm are a choice
pub a-choice : (rest text place arm : List ℕ) (a : List Entry) (n : ℕ) → rest ≡ field text → CutAtSpace text place arm
    → (place ≡ [] → ⊥) → IsTextOf a place → IsArm n arm → IsChoice (record { place = a; arm = n }) rest
a-choice rest text place arm a n e cut some read is = (
  λ root. some (sym read.0 ∙ ap text_of root),
  read.1,
  (arm, e ∙ (ap field (sym cut.joined) ∙ ap (λ t. field t ++ arm) (sym read.0)), is),
)

-- what may be a place and an arm may be a choice
pub may-be-choice : {A E : Type 0} (r : Result A E) (rest text place arm : List ℕ) (n : ℕ) → rest ≡ field text → CutAtSpace text place arm
    → (place ≡ [] → ⊥) → IsArm n arm → OnErr r (MayBeChoice rest)
may-be-choice (Ok a) rest text place arm n e cut some is = tt
may-be-choice (Err x) rest text place arm n e cut some is = (text, place, arm, e, cut, some, (n, is))
