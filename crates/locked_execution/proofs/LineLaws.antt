-- The lines that have a breakpoint once one is set or cleared.
use Rattle.std.proofs.Common.{◌≡◌, ◌≢◌, ◌⊎◌, ◌↔◌, inl, inr, ℕ, ◌==◌, List, [], ◌∷◌, Bool, true, false, cond, not, refl, sym, ◌∙◌, eqb-true, eq-eqb}
use Rattle.std.specs.Prelude.{nat_lt}
use Rattle.syntax.specs.Lists.{In}
use Rattle.machine.specs.Breakpoints.{with_line, without_line}

-- a line among them is the new one or was there
set-to : (line : ℕ) (lines : List ℕ) (n : ℕ) → In n (with_line line lines) → (n ≡ line) ⊎ In n lines
set-to line [] n i = i
set-to line (held ∷ lines) n i = by_less (nat_lt held line) (λ j. set-to line lines n j) i
  where
    by_same : (b : Bool) → In n (cond b (held ∷ lines) (line ∷ held ∷ lines)) → (n ≡ line) ⊎ In n (held ∷ lines)
    by_same true j = inr j
    by_same false j = j

    by_less : (b : Bool) → (In n (with_line line lines) → (n ≡ line) ⊎ In n lines) →
        In n (cond b (held ∷ with_line line lines) (cond (held == line) (held ∷ lines) (line ∷ held ∷ lines))) → (n ≡ line) ⊎ In n (held ∷ lines)
    by_less true more (inl e) = inr (inl e)
    by_less true more (inr j) = elim (more j) [ inl e ↦ inl e | inr there ↦ inr (inr there) ]
    by_less false more j = by_same (held == line) j

-- the new one is there, and so is each that was
set-from : (line : ℕ) (lines : List ℕ) (n : ℕ) → (n ≡ line) ⊎ In n lines → In n (with_line line lines)
set-from line [] n i = i
set-from line (held ∷ lines) n i = by_less (nat_lt held line) (λ j. set-from line lines n j) i
  where
    by_same : (b : Bool) → (held == line) ≡ b → (n ≡ line) ⊎ In n (held ∷ lines) → In n (cond b (held ∷ lines) (line ∷ held ∷ lines))
    by_same true is (inl e) = inl (e ∙ sym (eqb-true held line is))
    by_same true is (inr j) = j
    by_same false is j = j

    by_less : (b : Bool) → ((n ≡ line) ⊎ In n lines → In n (with_line line lines)) → (n ≡ line) ⊎ In n (held ∷ lines) →
        In n (cond b (held ∷ with_line line lines) (cond (held == line) (held ∷ lines) (line ∷ held ∷ lines)))
    by_less true more (inl e) = inr (more (inl e))
    by_less true more (inr (inl e)) = inl e
    by_less true more (inr (inr there)) = inr (more (inr there))
    by_less false more j = by_same (held == line) refl j

pub line-in : (line : ℕ) (lines : List ℕ) (n : ℕ) → In n (with_line line lines) ↔ ((n ≡ line) ⊎ In n lines)
line-in line lines n = (set-to line lines n, set-from line lines n)

-- what the test of a line says
apart : (held line : ℕ) → not (held == line) ≡ true → held ≢ line
apart held line is same = by_test (held == line) refl is
  where
    by_test : (b : Bool) → (held == line) ≡ b → not b ≡ true → ⊥
    by_test true e h = cc
    by_test false e h = let test : (held == line) ≡ true = eq-eqb held line same in cc

together : (held line : ℕ) → not (held == line) ≡ false → held ≡ line
together held line is = by_test (held == line) refl is
  where
    by_test : (b : Bool) → (held == line) ≡ b → not b ≡ false → held ≡ line
    by_test true e h = eqb-true held line e
    by_test false e h = cc

-- a line that is left is another one, and was there
cleared-to : (line : ℕ) (lines : List ℕ) (n : ℕ) → In n (without_line line lines) → (n ≢ line) × In n lines
cleared-to line [] n i = absurd i
cleared-to line (held ∷ lines) n i = pick (not (held == line)) refl (λ j. cleared-to line lines n j) i
  where
    pick : (b : Bool) → not (held == line) ≡ b → (In n (without_line line lines) → (n ≢ line) × In n lines) →
        In n (cond b (held ∷ without_line line lines) (without_line line lines)) → (n ≢ line) × In n (held ∷ lines)
    pick true is more (inl e) = ((λ same. apart held line is (sym e ∙ same)), inl e)
    pick true is more (inr j) = let left = more j in (left.0, inr left.1)
    pick false is more j = let left = more j in (left.0, inr left.1)

-- each other that was there is left
cleared-from : (line : ℕ) (lines : List ℕ) (n : ℕ) → (n ≢ line) × In n lines → In n (without_line line lines)
cleared-from line [] n i = absurd i.1
cleared-from line (held ∷ lines) n i = pick (not (held == line)) refl (λ j. cleared-from line lines n j) i.0 i.1
  where
    pick : (b : Bool) → not (held == line) ≡ b → ((n ≢ line) × In n lines → In n (without_line line lines)) → n ≢ line → In n (held ∷ lines) →
        In n (cond b (held ∷ without_line line lines) (without_line line lines))
    pick true is more other (inl e) = inl e
    pick true is more other (inr j) = inr (more (other, j))
    pick false is more other (inl e) = absurd (other (e ∙ together held line is))
    pick false is more other (inr j) = more (other, j)

pub line-out : (line : ℕ) (lines : List ℕ) (n : ℕ) → In n (without_line line lines) ↔ ((n ≢ line) × In n lines)
line-out line lines n = (cleared-to line lines n, cleared-from line lines n)
