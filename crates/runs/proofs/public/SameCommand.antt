-- Two moves that are possible at one place come from one command.
use Rattle.std.proofs.Common.{◌≡◌, ℕ, ◌+◌, ◌<◌, ◌∷◌, slice_get, refl, sym, ap, subst, subst₂, ◌∙◌, inl, inr, arith}
use Rattle.address.specs.declared.Entry.{Entry}
use Rattle.address.specs.declared.Entry.TheVariants.{Ordered, Branch}
use Rattle.runs.specs.Moves.{Place, Move, assigns, tests, turns, sends, receives, syncs, opens, releases, closes, Local}
use Rattle.system.specs.Residual.{Residual, done, halted, inside, beside, assign, send, receive, sync, held, loop, while, test, choose, closing, drain}
use Rattle.runs.proofs.public.Options.{some-injective}
use Rattle.runs.proofs.public.WellFormed.{WellFormed}
use Rattle.runs.proofs.public.Kept.{branches-place}

-- one command offers both moves: all but what the partner or the store decides is equal
abbrev pub SameCommand : Move → Move → Type 0
SameCommand (assigns x w e) (assigns y v f) = (x ≡ y) × (w ≡ v) × (e ≡ f)
SameCommand (tests d j) (tests g k) = d ≡ g
SameCommand turns turns = Unit {0}
SameCommand (sends c w e g) (sends d v f h) = (c ≡ d) × (w ≡ v) × (e ≡ f)
SameCommand (receives c x) (receives d y) = (c ≡ d) × (x ≡ y)
SameCommand (syncs c g) (syncs d h) = c ≡ d
SameCommand (opens c j v) (opens d k u) = j ≡ k → c ≡ d
SameCommand (releases c) (releases d) = c ≡ d
SameCommand (closes c) (closes d) = c ≡ d
SameCommand _ _ = ⊥

-- moves that equal moves of one command are of one command
both_are : (m n : Move) {x y : Move} → m ≡ x → n ≡ y → SameCommand x y → SameCommand m n
both_are m n e f h = subst₂ SameCommand (sym e) (sym f) h

-- two places in one child are one
one_place : (x : Entry) (a b c : Place) → a ≡ x ∷ b → a ≡ x ∷ c → c ≡ b
one_place x a b c e f = cc

-- branches with different numbers are different places
two_branches : {P : Type 0} (n j : ℕ) (a b c : Place) → n < j → a ≡ Branch n ∷ b → a ≡ Branch j ∷ c → P
two_branches n j a b c l e f = let d : n ≡ j = cc in absurd (omega arith)

-- two moves that a well-formed residual offers at one place come from one command
pub same_command : (r : Residual) (a : Place) (m n : Move) (q t : Residual) → WellFormed r
    → Local r a m q → Local r a n t → SameCommand m n
same_command done a m n q t w h g = absurd h
same_command halted a m n q t w h g = absurd h
same_command (inside i child next) a m n q t w h g =
    same_command child h.0 m n h.1 g.1 w.0 h.3
    (subst (λ b. Local child b n g.1) (one_place (Ordered i) a h.0 g.0 h.2 g.2) g.3)
same_command (beside i child rest) a m n q t w (inl h) (inl g) =
    same_command child h.0 m n h.1 g.1 w.0 h.3
    (subst (λ b. Local child b n g.1) (one_place (Branch i) a h.0 g.0 h.2 g.2) g.3)
same_command (beside i child rest) a m n q t w (inl h) (inr g) =
    let d = branches-place (i + 1) rest a n g.0 w.2 w.1 g.1 in
    two_branches i d.number a h.0 d.rest (omega arith) h.2 d.is
same_command (beside i child rest) a m n q t w (inr h) (inl g) =
    let d = branches-place (i + 1) rest a m h.0 w.2 w.1 h.1 in
    two_branches i d.number a g.0 d.rest (omega arith) g.2 d.is
same_command (beside i child rest) a m n q t w (inr h) (inr g) = same_command rest a m n h.0 g.0 w.1 h.1 g.1
same_command (assign x v e) a m n q t w h g = both_are m n h.1 g.1 (refl, refl, refl)
same_command (send c v e) a m n q t w h g =
    elim h.1 [
      | inl d ↦ elim g.1 [ inl f ↦ both_are m n d.0 f.0 (refl, refl, refl) | inr f ↦ both_are m n d.0 f.0 (refl, refl, refl) ]
      | inr d ↦ elim g.1 [ inl f ↦ both_are m n d.0 f.0 (refl, refl, refl) | inr f ↦ both_are m n d.0 f.0 (refl, refl, refl) ]
    ]
same_command (receive c x) a m n q t w h g = both_are m n h.1 g.1 (refl, refl)
same_command (sync c) a m n q t w h g =
    elim h.1 [
      | inl d ↦ elim g.1 [ inl f ↦ both_are m n d.0 f.0 refl | inr f ↦ both_are m n d.0 f.0 refl ]
      | inr d ↦ elim g.1 [ inl f ↦ both_are m n d.0 f.0 refl | inr f ↦ both_are m n d.0 f.0 refl ]
    ]
same_command (held c) a m n q t w h g = both_are m n h.1 g.1 refl
same_command (loop k body) a m n q t w h g = both_are m n h.1 g.1 tt
same_command (while k e body) a m n q t w h g =
    elim h.1 [
      | inl d ↦ elim g.1 [ inl f ↦ both_are m n d.0 f.0 refl | inr f ↦ both_are m n d.0 f.0 refl ]
      | inr d ↦ elim g.1 [ inl f ↦ both_are m n d.0 f.0 refl | inr f ↦ both_are m n d.0 f.0 refl ]
    ]
same_command (test c arms) a m n q t w h g =
    elim h.1 [
      | inl d ↦ elim g.1 [ inl f ↦ both_are m n d.1 f.1 refl | inr f ↦ both_are m n d.1 f.0 refl ]
      | inr d ↦ elim g.1 [ inl f ↦ both_are m n d.0 f.1 refl | inr f ↦ both_are m n d.0 f.0 refl ]
    ]
same_command (choose channels arms) a m n q t w h g =
    both_are m n h.5 g.5 (λ e. some-injective h.1 g.1 (sym h.4 ∙ ap (slice_get channels) e ∙ g.4))
same_command (closing c) a m n q t w h g = both_are m n h.1 g.1 refl
same_command (drain c k) a m n q t w h g = both_are m n h.1 g.1 (refl, refl)
