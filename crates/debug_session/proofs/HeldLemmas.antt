-- Answers that are pending.
use Rattle.std.proofs.Common.{◌≡◌, ◌⊎◌, ◌≤◌, ◌+◌, ℕ, List, [], ◌++◌, true, Option, Result, Err, MatchResult, length, length-append, arith, inl, inr, refl, sym, ap, subst, append-nil}
use Rattle.std.specs.Io.KnownBytes.{Appends}
use Rattle.devices.specs.Counting.{IsBeginning}
use Rattle.devices.proofs.public.KnownLemmas.{Appends-then}
use Rattle.debug_session.specs.Counting.{WritesShort}
use Rattle.debug_session.specs.internal.Owing.{WritesAll, WasAtHand, IsHeld, IsHeldAnew}

-- what was pending is out
abbrev pub IsPut : List ℕ → List ℕ → List ℕ → Type 0
IsPut pending pending' given = (given ≡ pending) × (pending' ≡ [])

-- a result that is this error
pub err-with : {A E : Type 0} (P : A → Type 0) (Q : E → Type 0) (r : Result A E) (fault : E) → r ≡ Err fault → Q fault → MatchResult r P Q
err-with P Q r fault is h = subst (λ x. MatchResult x P Q) (sym is) h

-- one text was written, and then another
written-then : {W : Type 0} (written : W → Option (List ℕ)) (unsent : W → ℕ) (w mid w' : W) (one two : List ℕ) → WritesAll written unsent w mid one
    → WritesAll written unsent mid w' two → WritesAll written unsent w w' (one ++ two)
written-then written unsent w mid w' one two (gives, less) (more, fewer) =
    (Appends-then (written w) (written mid) (written w') one two gives more, omega (arith, less, fewer))

-- what was pending is out, and then the answer is held where nothing is pending
pub held-anew : {W : Type 0} (written : W → Option (List ℕ)) (unsent : W → ℕ) (w mid w' : W) (pending pending' bytes answer : List ℕ) → bytes ≡ answer
    → WritesAll written unsent w mid pending → IsHeldAnew written unsent mid w' [] pending' bytes → IsHeldAnew written unsent w w' pending pending' answer
held-anew written unsent w mid w' pending pending' bytes answer all out h =
    subst (IsHeldAnew written unsent w w' pending pending') all
    (elim h [
      | inl alone ↦ inl (
        subst (WritesAll written unsent w w') (append-nil pending) (written-then written unsent w mid w' pending [] out alone.0),
        alone.1,
        alone.2,
      )
      | inr more ↦ inr (written-then written unsent w mid w' pending bytes out more.0, more.1)
    ])

-- a line at hand and its answer, by the bytes that are there
pub held-here : {R A W : Type 0} (buffered : R → List ℕ) (asked : R → A) (written : W → Option (List ℕ)) (unsent : W → ℕ) (now now' : R) (w w' : W)
    (pending pending' text line bytes answer : List ℕ) → text ≡ line → bytes ≡ answer
    → (WasAtHand buffered asked now now' text × IsHeld w w' pending pending' bytes) ⊎ IsHeldAnew written unsent w w' pending pending' bytes
    → ((true ≡ true) × WasAtHand buffered asked now now' line × IsHeld w w' pending pending' answer) ⊎ IsHeldAnew written unsent w w' pending pending' answer
held-here buffered asked written unsent now now' w w' pending pending' text line bytes answer whole all (inl (at_hand, held)) =
    inl (refl, subst (WasAtHand buffered asked now now') whole at_hand, subst (IsHeld w w' pending pending') all held)
held-here buffered asked written unsent now now' w w' pending pending' text line bytes answer whole all (inr h) =
    inr (subst (IsHeldAnew written unsent w w' pending pending') all h)

-- a write that stopped with a beginning given, and was asked for all the rest
pub short-of : {W : Type 0} (written : W → Option (List ℕ)) (unsent wanted : W → ℕ) (w w' : W) (bytes given : List ℕ) → Appends (written w) (written w') given
    → IsBeginning bytes given → (length given + wanted w' ≡ length bytes) × (unsent w' ≤ unsent w + length given) → WritesShort written unsent wanted w w' bytes
short-of written unsent wanted w w' bytes given gives (missing, e) (all, sent) =
    (given, gives, (missing, e, omega (arith, all, ap length e, length-append given missing)), sent)
