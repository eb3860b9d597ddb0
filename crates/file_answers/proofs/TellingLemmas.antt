-- Texts that are written one after another.
use Rattle.std.proofs.Common.{◌≡◌, ℕ, List, ◌++◌, Option, Result, Ok, Err, sym, ap, ◌∙◌, subst, append_assoc}
use Rattle.std.specs.Io.KnownBytes.{Appends}
use Rattle.debug_session.specs.Counting.{WritingStops}
use Rattle.debug_session.specs.declared.fault.Fault.{Fault}
use Rattle.devices.proofs.public.KnownLemmas.{Appends-then}
use Rattle.devices.specs.Counting.{failures}
use Rattle.devices.specs.declared.counted.Counted.{Counted}
use Rattle.debug_session.specs.Counting.{after_writing}
use Rattle.file_answers.specs.Used.{Told, Tells, used}

-- the first text is out, and the second was written so
pub told-then : (u v w : Option (List ℕ)) (first second : List ℕ) (r : Result (Unit {0}) Fault)
    → (given : List ℕ) × Appends u v given × (given ≡ first) → Told second v w r → Told (first ++ second) u w r
told-then u v w first second (Ok x) (a, p, e) (b, q, f) =
    (a ++ b, Appends-then u v w a b p q, ap (λ (t : List ℕ). t ++ b) e ∙ ap (λ (t : List ℕ). first ++ t) f)
told-then u v w first second (Err fault) (a, p, e) (b, q, stops) = (
  a ++ b,
  Appends-then u v w a b p q,
  (
    stops.0,
    (
      stops.1.0,
      ap (λ (t : List ℕ). first ++ t) stops.1.1
          ∙ (ap (λ (t : List ℕ). t ++ (b ++ stops.1.0)) (sym e) ∙ sym (append_assoc a b stops.1.0)),
    ),
  ),
)

-- writing stopped in the first text
pub told-stops : (u v : Option (List ℕ)) (first second : List ℕ) (fault : Fault) (r : Result (Unit {0}) Fault)
    → (given : List ℕ) × Appends u v given × WritingStops first given fault → r ≡ Err fault → Told (first ++ second) u v r
told-stops u v first second fault r (a, p, stops) e =
    subst (λ x. Told (first ++ second) u v x) (sym e)
    (a, p, (stops.0, (stops.1.0 ++ second, ap (λ (t : List ℕ). t ++ second) stops.1.1 ∙ append_assoc a stops.1.0 second)))

-- the first text is out, and behind it the second was written so
pub tells-then : {D : Type 0} (bytes : D → Option (List ℕ)) (before mid behind : Counted D) (first second : List ℕ)
    (ended : Result (Unit {0}) Fault) → Tells first (used bytes before mid) (Ok tt) → Tells second (used bytes mid behind) ended
    → Tells (first ++ second) (used bytes before behind) ended
tells-then bytes before mid behind first second ended whole rest = (
  told-then (bytes before.device) (bytes mid.device) (bytes behind.device) first second ended whole.0 rest.0,
  rest.1 ∙ ap (λ (n : ℕ). after_writing ended n) whole.1,
)

-- writing stopped in the first text
pub tells-stops : {D : Type 0} (bytes : D → Option (List ℕ)) (before behind : Counted D) (first second : List ℕ)
    (fault : Fault) (ended : Result (Unit {0}) Fault) → Tells first (used bytes before behind) (Err fault) → ended ≡ Err fault
    → Tells (first ++ second) (used bytes before behind) ended
tells-stops bytes before behind first second fault ended stopped is = (
  told-stops (bytes before.device) (bytes behind.device) first second fault ended stopped.0 is,
  subst (λ (r : Result (Unit {0}) Fault). failures behind ≡ after_writing r (failures before)) (sym is) stopped.1,
)

-- the same text in other parts
pub tells-same : {D : Type 0} (bytes : D → Option (List ℕ)) (before behind : Counted D) (text whole : List ℕ)
    (ended : Result (Unit {0}) Fault) → text ≡ whole → Tells text (used bytes before behind) ended
    → Tells whole (used bytes before behind) ended
tells-same bytes before behind text whole ended same told =
    subst (λ (t : List ℕ). Tells t (used bytes before behind) ended) same told

-- the end of a line behind two parts
pub ended-pair : (a b end : List ℕ) → a ++ (b ++ end) ≡ (a ++ b) ++ end
ended-pair a b end = sym (append_assoc a b end)

-- the end of a line behind four parts, of which two were written before
pub ended-four : (a b c d end : List ℕ) → (a ++ (b ++ c)) ++ (d ++ end) ≡ (a ++ (b ++ (c ++ d))) ++ end
ended-four a b c d end =
    append_assoc a (b ++ c) (d ++ end)
    ∙ (ap (λ (t : List ℕ). a ++ t) (append_assoc b c (d ++ end) ∙ (ap (λ (t : List ℕ). b ++ t) (sym (append_assoc c d end)) ∙ sym (append_assoc b (c ++ d) end)))
    ∙ sym (append_assoc a (b ++ (c ++ d)) end))
