-- Bytes of one line have as many lines before them.
use Rattle.std.proofs.Common.{◌≡◌, ◌≢◌, inl, inr, ℕ, zero, suc, ◌+◌, ◌-◌, ◌<◌, ◌≤◌, false, true, List, length, Some, ◌∙◌, ap, subst, arith}
use Rattle.std.specs.Prelude.{◌==◌, IfOk, Result, Ok, Err, slice_index}
use Rattle.std.proofs.lemmas.Bool.Decides.{eqb_tells}
use Rattle.std.proofs.lemmas.List.Sums.{count_by_more_no}
use Rattle.source_places.specs.Places.{HasNoLine, ends_before, line_end}
use Rattle.findings.specs.Marking.{TellsMarked}
use Rattle.findings.specs.declared.finding.Finding.{Finding}
use Rattle.findings.specs.declared.finding.Input.{Input}
use Rattle.diagnosis.specs.Told.{TellsLine}

is_other : (byte : ℕ) → byte ≢ line_end → (byte == line_end) ≡ false
is_other byte other = elim (eqb_tells byte line_end) [
  | inl same ↦ absurd (other same.1)
  | inr told ↦ told.0
]

ends_on : (text : List ℕ) (start n : ℕ) → start + n ≤ length text
    → ((k : ℕ) → start ≤ k → k < start + n → slice_index text k ≢ line_end)
    → ends_before text (start + n) ≡ ends_before text start
ends_on text start zero fits inside = ap (ends_before text) (omega arith)
ends_on text start (suc n) fits inside =
    let next : start + suc n ≡ (start + n) + 1 = omega arith in
    ap (ends_before text) next
    ∙ count_by_more_no (λ b. b == line_end) text (start + n) 0 (omega (arith, fits))
    (is_other (slice_index text (start + n)) (inside (start + n) (omega arith) (omega (arith, fits))))
    ∙ ends_on text start n (omega (arith, fits)) (λ k from below. inside k from (omega (arith, below)))

pub same_line : (text : List ℕ) (start at stop : ℕ) → start ≤ at → at ≤ stop → stop ≤ length text
    → ((k : ℕ) → start ≤ k → k < stop → slice_index text k ≢ line_end)
    → ends_before text at ≡ ends_before text start
same_line text start at stop from below fits inside =
    let is : start + (at - start) ≡ at = omega (arith, from) in
    subst (λ n. ends_before text n ≡ ends_before text start) is
    (ends_on text start (at - start) (omega (arith, is, below, fits))
    (λ k after before. inside k after (omega (arith, is, before, below))))

-- a finding that is moved to another byte
abbrev pub starts_at : ℕ → Finding → Finding
starts_at start finding = record {
  alloc = finding.alloc;
  start = start;
  stop = finding.stop;
  what = finding.what;
  help = finding.help;
  beside = finding.beside;
}

-- what is told of a byte in a line is told of that line
pub told_in_line : (input : Input) (start stop : ℕ) (finding : Finding) (told : List ℕ)
    → TellsMarked input.name.now input.bytes.now true finding told → start ≤ finding.start → finding.start ≤ stop
    → stop ≤ length input.bytes.now → ((k : ℕ) → start ≤ k → k < stop → slice_index input.bytes.now k ≢ line_end)
    → TellsLine (Some input) (ends_before input.bytes.now start + 1) told
told_in_line input start stop finding told tells from below fits inside some few = (
  finding.start,
  ap (λ n. n + 1) (same_line input.bytes.now start finding.start stop from below fits inside),
  (finding, omega (arith, below, fits), tells),
)

-- what is told of whatever comes
pub whatever : {X E : Type 0} (r : Result X E) (P : X → Type 0) → ((x : X) → P x) → IfOk r P
whatever (Ok x) P h = h x
whatever (Err e) P h = tt

-- where the text has no such line, nothing is claimed
pub no_line : (input : Input) (line : ℕ) (told : List ℕ) → HasNoLine input.bytes.now line → TellsLine (Some input) line told
no_line input line told none some few = absurd (omega (arith, few, none some))

pub line_is : (input : Input) (start line : ℕ) (told : List ℕ) → ends_before input.bytes.now start + 1 ≡ line
    → TellsLine (Some input) (ends_before input.bytes.now start + 1) told → TellsLine (Some input) line told
line_is input start line told e h = subst (λ (n : ℕ). TellsLine (Some input) n told) e h
