-- A line with a long place: it is none of an event that acts at a place of fewer entries.
use Rattle.std.proofs.Common.{◌≡◌, ℕ, ◌+◌, ◌*◌, ◌/◌, ◌<◌, ◌≤◌, List, [], ◌∷◌, ◌++◌, length, take, get_or, refl, sym, ap, ◌∙◌, subst, arith, length-append, Bool, false, ◌↔◌, inl, inr}
use Rattle.std.specs.Prelude.{IsTrue}
use Rattle.std.specs.Fmt.{decimal}
use Rattle.std.proofs.lemmas.Bool.{false≢true}
use Rattle.std.proofs.lemmas.Fmt.{length-decimal-le}
use Rattle.machine.proofs.public.Gathering.{take-more, take-all}
use Rattle.syntax.specs.Lists.{Every}
use Rattle.address.specs.declared.Entry.{Entry}
use Rattle.address.specs.declared.Entry.TheVariants.{Ordered, Branch}
use Rattle.address.specs.Text.{text_of}
use Rattle.address.specs.Reading.{NumbersFit, IsTextOf, HasNoText}
use Rattle.address.specs.internal.Entries.{ReadsEntry, BeginsNoEntry}
use Rattle.address.proofs.public.Finds.{Pending, pending-more, pending-stuck, pending-end}
use Rattle.runs.proofs.public.Lists.{every-in}
use Rattle.runs.specs.Events.{acting}
use Rattle.runs.specs.Object.{Reaches}
use Rattle.runs.specs.Ready.{ReadyList, ChoiceAllowed}
use Rattle.runs.specs.Steps.{State}
use Rattle.runs.specs.declared.command.Refusal.{Refusal}
use Rattle.runs.specs.declared.event.Choice.{Choice}
use Rattle.runs.specs.declared.event.Event.{Event}
use Rattle.machine.specs.AtMachine.{AtMachine, object}
use Rattle.trace_file.specs.declared.fault.Fault.{Fault}
use Rattle.trace_file.specs.internal.OneStep.{LineStops, RefusesLong}
use Rattle.trace_file.specs.internal.Fields.{AreFields, IsArm, IsNoArm}
use Rattle.trace_file.proofs.EventLemmas.{every-more}
use Rattle.trace_file.proofs.LineLemmas.{a-step, no-step-arm, no-step-place}

-- an entry has eleven bytes at most
text-bytes : (a : List Entry) → NumbersFit a → length (text_of a) ≤ 11 * length a
text-bytes [] h = omega arith
text-bytes (Ordered i ∷ a) h =
    let number : length (decimal i) ≤ 10 = length-decimal-le 10 i (omega arith) (omega (arith, h.0)) (omega (arith, h.0)) in
    omega (arith, number, length-append (decimal i) (text_of a), text-bytes a h.1)
text-bytes (Branch i ∷ a) h =
    let number : length (decimal i) ≤ 10 = length-decimal-le 10 i (omega arith) (omega (arith, h.0)) (omega (arith, h.0)) in
    omega (arith, number, length-append (decimal i) (text_of a), text-bytes a h.1)

-- the event acts at a place of fewer entries
abbrev pub IsShallow : ℕ → Event → Type 0
IsShallow depth e = length (acting e) < depth

-- one event more of a list acts so
pub shallow-more : (depth : ℕ) (es : List Event) (i : ℕ) (e : Event) → Every (IsShallow depth) (take i es) → i < length es
    → e ≡ get_or es i e → length (acting e) < depth → Every (IsShallow depth) (take (i + 1) es)
shallow-more depth es i e h within is less =
    subst (λ (k : List Event). Every (IsShallow depth) k)
    (sym (take-more es i e within is))
    (every-more (IsShallow depth) (take i es) e h less)

-- all of it do
pub shallow-all : (depth : ℕ) (es : List Event) (i : ℕ) → Every (IsShallow depth) (take i es) → length es ≤ i → Every (IsShallow depth) es
shallow-all depth es i h past = subst (λ (k : List Event). Every (IsShallow depth) k) (take-all es i past) h

-- no event has a place whose text is too long for all of them
none-so-deep : (T : State) (es : List Event) (place : List ℕ) (c : Choice) → ReadyList T es → Every (IsShallow (length place / 11)) es
    → IsTextOf c.place place → ChoiceAllowed T c → ⊥
none-so-deep T es place c ready shallow is allowed =
    let here : length (acting allowed.0) < length place / 11 =
    every-in (IsShallow (length place / 11)) es allowed.0 shallow ((ready.exactly allowed.0).1 allowed.1) in
    let same : length (acting allowed.0) ≡ length c.place = ap (λ (d : Choice). length d.place) allowed.2 in
    let bytes : length place ≤ 11 * length c.place = subst (λ (t : List ℕ). length t ≤ 11 * length c.place) is.0 (text-bytes c.place is.1) in
    omega (arith, here, same, bytes)

-- why a line with a long place is refused
pub long-place : (m : AtMachine) (text place arm after : List ℕ) (es : List Event) (T : State) (n number : ℕ) → AreFields text place arm after
    → 65536 < length place → Reaches (object m) T → ReadyList T es → Every (IsShallow (length place / 11)) es → IsArm n arm
    → (a : List Entry) × IsTextOf a place → LineStops m text number (Fault.NotAStep number)
long-place m text place arm after es T n number f long reaches ready shallow is (a, t) =
    let c : Choice = record { place = a; arm = n } in (
      refl,
      (
        c,
        after,
        m,
        a-step text place arm after a n f (λ e. omega (arith, long, ap (λ (x : List ℕ). length x) e)) t is,
        (Refusal.NotReady, ((T, reaches, none-so-deep T es place c ready shallow t), refl)),
      ),
    )

-- why a line with a long place is refused, by its fields
pub long-refused : (m : AtMachine) (text place arm after : List ℕ) (es : List Event) (T : State) (number : ℕ) (fault : Fault) → AreFields text place arm after
    → 65536 < length place → Reaches (object m) T → ReadyList T es → Every (IsShallow (length place / 11)) es → RefusesLong place arm number fault
    → LineStops m text number fault
long-refused m text place arm after es T number (Fault.BadLine n) f long reaches ready shallow (is, inl none) = (is, no-step-arm text place arm after f none)
long-refused m text place arm after es T number (Fault.BadLine n) f long reaches ready shallow (is, inr none) = (is, no-step-place text place arm after f none)
long-refused m text place arm after es T number (Fault.NotAStep n) f long reaches ready shallow (is, k, a) =
    (is, (long-place m text place arm after es T k.0 number f long reaches ready shallow k.1 a).1)
long-refused m text place arm after es T number _ f long reaches ready shallow h = absurd h

-- a text that is found to be none of a place is none
pub other-place : (place : List ℕ) (r : Bool) → (IsTrue r ↔ ((a : List Entry) × IsTextOf a place)) → r ≡ false → HasNoText place
other-place place r is fails-it a t = false≢true (sym fails-it ∙ is.1 (a, t))

-- entries were passed, and an address with this text goes on from them with the rest
abbrev pub Passed : List ℕ → List ℕ → Type 0
Passed text rest = (found : List Entry) × Pending text found rest

-- one entry more
pub passed-more : (text rest after : List ℕ) → Passed text rest → (e : Entry) × ReadsEntry rest e after → Passed text after
passed-more text rest after p r = (p.0 ++ r.0 ∷ [], pending-more text p.0 rest r.0 after p.1 r.1)

-- an entry has bytes
pub entry-bytes : (rest after : List ℕ) → (e : Entry) × ReadsEntry rest e after → length after < length rest
entry-bytes rest after (Ordered i, r) = omega (arith, length-append (decimal i) after, ap (λ (t : List ℕ). length t) r.1)
entry-bytes rest after (Branch i, r) = omega (arith, length-append (decimal i) after, ap (λ (t : List ℕ). length t) r.1)

-- no address has the text where the rest begins with no entry
pub passed-stuck : (text rest : List ℕ) → Passed text rest → (rest ≡ [] → ⊥) → BeginsNoEntry rest → HasNoText text
passed-stuck text rest p some none = pending-stuck text p.0 rest p.1 some none

-- an address has it where nothing is left
pub passed-end : (text rest : List ℕ) → Passed text rest → rest ≡ [] → (a : List Entry) × IsTextOf a text
passed-end text rest p e = (p.0, pending-end text p.0 rest p.1 e)

-- what was passed is no address, where no entry goes on
pub not-passed : (text rest : List ℕ) → Passed text rest → (rest ≡ [] → ⊥) → BeginsNoEntry rest
    → (IsTrue false → (a : List Entry) × IsTextOf a text) × (((a : List Entry) × IsTextOf a text) → IsTrue false)
not-passed text rest p some none = ((λ h. absurd (false≢true h)), (λ h. absurd (passed-stuck text rest p some none h.0 h.1)))
