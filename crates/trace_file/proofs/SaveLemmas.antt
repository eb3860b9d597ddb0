-- The trace of the live events, written event by event.
use Rattle.std.proofs.Common.{◌≡◌, ◌≢◌, ℕ, zero, suc, ◌+◌, ◌≤◌, ◌<◌, ◌^◌, List, [], ◌∷◌, ◌++◌, length, take, get_or, Some, sym, ap, ◌∙◌, subst, arith, append_assoc, append-nil}
use Rattle.std.specs.Prelude.{slice_get}
use Rattle.syntax.specs.Lists.{Every}
use Rattle.address.specs.Reading.{EntryFits, NumbersFit}
use Rattle.address.specs.declared.Entry.{Entry}
use Rattle.runs.specs.Choices.{choice_of}
use Rattle.runs.specs.Events.{acting}
use Rattle.runs.specs.Live.{Live, events}
use Rattle.runs.specs.Steps.{State, Run, opening}
use Rattle.runs.specs.declared.event.Event.{Event}
use Rattle.trace_file.proofs.public.Canonicals.{canonical-rearranged}
use Rattle.trace_file.proofs.public.Stands.{stand-length, stand-one}
use Rattle.trace_file.specs.Canonical.{IsCanonicalOrder, StandAt}
use Rattle.system.specs.declared.system.System.{System}
use Rattle.std.specs.List.{flat_map}
use Rattle.runs.proofs.public.Elements.{rearranged-in}
use Rattle.runs.proofs.public.Lists.{every-in, every-of}
use Rattle.trace_file.specs.declared.version.Version.TheVariants.{Second}
use Rattle.trace_file.specs.TraceText.{header_of, trace_text, event_line, IsTrace, IsWritable}
use Rattle.trace_file.proofs.EventLemmas.{every-more, lines-more}
use Rattle.trace_file.proofs.RootLemmas.{never-at-root}
use Rattle.runs.proofs.public.Options.{none-some, some-injective}
use Rattle.std.proofs.lemmas.List.{take_all, take_more}
use Rattle.std.proofs.lemmas.List.Concat.{flat_map-append}
use Rattle.address.specs.Text.{entry_text, text_of}

-- the line of an event can be written, but that it may act at the root
abbrev pub HasNumbers : Event → Type 0
HasNumbers e = NumbersFit (choice_of e).place × ((choice_of e).arm < 2 ^ 32)

-- the lines of the events at the places passed were written
pub record Written (out : List ℕ) (l : Live) (places : List ℕ) (i : ℕ) : Type 0 where
  pub text : (g : List Event) → StandAt l places g → out ≡ trace_text Second (take i g)
  pub numbers : (g : List Event) → StandAt l places g → Every HasNumbers (take i g)

-- one more is taken
take-next : (g : List Event) (i : ℕ) (x : Event) → slice_get g i ≡ Some x → take (suc i) g ≡ take i g ++ x ∷ []
take-next [] i x h = none-some x h
take-next (y ∷ g) zero x h = ap (λ z. z ∷ []) (some-injective y x h)
take-next (y ∷ g) (suc i) x h = ap (λ (k : List Event). y ∷ k) (take-next g i x h)

-- the header is written
pub written-none : (out start bytes : List ℕ) (l : Live) (places : List ℕ) → start ≡ [] → out ≡ start ++ bytes → bytes ≡ trace_text Second []
    → Written out l places 0
written-none out start bytes l places none is same = record {
  text = λ g s. is ∙ (ap (λ (t : List ℕ). t ++ bytes) none ∙ same);
  numbers = λ g s. tt;
}

-- the text of one event more
text-more : (h : List Event) (e : Event) → trace_text Second (h ++ e ∷ []) ≡ trace_text Second h ++ event_line e
text-more h e =
    ap (λ (t : List ℕ). header_of Second ++ 10 ∷ t) (lines-more h e) ∙ sym (append_assoc (header_of Second) (10 ∷ flat_map event_line h) (event_line e))

-- one line more is written
pub written-more : (out more : List ℕ) (l : Live) (places : List ℕ) (i d t : ℕ) (e : Event) → Written out l places i → i < length places
    → slice_get l (get_or places i d) ≡ Some (t, e) → more ≡ out ++ event_line e → HasNumbers e → Written more l places (i + 1)
written-more out more l places i d t e w within at is numbers =
    let next : i + 1 ≡ suc i = omega arith in
    let taken : (g : List Event) → StandAt l places g → take (i + 1) g ≡ take i g ++ e ∷ [] =
    λ g s. ap (λ (n : ℕ). take n g) next ∙ take-next g i e (stand-one l places g i d t e s within at) in
    record {
      text = λ g s. is
          ∙ (ap (λ (x : List ℕ). x ++ event_line e) (w.text g s)
          ∙ (sym (text-more (take i g) e) ∙ ap (λ (h : List Event). trace_text Second h) (sym (taken g s))));
      numbers = λ g s. subst (λ (h : List Event). Every HasNumbers h) (sym (taken g s)) (every-more HasNumbers (take i g) e (w.numbers g s) numbers);
    }

-- numbers and a place other than the root
both-hold : (h : List Event) → Every HasNumbers h → Every (λ e. acting e ≢ []) h → Every (λ e. IsWritable (choice_of e)) h
both-hold [] n r = tt
both-hold (e ∷ h) n r = ((r.0, n.0.0, n.0.1), both-hold h n.1 r.1)

-- all lines are written
all-taken : (l : Live) (places : List ℕ) (i : ℕ) (g : List Event) → StandAt l places g → length places ≤ i → take i g ≡ g
all-taken l places i g s many = take_all i g (omega (arith, stand-length l places g s, many))

-- the trace is written
pub written-whole : (out : List ℕ) (l : Live) (places : List ℕ) (i : ℕ) → Written out l places i → length places ≤ i
    → (g : List Event) × IsCanonicalOrder (events l) g × StandAt l places g → IsTrace (events l) out
written-whole out l places i w many (g, c, s) =
    (g, c, w.text g s ∙ ap (λ (h : List Event). trace_text Second h) (all-taken l places i g s many))

-- its lines can be written
pub lines-whole : (out : List ℕ) (l : Live) (places : List ℕ) (i : ℕ) → Written out l places i → length places ≤ i
    → (g : List Event) × IsCanonicalOrder (events l) g × StandAt l places g → (system : System) × (T : State) × Run (opening system) (events l) T
    → Every (λ e. IsWritable (choice_of e)) (events l)
lines-whole out l places i w many (g, c, s) (system, T, r) =
    let numbers : Every HasNumbers g = subst (λ (h : List Event). Every HasNumbers h) (all-taken l places i g s many) (w.numbers g s) in
    both-hold (events l)
    (every-of HasNumbers (events l) (λ e i. every-in HasNumbers g e numbers (rearranged-in g (events l) e (canonical-rearranged (events l) g c) i)))
    (never-at-root system T (events l) r)

-- the numbers of one entry more have 32 bits
pub numbers-more : (a : List Entry) (e : Entry) → NumbersFit a → EntryFits e → NumbersFit (a ++ e ∷ [])
numbers-more [] e h k = (k, tt)
numbers-more (x ∷ a) e h k = (h.0, numbers-more a e h.1 k)

-- one entry more of a place is written
pub place-more : (out more start : List ℕ) (a : List Entry) (i : ℕ) (d : Entry) → i < length a
    → (out ≡ start ++ text_of (take i a)) × NumbersFit (take i a) → more ≡ out ++ entry_text (get_or a i d) → EntryFits (get_or a i d)
    → (more ≡ start ++ text_of (take (i + 1) a)) × NumbersFit (take (i + 1) a)
place-more out more start a i d within w is fits =
    let taken : take (i + 1) a ≡ take i a ++ get_or a i d ∷ [] = take_more a i d within in (
      is
          ∙ (ap (λ (t : List ℕ). t ++ entry_text (get_or a i d)) w.0
          ∙ (append_assoc start (text_of (take i a)) (entry_text (get_or a i d))
          ∙ ap (λ (t : List ℕ). start ++ t)
          (ap (λ (t : List ℕ). text_of (take i a) ++ t) (sym (append-nil (entry_text (get_or a i d))))
          ∙ (sym (flat_map-append entry_text (take i a) (get_or a i d ∷ [])) ∙ ap text_of (sym taken))))),
      subst NumbersFit (sym taken) (numbers-more (take i a) (get_or a i d) w.1 fits),
    )
