-- The live events beside their canonical order.
use Rattle.std.proofs.Common.{◌≡◌, ◌≢◌, ◌⊎◌, inl, inr, ℕ, zero, suc, ◌+◌, ◌<◌, List, [], ◌∷◌, ◌++◌, length, take, drop, get_or, Some, refl, sym, ap, ◌∙◌, subst, arith, append-nil}
use Rattle.std.specs.Prelude.{slice_get}
use Rattle.std.proofs.lemmas.List.{take_all}
use Rattle.syntax.specs.Lists.{In, Every}
use Rattle.system.specs.declared.system.System.{System}
use Rattle.runs.specs.Choices.{choice_of}
use Rattle.runs.specs.Dependence.{Earlier}
use Rattle.runs.specs.Events.{acting}
use Rattle.runs.specs.Live.{Live, events}
use Rattle.runs.specs.Sound.{Sound}
use Rattle.runs.specs.Steps.{State, Run, opening}
use Rattle.runs.specs.declared.event.Choice.{Choice}
use Rattle.runs.specs.declared.event.Event.{Event}
use Rattle.runs.proofs.public.FromOpening.{acting_once}
use Rattle.runs.proofs.public.Lists.{every-in}
use Rattle.runs.proofs.public.Options.{none-some, some-injective}
use Rattle.machine.specs.AtMachine.{AtMachine, object}
use Rattle.trace_file.proofs.public.Stands.{stand-length}
use Rattle.trace_file.specs.Canonical.{IsCanonicalOrder, StandAt}
use Rattle.trace_file.specs.TraceText.{event_line, IsWritable, KeepsOrder}
use Rattle.trace_file.specs.declared.fault.Fault.{Fault}
use Rattle.trace_file.specs.declared.version.Version.TheVariants.{Second}
use Rattle.trace_file.specs.internal.OneStep.{OrderStops, AllAtHome, FirstMoved}
use Rattle.trace_file.proofs.LawLemmas.{canonical-length}
use Rattle.trace_file.proofs.LineLemmas.{step-same}

-- one of the events
events-at : (l : Live) (i t : ℕ) (e : Event) → slice_get l i ≡ Some (t, e) → slice_get (events l) i ≡ Some e
events-at [] i t e h = none-some (t, e) h
events-at (x ∷ l) zero t e h = ap (λ (y : ℕ × Event). Some y.1) (some-injective x (t, e) h)
events-at (x ∷ l) (suc i) t e h = events-at l i t e h

-- one of the events in canonical order, and where it stands
record Stands (l : Live) (places : List ℕ) (i : ℕ) (e : Event) : Type 0 where
  within : i < length places
  ticket : ℕ
  at : slice_get l (get_or places i 0) ≡ Some (ticket, e)

stands-at : (l : Live) (places : List ℕ) (g : List Event) (i : ℕ) (e : Event) → StandAt l places g → slice_get g i ≡ Some e → Stands l places i e
stands-at l [] [] i e s h = none-some e h
stands-at l [] (f ∷ g) i e s h = absurd s
stands-at l (j ∷ places) [] i e s h = absurd s
stands-at l (j ∷ places) (f ∷ g) zero e s h = record {
  within = omega arith;
  ticket = s.0.0;
  at = s.0.1 ∙ ap (λ (x : Event). Some (s.0.0, x)) (some-injective f e h);
}
stands-at l (j ∷ places) (f ∷ g) (suc i) e s h =
    let rest = stands-at l places g i e s.1 h in
    let less : i < length places = rest.within in
    record { within = omega arith; ticket = rest.ticket; at = rest.at }

-- two lists of one length, the elements of one among those of the other up to a place
take-same : (xs ys : List Event) (k : ℕ) → length xs ≡ length ys → ((i : ℕ) (x : Event) → i < k → slice_get xs i ≡ Some x → slice_get ys i ≡ Some x)
    → take k xs ≡ take k ys
take-same xs ys zero long same = refl
take-same [] [] (suc k) long same = refl
take-same [] (y ∷ ys) (suc k) long same = cc
take-same (x ∷ xs) [] (suc k) long same = cc
take-same (x ∷ xs) (y ∷ ys) (suc k) long same =
    let first : y ≡ x = some-injective y x (same 0 x (omega arith) refl) in
    let shorter : length xs ≡ length ys = omega (arith, long) in
    let rest : take k xs ≡ take k ys = take-same xs ys k shorter (λ i z less at. same (suc i) z (omega (arith, less)) at) in
    ap (λ (z : Event). z ∷ take k xs) (sym first) ∙ ap (λ (l : List Event). y ∷ l) rest

-- what stands at home in canonical order stands there in the list
home-at : (l : Live) (places : List ℕ) (g : List Event) (i : ℕ) (e : Event) → StandAt l places g → (i < length places → get_or places i 0 ≡ i)
    → slice_get g i ≡ Some e → slice_get (events l) i ≡ Some e
home-at l places g i e s home h =
    let here = stands-at l places g i e s h in
    events-at l i here.ticket e (subst (λ (n : ℕ). slice_get l n ≡ Some (here.ticket, e)) (home here.within) here.at)

-- as many as the events
as-many : (l : Live) (g : List Event) → IsCanonicalOrder (events l) g → length g ≡ length (events l)
as-many l g c = canonical-length (events l) g c

-- where all stand at home, the events are their own canonical order
pub all-home : (l : Live) (places : List ℕ) → (g : List Event) × IsCanonicalOrder (events l) g × StandAt l places g → AllAtHome places
    → KeepsOrder Second (events l)
all-home l places (g, c, s) home =
    let long : length g ≡ length (events l) = as-many l g c in
    let part : take (length g) g ≡ take (length g) (events l) =
    take-same g (events l) (length g) long (λ i e less at. home-at l places g i e s (home i) at) in
    let one : take (length g) g ≡ g = take_all (length g) g (omega arith) in
    let other : take (length g) (events l) ≡ events l = take_all (length g) (events l) (omega (arith, long)) in
    let same : g ≡ events l = sym one ∙ (part ∙ other) in
    subst (λ (h : List Event). IsCanonicalOrder (events l) h) same c

-- before a place, at it and after it
parts-at : (l : List Event) (i : ℕ) (x : Event) → slice_get l i ≡ Some x → l ≡ take i l ++ x ∷ drop (suc i) l
parts-at [] i x h = none-some x h
parts-at (y ∷ l) zero x h = ap (λ z. z ∷ l) (some-injective y x h)
parts-at (y ∷ l) (suc i) x h = ap (λ (k : List Event). y ∷ k) (parts-at l i x h)

-- there is an element at each place of a list
one-at : (l : List Event) (i : ℕ) → i < length l → (x : Event) × (slice_get l i ≡ Some x)
one-at [] i h = absurd (omega arith)
one-at (y ∷ l) zero h = (y, refl)
one-at (y ∷ l) (suc i) h = let less : i < length l = omega arith in one-at l i less

-- an element at a place
at-in : (l : List Event) (i : ℕ) (x : Event) → slice_get l i ≡ Some x → In x l
at-in [] i x h = none-some x h
at-in (y ∷ l) zero x h = inl (sym (some-injective y x h))
at-in (y ∷ l) (suc i) x h = inr (at-in l i x h)

-- so many are before a place
take-length : (l : List Event) (i : ℕ) (x : Event) → slice_get l i ≡ Some x → length (take i l) ≡ i
take-length [] i x h = none-some x h
take-length (y ∷ l) zero x h = refl
take-length (y ∷ l) (suc i) x h = ap suc (take-length l i x h)

-- two elements at places stand in the order of these
earlier-at : (l : List Event) (i j : ℕ) (x y : Event) → i < j → slice_get l i ≡ Some x → slice_get l j ≡ Some y → Earlier l x y
earlier-at [] i j x y less a b = none-some x a
earlier-at (z ∷ l) i zero x y less a b = absurd (omega (arith, less))
earlier-at (z ∷ l) zero (suc j) x y less a b = inl (some-injective z x a, at-in l j y b)
earlier-at (z ∷ l) (suc i) (suc j) x y less a b = inr (earlier-at l i j x y (omega (arith, less)) a b)

-- of two numbers that are not equal one is less
below-or-above : (i j : ℕ) → i ≢ j → (i < j) ⊎ (j < i)
below-or-above zero zero n = absurd (n refl)
below-or-above zero (suc j) n = inl (omega arith)
below-or-above (suc i) zero n = inr (omega arith)
below-or-above (suc i) (suc j) n = elim (below-or-above i j (λ e. n (ap suc e))) [ inl u ↦ inl (omega (arith, u)) | inr u ↦ inr (omega (arith, u)) ]

-- events at two places of a run have two acting addresses
acts-apart : (system : System) (T : State) (h : List Event) (i j : ℕ) (x y : Event) → Run (opening system) h T → i ≢ j
    → slice_get h i ≡ Some x → slice_get h j ≡ Some y → acting x ≡ acting y → ⊥
acts-apart system T h i j x y r apart a b same =
    elim (below-or-above i j apart) [
      | inl u ↦ acting_once system h T x y r (earlier-at h i j x y u a b) same
      | inr u ↦ acting_once system h T y x r (earlier-at h j i y x u b a) (sym same)
    ]

-- lines that can be written tell the acting addresses apart
lines-apart : (e f : Event) → IsWritable (choice_of e) → IsWritable (choice_of f) → (acting e ≡ acting f → ⊥) → event_line e ≡ event_line f → ⊥
lines-apart e f w v apart same =
    let one : choice_of e ≡ choice_of f =
    (step-same (choice_of e) (choice_of f) (event_line e) [] [] (sym (append-nil (event_line e)), w) (same ∙ sym (append-nil (event_line f)), v)).0 in
    apart (ap (λ (c : Choice). c.place) one)

-- where one does not, the list differs there from its canonical order
pub one-moved : (l : Live) (places : List ℕ) (k n : ℕ) → (g : List Event) × IsCanonicalOrder (events l) g × StandAt l places g
    → (system : System) × (T : State) × Run (opening system) (events l) T → Every (λ e. IsWritable (choice_of e)) (events l) → FirstMoved places k
    → n ≡ k + 2 → OrderStops Second (events l) (Fault.NotCanonical n)
one-moved l places k n (g, c, s) (system, T, r) lines moved number =
    let long : length g ≡ length (events l) = as-many l g c in
    let many : length places ≡ length g = stand-length l places g s in
    let within : k < length places = moved.within in
    let mine = one-at (events l) k (omega (arith, within, many, long)) in
    let other = one-at g k (omega (arith, within, many)) in
    let there = stands-at l places g k other.0 s other.1 in
    let elsewhere : slice_get (events l) (get_or places k 0) ≡ Some other.0 = events-at l (get_or places k 0) there.ticket other.0 there.at in
    let front : take k g ≡ take k (events l) =
    take-same g (events l) k long (λ i e less at. home-at l places g i e s (λ inside. moved.before i less) at) in
    let apart : acting mine.0 ≡ acting other.0 → ⊥ =
    acts-apart system T (events l) k (get_or places k 0) mine.0 other.0 r (λ same. moved.moved (sym same)) mine.1 elsewhere in
    let line : event_line mine.0 ≡ event_line other.0 → ⊥ =
    lines-apart mine.0 other.0
    (every-in (λ e. IsWritable (choice_of e)) (events l) mine.0 lines (at-in (events l) k mine.0 mine.1))
    (every-in (λ e. IsWritable (choice_of e)) (events l) other.0 lines (at-in (events l) (get_or places k 0) other.0 elsewhere))
    apart in
    let size : length (take k (events l)) ≡ k = take-length (events l) k mine.0 mine.1 in (
      refl,
      (
        g,
        c,
        (
          take k (events l),
          mine.0,
          other.0,
          drop (suc k) (events l),
          drop (suc k) g,
          parts-at (events l) k mine.0 mine.1,
          parts-at g k other.0 other.1 ∙ ap (λ (h : List Event). h ++ other.0 ∷ drop (suc k) g) front,
          line,
          omega (arith, number, size),
        ),
      ),
    )

-- the events of a machine run
pub runs-listed : (m : AtMachine) (k : Live) → k ≡ m.live → Sound (object m) → (system : System) × (T : State) × Run (opening system) (events k) T
runs-listed m k same s = (m.checked, s.runs.0, subst (λ (h : Live). Run (opening m.checked) (events h) s.runs.0) (sym same) s.runs.1)
