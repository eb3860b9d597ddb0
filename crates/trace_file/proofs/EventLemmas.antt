-- Lists of events with their lines and tickets.
use Rattle.std.proofs.Common.{◌≡◌, ℕ, suc, ◌+◌, List, [], ◌∷◌, ◌++◌, length, refl, ap, ◌∙◌, arith, append-nil, length-append}
use Rattle.std.specs.List.{flat_map}
use Rattle.std.proofs.lemmas.List.Concat.{flat_map-append}
use Rattle.syntax.specs.Lists.{Every}
use Rattle.runs.specs.Live.{Live, events}
use Rattle.runs.specs.declared.event.Event.{Event}
use Rattle.trace_file.specs.TraceText.{event_line}
use Rattle.trace_file.specs.Loading.{ticketed}

-- what holds of every element and of one more
pub every-more : {X : Type 0} (P : X → Type 0) (xs : List X) (x : X) → Every P xs → P x → Every P (xs ++ x ∷ [])
every-more P [] x h p = (p, tt)
every-more P (y ∷ xs) x h p = (h.0, every-more P xs x h.1 p)

-- how many live events there are
pub events-length : (l : Live) → length (events l) ≡ length l
events-length [] = refl
events-length (x ∷ l) = ap suc (events-length l)

-- the events under the tickets from one on are the events
pub ticketed-events : (t : ℕ) (h : List Event) → events (ticketed t h) ≡ h
ticketed-events t [] = refl
ticketed-events t (e ∷ h) = ap (λ (k : List Event). e ∷ k) (ticketed-events (suc t) h)

-- the tickets of one event more
pub ticketed-more : (t : ℕ) (h : List Event) (e : Event) → ticketed t (h ++ e ∷ []) ≡ ticketed t h ++ (t + length h, e) ∷ []
ticketed-more t [] e = ap (λ (n : ℕ). (n, e) ∷ []) (omega arith)
ticketed-more t (f ∷ h) e =
    let number : suc t + length h ≡ t + suc (length h) = omega arith in
    ap (λ (l : Live). (t, f) ∷ l) (ticketed-more (suc t) h e ∙ ap (λ (n : ℕ). ticketed (suc t) h ++ (n, e) ∷ []) number)

-- one more is in number
pub length-more : (h : List Event) (e : Event) → length (h ++ e ∷ []) ≡ suc (length h)
length-more h e = omega (arith, length-append h (e ∷ []))

-- the lines of one event more
pub lines-more : (h : List Event) (e : Event) → flat_map event_line (h ++ e ∷ []) ≡ flat_map event_line h ++ event_line e
lines-more h e =
    flat_map-append event_line h (e ∷ []) ∙ ap (λ (t : List ℕ). flat_map event_line h ++ t) (append-nil (event_line e))
