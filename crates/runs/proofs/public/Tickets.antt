-- Tickets that rise: where they lie, that each names one event, and that lists of them join.
use Rattle.std.proofs.Common.{◌≡◌, ◌⊎◌, inl, inr, ℕ, suc, ◌<◌, ◌≤◌, List, [], ◌∷◌, ◌++◌, refl, sym, ◌∙◌, ap, arith}
use Rattle.syntax.specs.Lists.{In}
use Rattle.runs.specs.Live.{Live, events, Rising, LiveAt}
use Rattle.runs.specs.declared.event.Event.{Event}
use Rattle.runs.proofs.public.Lists.{in-left, in-right, in-parts}

-- the lower bound is not past the upper one
pub rising-le : (low next : ℕ) (l : Live) → Rising low l next → low ≤ next
rising-le low next [] r = r
rising-le low next (x ∷ l) r = let rest = rising-le (suc x.0) next l r.1 in let first : low ≤ x.0 = r.0 in omega arith

pub rising-lower : (low from next : ℕ) (l : Live) → low ≤ from → Rising from l next → Rising low l next
rising-lower low from next [] h r = omega arith
rising-lower low from next (x ∷ l) h r = let first : from ≤ x.0 = r.0 in (omega arith, r.1)

pub rising-upper : (low next upto : ℕ) (l : Live) → next ≤ upto → Rising low l next → Rising low l upto
rising-upper low next upto [] h r = omega arith
rising-upper low next upto (x ∷ l) h r = (r.0, rising-upper (suc x.0) next upto l h r.1)

-- a live ticket is within the bounds
pub rising-in : (low next : ℕ) (l : Live) (t : ℕ) (e : Event) → Rising low l next → LiveAt l t e → (low ≤ t) × (t < next)
rising-in low next [] t e r i = absurd i
rising-in low next (x ∷ l) t e r i =
    let first : low ≤ x.0 = r.0 in
    let rest = rising-le (suc x.0) next l r.1 in
    elim i [
      | inl same ↦ let one : t ≡ x.0 = ap (λ (y : ℕ × Event). y.0) same in (omega arith, omega arith)
      | inr later ↦ let within = rising-in (suc x.0) next l t e r.1 later in
          let above : suc x.0 ≤ t = within.0 in (omega arith, within.1)
    ]

-- a ticket names one event
pub rising-one : (low next : ℕ) (l : Live) (t : ℕ) (e f : Event) → Rising low l next → LiveAt l t e → LiveAt l t f → e ≡ f
rising-one low next [] t e f r i j = absurd i
rising-one low next (x ∷ l) t e f r i j =
    elim i [
      | inl a ↦ elim j [
        | inl b ↦ ap (λ (y : ℕ × Event). y.1) (a ∙ sym b)
        | inr b ↦
            let one : t ≡ x.0 = ap (λ (y : ℕ × Event). y.0) a in
            let above : suc x.0 ≤ t = (rising-in (suc x.0) next l t f r.1 b).0 in
            absurd (omega arith)
      ]
      | inr a ↦ elim j [
        | inl b ↦
            let one : t ≡ x.0 = ap (λ (y : ℕ × Event). y.0) b in
            let above : suc x.0 ≤ t = (rising-in (suc x.0) next l t e r.1 a).0 in
            absurd (omega arith)
        | inr b ↦ rising-one (suc x.0) next l t e f r.1 a b
      ]
    ]

-- two lists whose tickets rise, one above the other
pub rising-join : (low between next : ℕ) (l m : Live) → Rising low l between → Rising between m next → Rising low (l ++ m) next
rising-join low between next [] m r s = rising-lower low between next m r s
rising-join low between next (x ∷ l) m r s = (r.0, rising-join (suc x.0) between next l m r.1 s)

-- a list with one more under the next ticket
pub rising-more : (low next : ℕ) (l : Live) (e : Event) → Rising low l next → Rising low (l ++ (next, e) ∷ []) (suc next)
rising-more low next [] e r = (r, omega arith)
rising-more low next (x ∷ l) e r = (r.0, rising-more (suc x.0) next l e r.1)

-- the two parts of a list whose tickets rise
pub rising-parts : (low next : ℕ) (l m : Live) → Rising low (l ++ m) next → (between : ℕ) × Rising low l between × Rising between m next
rising-parts low next [] m r = (low, omega arith, r)
rising-parts low next (x ∷ l) m r = let rest = rising-parts (suc x.0) next l m r.1 in (rest.0, (r.0, rest.1), rest.2)

-- the entries of two lists joined
pub live-left : (l m : Live) (x : ℕ × Event) → In x l → In x (l ++ m)
live-left l m x i = in-left x l m i

pub live-right : (l m : Live) (x : ℕ × Event) → In x m → In x (l ++ m)
live-right l m x i = in-right x l m i

pub live-parts : (l m : Live) (x : ℕ × Event) → In x (l ++ m) → In x l ⊎ In x m
live-parts l m x i = in-parts x l m i

pub events-join : (l m : Live) → events (l ++ m) ≡ events l ++ events m
events-join [] m = refl
events-join (x ∷ l) m = ap (λ (h : List Event). x.1 ∷ h) (events-join l m)

-- a live event is one of the events
pub event-in : (l : Live) (t : ℕ) (e : Event) → LiveAt l t e → In e (events l)
event-in [] t e i = absurd i
event-in (x ∷ l) t e i = elim i [ inl u ↦ inl (ap (λ (y : ℕ × Event). y.1) u) | inr u ↦ inr (event-in l t e u) ]

-- one of the events is live under a ticket
pub in-event : (l : Live) (e : Event) → In e (events l) → (t : ℕ) × LiveAt l t e
in-event [] e i = absurd i
in-event (x ∷ l) e i =
    elim i [
      | inl u ↦ (x.0, inl (ap (λ (f : Event). (x.0, f)) u))
      | inr u ↦ let rest = in-event l e u in (rest.0, inr rest.1)
    ]
