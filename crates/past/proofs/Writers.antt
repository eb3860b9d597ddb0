-- The step that is told beside a value that was read is the last one before that wrote the variable.
use Rattle.std.proofs.Common.{◌≡◌, ◌≢◌, ◌⊎◌, inl, inr, ℕ, zero, suc, ◌+◌, ◌<◌, ◌≤◌, List, [], ◌∷◌, ◌++◌, Option, Some, None, take, drop, replicate, length, refl, sym, ◌∙◌, ap, subst, arith, append_assoc, append-nil}
use Rattle.std.specs.Prelude.{slice_get, slice_set, MatchOption}
use Rattle.std.proofs.lemmas.Bool.{cases_eq}
use Rattle.std.proofs.lemmas.Option.{slice_get_within}
use Rattle.value.specs.Word.{Word}
use Rattle.syntax.specs.Lists.{In, Every}
use Rattle.runs.specs.InOrder.{InOrder}
use Rattle.runs.specs.Live.{Live, LiveAt}
use Rattle.runs.specs.declared.event.Event.{Event}
use Rattle.runs.proofs.public.Lists.{in-left, in-right, in-parts, every-left}
use Rattle.runs.proofs.public.Options.{none-some, some-injective}
use Rattle.dependence.proofs.public.ListPlaces.{parts-at, set-here, set-other, in-order-left, in-order-across}
use Rattle.dependence.proofs.public.Standing.{rising-order}
use Rattle.past.specs.Laws.{Holds, NoneWrote, WritersTold, Wrote, WroteLast, values_behind, values_told}
use Rattle.past.specs.Past.{Tells, tickets_of}
use Rattle.past.specs.PastText.{Values, noted, noted_at, unwritten, written, zeros}
use Rattle.past.specs.declared.held.Held.{Held}
use Rattle.past.specs.declared.past.PastEvent.{PastEvent}
use Rattle.past.proofs.Reading.{over, set-at, ticket-in, told-as-read, written-other}

-- ---- behind live events
-- among these values x has what it holds behind these live events
abbrev Found : Live → Values → ℕ → Type 0
Found done values x = (held : Held) × (slice_get values x ≡ Some held) × Holds done x held

abbrev ByTicket : Live → Type 0
ByTicket l = InOrder (λ (a : ℕ × Event) (b : ℕ × Event). a.0 < b.0) l

wrote? : (a : Option ℕ) (c : Option Word) (x : ℕ) → ((v : Word) × (a ≡ Some x) × (c ≡ Some v)) ⊎ ((v : Word) → a ≡ Some x → c ≡ Some v → ⊥)
wrote? None c x = inr (λ v writes some. none-some x writes)
wrote? (Some y) None x = inr (λ v writes some. none-some v some)
wrote? (Some y) (Some v) x = elim (cases_eq y x) [
  | inl is ↦ inl (v, ap (λ (k : ℕ). Some k) is, refl)
  | inr differs ↦ inr (λ w writes some. differs (some-injective y x writes))
]

module _ (done : Live) (u : ℕ) (f : Event) (x : ℕ) where
  -- what wrote x is one of the first, or the last
  which : (w : ℕ) (g : Event) (b : Word) → LiveAt (done ++ (u, f) ∷ []) w g → Wrote g x b → LiveAt done w g ⊎ ((w ≡ u) × Wrote f x b)
  which w g b live wrote = elim (in-parts (w, g) done ((u, f) ∷ []) live) [
    | inl i ↦ inl i
    | inr (inl is) ↦ inr (
      ap (λ (y : ℕ × Event). y.0) is,
      subst (λ (h : Event). Wrote h x b) (ap (λ (y : ℕ × Event). y.1) is) wrote,
    )
    | inr (inr none) ↦ absurd none
  ]

  now-last : (v : Word) → ((w : ℕ) (g : Event) → LiveAt done w g → w < u) → Wrote f x v → WroteLast (done ++ (u, f) ∷ []) x u v.bits
  now-last v below wrote = record {
    event = f;
    value = v;
    live = in-right (u, f) done ((u, f) ∷ []) (inl refl);
    wrote = wrote;
    bits = refl;
    last = λ w g b live writes. elim (which w g b live writes) [
      | inl i ↦ let less = below w g i in omega arith
      | inr one ↦ let same = one.0 in omega arith
    ];
  }

  still : (number : ℕ) (writer : Option ℕ) → ((v : Word) → Wrote f x v → ⊥) →
      MatchOption writer ((number ≡ 0) × NoneWrote done x) (λ t. WroteLast done x t number) →
      MatchOption writer ((number ≡ 0) × NoneWrote (done ++ (u, f) ∷ []) x) (λ t. WroteLast (done ++ (u, f) ∷ []) x t number)
  still number None none h = (
    h.0,
    λ w g b live writes. elim (which w g b live writes) [
      | inl i ↦ h.1 w g b i writes
      | inr one ↦ none b one.1
    ],
  )
  still number (Some t) none h = record {
    event = h.event;
    value = h.value;
    live = in-left (t, h.event) done ((u, f) ∷ []) h.live;
    wrote = h.wrote;
    bits = h.bits;
    last = λ w g b live writes. elim (which w g b live writes) [
      | inl i ↦ h.last w g b i writes
      | inr one ↦ absurd (none b one.1)
    ];
  }

  one-more : (values : Values) → ((w : ℕ) (g : Event) → LiveAt done w g → w < u) → Found done values x → Found (done ++ (u, f) ∷ []) (noted u f values) x
  one-more values below h = elim (wrote? f.written f.value x) [
    | inl w ↦
        let new : Held = record { bits = w.0.bits; writer = Some u } in
        let within : x < length values = slice_get_within values x h.0 h.1 in (
          new,
          ap (λ (o : Option ℕ). slice_get (written u o f.value values) x) w.1
              ∙ ap (λ (o : Option Word). slice_get (written u (Some x) o values) x) w.2
              ∙ set-here values x new within,
          now-last w.0 below (w.1, w.2),
        )
    | inr none ↦ (
      h.0,
      written-other u f.written f.value values x none ∙ h.1,
      still h.0.bits h.0.writer (λ v wrote. none v wrote.0 wrote.1) h.2,
    )
  ]

behind : (x : ℕ) (rest done : Live) (values : Values) → ByTicket (done ++ rest) → Found done values x → Found (done ++ rest) (values_behind values rest) x
behind x [] done values order h = subst (λ (l : Live). Found l values x) (sym (append-nil done)) h
behind x (y ∷ rest) done values order h =
    let same : (done ++ y ∷ []) ++ rest ≡ done ++ y ∷ rest = append_assoc done (y ∷ []) rest in
    subst (λ (l : Live). Found l (values_behind (noted y.0 y.1 values) rest) x) same
    (behind x rest (done ++ y ∷ []) (noted y.0 y.1 values) (subst (λ (l : Live). ByTicket l) (sym same) order)
    (one-more done y.0 y.1 x values
    (λ w g i. in-order-across (λ (a : ℕ × Event) (b : ℕ × Event). a.0 < b.0) done (y ∷ rest) (w, g) y order i (inl refl)) h))

at-zero : (n x : ℕ) → x < n → slice_get (replicate n unwritten) x ≡ Some unwritten
at-zero zero x h = absurd (omega arith)
at-zero (suc n) zero h = refl
at-zero (suc n) (suc x) h = let less : x < n = omega arith in at-zero n x less

-- ---- among told events
-- the writers of all values are such
abbrev Writers : (ℕ → Type 0) → Values → Type 0
Writers P values = (x : ℕ) (held : Held) (u : ℕ) → slice_get values x ≡ Some held → held.writer ≡ Some u → P u

over-is : (b : Held) (o : Option Held) (held : Held) → over b o ≡ Some held → held ≡ b
over-is b None held h = none-some held h
over-is b (Some z) held h = sym (some-injective b held h)

written-from : (P : ℕ → Type 0) (t : ℕ) (a : Option ℕ) (c : Option Word) (values : Values) → P t → Writers P values → Writers P (written t a c values)
written-from P t None c values p h = h
written-from P t (Some y) None values p h = h
written-from P t (Some y) (Some v) values p h = λ x held u at is. elim (cases_eq x y) [
  | inl same ↦
      let new : Held = record { bits = v.bits; writer = Some t } in
      let there : slice_get (slice_set values y new) y ≡ Some held =
      subst (λ (k : ℕ). slice_get (slice_set values y new) k ≡ Some held) same at in
      let one : held ≡ new = over-is new (slice_get values y) held (sym (set-at values y new) ∙ there) in
      subst P (some-injective t u (ap (λ (k : Held). k.writer) (sym one) ∙ is)) p
  | inr differs ↦ h x held u (sym (set-other values y x (record { bits = v.bits; writer = Some t }) differs) ∙ at) is
]

told-from : (P : ℕ → Type 0) (l : Live) (front : List PastEvent) (values : Values) → Every (λ (q : PastEvent). Tells l q) front →
    ((q : PastEvent) → In q front → P q.ticket) → Writers P values → Writers P (values_told l values front)
told-from P l [] values tells each h = h
told-from P l (q ∷ front) values tells each h =
    told-from P l front (noted_at (slice_get l q.index) values) tells.1 (λ p i. each p (inr i))
    (subst (λ (o : Option (ℕ × Event)). Writers P (noted_at o values)) (sym tells.0.stands)
    (written-from P q.ticket tells.0.event.written tells.0.event.value values (each q (inl refl)) h))

zeros-from : (P : ℕ → Type 0) (n : ℕ) → Writers P (replicate n unwritten)
zeros-from P zero x held u at is = none-some held at
zeros-from P (suc n) zero held u at is = none-some u (ap (λ (k : Held). k.writer) (some-injective unwritten held at) ∙ is)
zeros-from P (suc n) (suc x) held u at is = zeros-from P n x held u at is

pub writers-told : WritersTold
writers-told next system l all t past front back p e x r lists parts at_p reads within =
    let tells = subst (λ (es : List PastEvent). Every (λ (q : PastEvent). Tells l q) es) parts lists.tells in
    let whole : ByTicket (take p.index l ++ (p.ticket, e) ∷ drop (suc p.index) l) =
    subst (λ (k : Live). ByTicket k) (parts-at l p.index (p.ticket, e) at_p) (rising-order 0 next l r) in
    let before : ByTicket (take p.index l) =
    in-order-left (λ (a : ℕ × Event) (b : ℕ × Event). a.0 < b.0) (take p.index l) ((p.ticket, e) ∷ drop (suc p.index) l) whole in
    let found = behind x (take p.index l) [] (zeros system) before
    (unwritten, at-zero (length system.variables) x within, (refl, λ u f w live wrote. live)) in
    let same = told-as-read next l all t past front back p e x (zeros system) r lists parts at_p reads in (
      found.0,
      same ∙ found.1,
      found.2,
      λ u is.
          told-from (λ (k : ℕ). In k (tickets_of front)) l front (zeros system)
          (every-left (λ (q : PastEvent). Tells l q) front (p ∷ back) tells) (λ q i. ticket-in front q i)
          (zeros-from (λ (k : ℕ). In k (tickets_of front)) (length system.variables)) x found.0 u (same ∙ found.1) is,
    )
