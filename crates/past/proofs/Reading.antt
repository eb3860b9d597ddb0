-- What a told event read was written last by a told one, if at all.
use Rattle.std.proofs.Common.{◌≡◌, ◌≢◌, inl, inr, ℕ, zero, suc, ◌+◌, ◌<◌, ◌≤◌, List, [], ◌∷◌, ◌++◌, Bool, true, false, ◌||◌, ◌==◌, is_some, Option, Some, None, take, drop, length, refl, sym, ◌∙◌, ap, subst, arith}
use Rattle.std.specs.Prelude.{slice_get, slice_set}
use Rattle.std.proofs.lemmas.Bool.{cases_eq}
use Rattle.std.proofs.lemmas.Option.{slice_get_within}
use Rattle.value.specs.Word.{Word}
use Rattle.syntax.specs.Lists.{In, Every}
use Rattle.runs.specs.InOrder.{InOrder}
use Rattle.runs.specs.Live.{Live, Rising, DependsOn, same, later}
use Rattle.runs.specs.declared.event.Event.{Event}
use Rattle.runs.proofs.public.Lists.{in-parts, in-right, every-in, every-of}
use Rattle.dependence.proofs.public.Following.{follows-on}
use Rattle.dependence.proofs.public.Linking.{one-index}
use Rattle.dependence.proofs.public.ListPlaces.{in-at, at-within, drop-next, in-order-left, in-order-right, in-order-across, set-other}
use Rattle.dependence.proofs.public.Standing.{index-rises, lesser-stands}
use Rattle.past.specs.Laws.{ToldAsRead, values_behind, values_told}
use Rattle.past.specs.Past.{IsInPast, Tells, carries, tickets_of}
use Rattle.past.specs.PastText.{Values, noted, noted_at, written}
use Rattle.past.specs.declared.held.Held.{Held}
use Rattle.past.specs.declared.past.PastEvent.{PastEvent}
use Rattle.past.proofs.Nearest.{strictly}

-- ---- one write
abbrev pub over : Held → Option Held → Option Held
over b None = None
over b (Some z) = Some b

pub set-at : (v : Values) (y : ℕ) (b : Held) → slice_get (slice_set v y b) y ≡ over b (slice_get v y)
set-at [] y b = refl
set-at (z ∷ v) zero b = refl
set-at (z ∷ v) (suc y) b = set-at v y b

set-alike : (v w : Values) (x y : ℕ) (b : Held) → slice_get v x ≡ slice_get w x → slice_get (slice_set v y b) x ≡ slice_get (slice_set w y b) x
set-alike v w x y b h = elim (cases_eq x y) [
  | inl is ↦
      let here : slice_get v y ≡ slice_get w y = subst (λ (k : ℕ). slice_get v k ≡ slice_get w k) is h in
      subst (λ (k : ℕ). slice_get (slice_set v y b) k ≡ slice_get (slice_set w y b) k) (sym is)
      (set-at v y b ∙ ap (λ (o : Option Held). over b o) here ∙ sym (set-at w y b))
  | inr differs ↦ set-other v y x b differs ∙ h ∙ sym (set-other w y x b differs)
]

written-alike : (t : ℕ) (a : Option ℕ) (c : Option Word) (v w : Values) (x : ℕ) → slice_get v x ≡ slice_get w x →
    slice_get (written t a c v) x ≡ slice_get (written t a c w) x
written-alike t (Some y) (Some b) v w x h = set-alike v w x y (record { bits = b.bits; writer = Some t }) h
written-alike t (Some y) None v w x h = h
written-alike t None c v w x h = h

pub written-other : (t : ℕ) (a : Option ℕ) (c : Option Word) (v : Values) (x : ℕ) → ((b : Word) → a ≡ Some x → c ≡ Some b → ⊥) →
    slice_get (written t a c v) x ≡ slice_get v x
written-other t (Some y) (Some b) v x none = elim (cases_eq x y) [
  | inl is ↦ absurd (none b (ap (λ (k : ℕ). Some k) (sym is)) refl)
  | inr differs ↦ set-other v y x (record { bits = b.bits; writer = Some t }) differs
]
written-other t (Some y) None v x none = refl
written-other t None c v x none = refl

-- ---- the told events by index
pub ticket-in : (es : List PastEvent) (y : PastEvent) → In y es → In y.ticket (tickets_of es)
ticket-in [] y i = absurd i
ticket-in (x ∷ es) y i = elim i [
  | inl is ↦ inl (ap (λ (z : PastEvent). z.ticket) is)
  | inr more ↦ inr (ticket-in es y more)
]

event-of : (es : List PastEvent) (u : ℕ) → In u (tickets_of es) → (y : PastEvent) × In y es × (y.ticket ≡ u)
event-of [] u i = absurd i
event-of (x ∷ es) u i = elim i [
  | inl is ↦ (x, inl refl, sym is)
  | inr more ↦ let rest = event-of es u more in (rest.0, inr rest.1, rest.2)
]

by-index : (next : ℕ) (l : Live) (es : List PastEvent) → Rising 0 l next → Every (λ (p : PastEvent). Tells l p) es → InOrder ◌<◌ (tickets_of es) →
    InOrder (λ (a : PastEvent) (b : PastEvent). a.index < b.index) es
by-index next l [] r tells o = tt
by-index next l (x ∷ es) r tells o = (
  every-of (λ (b : PastEvent). x.index < b.index) es (λ y i.
      let there = every-in (λ (p : PastEvent). Tells l p) es y tells.1 i in
      lesser-stands 0 next l x.index y.index x.ticket y.ticket tells.0.event there.event r tells.0.stands there.stands
      (every-in (λ (u : ℕ). x.ticket < u) (tickets_of es) y.ticket o.0 (ticket-in es y i))),
  by-index next l es r tells.1 o.1,
)

-- ---- over the live events before an index
-- their indexes lie between two
abbrev Inside : List PastEvent → ℕ → ℕ → Type 0
Inside front j i = (p : PastEvent) → In p front → (j ≤ p.index) × (p.index < i)

abbrev ByIndex : List PastEvent → Type 0
ByIndex front = InOrder (λ (a : PastEvent) (b : PastEvent). a.index < b.index) front

-- each that is told between two indexes is one of them
abbrev Complete : Bool → Live → ℕ → List PastEvent → ℕ → ℕ → Type 0
Complete all l t front j i =
    (u q : ℕ) (f : Event) → slice_get l q ≡ Some (u, f) → j ≤ q → q < i → IsInPast all l t u → (p : PastEvent) × In p front × (p.index ≡ q)

module _ (next : ℕ) (l : Live) (r : Rising 0 l next) (all : Bool) (t s i : ℕ) (e : Event) (x : ℕ) (at_s : slice_get l i ≡ Some (s, e)) (reads : In x e.read)
    (s_on : DependsOn l s t) where
  -- what wrote x with a value is told
  writer-told : (u q : ℕ) (f : Event) (b : Word) → slice_get l q ≡ Some (u, f) → q < i → f.written ≡ Some x → f.value ≡ Some b → IsInPast all l t u
  writer-told u q f b at less writes carried =
      let up : u < s = index-rises 0 next l q i u s f e r at at_s less in
      let on : DependsOn l u s = later f e same (in-at l q (u, f) at) (in-at l i (s, e) at_s) up (inr (inr (inl (x, writes, inl reads)))) in
      let some : carries f ≡ true = ap (λ (o : Option Word). is_some o) carried in
      (f, in-at l q (u, f) at, follows-on l u s t on s_on, shown all (carries f) some)
    where
      shown : (a c : Bool) → c ≡ true → ((a || c) || (u == t)) ≡ true
      shown true c h = refl
      shown false true h = refl
      shown false false h = cc

  unwritten : (j u : ℕ) (f : Event) (front : List PastEvent) (w : Values) → slice_get l j ≡ Some (u, f) → j < i → Complete all l t front j i →
      ((p : PastEvent) → In p front → p.index ≢ j) → slice_get (noted u f w) x ≡ slice_get w x
  unwritten j u f front w at less complete others =
      written-other u f.written f.value w x (λ b writes carried.
      let found = complete u j f at (omega arith) less (writer-told u j f b at less writes carried) in
      others found.0 found.1 found.2)

  over-live : (n j : ℕ) (front : List PastEvent) (v w : Values) → j + n ≡ i → Inside front j i → ByIndex front → Complete all l t front j i →
      slice_get v x ≡ slice_get w x → slice_get (values_told l v front) x ≡ slice_get (values_behind w (take n (drop j l))) x
  over-live zero j [] v w count inside rising complete h = h
  over-live zero j (p ∷ rest) v w count inside rising complete h = let here = inside p (inl refl) in let low = here.0 in let high = here.1 in absurd (omega arith)
  over-live (suc n) j front v w count inside rising complete h =
      let less : j < i = omega arith in
      let within : i < length l = slice_get_within l i (s, e) at_s in
      let here = at-within l j (omega arith) in
      let left : drop j l ≡ here.0 ∷ drop (suc j) l = drop-next l j here.0 here.1 in
      let more : suc j + n ≡ i = omega arith in
      subst (λ (k : Live). slice_get (values_told l v front) x ≡ slice_get (values_behind w (take (suc n) k)) x) (sym left)
      (step front here.0.0 here.0.1 here.1 less inside rising complete
      (λ others v' w' inside' rising' complete' h'. over-live n (suc j) others v' w' more inside' rising' complete' h'))
    where
      step : (those : List PastEvent) (u : ℕ) (f : Event) → slice_get l j ≡ Some (u, f) → j < i → Inside those j i → ByIndex those → Complete all l t those j i →
          ((others : List PastEvent) (v' w' : Values) → Inside others (suc j) i → ByIndex others → Complete all l t others (suc j) i →
          slice_get v' x ≡ slice_get w' x → slice_get (values_told l v' others) x ≡ slice_get (values_behind w' (take n (drop (suc j) l))) x) →
          slice_get (values_told l v those) x ≡ slice_get (values_behind (noted u f w) (take n (drop (suc j) l))) x
      step [] u f at less inside rising complete again =
          again [] v (noted u f w) (λ p k. absurd k) tt (λ u' q' f' at' low high told. complete u' q' f' at' (omega arith) high told)
          (h ∙ sym (unwritten j u f [] w at less complete (λ p k. absurd k)))
      step (p ∷ rest) u f at less inside rising complete again = elim (cases_eq p.index j) [
        | inl is ↦
            let at_p : slice_get l p.index ≡ Some (u, f) = subst (λ (k : ℕ). slice_get l k ≡ Some (u, f)) (sym is) at in
            again rest (noted_at (slice_get l p.index) v) (noted u f w)
            (λ y k.
            let above : p.index < y.index = every-in (λ (b : PastEvent). p.index < b.index) rest y rising.0 k in
            (omega arith, (inside y (inr k)).1))
            rising.1
            (λ u' q' f' at' low high told.
            let found = complete u' q' f' at' (omega arith) high told in
            elim found.1 [
              | inl one ↦
                  let same_index : found.0.index ≡ p.index = ap (λ (y : PastEvent). y.index) one in
                  let index_is : found.0.index ≡ q' = found.2 in
                  absurd (omega arith)
              | inr k ↦ (found.0, k, found.2)
            ])
            (ap (λ (o : Option (ℕ × Event)). slice_get (noted_at o v) x) at_p ∙ written-alike u f.written f.value v w x h)
        | inr differs ↦
            let above_p : j < p.index = strictly j p.index (inside p (inl refl)).0 differs in
            let others : (y : PastEvent) → In y (p ∷ rest) → y.index ≢ j = λ y k. elim k [
              | inl one ↦ subst (λ (z : PastEvent). z.index ≢ j) (sym one) differs
              | inr k' ↦ λ is.
                  let above : p.index < y.index = every-in (λ (b : PastEvent). p.index < b.index) rest y rising.0 k' in
                  omega arith
            ] in
            again (p ∷ rest) v (noted u f w)
            (λ y k. (strictly j y.index (inside y k).0 (others y k), (inside y k).1)) rising
            (λ u' q' f' at' low high told. complete u' q' f' at' (omega arith) high told)
            (h ∙ sym (unwritten j u f (p ∷ rest) w at less complete others))
      ]

pub told-as-read : ToldAsRead
told-as-read next l all t past front back p e x values r lists parts at_p reads =
    let tells = subst (λ (es : List PastEvent). Every (λ (q : PastEvent). Tells l q) es) parts lists.tells in
    let order = subst (λ (es : List PastEvent). InOrder ◌<◌ (tickets_of es)) parts lists.tickets.in_order in
    let whole : List PastEvent = front ++ p ∷ back in
    let rising = by-index next l whole r tells order in
    let inside_p : In p whole = in-right p front (p ∷ back) (inl refl) in
    let told_p = (lists.tickets.exactly p.ticket).0 (subst (λ (es : List PastEvent). In p.ticket (tickets_of es)) (sym parts) (ticket-in whole p inside_p)) in
    over-live next l r all t p.ticket p.index e x at_p reads told_p.2 p.index 0 front values values (omega arith)
    (λ y k. (omega arith, in-order-across (λ (a : PastEvent) (b : PastEvent). a.index < b.index) front (p ∷ back) y p rising k (inl refl)))
    (in-order-left (λ (a : PastEvent) (b : PastEvent). a.index < b.index) front (p ∷ back) rising)
    (λ u q f at low high told.
    let listed = subst (λ (es : List PastEvent). In u (tickets_of es)) parts ((lists.tickets.exactly u).1 told) in
    let y = event-of whole u listed in
    let tells_y = every-in (λ (z : PastEvent). Tells l z) whole y.0 tells y.1 in
    let index_is : y.0.index ≡ q = one-index 0 next l u tells_y.event f y.0.index q r
    (subst (λ (v : ℕ). slice_get l y.0.index ≡ Some (v, tells_y.event)) y.2 tells_y.stands) at in
    elim (in-parts y.0 front (p ∷ back) y.1) [
      | inl k ↦ (y.0, k, index_is)
      | inr (inl one) ↦ let same_index : y.0.index ≡ p.index = ap (λ (z : PastEvent). z.index) one in absurd (omega arith)
      | inr (inr k) ↦
          let above : p.index < y.0.index =
          every-in (λ (b : PastEvent). p.index < b.index) back y.0 (in-order-right (λ (a : PastEvent) (b : PastEvent). a.index < b.index) front (p ∷ back) rising).0 k in
          absurd (omega arith)
    ])
    refl
