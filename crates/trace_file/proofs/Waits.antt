-- For how many events each one waits.
use Rattle.std.proofs.Common.{◌≡◌, ◌⊎◌, ◌↔◌, inl, inr, ℕ, zero, suc, ◌+◌, ◌<◌, ◌≤◌, List, [], ◌∷◌, ◌++◌, length, Some, refl, sym, ap, ◌∙◌, subst, arith}
use Rattle.std.specs.Prelude.{slice_get}
use Rattle.std.proofs.lemmas.List.{length-append}
use Rattle.syntax.specs.Lists.{In}
use Rattle.runs.specs.Dependence.{Directly}
use Rattle.runs.specs.InOrder.{InOrder}
use Rattle.runs.specs.Live.{Live, Rising, LiveAt, IsLive, same, later}
use Rattle.runs.specs.declared.event.Event.{Event}
use Rattle.runs.proofs.public.Lists.{every-in, every-of}
use Rattle.runs.proofs.public.Options.{none-some, some-injective}
use Rattle.runs.proofs.public.Tickets.{rising-in, rising-one}
use Rattle.dependence.specs.Followers.{Follower, ListsLeads, Reached, here, along}
use Rattle.dependence.proofs.public.FollowerLaws.{reached-through-followers}
use Rattle.dependence.proofs.public.ListPlaces.{in-at, at-one}
use Rattle.trace_file.specs.internal.Waiting.{IsRest, WaitsFor, Counts}

-- the tickets rise
abbrev pub Rises : Live → Type 0
Rises l = (next : ℕ) × Rising 0 l next

-- one event has a ticket
pub one-event : (l : Live) (t : ℕ) (e f : Event) → Rises l → LiveAt l t e → LiveAt l t f → e ≡ f
one-event l t e f r i j = rising-one 0 r.0 l t e f r.1 i j

-- one ticket has an index
ticket-index : (low next : ℕ) (l : Live) (i j t : ℕ) (e f : Event) → Rising low l next → slice_get l i ≡ Some (t, e) → slice_get l j ≡ Some (t, f) → i ≡ j
ticket-index low next [] i j t e f r a b = none-some (t, e) a
ticket-index low next (x ∷ l) zero zero t e f r a b = refl
ticket-index low next (x ∷ l) zero (suc j) t e f r a b =
    let first : x.0 ≡ t = ap (λ (y : ℕ × Event). y.0) (some-injective x (t, e) a) in
    let above : suc x.0 ≤ t = (rising-in (suc x.0) next l t f r.1 (in-at l j (t, f) b)).0 in
    absurd (omega (arith, first, above))
ticket-index low next (x ∷ l) (suc i) zero t e f r a b =
    let first : x.0 ≡ t = ap (λ (y : ℕ × Event). y.0) (some-injective x (t, f) b) in
    let above : suc x.0 ≤ t = (rising-in (suc x.0) next l t e r.1 (in-at l i (t, e) a)).0 in
    absurd (omega (arith, first, above))
ticket-index low next (x ∷ l) (suc i) (suc j) t e f r a b = ap suc (ticket-index (suc x.0) next l i j t e f r.1 a b)

pub one-index : (l : Live) (i j t : ℕ) (e f : Event) → Rises l → slice_get l i ≡ Some (t, e) → slice_get l j ≡ Some (t, f) → i ≡ j
one-index l i j t e f r a b = ticket-index 0 r.0 l i j t e f r.1 a b

-- what is reached from one that is left is left
reached-left : (l rest : Live) (t u : ℕ) → IsRest l rest → IsLive rest t → Reached l t u → IsLive rest u
reached-left l rest t u r i here = i
reached-left l rest t u r i (along {u = w} before f) =
    let d = f.dependent in
    (d.dependent, r.onward w u d.event d.dependent (reached-left l rest t w r i before) d.live d.dependent_live d.less d.direct)

-- the last on a way that goes on is one that is followed
last-lead : (l rest : Live) (t u : ℕ) → IsRest l rest → IsLive rest t → t < u → Reached l t u → (c : ℕ) × Follower l c u × IsLive rest c
last-lead l rest t u r i less here = absurd (omega arith)
last-lead l rest t u r i less (along {u = w} before f) = (w, f, reached-left l rest t w r i before)

-- an event that depends directly on one that is left follows one that is left
pub lead-left : (l rest : Live) (s u : ℕ) (e f : Event) → Rises l → IsRest l rest → IsLive rest s → LiveAt l s e → LiveAt l u f → s < u → Directly e f
    → (c : ℕ) × Follower l c u × IsLive rest c
lead-left l rest s u e f rises r i is iu less direct =
    last-lead l rest s u r i less ((reached-through-followers 0 rises.0 l s u rises.1).0 (later e f same is iu less direct))

-- nothing is in a list of length 0
none-in : (ts : List ℕ) (t : ℕ) → length ts ≡ 0 → In t ts → ⊥
none-in [] t none i = i
none-in (x ∷ ts) t none i = absurd (omega (arith, none))

-- one that waits for none follows none of those
pub waits-none : (l : Live) (Q : ℕ → Type 0) (t u n : ℕ) → WaitsFor l Q u n → n ≡ 0 → Follower l t u → Q t → ⊥
waits-none l Q t u n w none f q = none-in w.tickets t (w.count ∙ none) ((w.exactly t).1 (f, q))

-- there is one in a list that is longer
some-in : (ts : List ℕ) → (length ts ≡ 0 → ⊥) → (t : ℕ) × In t ts
some-in [] more = absurd (more refl)
some-in (t ∷ ts) more = (t, inl refl)

-- one that waits follows one of those
pub waits-some : (l : Live) (Q : ℕ → Type 0) (u n : ℕ) → WaitsFor l Q u n → (n ≡ 0 → ⊥) → (t : ℕ) × Follower l t u × Q t
waits-some l Q u n w more =
    let one = some-in w.tickets (λ none. more (sym w.count ∙ none)) in
    let both = (w.exactly one.0).0 one.1 in
    (one.0, both.0, both.1)

-- one that follows one of those waits
pub waits-more : (l : Live) (Q : ℕ → Type 0) (t u n : ℕ) → WaitsFor l Q u n → Follower l t u → Q t → (m : ℕ) × (n ≡ suc m)
waits-more l Q t u zero w f q = absurd (waits-none l Q t u 0 w refl f q)
waits-more l Q t u (suc m) w f q = (m, refl)

-- the same waits where Q and P hold of the same
pub waits-same : (l : Live) (Q P : ℕ → Type 0) (u n : ℕ) → WaitsFor l Q u n → ((t : ℕ) → Follower l t u → Q t ↔ P t) → WaitsFor l P u n
waits-same l Q P u n w alike = record {
  tickets = w.tickets;
  exactly = λ t. (
    (λ i. let h = (w.exactly t).0 i in (h.0, (alike t h.0).0 h.1)),
    (λ h. (w.exactly t).1 (h.0, (alike t h.0).1 h.1)),
  );
  falling = w.falling;
  count = w.count;
}

-- a falling list without one of it
record Fewer (ts : List ℕ) (t : ℕ) : Type 0 where
  left : List ℕ
  exactly : (s : ℕ) → In s left ↔ (In s ts × (s ≡ t → ⊥))
  falling : InOrder (λ (a : ℕ) (b : ℕ). b < a) left
  count : suc (length left) ≡ length ts

fewer : (ts : List ℕ) (t : ℕ) → InOrder (λ (a : ℕ) (b : ℕ). b < a) ts → In t ts → Fewer ts t
fewer [] t o i = absurd i
fewer (x ∷ ts) t o (inl is) = record {
  left = ts;
  exactly = λ s. (
    (λ i. (inr i, λ same. let below : s < x = every-in (λ (b : ℕ). b < x) ts s o.0 i in absurd (omega (arith, below, same, is)))),
    (λ h. elim h.0 [ inl first ↦ absurd (h.1 (first ∙ sym is)) | inr i ↦ i ]),
  );
  falling = o.1;
  count = refl;
}
fewer (x ∷ ts) t o (inr i) =
    let rest : Fewer ts t = fewer ts t o.1 i in
    let below : t < x = every-in (λ (b : ℕ). b < x) ts t o.0 i in
    record {
      left = x ∷ rest.left;
      exactly = λ s. (
        (λ j. elim j [
          | inl first ↦ (inl first, λ same. absurd (omega (arith, below, first, same)))
          | inr k ↦ let h = (rest.exactly s).0 k in (inr h.0, h.1)
        ]),
        (λ h. elim h.0 [ inl first ↦ inl first | inr k ↦ inr ((rest.exactly s).1 (k, h.1)) ]),
      );
      falling = (every-of (λ (b : ℕ). b < x) rest.left (λ s j. every-in (λ (b : ℕ). b < x) ts s o.0 ((rest.exactly s).0 j).0), rest.falling);
      count = ap suc rest.count;
    }

-- one less is waited for
pub waits-less : (l : Live) (Q P : ℕ → Type 0) (t u n : ℕ) → WaitsFor l Q u (suc n) → Follower l t u → Q t
    → ((s : ℕ) → Follower l s u → P s ↔ (Q s × (s ≡ t → ⊥))) → WaitsFor l P u n
waits-less l Q P t u n w f q less =
    let rest : Fewer w.tickets t = fewer w.tickets t w.falling ((w.exactly t).1 (f, q)) in
    let many : suc (length rest.left) ≡ length w.tickets = rest.count in
    let was : length w.tickets ≡ suc n = w.count in
    record {
      tickets = rest.left;
      exactly = λ s. (
        (λ i. let h = (rest.exactly s).0 i in let k = (w.exactly s).0 h.0 in (k.0, (less s k.0).1 (k.1, h.1))),
        (λ h. let k = (less s h.0).0 h.1 in (rest.exactly s).1 ((w.exactly s).1 (h.0, k.0), k.1)),
      );
      falling = rest.falling;
      count = omega (arith, many, was);
    }

-- all that are followed are live
pub waits-leads : (l : Live) (u n : ℕ) (ts : List ℕ) → ListsLeads l u ts → n ≡ length ts → WaitsFor l (λ (t : ℕ). IsLive l t) u n
waits-leads l u n ts lists many = record {
  tickets = ts;
  exactly = λ t. (
    (λ i. let f = (lists.exactly t).0 i in (f, (f.dependent.event, f.dependent.live))),
    (λ h. (lists.exactly t).1 h.0),
  );
  falling = lists.falling;
  count = sym many;
}

-- what is read of a list with one more
pub read-more : (xs : List ℕ) (v i n : ℕ) → slice_get (xs ++ v ∷ []) i ≡ Some n → (slice_get xs i ≡ Some n) ⊎ ((i ≡ length xs) × (n ≡ v))
read-more [] v zero n is = inr (refl, sym (some-injective v n is))
read-more [] v (suc i) n is = none-some n is
read-more (x ∷ xs) v zero n is = inl is
read-more (x ∷ xs) v (suc i) n is = elim (read-more xs v i n is) [ inl u ↦ inl u | inr u ↦ inr (ap suc u.0, u.1) ]

-- how many are followed, of the events passed
pub record Counted (l : Live) (left : List ℕ) (k : ℕ) : Type 0 where
  pub size : length left ≡ k
  pub waits : (i u n : ℕ) (f : Event) → slice_get l i ≡ Some (u, f) → slice_get left i ≡ Some n → WaitsFor l (λ (t : ℕ). IsLive l t) u n

pub counted-none : (l : Live) (left : List ℕ) → left ≡ [] → Counted l left 0
counted-none l left none = record {
  size = ap length none;
  waits = λ i u n f a b. none-some n (subst (λ (xs : List ℕ). slice_get xs i ≡ Some n) none b);
}

pub counted-more : (l : Live) (left out ts : List ℕ) (k v u : ℕ) (f : Event) → Counted l left k → slice_get l k ≡ Some (u, f) → ListsLeads l u ts → v ≡ length ts
    → out ≡ left ++ v ∷ [] → Counted l out (k + 1)
counted-more l left out ts k v u f c at lists many is =
    let more : Counted l (left ++ v ∷ []) (k + 1) = record {
      size =
          let long : length (left ++ v ∷ []) ≡ length left + 1 = length-append left (v ∷ []) in
          let old : length left ≡ k = c.size in
          omega (arith, long, old);
      waits = λ i w n g a b. elim (read-more left v i n b) [
        | inl old ↦ c.waits i w n g a old
        | inr new ↦
            let here : i ≡ k = new.0 ∙ c.size in
            let one : (w, g) ≡ (u, f) = at-one l k (w, g) (u, f) (subst (λ (j : ℕ). slice_get l j ≡ Some (w, g)) here a) at in
            subst (λ (x : ℕ). WaitsFor l (λ (t : ℕ). IsLive l t) x n) (sym (ap (λ (x : ℕ × Event). x.0) one))
            (waits-leads l u n ts lists (new.1 ∙ many))
      ];
    } in
    subst (λ (xs : List ℕ). Counted l xs (k + 1)) (sym is) more

-- all are counted
pub counted-all : (l : Live) (left : List ℕ) (k : ℕ) → Counted l left k → k ≡ length l → Counts l (λ (t : ℕ) (u : ℕ). IsLive l t) left
counted-all l left k c all = record { size = c.size ∙ all; waits = c.waits }
