-- The queue of the events that wait for none.
use Rattle.std.proofs.Common.{◌≡◌, inl, inr, ℕ, zero, suc, ◌+◌, ◌<◌, ◌==◌, List, [], ◌∷◌, Bool, true, false, length, take, Some, sym, ap, ◌∙◌, subst, arith}
use Rattle.std.specs.Prelude.{slice_get}
use Rattle.std.specs.List.{AllByRecursion, IsDistinct, list_any}
use Rattle.std.specs.List.Sorted.{IsPermutation}
use Rattle.std.specs.BinaryHeap.{IsHeap, IsUpperBound, lt_by_cmp}
use Rattle.std.specs.Ordering.{is_lt, ordering_then, nat_cmp}
use Rattle.std.specs.declared.cmp.Ordering.{Ordering}
use Rattle.std.specs.declared.cmp.Ordering.TheVariants.{Less}
use Rattle.std.specs.declared.cmp.Reverse.{Reverse}
use Rattle.std.proofs.Permutation.{every_shuffled}
use Rattle.std.proofs.lemmas.Bool.{cases_eq, cases_order, true≢false, false≢true, eqb-true, eqb-false, eq-eqb, ne_eqb, or_cases, or_left, or_right}
use Rattle.std.proofs.lemmas.List.Sorted.{list_any-IsPermutation}
use Rattle.std.proofs.lemmas.Map.Keys.{IsDistinct-head, IsDistinct-tail, IsDistinct-cons, IsDistinct-IsPermutation}
use Rattle.address.specs.Order.{order_of}
use Rattle.address.proofs.public.Entries.{entries_cmp-is}
use Rattle.syntax.specs.Lists.{In}
use Rattle.runs.specs.Events.{acting}
use Rattle.runs.specs.Live.{Live}
use Rattle.runs.specs.declared.event.Event.{Event}
use Rattle.runs.proofs.public.Options.{none-some, some-injective}
use Rattle.dependence.proofs.public.ListPlaces.{at-within, at-one}
use Rattle.trace_file.specs.declared.queue.Free.{Free}
use Rattle.trace_file.specs.internal.Waiting.{IsEntry, IsFree, IsQueue, Joins, queue_order, same_index}
use Rattle.trace_file.proofs.Waits.{Rises, one-index}

-- what holds of each entry, and follows from it
every-weaker : (P Q : Reverse Free → Type 0) (xs : List (Reverse Free)) → ((x : Reverse Free) → P x → Q x) → AllByRecursion P xs → AllByRecursion Q xs
every-weaker P Q [] f h = tt
every-weaker P Q (x ∷ xs) f h = (f x h.0, every-weaker P Q xs f h.1)

-- what holds of each entry in two ways
every-both : (P Q : Reverse Free → Type 0) (xs : List (Reverse Free)) → AllByRecursion P xs → AllByRecursion Q xs → AllByRecursion (λ (x : Reverse Free). P x × Q x) xs
every-both P Q [] h k = tt
every-both P Q (x ∷ xs) h k = ((h.0, k.0), every-both P Q xs h.1 k.1)

-- an entry that is there
any-one : (p : Reverse Free → Bool) (P : Reverse Free → Type 0) (xs : List (Reverse Free)) → list_any p xs ≡ true → AllByRecursion P xs
    → (x : Reverse Free) × (p x ≡ true) × P x
any-one p P [] some h = absurd (false≢true some)
any-one p P (x ∷ xs) some h = elim (or_cases (p x) (list_any p xs) some) [ inl u ↦ (x, u, h.0) | inr u ↦ any-one p P xs u h.1 ]

-- the places are compared the same from both sides
same-turned : (x y : Reverse Free) → same_index x y ≡ same_index y x
same-turned x y =
    elim (cases_eq x.0.index y.0.index) [
      | inl is ↦ eq-eqb x.0.index y.0.index is ∙ sym (eq-eqb y.0.index x.0.index (sym is))
      | inr differs ↦ ne_eqb x.0.index y.0.index differs ∙ sym (ne_eqb y.0.index x.0.index (λ is. differs (sym is)))
    ]

-- what is asked of an entry of the queue
abbrev pub InQueue : Live → Live → List ℕ → Reverse Free → Type 0
InQueue l rest left x = IsEntry l x × IsFree l rest left x.0.index

-- no entry is there twice where none is there
distinct-none : IsDistinct same_index []
unfolding IsDistinct
distinct-none = tt

-- no entry
pub queue-none : (l rest : Live) (left : List ℕ) (items : List (Reverse Free)) → items ≡ [] → IsHeap queue_order items → ((i : ℕ) → IsFree l rest left i → ⊥)
    → IsQueue l rest left items
queue-none l rest left items none heap free =
    let empty : (xs : List (Reverse Free)) → xs ≡ [] → AllByRecursion (InQueue l rest left) xs = λ xs is. subst (AllByRecursion (InQueue l rest left)) (sym is) tt in
    record {
      heap = heap;
      entries = empty items none;
      once = subst (IsDistinct same_index) (sym none) distinct-none;
      all = λ i f. absurd (free i f);
    }

-- the same entries where the same events are free
pub queue-same : (l rest now : Live) (left after : List ℕ) (items : List (Reverse Free)) → IsQueue l rest left items
    → ((i : ℕ) → IsFree l rest left i → IsFree l now after i) → ((i : ℕ) → IsFree l now after i → IsFree l rest left i) → IsQueue l now after items
queue-same l rest now left after items q there back = record {
  heap = q.heap;
  entries = every-weaker (InQueue l rest left) (InQueue l now after) items (λ x h. (h.0, there x.0.index h.1)) q.entries;
  once = q.once;
  all = λ i f. q.all i (back i f);
}

-- one entry more
pub queue-joined : (l rest now : Live) (left after : List ℕ) (index : ℕ) (items more : List (Reverse Free)) → IsQueue l rest left items → Joins l index items more
    → ((i : ℕ) → IsFree l rest left i → IsFree l now after i × (i ≡ index → ⊥)) → IsFree l now after index
    → ((i : ℕ) → IsFree l now after i → (i ≡ index → ⊥) → IsFree l rest left i) → IsQueue l now after more
queue-joined l rest now left after index items more q j there here back =
    let apart : AllByRecursion (λ (y : Reverse Free). same_index j.entry y ≡ false) items =
    every-weaker (InQueue l rest left) (λ (y : Reverse Free). same_index j.entry y ≡ false) items
    (λ y h. ne_eqb j.entry.0.index y.0.index (λ is. (there y.0.index h.1).1 (sym is ∙ j.at))) q.entries in
    let whole : AllByRecursion (InQueue l now after) (j.entry ∷ items) = (
      (j.is, subst (IsFree l now after) (sym j.at) here),
      every-weaker (InQueue l rest left) (InQueue l now after) items (λ x h. (h.0, (there x.0.index h.1).0)) q.entries,
    ) in
    record {
      heap = j.heap q.heap;
      entries = every_shuffled (InQueue l now after) (j.entry ∷ items) more j.permutation whole;
      once = IsDistinct-IsPermutation same_index same-turned (j.entry ∷ items) more j.permutation (IsDistinct-cons same_index j.entry items apart q.once);
      all = λ i f. sym (list_any-IsPermutation (λ (x : Reverse Free). x.0.index == i) (j.entry ∷ items) more j.permutation)
          ∙ elim (cases_eq i index) [
            | inl is ↦ or_left (j.entry.0.index == i) (list_any (λ (x : Reverse Free). x.0.index == i) items) (eq-eqb j.entry.0.index i (j.at ∙ sym is))
            | inr other ↦ or_right (j.entry.0.index == i) (list_any (λ (x : Reverse Free). x.0.index == i) items) (q.all i (back i f other))
          ];
    }

-- one entry less, whose event is no longer left
pub queue-popped : (l rest now : Live) (left : List ℕ) (x : Reverse Free) (items more : List (Reverse Free)) → IsQueue l rest left items
    → IsPermutation items (x ∷ more) → IsHeap queue_order more
    → ((i : ℕ) → IsFree l rest left i → (i ≡ x.0.index → ⊥) → IsFree l now left i) → ((i : ℕ) → IsFree l now left i → IsFree l rest left i × (i ≡ x.0.index → ⊥))
    → IsQueue l now left more
queue-popped l rest now left x items more q p heap there back =
    let once : IsDistinct same_index (x ∷ more) = IsDistinct-IsPermutation same_index same-turned items (x ∷ more) p q.once in
    let whole : AllByRecursion (InQueue l rest left) (x ∷ more) = every_shuffled (InQueue l rest left) items (x ∷ more) p q.entries in
    record {
      heap = heap;
      entries = every-weaker (λ (y : Reverse Free). InQueue l rest left y × (same_index x y ≡ false)) (InQueue l now left) more
          (λ y h. (h.0.0, there y.0.index h.0.1 (λ is. eqb-false x.0.index y.0.index h.1 (sym is))))
          (every-both (InQueue l rest left) (λ (y : Reverse Free). same_index x y ≡ false) more whole.1 (IsDistinct-head same_index x more once));
      once = IsDistinct-tail same_index x more once;
      all = λ i f.
          let was = back i f in
          let some : list_any (λ (y : Reverse Free). y.0.index == i) (x ∷ more) ≡ true =
          sym (list_any-IsPermutation (λ (y : Reverse Free). y.0.index == i) items (x ∷ more) p) ∙ q.all i was.0 in
          elim (or_cases (x.0.index == i) (list_any (λ (y : Reverse Free). y.0.index == i) more) some) [
            | inl u ↦ absurd (was.1 (sym (eqb-true x.0.index i u)))
            | inr u ↦ u
          ];
    }

-- what was popped is an entry
pub popped-entry : (l rest : Live) (left : List ℕ) (x : Reverse Free) (items more : List (Reverse Free)) → IsQueue l rest left items
    → IsPermutation items (x ∷ more) → InQueue l rest left x
popped-entry l rest left x items more q p = (every_shuffled (InQueue l rest left) items (x ∷ more) p q.entries).0

-- an event that is free does not act below what was popped
pub popped-least : (l rest : Live) (left : List ℕ) (x : Reverse Free) (items : List (Reverse Free)) (e f : Event) (i s : ℕ) → IsQueue l rest left items
    → IsUpperBound queue_order x items → x.0.acting.now ≡ acting e → slice_get l i ≡ Some (s, f) → IsFree l rest left i → order_of (acting f) (acting e) ≡ Less → ⊥
popped-least l rest left x items e f i s q top acts at free less =
    let found = any-one (λ (y : Reverse Free). y.0.index == i) (λ (y : Reverse Free). InQueue l rest left y × (lt_by_cmp queue_order x y ≡ false)) items
    (q.all i free) (every-both (InQueue l rest left) (λ (y : Reverse Free). lt_by_cmp queue_order x y ≡ false) items q.entries top) in
    let y : Reverse Free = found.0 in
    let here : y.0.index ≡ i = eqb-true y.0.index i found.1 in
    let entry : IsEntry l y = found.2.0.0 in
    let one : (entry.0, entry.1) ≡ (s, f) =
    at-one l i (entry.0, entry.1) (s, f) (subst (λ (n : ℕ). slice_get l n ≡ Some (entry.0, entry.1)) here entry.2) at in
    let theirs : y.0.acting.now ≡ acting f = entry.3 ∙ ap (λ (z : ℕ × Event). acting z.1) one in
    let lower : order_of y.0.acting.now x.0.acting.now ≡ Less = ap (λ a. order_of a x.0.acting.now) theirs ∙ (ap (λ a. order_of (acting f) a) acts ∙ less) in
    let by : queue_order x y ≡ Less =
    ap (λ (o : Ordering). ordering_then o (nat_cmp y.0.index x.0.index)) (entries_cmp-is y.0.acting.now x.0.acting.now ∙ lower) in
    true≢false (sym (ap is_lt by) ∙ found.2.1)

-- a number below one more that is not the last
below-last : (i k : ℕ) → i < k + 1 → (i ≡ k → ⊥) → i < k
below-last i k less other = elim (cases_order i k) [ inl is ↦ absurd (other is) | inr (inl below) ↦ below | inr (inr above) ↦ absurd (omega (arith, less, above)) ]

-- an entry of the event at the index
pub joins : (l : Live) (index t : ℕ) (e : Event) (x : Reverse Free) (items more : List (Reverse Free)) → slice_get l index ≡ Some (t, e)
    → x.0.index ≡ index → x.0.acting.now ≡ acting e → IsPermutation (x ∷ items) more → (IsHeap queue_order items → IsHeap queue_order more)
    → Joins l index items more
joins l index t e x items more at here acts p heap = record {
  entry = x;
  is = (t, e, ap (λ (i : ℕ). slice_get l i) here ∙ at, acts);
  at = here;
  permutation = p;
  heap = heap;
}

-- what is among the first is among one more
take-one-more : (l : Live) (k : ℕ) (x : ℕ × Event) → In x (take k l) → In x (take (suc k) l)
take-one-more l zero x i = absurd i
take-one-more [] (suc k) x i = absurd i
take-one-more (y ∷ l) (suc k) x i = elim i [ inl is ↦ inl is | inr j ↦ inr (take-one-more l k x j) ]

take-more : (l : Live) (k : ℕ) (x : ℕ × Event) → In x (take k l) → In x (take (k + 1) l)
take-more l k x i =
    let next : suc k ≡ k + 1 = omega arith in
    subst (λ (n : ℕ). In x (take n l)) next (take-one-more l k x i)

-- an event at an index is among the first where the index is
take-index : (l : Live) (k i : ℕ) (x : ℕ × Event) → slice_get l i ≡ Some x → i < k → In x (take k l)
take-index [] k i x at less = none-some x at
take-index (y ∷ l) zero i x at less = absurd (omega (arith, less))
take-index (y ∷ l) (suc k) zero x at less = inl (sym (some-injective y x at))
take-index (y ∷ l) (suc k) (suc i) x at less = inr (take-index l k i x at (omega (arith, less)))

-- where it is among the first, it has such an index
index-taken : (l : Live) (k : ℕ) (x : ℕ × Event) → In x (take k l) → (i : ℕ) × (i < k) × (slice_get l i ≡ Some x)
index-taken l zero x i = absurd i
index-taken [] (suc k) x i = absurd i
index-taken (y ∷ l) (suc k) x i =
    elim i [
      | inl is ↦ (0, omega arith, ap (λ (z : ℕ × Event). Some z) (sym is))
      | inr j ↦ let rest = index-taken l k x j in let less : rest.0 < k = rest.1 in (suc rest.0, omega (arith, less), rest.2)
    ]

-- a free event among the first
free-within : (l : Live) (left : List ℕ) (k i : ℕ) → Rises l → IsFree l (take k l) left i → i < k
free-within l left k i r free =
    let at = index-taken l k (free.0.0, free.0.1) free.0.3 in
    subst (λ (j : ℕ). j < k) (one-index l at.0 i free.0.0 free.0.1 free.0.1 r at.2 free.0.2) at.1

-- a free event among the first is one of one more
free-more : (l : Live) (left : List ℕ) (k i : ℕ) → IsFree l (take k l) left i → IsFree l (take (k + 1) l) left i
free-more l left k i free = ((free.0.0, free.0.1, free.0.2, take-more l k (free.0.0, free.0.1) free.0.3), free.1)

-- a free event of one more that is not the last
free-less : (l : Live) (left : List ℕ) (k i : ℕ) → Rises l → IsFree l (take (k + 1) l) left i → (i ≡ k → ⊥) → IsFree l (take k l) left i
free-less l left k i r free other =
    let within : i < k + 1 = free-within l left (k + 1) i r free in
    let below : i < k = below-last i k within other in
    ((free.0.0, free.0.1, free.0.2, take-index l k i (free.0.0, free.0.1) free.0.2 below), free.1)

-- one event more is free
pub first-joined : (l : Live) (left : List ℕ) (k : ℕ) (items more : List (Reverse Free)) → Rises l → k < length l → slice_get left k ≡ Some 0
    → IsQueue l (take k l) left items → Joins l k items more → IsQueue l (take (k + 1) l) left more
first-joined l left k items more r within held q j =
    let here = at-within l k within in
    queue-joined l (take k l) (take (k + 1) l) left left k items more q j
    (λ i free. (free-more l left k i free, λ is. let less : i < k = free-within l left k i r free in absurd (omega (arith, less, is))))
    ((here.0.0, here.0.1, here.1, take-index l (k + 1) k here.0 here.1 (omega arith)), held)
    (λ i free other. free-less l left k i r free other)

-- one event more is not free
pub first-kept : (l : Live) (left : List ℕ) (k n : ℕ) (items : List (Reverse Free)) → Rises l → slice_get left k ≡ Some n → (n ≡ 0 → ⊥)
    → IsQueue l (take k l) left items → IsQueue l (take (k + 1) l) left items
first-kept l left k n items r held more q =
    queue-same l (take k l) (take (k + 1) l) left left items q (λ i free. free-more l left k i free)
    (λ i free. free-less l left k i r free
    (λ is. more (some-injective n 0 (sym held ∙ subst (λ (j : ℕ). slice_get left j ≡ Some 0) is free.1))))
