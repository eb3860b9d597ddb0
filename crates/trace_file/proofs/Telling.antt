-- An event was taken, and its followers are told one after another.
use Rattle.std.proofs.Common.{◌≡◌, ◌↔◌, inl, inr, ℕ, suc, ◌+◌, ◌<◌, List, [], ◌∷◌, ◌++◌, length, take, drop, get_or, Some, refl, sym, ap, ◌∙◌, subst, arith, length-set}
use Rattle.std.specs.Prelude.{slice_get, slice_set}
use Rattle.std.proofs.lemmas.Bool.{cases_eq}
use Rattle.std.proofs.lemmas.Option.{slice_get_within, slice_get-get_or}
use Rattle.std.specs.declared.cmp.Reverse.{Reverse}
use Rattle.syntax.specs.Lists.{In}
use Rattle.runs.specs.InOrder.{InOrder}
use Rattle.runs.specs.Live.{Live, LiveAt, IsLive}
use Rattle.runs.specs.declared.event.Event.{Event}
use Rattle.runs.proofs.public.Lists.{in-left, in-right, in-parts}
use Rattle.runs.proofs.public.Options.{some-injective}
use Rattle.dependence.specs.Followers.{Follower, ListsFollowers}
use Rattle.dependence.proofs.public.ListPlaces.{at-within, at-one, in-at, set-here, set-other, parts-at, take-next, in-order-across, got-here}
use Rattle.trace_file.specs.declared.queue.Free.{Free}
use Rattle.trace_file.specs.internal.Waiting.{WaitsFor, Counts, LeftFor, IsFree, IsQueue, Telling, Ready, CanTell, TellsOne}
use Rattle.trace_file.proofs.Waits.{Rises, one-event, one-index, waits-same, waits-more, waits-less}
use Rattle.trace_file.proofs.Queues.{queue-same, queue-joined}

-- how many the event at an index waits for
count-at : (l : Live) (Q : ℕ → ℕ → Type 0) (left : List ℕ) (i u : ℕ) (f : Event) → Counts l Q left → slice_get l i ≡ Some (u, f)
    → (n : ℕ) × (slice_get left i ≡ Some n) × WaitsFor l (λ (t : ℕ). Q t u) u n
count-at l Q left i u f c at =
    let inside : i < length l = slice_get_within l i (u, f) at in
    let size : length left ≡ length l = c.size in
    let held = at-within left i (omega (arith, inside, size)) in
    (held.0, held.1, c.waits i u held.0 f at held.1)

-- a follower to which it was not told waits
pub can-tell : (l rest : Live) (t : ℕ) (told left : List ℕ) (items : List (Reverse Free)) (i u : ℕ) (f : Event) → Telling l rest t told left items
    → Follower l t u → (In u told → ⊥) → slice_get l i ≡ Some (u, f) → CanTell l left i
can-tell l rest t told left items i u f tell follows new at =
    let held = count-at l (LeftFor rest t told) left i u f tell.counts at in
    let more = waits-more l (λ (s : ℕ). LeftFor rest t told s u) t u held.0 held.2 follows (inr (refl, new)) in
    (slice_get_within l i (u, f) at, (more.0, held.1 ∙ ap (λ (n : ℕ). Some n) more.1))

-- one more is told, at its own index
counts-told : (l rest : Live) (t : ℕ) (told left : List ℕ) (i u n : ℕ) (f : Event) → Rises l → (IsLive rest t → ⊥)
    → Counts l (LeftFor rest t told) left → Follower l t u → (In u told → ⊥) → slice_get l i ≡ Some (u, f) → slice_get left i ≡ Some (suc n)
    → Counts l (LeftFor rest t (told ++ u ∷ [])) (slice_set left i n)
counts-told l rest t told left i u n f r gone c follows new at held = record {
  size = length-set left i n ∙ c.size;
  waits = λ j w m g b k. elim (cases_eq j i) [
    | inl is ↦
        let one : (w, g) ≡ (u, f) = at-one l i (w, g) (u, f) (subst (λ (x : ℕ). slice_get l x ≡ Some (w, g)) is b) at in
        let same : w ≡ u = ap (λ (x : ℕ × Event). x.0) one in
        let number : n ≡ m = some-injective n m (sym (set-here left i n (slice_get_within left i (suc n) held)) ∙ subst (λ (x : ℕ). slice_get (slice_set left i n) x ≡ Some m) is k) in
        let less : WaitsFor l (λ (s : ℕ). LeftFor rest t (told ++ u ∷ []) s u) u n =
        waits-less l (λ (s : ℕ). LeftFor rest t told s u) (λ (s : ℕ). LeftFor rest t (told ++ u ∷ []) s u) t u n (c.waits i u (suc n) f at held) follows (inr (refl, new))
        (λ s d. (
          (λ h. elim h [
            | inl live ↦ (inl live, λ is_t. gone (subst (IsLive rest) is_t live))
            | inr not ↦ absurd (not.1 (in-right u told (u ∷ []) (inl refl)))
          ]),
          (λ h. elim h.0 [ inl live ↦ inl live | inr not ↦ absurd (h.1 not.0) ]),
        )) in
        subst (λ (x : ℕ). WaitsFor l (λ (s : ℕ). LeftFor rest t (told ++ u ∷ []) s x) x m) (sym same)
        (subst (λ (x : ℕ). WaitsFor l (λ (s : ℕ). LeftFor rest t (told ++ u ∷ []) s u) u x) number less)
    | inr other ↦
        let was : slice_get left j ≡ Some m = sym (set-other left i j n other) ∙ k in
        let differs : w ≡ u → ⊥ = λ is. other (one-index l j i u g f r (subst (λ (x : ℕ). slice_get l j ≡ Some (x, g)) is b) at) in
        waits-same l (λ (s : ℕ). LeftFor rest t told s w) (λ (s : ℕ). LeftFor rest t (told ++ u ∷ []) s w) w m (c.waits j w m g b was)
        (λ s d. (
          (λ h. elim h [
            | inl live ↦ inl live
            | inr not ↦ inr (not.0, λ is_told. elim (in-parts w told (u ∷ []) is_told) [ inl before ↦ not.1 before | inr (inl last) ↦ differs last | inr (inr none) ↦ none ])
          ]),
          (λ h. elim h [ inl live ↦ inl live | inr not ↦ inr (not.0, λ is_told. not.1 (in-left w told (u ∷ []) is_told)) ]),
        ))
  ];
}

-- an index at which more than 0 is counted is not free
not-free : (l rest : Live) (left : List ℕ) (i j n : ℕ) → slice_get left i ≡ Some (suc n) → IsFree l rest left j → j ≡ i → ⊥
not-free l rest left i j n held free is =
    let zero_there : slice_get left i ≡ Some 0 = subst (λ (x : ℕ). slice_get left x ≡ Some 0) is free.1 in
    let both : suc n ≡ 0 = some-injective (suc n) 0 (sym held ∙ zero_there) in
    absurd (omega (arith, both))

-- another index is free as before
free-other : (l rest : Live) (left : List ℕ) (i j n : ℕ) → (j ≡ i → ⊥) → IsFree l rest left j ↔ IsFree l rest (slice_set left i n) j
free-other l rest left i j n other =
    ((λ h. (h.0, set-other left i j n other ∙ h.1)), (λ h. (h.0, sym (set-other left i j n other) ∙ h.1)))

-- one more is told
pub told-one : (l rest : Live) (t : ℕ) (told left : List ℕ) (items : List (Reverse Free)) (i u : ℕ) (f : Event) (after : List ℕ) (more : List (Reverse Free))
    → Rises l → Telling l rest t told left items → Follower l t u → (In u told → ⊥) → slice_get l i ≡ Some (u, f) → TellsOne l i left items after more
    → Telling l rest t (told ++ u ∷ []) after more
told-one l rest t told left items i u f after more r tell follows new at tells =
    let can = can-tell l rest t told left items i u f tell follows new at in
    let n : ℕ = can.1.0 in
    let held : slice_get left i ≡ Some (suc n) = can.1.1 in
    let done = tells n held in
    let inside : i < length left = slice_get_within left i (suc n) held in
    let queue : IsQueue l rest (slice_set left i n) more =
    elim done.1 [
      | inl join ↦ queue-joined l rest rest left (slice_set left i n) i items more tell.queue join.1
          (λ j free. let other = not-free l rest left i j n held free in ((free-other l rest left i j n other).0 free, other)) (
            (u, f, at, (let live = tell.followers u follows in subst (λ (x : Event). LiveAt rest u x) (one-event l u live.0 f r (tell.within u live.0 live.1) (in-at l i (u, f) at)) live.1)),
            set-here left i n inside ∙ ap (λ (x : ℕ). Some x) join.0,
          )
          (λ j free other. (free-other l rest left i j n other).1 free)
      | inr keep ↦ subst (IsQueue l rest (slice_set left i n)) (sym keep.1)
          (queue-same l rest rest left (slice_set left i n) items tell.queue
          (λ j free. (free-other l rest left i j n (not-free l rest left i j n held free)).0 free)
          (λ j free. (free-other l rest left i j n (λ is.
          let here : slice_get (slice_set left i n) i ≡ Some 0 = subst (λ (x : ℕ). slice_get (slice_set left i n) x ≡ Some 0) is free.1 in
          keep.0 (some-injective n 0 (sym (set-here left i n inside) ∙ here)))).1 free))
    ] in
    record {
      gone = tell.gone;
      followers = tell.followers;
      within = tell.within;
      counts = subst (Counts l (LeftFor rest t (told ++ u ∷ []))) (sym done.0)
          (counts-told l rest t told left i u n f r tell.gone tell.counts follows new at held);
      queue = subst (λ (x : List ℕ). IsQueue l rest x more) (sym done.0) queue;
    }

-- all followers are told
pub told-all : (l rest : Live) (t : ℕ) (told left : List ℕ) (items : List (Reverse Free)) → ListsFollowers l t told → Telling l rest t told left items → Ready l rest left items
told-all l rest t told left items lists tell = record {
  counts = record {
    size = tell.counts.size;
    waits = λ i u n f at held. waits-same l (λ (s : ℕ). LeftFor rest t told s u) (λ (s : ℕ). IsLive rest s) u n (tell.counts.waits i u n f at held)
        (λ s follows. (
          (λ h. elim h [
            | inl live ↦ live
            | inr not ↦ absurd (not.1 ((lists.exactly u).1 (subst (λ (x : ℕ). Follower l x u) not.0 follows)))
          ]),
          (λ live. inl live),
        ));
  };
  queue = tell.queue;
}

-- the ticket at an index
pub here-ticket : (l : Live) (index r t : ℕ) (f e : Event) → slice_get l index ≡ Some (r, f) → slice_get l index ≡ Some (t, e) → r ≡ t
here-ticket l index r t f e here at = ap (λ (x : ℕ × Event). x.0) (at-one l index (r, f) (t, e) here at)

-- what ascends has each number once
pub new-in : (us : List ℕ) (k : ℕ) → InOrder ◌<◌ us → k < length us → In (get_or us k 0) (take k us) → ⊥
new-in us k o less i =
    let at = at-within us k less in
    let is : get_or us k 0 ≡ at.0 = got-here us k at.0 0 at.1 in
    let parts : us ≡ take k us ++ at.0 ∷ drop (suc k) us = parts-at us k at.0 at.1 in
    let below : at.0 < at.0 =
    in-order-across ◌<◌ (take k us) (at.0 ∷ drop (suc k) us) at.0 at.0 (subst (InOrder ◌<◌) parts o) (subst (λ (x : ℕ). In x (take k us)) is i) (inl refl) in
    absurd (omega (arith, below))

-- one more of them is told
pub told-next : (us : List ℕ) (k : ℕ) → k < length us → take k us ++ get_or us k 0 ∷ [] ≡ take (k + 1) us
told-next us k less =
    let next : suc k ≡ k + 1 = omega arith in
    sym (take-next us k (get_or us k 0) (slice_get-get_or us k 0 less)) ∙ ap (λ (n : ℕ). take n us) next
