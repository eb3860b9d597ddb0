-- The events are taken one by one, each time that of the least acting address of those that wait for none.
use Rattle.std.proofs.Common.{◌≡◌, ◌⊎◌, inl, inr, ℕ, zero, suc, ◌+◌, ◌<◌, ◌≤◌, ◌==◌, List, [], ◌∷◌, ◌++◌, length, take, drop, Some, refl, sym, ap, ◌∙◌, subst, arith, append_assoc, append-nil}
use Rattle.std.specs.Prelude.{slice_get}
use Rattle.std.specs.List.{list_any}
use Rattle.std.specs.List.Sorted.{IsPermutation}
use Rattle.std.specs.BinaryHeap.{IsHeap, IsUpperBound}
use Rattle.std.specs.declared.cmp.Reverse.{Reverse}
use Rattle.std.proofs.lemmas.Bool.{cases_eq, cases_order, false≢true}
use Rattle.std.proofs.lemmas.List.{length-append}
use Rattle.std.proofs.lemmas.Option.{slice_get_within}
use Rattle.syntax.specs.Lists.{In}
use Rattle.system.specs.declared.system.System.{System}
use Rattle.runs.specs.Dependence.{Directly, Earlier}
use Rattle.runs.specs.Events.{acting}
use Rattle.runs.specs.Live.{Live, Rising, LiveAt, IsLive, events}
use Rattle.runs.specs.Steps.{State, Run, opening}
use Rattle.runs.specs.declared.event.Event.{Event}
use Rattle.runs.proofs.public.DependsOnLaw.{earlier-by-tickets, tickets-of-earlier}
use Rattle.runs.proofs.public.FromOpening.{acting_once}
use Rattle.runs.proofs.public.Lists.{in-left, in-right, in-parts}
use Rattle.runs.proofs.public.Options.{some-injective}
use Rattle.runs.proofs.public.Tickets.{rising-in, rising-parts, rising-join, rising-lower, events-join, event-in, in-event}
use Rattle.dependence.specs.Followers.{Follower}
use Rattle.dependence.proofs.public.ListPlaces.{at-within, index-in}
use Rattle.trace_file.specs.Canonical.{LeastFree, IsCanonicalOrder, StandAt}
use Rattle.trace_file.specs.declared.queue.Free as entry
use Rattle.trace_file.specs.internal.Waiting.{IsRest, Counts, LeftFor, IsFree, IsQueue, Ready, TellingAt, SomeTelling, TellsAll, queue_order}
use Rattle.trace_file.proofs.Orders.{ActsOnce}
use Rattle.trace_file.proofs.public.Stands.{stand-more}
use Rattle.trace_file.proofs.Waits.{Rises, one-event, one-index, lead-left, waits-none, waits-some, waits-same}
use Rattle.trace_file.proofs.Queues.{popped-entry, popped-least, queue-popped}

-- an entry of the queue
abbrev pub Entry : Type 0
Entry = Reverse entry.Free

-- what was taken so far: these indexes, whose events begin the canonical order, and the others are left
pub record Progress (l : Live) (indexes left : List ℕ) (items : List Entry) : Type 0 where
  pub rest : Live
  pub order : List Event
  pub is_rest : IsRest l rest
  pub stand : StandAt l indexes order
  pub goes_on : (k : List Event) → IsCanonicalOrder (events rest) k → IsCanonicalOrder (events l) (order ++ k)
  pub count : length indexes + length rest ≡ length l
  pub ready : Ready l rest left items

-- nothing is taken
pub progress-none : (l : Live) (indexes left : List ℕ) (items : List Entry) → Rises l → indexes ≡ [] → Counts l (λ (t : ℕ) (u : ℕ). IsLive l t) left
    → IsQueue l l left items → Progress l indexes left items
progress-none l indexes left items r none counts queue = record {
  rest = l;
  order = [];
  is_rest = record { rising = r; inside = λ t e i. i; onward = λ t u e f i it iu less direct. iu };
  stand = subst (λ (p : List ℕ). StandAt l p []) (sym none) tt;
  goes_on = λ k c. c;
  count = let nothing : length indexes ≡ 0 = ap length none in omega (arith, nothing);
  ready = record { counts = counts; queue = queue };
}

-- of two numbers that are not equal one is less
below-or-above : (i j : ℕ) → (i ≡ j → ⊥) → (i < j) ⊎ (j < i)
below-or-above i j other = elim (cases_order i j) [ inl is ↦ absurd (other is) | inr less ↦ less ]

-- an event has one ticket where each acts at an index of its own
one-ticket : (l : Live) (t u : ℕ) (e : Event) → Rises l → ActsOnce (events l) → LiveAt l t e → LiveAt l u e → t ≡ u
one-ticket l t u e r once i j =
    elim (cases_eq t u) [
      | inl is ↦ is
      | inr other ↦ elim (below-or-above t u other) [
        | inl less ↦ absurd (once e e (earlier-by-tickets 0 r.0 l t u e e r.1 i j less) refl)
        | inr less ↦ absurd (once e e (earlier-by-tickets 0 r.0 l u t e e r.1 j i less) refl)
      ]
    ]

-- an event that waits for none of those that are left has no direct cause there
no-cause-left : (l rest : Live) (t : ℕ) (e : Event) → Rises l → ActsOnce (events l) → IsRest l rest → LiveAt rest t e
    → ((c : ℕ) → Follower l c t → IsLive rest c → ⊥) → (f : Event) → Earlier (events rest) f e → Directly f e → ⊥
no-cause-left l rest t e r once is i none f before direct =
    let at = tickets-of-earlier 0 is.rising.0 rest f e is.rising.1 before in
    let same : at.second ≡ t = one-ticket l at.second t e r once (is.inside at.second e at.of_second) (is.inside t e i) in
    let first : LiveAt l at.first f = is.inside at.first f at.of_first in
    let lead = lead-left l rest at.first t f e r is (f, at.of_first) first (is.inside t e i) (subst (λ (x : ℕ). at.first < x) same at.less) direct in
    none lead.0 lead.1 lead.2

-- an event that follows one that is left has a direct cause there
cause-left : (l rest : Live) (c s : ℕ) (f : Event) → Rises l → IsRest l rest → LiveAt rest s f → Follower l c s → IsLive rest c
    → (g : Event) × Earlier (events rest) g f × Directly g f
cause-left l rest c s f r is i follows live =
    let d = follows.dependent in
    let mine : live.0 ≡ d.event = one-event l c live.0 d.event r (is.inside c live.0 live.1) d.live in
    let other : d.dependent ≡ f = one-event l s d.dependent f r d.dependent_live (is.inside s f i) in (
      live.0,
      earlier-by-tickets 0 is.rising.0 rest c s live.0 f is.rising.1 live.1 i d.less,
      subst (λ (x : Event). Directly live.0 x) other (subst (λ (x : Event). Directly x d.dependent) (sym mine) d.direct),
    )

-- what the queue gives is the least of the free events
pub popped-is-least : (l rest : Live) (left : List ℕ) (items more : List Entry) (x : Entry) (t : ℕ) (e : Event) → Rises l → ActsOnce (events l) → IsRest l rest
    → Ready l rest left items → IsPermutation items (x ∷ more) → IsUpperBound queue_order x items → slice_get l x.0.index ≡ Some (t, e) → LiveAt rest t e
    → slice_get left x.0.index ≡ Some 0 → x.0.acting.now ≡ acting e → LeastFree (events rest) e
popped-is-least l rest left items more x t e r once is ready p top at i zero_left acts =
    let none : (c : ℕ) → Follower l c t → IsLive rest c → ⊥ =
    λ c follows live. waits-none l (λ (s : ℕ). IsLive rest s) c t 0 (ready.counts.waits x.0.index t 0 e at zero_left) refl follows live in
    record {
      free = record { inside = event-in rest t e i; no_cause = no-cause-left l rest t e r once is i none };
      least = λ f free less.
          let s = in-event rest f free.inside in
          let index = index-in l (s.0, f) (is.inside s.0 f s.1) in
          let size : length left ≡ length l = ready.counts.size in
          let inside : index.0 < length l = slice_get_within l index.0 (s.0, f) index.1 in
          let held = at-within left index.0 (omega (arith, size, inside)) in
          elim (cases_eq held.0 0) [
            | inl nothing ↦ popped-least l rest left x items e f index.0 s.0 ready.queue top acts index.1
                ((s.0, f, index.1, s.1), held.1 ∙ ap (λ (n : ℕ). Some n) nothing) less
            | inr waits ↦
                let lead = waits-some l (λ (c : ℕ). IsLive rest c) s.0 held.0 (ready.counts.waits index.0 s.0 held.0 f index.1 held.1) waits in
                let cause = cause-left l rest lead.0 s.0 f r is s.1 lead.1 lead.2 in
                free.no_cause cause.0 cause.1 cause.2
          ];
    }

-- an element of a list, and what is before and behind it
split : (l : Live) (x : ℕ × Event) → In x l → (before : Live) × (after : Live) × (l ≡ before ++ x ∷ after)
split [] x i = absurd i
split (y ∷ l) x (inl is) = ([], l, ap (λ (z : ℕ × Event). z ∷ l) (sym is))
split (y ∷ l) x (inr i) = let rest = split l x i in (y ∷ rest.0, rest.1, ap (λ (k : Live). y ∷ k) rest.2)

-- without one element the tickets rise, and its ticket is gone
rising-less : (b a : Live) (t : ℕ) (e : Event) → Rises (b ++ (t, e) ∷ a) → Rises (b ++ a) × (IsLive (b ++ a) t → ⊥)
rising-less b a t e r =
    let parts = rising-parts 0 r.0 b ((t, e) ∷ a) r.1 in
    let m : ℕ = parts.0 in
    let behind : Rising (suc t) a r.0 = parts.2.1 in
    let low : m ≤ t = parts.2.0 in (
      (r.0, rising-join 0 m r.0 b a parts.1 (rising-lower m (suc t) r.0 a (omega arith) behind)),
      λ live. elim (in-parts (t, live.0) b a live.1) [
        | inl u ↦ let below : t < m = (rising-in 0 m b t live.0 parts.1 u).1 in absurd (omega arith)
        | inr u ↦ let above : suc t ≤ t = (rising-in (suc t) r.0 a t live.0 behind u).0 in absurd (omega arith)
      ],
    )

-- what is left without one event on which no other that is left depends directly
rest-less : (l b a : Live) (t : ℕ) (e : Event) → Rises l → IsRest l (b ++ (t, e) ∷ a)
    → ((s : ℕ) (g : Event) → IsLive (b ++ (t, e) ∷ a) s → LiveAt l s g → s < t → Directly g e → ⊥) → IsRest l (b ++ a)
rest-less l b a t e r is none =
    let less = rising-less b a t e is.rising in
    let more : (x : ℕ × Event) → In x (b ++ a) → In x (b ++ (t, e) ∷ a) =
    λ x i. elim (in-parts x b a i) [ inl u ↦ in-left x b ((t, e) ∷ a) u | inr u ↦ in-right x b ((t, e) ∷ a) (inr u) ] in
    let here : LiveAt l t e = is.inside t e (in-right (t, e) b ((t, e) ∷ a) (inl refl)) in
    record {
      rising = less.0;
      inside = λ u f i. is.inside u f (more (u, f) i);
      onward = λ s u g f live is_s is_u before direct.
          let was : IsLive (b ++ (t, e) ∷ a) s = (live.0, more (s, live.0) live.1) in
          elim (in-parts (u, f) b ((t, e) ∷ a) (is.onward s u g f was is_s is_u before direct)) [
            | inl i ↦ in-left (u, f) b a i
            | inr (inl same) ↦
                let ticket : u ≡ t = ap (λ (x : ℕ × Event). x.0) same in
                let event : f ≡ e = ap (λ (x : ℕ × Event). x.1) same in
                absurd (none s g was is_s (subst (λ (x : ℕ). s < x) ticket before) (subst (λ (x : Event). Directly g x) event direct))
            | inr (inr i) ↦ in-right (u, f) b a i
          ];
    }

-- the others of a list
other-in : (b a : Live) (t u : ℕ) (e f : Event) → (u ≡ t → ⊥) → LiveAt (b ++ (t, e) ∷ a) u f → LiveAt (b ++ a) u f
other-in b a t u e f other i =
    elim (in-parts (u, f) b ((t, e) ∷ a) i) [
      | inl j ↦ in-left (u, f) b a j
      | inr (inl same) ↦ absurd (other (ap (λ (x : ℕ × Event). x.0) same))
      | inr (inr j) ↦ in-right (u, f) b a j
    ]

-- one more was taken, and its followers are still to be told
pub record Taken (l : Live) (indexes : List ℕ) (index : ℕ) (left : List ℕ) (items : List Entry) : Type 0 where
  pub rest : Live
  pub order : List Event
  pub is_rest : IsRest l rest
  pub stand : StandAt l indexes order
  pub goes_on : (k : List Event) → IsCanonicalOrder (events rest) k → IsCanonicalOrder (events l) (order ++ k)
  pub count : length indexes + length rest ≡ length l
  pub telling : TellingAt l rest index left items

-- an event acts at an index of its own in a run
pub runs-once : (h : List Event) → (system : System) × (T : State) × Run (opening system) h T → ActsOnce h
runs-once h (system, T, run) = λ x y i. acting_once system h T x y run i

-- a list with one in the middle is one longer
middle-length : (b a : Live) (x : ℕ × Event) → length (b ++ x ∷ a) ≡ suc (length (b ++ a))
middle-length [] a x = refl
middle-length (y ∷ b) a x = ap suc (middle-length b a x)

-- the queue gives one
pub popped : (l : Live) (indexes out left : List ℕ) (items more : List Entry) (x : Entry) → Rises l → ActsOnce (events l) → Progress l indexes left items
    → IsPermutation items (x ∷ more) → IsHeap queue_order more → IsUpperBound queue_order x items → out ≡ indexes ++ x.0.index ∷ []
    → Taken l out x.0.index left more
popped l indexes out left items more x r once now p heap top is =
    let entry = popped-entry l now.rest left x items more now.ready.queue p in
    let t : ℕ = entry.1.0.0 in
    let e : Event = entry.1.0.1 in
    let at : slice_get l x.0.index ≡ Some (t, e) = entry.1.0.2 in
    let here : LiveAt now.rest t e = entry.1.0.3 in
    let same : (entry.0.0, entry.0.1) ≡ (t, e) = some-injective (entry.0.0, entry.0.1) (t, e) (sym entry.0.2 ∙ at) in
    let acts : x.0.acting.now ≡ acting e = entry.0.3 ∙ ap (λ (y : ℕ × Event). acting y.1) same in
    let least : LeastFree (events now.rest) e =
    popped-is-least l now.rest left items more x t e r once now.is_rest now.ready p top at here entry.1.1 acts in
    let parts = split now.rest (t, e) here in
    let b : Live = parts.0 in
    let a : Live = parts.1 in
    let whole : now.rest ≡ b ++ (t, e) ∷ a = parts.2 in
    let was : IsRest l (b ++ (t, e) ∷ a) = subst (IsRest l) whole now.is_rest in
    let none : (c : ℕ) → Follower l c t → IsLive now.rest c → ⊥ =
    λ c follows live. waits-none l (λ (s : ℕ). IsLive now.rest s) c t 0 (now.ready.counts.waits x.0.index t 0 e at entry.1.1) refl follows live in
    let free : (s : ℕ) (g : Event) → IsLive (b ++ (t, e) ∷ a) s → LiveAt l s g → s < t → Directly g e → ⊥ =
    λ s g live is_s less direct.
    let lead = lead-left l now.rest s t g e r now.is_rest (subst (λ (k : Live). IsLive k s) (sym whole) live) is_s (now.is_rest.inside t e here) less direct in
    none lead.0 lead.1 lead.2 in
    let less = rising-less b a t e was.rising in
    let now_left : IsRest l (b ++ a) = rest-less l b a t e r was free in
    let cut : events now.rest ≡ events b ++ e ∷ events a = ap events whole ∙ events-join b ((t, e) ∷ a) in
    let inside : (s : ℕ) (g : Event) → LiveAt (b ++ a) s g → LiveAt now.rest s g =
    λ s g i. subst (λ (k : Live). LiveAt k s g) (sym whole)
    (elim (in-parts (s, g) b a i) [ inl u ↦ in-left (s, g) b ((t, e) ∷ a) u | inr u ↦ in-right (s, g) b ((t, e) ∷ a) (inr u) ]) in
    let kept : (s : ℕ) (g : Event) → (s ≡ t → ⊥) → LiveAt now.rest s g → LiveAt (b ++ a) s g =
    λ s g other i. other-in b a t s e g other (subst (λ (k : Live). LiveAt k s g) whole i) in
    let elsewhere : (i : ℕ) → IsFree l (b ++ a) left i → i ≡ x.0.index → ⊥ =
    λ i f is_place.
    let one : (f.0.0, f.0.1) ≡ (t, e) =
    some-injective (f.0.0, f.0.1) (t, e) (sym (subst (λ (j : ℕ). slice_get l j ≡ Some (f.0.0, f.0.1)) is_place f.0.2) ∙ at) in
    less.1 (f.0.1, subst (λ (s : ℕ). LiveAt (b ++ a) s f.0.1) (ap (λ (y : ℕ × Event). y.0) one) f.0.3) in
    record {
      rest = b ++ a;
      order = now.order ++ e ∷ [];
      is_rest = now_left;
      stand = subst (λ (ps : List ℕ). StandAt l ps (now.order ++ e ∷ [])) (sym is) (stand-more l indexes now.order x.0.index t e now.stand at);
      goes_on = λ k c. subst (IsCanonicalOrder (events l)) (sym (append_assoc now.order (e ∷ []) k))
          (now.goes_on (e ∷ k) (events b, events a, cut, least, subst (λ (h : List Event). IsCanonicalOrder h k) (events-join b a) c));
      count =
          let long : length out ≡ length indexes + 1 = ap length is ∙ length-append indexes (x.0.index ∷ []) in
          let size : length now.rest ≡ suc (length (b ++ a)) = ap length whole ∙ middle-length b a (t, e) in
          let all : length indexes + length now.rest ≡ length l = now.count in
          omega (arith, long, size, all);
      telling = (
        t,
        e,
        at,
        record {
          gone = less.1;
          followers = λ u follows.
              let d = follows.dependent in
              let one : d.event ≡ e = one-event l t d.event e r d.live (now.is_rest.inside t e here) in
              let after : LiveAt now.rest u d.dependent = now.is_rest.onward t u d.event d.dependent (e, here) d.live d.dependent_live d.less d.direct in
              let later : t < u = d.less in
              (d.dependent, kept u d.dependent (λ same_ticket. absurd (omega (arith, later, same_ticket))) after);
          within = now_left.inside;
          counts = record {
            size = now.ready.counts.size;
            waits = λ i u n f is_u held. waits-same l (λ (s : ℕ). IsLive now.rest s) (λ (s : ℕ). LeftFor (b ++ a) t [] s u) u n (now.ready.counts.waits i u n f is_u held)
                (λ s follows. (
                  (λ live. elim (cases_eq s t) [ inl same_ticket ↦ inr (same_ticket, λ told. told) | inr other ↦ inl (live.0, kept s live.0 other live.1) ]),
                  (λ h. elim h [
                    | inl live ↦ (live.0, inside s live.0 live.1)
                    | inr mine ↦ subst (IsLive now.rest) (sym mine.0) (e, here)
                  ]),
                ));
          };
          queue = queue-popped l now.rest (b ++ a) left x items more now.ready.queue p heap
              (λ i f other. (
                (
                  f.0.0,
                  f.0.1,
                  f.0.2,
                  kept f.0.0 f.0.1
                      (λ same_ticket. other (one-index l i x.0.index t f.0.1 e r (subst (λ (s : ℕ). slice_get l i ≡ Some (s, f.0.1)) same_ticket f.0.2) at)) f.0.3,
                ),
                f.1,
              ))
              (λ i f. (((f.0.0, f.0.1, f.0.2, inside f.0.0 f.0.1 f.0.3), f.1), elsewhere i f));
        },
      );
    }

-- for some rest
pub some-telling : (l : Live) (indexes : List ℕ) (index : ℕ) (left : List ℕ) (items : List Entry) → Taken l indexes index left items → SomeTelling l index left items
some-telling l indexes index left items taken = (taken.rest, taken.telling)

-- its followers are told
pub progress-told : (l : Live) (indexes : List ℕ) (index : ℕ) (left after : List ℕ) (items more : List Entry) → Taken l indexes index left items
    → TellsAll l index left items after more → Progress l indexes after more
progress-told l indexes index left after items more taken tells = record {
  rest = taken.rest;
  order = taken.order;
  is_rest = taken.is_rest;
  stand = taken.stand;
  goes_on = taken.goes_on;
  count = taken.count;
  ready = tells taken.rest taken.telling;
}

-- fewer are taken than there are, where one more can be
pub fewer-taken : (l : Live) (indexes : List ℕ) (index : ℕ) (left : List ℕ) (items : List Entry) → Taken l indexes index left items → length indexes ≤ length l
fewer-taken l indexes index left items taken = let all = taken.count in omega (arith, all)

-- where the queue is empty nothing is left
rest-none : (l rest : Live) (left : List ℕ) (items : List Entry) → Rises l → IsRest l rest → Ready l rest left items → items ≡ [] → rest ≡ []
rest-none l [] left items r is ready none = refl
rest-none l (x ∷ rest) left items r is ready none =
    let first : LiveAt l x.0 x.1 = is.inside x.0 x.1 (inl refl) in
    let index = index-in l (x.0, x.1) first in
    let size : length left ≡ length l = ready.counts.size in
    let inside : index.0 < length l = slice_get_within l index.0 (x.0, x.1) index.1 in
    let held = at-within left index.0 (omega (arith, size, inside)) in
    elim (cases_eq held.0 0) [
      | inl nothing ↦
          let free : IsFree l (x ∷ rest) left index.0 = ((x.0, x.1, index.1, inl refl), held.1 ∙ ap (λ (n : ℕ). Some n) nothing) in
          absurd (false≢true (ap (λ (items : List Entry). list_any (λ (y : Entry). y.0.index == index.0) items) (sym none) ∙ ready.queue.all index.0 free))
      | inr waits ↦
          let lead = waits-some l (λ (c : ℕ). IsLive (x ∷ rest) c) x.0 held.0 (ready.counts.waits index.0 x.0 held.0 x.1 index.1 held.1) waits in
          let less : lead.0 < x.0 = lead.1.dependent.less in
          elim lead.2.1 [
            | inl same ↦ let ticket : lead.0 ≡ x.0 = ap (λ (y : ℕ × Event). y.0) same in absurd (omega (arith, less, ticket))
            | inr behind ↦
                let above : suc x.0 ≤ lead.0 = (rising-in (suc x.0) is.rising.0 rest lead.0 lead.2.0 is.rising.1.1 behind).0 in
                absurd (omega (arith, less, above))
          ]
    ]

-- where the queue is empty all are taken
pub progress-all : (l : Live) (indexes left : List ℕ) (items : List Entry) → Rises l → Progress l indexes left items → items ≡ []
    → (g : List Event) × IsCanonicalOrder (events l) g × StandAt l indexes g
progress-all l indexes left items r now none =
    let gone : now.rest ≡ [] = rest-none l now.rest left items r now.is_rest now.ready none in (
      now.order,
      subst (IsCanonicalOrder (events l)) (append-nil now.order)
          (now.goes_on [] (subst (λ (k : Live). IsCanonicalOrder (events k) []) (sym gone) refl)),
      now.stand,
    )

-- the first of a list with others behind it
written-back-on : (zs ys : List ℕ) (n : ℕ) → n ≡ length ys → take n (ys ++ zs) ≡ ys
written-back-on zs [] n is = ap (λ (k : ℕ). take k zs) is
written-back-on zs (y ∷ ys) zero is = absurd (omega (arith, is))
written-back-on zs (y ∷ ys) (suc n) is = ap (λ (k : List ℕ). y ∷ k) (written-back-on zs ys n (omega (arith, is)))

-- what is written back through a slice
pub written-back : (xs ys : List ℕ) (n : ℕ) → n ≡ length ys → take n (ys ++ drop (length ys) xs) ≡ ys
written-back xs ys n is = written-back-on (drop (length ys) xs) ys n is

-- nothing is in a list of length 0
pub empty-list : (items : List Entry) → length items ≡ 0 → items ≡ []
empty-list [] none = refl
empty-list (x ∷ items) none = absurd (omega (arith, none))
