-- The sweep down over the live events: what is marked as it goes on, and what is listed.
use Rattle.std.proofs.Common.{◌≡◌, ◌⊎◌, ◌↔◌, inl, inr, ℕ, suc, ◌<◌, ◌≤◌, List, [], ◌∷◌, ◌++◌, Bool, true, false, length, Some, refl, sym, ◌∙◌, ap, subst, arith}
use Rattle.std.specs.Prelude.{slice_get, slice_set, reverse}
use Rattle.std.proofs.lemmas.Bool.{cases_lt}
use Rattle.std.proofs.lemmas.List.{reverse-append, reverse-reverse}
use Rattle.syntax.specs.Lists.{In, Every}
use Rattle.runs.specs.InOrder.{InOrder}
use Rattle.runs.specs.Live.{Live, Rising, DependsOn, same}
use Rattle.runs.specs.declared.event.Event.{Event}
use Rattle.runs.proofs.public.DependsOnLaw.{depends-up}
use Rattle.runs.proofs.public.Lists.{in-left, in-right, in-parts, every-in}
use Rattle.dependence.specs.Followers.{Follower, ListsLeads, Reached, here, along}
use Rattle.dependence.specs.internal.Marking.{MarkedAt}
use Rattle.dependence.proofs.public.ListPlaces.{in-at, index-in, at-one, in-order-more}
use Rattle.dependence.proofs.public.Linking.{one-index}
use Rattle.dependence.proofs.public.Standing.{index-rises, lesser-stands}
use Rattle.dependence.proofs.public.Following.{follows-on}
use Rattle.dependence.proofs.public.FollowerLaws.{direct-follows, reached-follows, reached-through-followers}
use Rattle.dependence.proofs.public.Markings.{set-marked}
use Rattle.past.specs.Past.{ListsTickets, Tells, tickets_of}
use Rattle.past.specs.declared.past.PastEvent.{PastEvent}
use Rattle.past.specs.internal.Swept.{MarkedFrom, FollowsAt, FromIndex, ListsDown, IsWhole}

-- nothing was marked, and now t alone is
pub marked-first : (low next : ℕ) (l : Live) (marks : List Bool) (t index : ℕ) (e : Event) → Rising low l next → length marks ≡ length l → slice_get l index ≡ Some (t, e) →
    ((i : ℕ) → slice_get marks i ≡ Some true → ⊥) → MarkedFrom l t (suc index) (slice_set marks index true)
marked-first low next l marks t index e r size stands none =
    let only : (u : ℕ) → MarkedAt l (slice_set marks index true) u → u ≡ t = λ u h.
    elim ((set-marked low next l marks t index e r size stands u).0 h) [ inl old ↦ absurd (none old.0 old.2) | inr is ↦ is ] in
    record {
      sound = λ u h. subst (λ (v : ℕ). DependsOn l v t) (sym (only u h)) same;
      start = (set-marked low next l marks t index e r size stands t).1 (inr refl);
      onward = λ s u i at above h f.
          let is : s ≡ t = only s h in
          let one : i ≡ index = one-index low next l t at.0 e i index r (subst (λ (v : ℕ). slice_get l i ≡ Some (v, at.0)) is at.1) stands in
          absurd (omega arith);
    }

-- the index is passed downwards: what its event follows is marked if it is
module _ (low next : ℕ) (l : Live) (t index s : ℕ) (e : Event) (old new : List Bool) (r : Rising low l next) (stands : slice_get l index ≡ Some (s, e)) (b : MarkedFrom l t (suc index) old) where
  pub pass-marked : (leads : List ℕ) → slice_get old index ≡ Some true → ListsLeads l s leads →
      ((u : ℕ) → MarkedAt l new u ↔ (MarkedAt l old u ⊎ In u leads)) → MarkedFrom l t index new
  pass-marked leads on lists both = record {
    sound = λ u h. elim ((both u).0 h) [
      | inl before ↦ b.sound u before
      | inr added ↦ follows-on l u s t (direct-follows l u s ((lists.exactly u).0 added).dependent) (b.sound s (index, (e, stands), on))
    ];
    start = (both t).1 (inl b.start);
    onward = λ v u i at up h f. elim (cases_lt index i) [
      | inl above ↦ elim ((both v).0 h) [
        | inl before ↦ (both u).1 (inl (b.onward v u i at above before f))
        | inr added ↦
            let down : v < s = ((lists.exactly v).0 added).dependent.less in
            let below : i < index = lesser-stands low next l i index v s at.0 e r at.1 stands down in
            absurd (omega arith)
      ]
      | inr not_above ↦
          let is : i ≡ index = omega arith in
          let one : v ≡ s = ap (λ (x : ℕ × Event). x.0) (at-one l index (v, at.0) (s, e) (subst (λ (k : ℕ). slice_get l k ≡ Some (v, at.0)) is at.1) stands) in
          (both u).1 (inr ((lists.exactly u).1 (subst (λ (k : ℕ). Follower l u k) one f)))
    ];
  }

  pub pass-unmarked : slice_get old index ≡ Some false → MarkedFrom l t index old
  pass-unmarked off = record {
    sound = b.sound;
    start = b.start;
    onward = λ v u i at up h f. elim (cases_lt index i) [
      | inl above ↦ b.onward v u i at above h f
      | inr not_above ↦
          let is : i ≡ index = omega arith in
          let same_place : h.0 ≡ i = one-index low next l v h.1.0 at.0 h.0 i r h.1.1 at.1 in
          let on : slice_get old index ≡ Some true = subst (λ (k : ℕ). slice_get old k ≡ Some true) (same_place ∙ is) h.2 in
          let both : true ≡ false = at-one old index true false on off in
          cc
    ];
  }

-- what t depends on at the next index down is marked
pub marked-here : (low next : ℕ) (l : Live) (t index s : ℕ) (e : Event) (marks : List Bool) → Rising low l next → slice_get l index ≡ Some (s, e) →
    MarkedFrom l t (suc index) marks → DependsOn l s t → MarkedAt l marks s
marked-here low next l t index s e marks r stands b on = down t ((reached-through-followers low next l s t r).0 on) b.start
  where
    down : (v : ℕ) → Reached l s v → MarkedAt l marks v → MarkedAt l marks s
    down v here at = at
    down v (along {u = w} before f) at =
        let up : s ≤ w = depends-up l s w (reached-follows l s w before) in
        let less : w < v = f.dependent.less in
        let place = lesser-stands low next l index at.0 s v e at.1.0 r stands at.1.1 (omega arith) in
        down w before (b.onward v w at.0 at.1 place at f)

-- ---- the list of what is marked
-- nothing is listed behind the event itself
pub listed-first : (low next : ℕ) (l : Live) (t index : ℕ) (e : Event) → Rising low l next → slice_get l index ≡ Some (t, e) → ListsDown l t (suc index) []
listed-first low next l t index e r stands = record {
  exactly = λ u. (
    (λ i. absurd i),
    (λ h.
        let up : u ≤ t = depends-up l u t h.depends in
        let behind : suc index ≤ h.place = h.behind in
        let over : t < u = index-rises low next l index h.place t u e h.event r stands h.stands (omega arith) in
        absurd (omega arith)),
  );
  falling = tt;
  tells = tt;
  follows = tt;
}

tickets-join : (events : List PastEvent) (one : PastEvent) → tickets_of (events ++ one ∷ []) ≡ tickets_of events ++ one.ticket ∷ []
tickets-join [] one = refl
tickets-join (e ∷ events) one = ap (λ (ts : List ℕ). e.ticket ∷ ts) (tickets-join events one)

every-more : (P : PastEvent → Type 0) (events : List PastEvent) (one : PastEvent) → Every P events → P one → Every P (events ++ one ∷ [])
every-more P [] one e p = (p, tt)
every-more P (x ∷ events) one e p = (e.0, every-more P events one e.1 p)

module _ (low next : ℕ) (l : Live) (t index s : ℕ) (e : Event) (marks : List Bool) (events : List PastEvent) (r : Rising low l next) (stands : slice_get l index ≡ Some (s, e))
    (b : MarkedFrom l t (suc index) marks) (down : ListsDown l t (suc index) events) where
  -- what stands from the index on stands behind it, or is its event
  parts : (u : ℕ) → FromIndex l t index u → FromIndex l t (suc index) u ⊎ (u ≡ s)
  parts u h = elim (cases_lt index h.place) [
    | inl over ↦ inl (record { place = h.place; event = h.event; stands = h.stands; behind = omega arith; depends = h.depends })
    | inr under ↦
        let behind : index ≤ h.place = h.behind in
        let is : h.place ≡ index = omega arith in
        inr (ap (λ (x : ℕ × Event). x.0) (at-one l index (u, h.event) (s, e) (subst (λ (k : ℕ). slice_get l k ≡ Some (u, h.event)) is h.stands) stands))
  ]

  further : (u : ℕ) → FromIndex l t (suc index) u → FromIndex l t index u
  further u h =
      let behind : suc index ≤ h.place = h.behind in
      record { place = h.place; event = h.event; stands = h.stands; behind = omega arith; depends = h.depends }

  -- its event is marked, and is listed
  pub listed-more : (one : PastEvent) → one.ticket ≡ s → slice_get marks index ≡ Some true → Tells l one → FollowsAt l one → ListsDown l t index (events ++ one ∷ [])
  listed-more one is on tells follows =
      let joined : tickets_of (events ++ one ∷ []) ≡ tickets_of events ++ s ∷ [] =
      tickets-join events one ∙ ap (λ (v : ℕ). tickets_of events ++ v ∷ []) is in
      let here : FromIndex l t index s =
      record { place = index; event = e; stands = stands; behind = omega arith; depends = b.sound s (index, (e, stands), on) } in
      record {
        exactly = λ u. subst (λ (ts : List ℕ). In u ts ↔ FromIndex l t index u) (sym joined) (
          (λ i. elim (in-parts u (tickets_of events) (s ∷ []) i) [
            | inl a ↦ further u ((down.exactly u).0 a)
            | inr (inl a) ↦ subst (λ (v : ℕ). FromIndex l t index v) (sym a) here
            | inr (inr a) ↦ absurd a
          ]),
          (λ h. elim (parts u h) [
            | inl behind ↦ in-left u (tickets_of events) (s ∷ []) ((down.exactly u).1 behind)
            | inr own ↦ in-right u (tickets_of events) (s ∷ []) (inl own)
          ]),
        );
        falling = subst (λ (ts : List ℕ). InOrder (λ (x : ℕ) (y : ℕ). y < x) ts) (sym joined)
            (in-order-more (λ (x : ℕ) (y : ℕ). y < x) (tickets_of events) s down.falling (λ u i.
            let h = (down.exactly u).0 i in
            let behind : suc index ≤ h.place = h.behind in
            index-rises low next l index h.place s u e h.event r stands h.stands (omega arith)));
        tells = every-more (λ (p : PastEvent). Tells l p) events one down.tells tells;
        follows = every-more (λ (p : PastEvent). FollowsAt l p) events one down.follows follows;
      }

  -- its event is not marked
  pub listed-same : slice_get marks index ≡ Some false → ListsDown l t index events
  listed-same off = record {
    exactly = λ u. (
      (λ i. further u ((down.exactly u).0 i)),
      (λ h. elim (parts u h) [
        | inl behind ↦ (down.exactly u).1 behind
        | inr own ↦
            let at = marked-here low next l t index s e marks r stands b (subst (λ (v : ℕ). DependsOn l v t) own h.depends) in
            let one : at.0 ≡ index = one-index low next l s at.1.0 e at.0 index r at.1.1 stands in
            let both : true ≡ false = at-one marks index true false (subst (λ (k : ℕ). slice_get marks k ≡ Some true) one at.2) off in
            cc
      ]),
    );
    falling = down.falling;
    tells = down.tells;
    follows = down.follows;
  }

-- ---- the other way round
reverse-cons : {X : Type 0} (x : X) (xs : List X) → reverse (x ∷ xs) ≡ reverse xs ++ x ∷ []
reverse-cons x xs = reverse-append (x ∷ []) xs

tickets-reverse : (events : List PastEvent) → tickets_of (reverse events) ≡ reverse (tickets_of events)
tickets-reverse [] = refl
tickets-reverse (x ∷ events) =
    ap (λ (es : List PastEvent). tickets_of es) (reverse-cons x events)
    ∙ tickets-join (reverse events) x
    ∙ ap (λ (ts : List ℕ). ts ++ x.ticket ∷ []) (tickets-reverse events)
    ∙ sym (reverse-cons x.ticket (tickets_of events))

in-reverse : (u : ℕ) (ts : List ℕ) → In u (reverse ts) ↔ In u ts
in-reverse u ts = (
  (λ i. subst (λ (k : List ℕ). In u k) (reverse-reverse ts) (there u (reverse ts) i)),
  (λ i. there u ts i),
)
  where
    there : (v : ℕ) (xs : List ℕ) → In v xs → In v (reverse xs)
    there v [] i = absurd i
    there v (x ∷ xs) i = subst (λ (k : List ℕ). In v k) (sym (reverse-cons x xs)) (elim i [
      | inl is ↦ in-right v (reverse xs) (x ∷ []) (inl is)
      | inr later ↦ in-left v (reverse xs) (x ∷ []) (there v xs later)
    ])

every-reverse : (P : PastEvent → Type 0) (events : List PastEvent) → Every P events → Every P (reverse events)
every-reverse P [] e = tt
every-reverse P (x ∷ events) e = subst (λ (k : List PastEvent). Every P k) (sym (reverse-cons x events)) (every-more P (reverse events) x (every-reverse P events e.1) e.0)

order-reverse : (ts : List ℕ) → InOrder (λ (x : ℕ) (y : ℕ). y < x) ts → InOrder ◌<◌ (reverse ts)
order-reverse [] o = tt
order-reverse (t ∷ ts) o = subst (λ (k : List ℕ). InOrder ◌<◌ k) (sym (reverse-cons t ts))
    (in-order-more ◌<◌ (reverse ts) t (order-reverse ts o.1) (λ u i. every-in (λ (v : ℕ). v < t) ts u o.0 ((in-reverse u ts).0 i)))

-- once all is passed, the list read from its end is the whole past
pub whole-listed : (l : Live) (t : ℕ) (events turned : List PastEvent) → turned ≡ reverse events → ListsDown l t 0 events → IsWhole l t turned
whole-listed l t events turned is down = subst (λ (es : List PastEvent). IsWhole l t es) (sym is) (record {
  tickets = subst (λ (ts : List ℕ). ListsTickets true l t ts) (sym (tickets-reverse events)) (record {
    exactly = λ u. (
      (λ i. let h = (down.exactly u).0 ((in-reverse u (tickets_of events)).0 i) in (h.event, in-at l h.place (u, h.event) h.stands, h.depends, refl)),
      (λ h.
          let at = index-in l (u, h.0) h.1 in
          (in-reverse u (tickets_of events)).1 ((down.exactly u).1
          (record { place = at.0; event = h.0; stands = at.1; behind = omega arith; depends = h.2 }))),
    );
    in_order = order-reverse (tickets_of events) down.falling;
  });
  tells = every-reverse (λ (p : PastEvent). Tells l p) events down.tells;
  follows = every-reverse (λ (p : PastEvent). FollowsAt l p) events down.follows;
})
