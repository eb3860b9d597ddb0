-- The tables after an event is added at the end, and after one is taken out.
use Rattle.std.proofs.Common.{◌≡◌, ◌≢◌, ◌⊎◌, ◌↔◌, inl, inr, ℕ, zero, suc, ◌<◌, ◌≤◌, List, [], ◌∷◌, ◌++◌, length, take, drop, get_or, Some, refl, sym, ◌∙◌, ap, subst, arith, length-append}
use Rattle.std.specs.Prelude.{slice_get}
use Rattle.std.specs.List.{remove}
use Rattle.std.proofs.lemmas.Bool.{cases_eq, cases_lt}
use Rattle.std.proofs.lemmas.List.{append-nil}
use Rattle.std.proofs.lemmas.Option.{slice_get_within, slice_get-get_or}
use Rattle.syntax.specs.Lists.{In}
use Rattle.runs.specs.Dependence.{ended, stays, leaves}
use Rattle.runs.specs.Live.{Live, Rising, LiveAt, NoneAt, NoDependent, WithoutTickets, IsLive}
use Rattle.runs.specs.declared.event.Event.{Event}
use Rattle.runs.proofs.public.Lists.{in-parts}
use Rattle.runs.proofs.public.Tickets.{rising-in, rising-lower}
use Rattle.runs.proofs.public.UndoLaws.{without-live}
use Rattle.dependence.specs.Followers.{Follower, ListsFollowers}
use Rattle.dependence.specs.declared.links.Links.{Links}
use Rattle.dependence.specs.internal.Tables.{IsRising, StandsAt, Linked, Falling, PartLinked, ListsWith, Candidates, Topmost}
use Rattle.dependence.proofs.public.ListPlaces.{in-at, at-one, take-all, drop-all, removed-below, removed-above}
use Rattle.dependence.proofs.public.Linking.{one-index}
use Rattle.dependence.proofs.AddedEvent.{added, others-stay, new-follows}
use Rattle.dependence.proofs.public.FollowerLaws.{no-new-follower}

-- the last of a list, or one before
pub at-end : {X : Type 0} (xs : List X) (x y : X) (i : ℕ) → slice_get (xs ++ x ∷ []) i ≡ Some y → ((i < length xs) × (slice_get xs i ≡ Some y)) ⊎ (y ≡ x)
at-end [] x y zero h = inr (at-one (x ∷ []) zero y x h refl)
at-end [] x y (suc i) h = absurd (in-at [] i y h)
at-end (z ∷ xs) x y zero h = inl (omega arith, h)
at-end (z ∷ xs) x y (suc i) h = elim (at-end xs x y i h) [
  | inl a ↦ let less : i < length xs = a.0 in inl (omega arith, a.1)
  | inr a ↦ inr a
]

-- where both lists have a last element, it is at the last index of both
both-ends : {X Y : Type 0} (xs : List X) (ys : List Y) (x a : X) (y b : Y) (i : ℕ) → length xs ≡ length ys → slice_get (xs ++ x ∷ []) i ≡ Some a →
    slice_get (ys ++ y ∷ []) i ≡ Some b → ((slice_get xs i ≡ Some a) × (slice_get ys i ≡ Some b)) ⊎ ((a ≡ x) × (b ≡ y))
both-ends [] [] x a y b zero same h k = inr (at-one (x ∷ []) zero a x h refl, at-one (y ∷ []) zero b y k refl)
both-ends [] [] x a y b (suc i) same h k = absurd (in-at [] i a h)
both-ends [] (v ∷ ys) x a y b i same h k = absurd (omega arith)
both-ends (u ∷ xs) [] x a y b i same h k = absurd (omega arith)
both-ends (u ∷ xs) (v ∷ ys) x a y b zero same h k = inl (h, k)
both-ends (u ∷ xs) (v ∷ ys) x a y b (suc i) same h k = let size : length xs ≡ length ys = omega arith in both-ends xs ys x a y b i size h k

module _ (l : Live) (n : ℕ) (f : Event) (cs kept : List ℕ) (old : List Links) (new : Links) (r : Rising 0 l n) (c : Candidates l f cs)
    (tops : (t : ℕ) → In t kept ↔ Topmost l cs t) (falling : Falling kept) (p : PartLinked l n (λ t. In t kept) old) (none : new.followers.items ≡ [])
    (leads : new.leads.items ≡ kept) where
  follows-kept : (t : ℕ) → In t kept ↔ Follower (added l n f) t n
  follows-kept t =
      let one = tops t in
      let two = new-follows 0 l n f r cs c t in
      ((λ i. two.1 (one.0 i)), (λ k. one.1 (two.0 k)))

  not-new : (u : ℕ) (e : Event) → LiveAt l u e → u ≢ n
  not-new u e i is = let less : u < n = (rising-in 0 n l u e r i).1 in omega arith

  -- no event follows the last
  none-follow : (u : ℕ) → Follower (added l n f) n u → ⊥
  none-follow u k =
      let less : n < u = k.dependent.less in
      elim (in-parts (u, k.dependent.dependent) l ((n, f) ∷ []) k.dependent.dependent_live) [
        | inl a ↦ let low : u < n = (rising-in 0 n l u k.dependent.dependent r a).1 in omega arith
        | inr (inl a) ↦ let is : u ≡ n = ap (λ (x : ℕ × Event). x.0) a in omega arith
        | inr (inr a) ↦ a
      ]

  old-followers : (t : ℕ) (ts : List ℕ) → ListsWith l n t (In t kept) ts → ListsFollowers (added l n f) t ts
  old-followers t ts list = record {
    exactly = λ u. (
      (λ i. elim ((list.exactly u).0 i) [
        | inl k ↦ (others-stay 0 l n f r t u (not-new u k.dependent.dependent k.dependent.dependent_live)).1 k
        | inr h ↦ subst (λ (v : ℕ). Follower (added l n f) t v) (sym h.0) ((follows-kept t).0 h.1)
      ]),
      (λ k. elim (cases_eq u n) [
        | inl is ↦ (list.exactly u).1 (inr (is, (follows-kept t).1 (subst (λ (v : ℕ). Follower (added l n f) t v) is k)))
        | inr differs ↦ (list.exactly u).1 (inl ((others-stay 0 l n f r t u differs).0 k))
      ]),
    );
    ascending = list.ascending;
  }

  pub added-linked : Linked (added l n f) (old ++ new ∷ [])
  added-linked =
      let size : length old ≡ length l = p.size in
      let same_size : length l ≡ length old = omega arith in
      record {
        size =
            let one = length-append old (new ∷ []) in
            let two = length-append l ((n, f) ∷ []) in
            omega arith;
        followers = λ i t e m at on. elim (both-ends l old (n, f) (t, e) new m i same_size at on) [
          | inl a ↦ old-followers t m.followers.items (p.followers i t e m a.0 a.1)
          | inr a ↦
              let is : t ≡ n = ap (λ (x : ℕ × Event). x.0) a.0 in
              let empty : m.followers.items ≡ [] = ap (λ (k : Links). k.followers.items) a.1 ∙ none in
              subst (λ (ts : List ℕ). ListsFollowers (added l n f) t ts) (sym empty) (record {
                exactly = λ u. ((λ j. absurd j), (λ k. none-follow u (subst (λ (v : ℕ). Follower (added l n f) v u) is k)));
                ascending = tt;
              })
        ];
        leads = λ i u g m at on t. elim (both-ends l old (n, f) (u, g) new m i same_size at on) [
          | inl a ↦
              let before = p.leads i u g m a.0 a.1 t in
              let same = others-stay 0 l n f r t u (not-new u g (in-at l i (u, g) a.0)) in
              ((λ j. same.1 (before.0 j)), (λ k. before.1 (same.0 k)))
          | inr a ↦
              let is : u ≡ n = ap (λ (x : ℕ × Event). x.0) a.0 in
              let list : m.leads.items ≡ kept = ap (λ (k : Links). k.leads.items) a.1 ∙ leads in
              let both = follows-kept t in
              subst (λ (ts : List ℕ). In t ts ↔ Follower (added l n f) t u) (sym list)
              (subst (λ (v : ℕ). In t kept ↔ Follower (added l n f) t v) (sym is) both)
        ];
        falling = λ i m on. elim (at-end old new m i on) [
          | inl a ↦ p.falling i m a.1
          | inr a ↦ subst (λ (ts : List ℕ). Falling ts) (sym (ap (λ (k : Links). k.leads.items) a ∙ leads)) falling
        ];
      }

-- candidates are live, so what is kept of them is
pub kept-live : (l : Live) (f : Event) (cs kept : List ℕ) → Candidates l f cs → ((t : ℕ) → In t kept ↔ Topmost l cs t) → (t : ℕ) → In t kept → IsLive l t
kept-live l f cs kept c tops t i = let at = c.sound t ((tops t).0 i).0 in (at.0, at.1)

-- a list without a ticket that is not in it
all-stay : (low next : ℕ) (l : Live) (t : ℕ) → Rising low l next → t < low → WithoutTickets (λ v. v ≡ t) l l
all-stay low next [] t r h = ended
all-stay low next (x ∷ l) t r h =
    let first : low ≤ x.0 = r.0 in
    let more : t < suc x.0 = omega arith in
    stays (λ (is : x.0 ≡ t). omega arith) (all-stay (suc x.0) next l t r.1 more)

-- the list without the entry at an index is the list without its ticket
pub without-index : (low next : ℕ) (l : Live) (t index : ℕ) (e : Event) → Rising low l next → slice_get l index ≡ Some (t, e) →
    WithoutTickets (λ v. v ≡ t) l (remove l index)
without-index low next [] t index e r at = absurd (in-at [] index (t, e) at)
without-index low next (x ∷ l) t zero e r at =
    let is : x.0 ≡ t = ap (λ (y : ℕ × Event). y.0) (at-one (x ∷ l) zero x (t, e) refl at) in
    let low_t : t < suc x.0 = omega arith in
    leaves is (all-stay (suc x.0) next l t r.1 low_t)
without-index low next (x ∷ l) t (suc index) e r at =
    let above : suc x.0 ≤ t = (rising-in (suc x.0) next l t e r.1 (in-at l index (t, e) at)).0 in
    stays (λ (is : x.0 ≡ t). omega arith) (without-index (suc x.0) next l t index e r.1 at)

pub removed-rises : (low next : ℕ) (l : Live) (index : ℕ) → Rising low l next → Rising low (remove l index) next
removed-rises low next [] zero r = r
removed-rises low next [] (suc index) r = r
removed-rises low next (x ∷ l) zero r = let first : low ≤ x.0 = r.0 in let more : low ≤ suc x.0 = omega arith in rising-lower low (suc x.0) next l more r.1
removed-rises low next (x ∷ l) (suc index) r = (r.0, removed-rises (suc x.0) next l index r.1)

pub removed-size : {X : Type 0} (l : List X) (i : ℕ) → i < length l → suc (length (remove l i)) ≡ length l
removed-size [] i h = absurd (omega arith)
removed-size (x ∷ l) zero h = refl
removed-size (x ∷ l) (suc i) h = let less : i < length l = omega arith in let rest = removed-size l i less in omega arith

-- where an element stood before another was removed
stood : {X Y : Type 0} (l : List X) (m : List Y) (i j : ℕ) (x : X) (y : Y) → slice_get (remove l i) j ≡ Some x → slice_get (remove m i) j ≡ Some y →
    (k : ℕ) × (slice_get l k ≡ Some x) × (slice_get m k ≡ Some y) × (k ≢ i)
stood l m i j x y a b = elim (cases_lt j i) [
  | inl below ↦ (j, sym (removed-below l i j below) ∙ a, sym (removed-below m i j below) ∙ b, λ is. omega arith)
  | inr above ↦ (suc j, sym (removed-above l i j above) ∙ a, sym (removed-above m i j above) ∙ b, λ is. omega arith)
]

stood-one : {X : Type 0} (l : List X) (i j : ℕ) (x : X) → slice_get (remove l i) j ≡ Some x → (k : ℕ) × (slice_get l k ≡ Some x)
stood-one l i j x a = elim (cases_lt j i) [
  | inl below ↦ (j, sym (removed-below l i j below) ∙ a)
  | inr above ↦ (suc j, sym (removed-above l i j above) ∙ a)
]

module _ (next : ℕ) (l : Live) (links : List Links) (t index : ℕ) (e : Event) (m : Links) (r : Rising 0 l next) (p : Linked l links) (none : NoDependent l t)
    (at : slice_get l index ≡ Some (t, e)) (on : slice_get links index ≡ Some m) where
  left : WithoutTickets (λ v. v ≡ t) l (remove l index)
  left = without-index 0 next l t index e r at

  pub taken-absent : NoneAt (remove l index) t
  taken-absent f i = ((without-live (λ (v : ℕ). v ≡ t) l (remove l index) left).0 t f i).1 refl

  -- what the taken event followed is live still
  pub taken-live : (s : ℕ) → In s m.leads.items → IsLive (remove l index) s
  taken-live s i =
      let f = (p.leads index t e m at on s).0 i in
      let d = f.dependent in
      let less : s < t = d.less in
      (d.event, (without-live (λ (v : ℕ). v ≡ t) l (remove l index) left).1 s d.event d.live (λ is. omega arith))

  pub taken-part : PartLinked (remove l index) t (λ s. In s m.leads.items) (remove links index)
  taken-part = record {
    size =
        let inside : index < length l = slice_get_within l index (t, e) at in
        let within : index < length links = slice_get_within links index m on in
        let one = removed-size l index inside in
        let two = removed-size links index within in
        let size : length links ≡ length l = p.size in
        omega arith;
    followers = λ j s g m' at' on'.
        let was = stood l links index j (s, g) m' at' on' in
        let list = p.followers was.0 s g m' was.1 was.2 in
        let followed = p.leads index t e m at on s in
        record {
          exactly = λ u. (
            (λ i.
                let f = (list.exactly u).0 i in
                elim (cases_eq u t) [
                  | inl is ↦ inr (is, followed.1 (subst (λ (v : ℕ). Follower l s v) is f))
                  | inr differs ↦ inl ((no-new-follower l (remove l index) t s u none left).1 (f, differs))
                ]),
            (λ h. elim h [
              | inl f ↦ (list.exactly u).1 ((no-new-follower l (remove l index) t s u none left).0 f).0
              | inr k ↦ (list.exactly u).1 (subst (λ (v : ℕ). Follower l s v) (sym k.0) (followed.0 k.1))
            ]),
          );
          ascending = list.ascending;
        };
    leads = λ j u g m' at' on' s.
        let was = stood l links index j (u, g) m' at' on' in
        let before = p.leads was.0 u g m' was.1 was.2 s in
        let differs : u ≢ t = λ is. was.3 (one-index 0 next l u g e was.0 index r was.1 (at ∙ ap (λ (v : ℕ). Some (v, e)) (sym is))) in
        let both = no-new-follower l (remove l index) t s u none left in
        ((λ i. both.1 (before.0 i, differs)), (λ f. before.1 (both.0 f).0));
    falling = λ j m' on'. let was = stood-one links index j m' on' in p.falling was.0 m' was.1;
  }

-- what is lent of a whole vector and comes back
pub take-whole : {X : Type 0} (xs ys : List X) (n : ℕ) → length xs ≡ length ys → n ≡ length ys → take n (xs ++ drop (length xs) ys) ≡ xs
take-whole {X = X} xs ys n same is =
    ap (λ (zs : List X). take n (xs ++ zs)) (drop-all ys (length xs) (omega arith)) ∙ ap (λ (zs : List X). take n zs) (append-nil xs) ∙ take-all xs n (omega arith)

-- candidates are live
pub candidates-live : (l : Live) (f : Event) (cs ds : List ℕ) → cs ≡ ds → Candidates l f ds → (t : ℕ) → In t cs → IsLive l t
candidates-live l f cs ds is c t i = let at = c.sound t (subst (λ (k : List ℕ). In t k) is i) in (at.0, at.1)

-- the same candidates in another list
pub candidates-alike : (l : Live) (f : Event) (cs ds : List ℕ) → ((t : ℕ) → In t cs ↔ In t ds) → Candidates l f cs → Candidates l f ds
candidates-alike l f cs ds same c = record {
  sound = λ t i. c.sound t ((same t).1 i);
  complete = λ t e live direct. let found = c.complete t e live direct in (found.0, (same found.0).0 found.1, found.2);
}

-- all that the take of an event asks and leaves
pub record TakenAt (l k : Live) (rest : List Links) (t : ℕ) (kept : List ℕ) : Type 0 where
  pub rising : IsRising k
  pub absent : NoneAt k t
  pub live : (s : ℕ) → In s kept → IsLive k s
  pub falling : Falling kept
  pub linked : PartLinked k t (λ s. In s kept) rest

pub taken-at : (l k : Live) (links rest : List Links) (index : ℕ) (x : ℕ × Event) (m : Links) (kept : List ℕ) → IsRising l → Linked l links →
    (alone : (t : ℕ) × StandsAt l t index × NoDependent l t) → x ≡ get_or l index x → m ≡ get_or links index m → k ≡ remove l index → rest ≡ remove links index →
    kept ≡ m.leads.items → TakenAt l k rest x.0 kept
taken-at l k links rest index x m kept r p alone x_is m_is k_is rest_is kept_is =
    let t : ℕ = alone.0 in
    let e : Event = alone.1.0 in
    let at = alone.1.1 in
    let inside : index < length l = slice_get_within l index (t, e) at in
    let size : length links ≡ length l = p.size in
    let within : index < length links = omega arith in
    let on : slice_get links index ≡ Some m = slice_get-get_or links index m within ∙ ap (λ (y : Links). Some y) (sym m_is) in
    let one : t ≡ x.0 = ap (λ (y : ℕ × Event). y.0) (at-one l index (t, e) x at (slice_get-get_or l index x inside ∙ ap (λ (y : ℕ × Event). Some y) (sym x_is))) in
    let whole : TakenAt l (remove l index) (remove links index) t m.leads.items = record {
      rising = (r.0, removed-rises 0 r.0 l index r.1);
      absent = taken-absent r.0 l links t index e m r.1 p alone.2 at on;
      live = taken-live r.0 l links t index e m r.1 p alone.2 at on;
      falling = p.falling index m on;
      linked = taken-part r.0 l links t index e m r.1 p alone.2 at on;
    } in
    subst (λ (v : ℕ). TakenAt l k rest v kept) one
    (subst (λ (v : Live). TakenAt l v rest t kept) (sym k_is)
    (subst (λ (v : List Links). TakenAt l (remove l index) v t kept) (sym rest_is)
    (subst (λ (v : List ℕ). TakenAt l (remove l index) (remove links index) t v) (sym kept_is) whole)))
