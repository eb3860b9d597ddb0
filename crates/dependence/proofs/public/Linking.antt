-- The tables of followers as an event is added and taken out.
use Rattle.std.proofs.Common.{◌≡◌, ◌≢◌, ◌↔◌, inl, inr, ℕ, zero, suc, ◌+◌, ◌<◌, ◌≤◌, List, [], ◌∷◌, ◌++◌, length, take, drop, get_or, Some, refl, sym, ◌∙◌, ap, subst, arith, length-set}
use Rattle.std.specs.Prelude.{slice_get, slice_set}
use Rattle.std.specs.List.{remove}
use Rattle.std.proofs.lemmas.Bool.{cases_eq}
use Rattle.std.proofs.lemmas.Option.{get_or_from_slice_get, slice_get_within, slice_get-get_or}
use Rattle.syntax.specs.Lists.{In}
use Rattle.runs.specs.InOrder.{InOrder}
use Rattle.runs.specs.Live.{Live, Rising, LiveAt, NoneAt}
use Rattle.runs.specs.declared.event.Event.{Event}
use Rattle.runs.proofs.public.Tickets.{rising-in}
use Rattle.dependence.specs.Followers.{ListsLeads, Follower, ListsFollowers}
use Rattle.dependence.specs.declared.links.Links.{Links}
use Rattle.dependence.specs.internal.Tables.{IsRising, Linked, Falling, PartLinked, ListsWith, FollowersChanged, Removed}
use Rattle.runs.proofs.public.Lists.{in-left, in-right, in-parts, every-in}
use Rattle.dependence.proofs.public.ListPlaces.{in-at, in-removed, in-order-removed, at-one, at-within, set-here, set-other, parts-at, take-next, drop-next, in-order-more, in-order-right, in-order-across}

-- where the tickets rise, a ticket stands at one index
pub one-index : (low next : ℕ) (l : Live) (t : ℕ) (e f : Event) (i j : ℕ) → Rising low l next → slice_get l i ≡ Some (t, e) → slice_get l j ≡ Some (t, f) → i ≡ j
one-index low next [] t e f i j r a b = absurd (in-at [] i (t, e) a)
one-index low next (x ∷ l) t e f zero zero r a b = refl
one-index low next (x ∷ l) t e f zero (suc j) r a b =
    let is : t ≡ x.0 = ap (λ (y : ℕ × Event). y.0) (at-one (x ∷ l) zero (t, e) x a refl) in
    let above : suc x.0 ≤ t = (rising-in (suc x.0) next l t f r.1 (in-at l j (t, f) b)).0 in
    absurd (omega arith)
one-index low next (x ∷ l) t e f (suc i) zero r a b =
    let is : t ≡ x.0 = ap (λ (y : ℕ × Event). y.0) (at-one (x ∷ l) zero (t, f) x b refl) in
    let above : suc x.0 ≤ t = (rising-in (suc x.0) next l t e r.1 (in-at l i (t, e) a)).0 in
    absurd (omega arith)
one-index low next (x ∷ l) t e f (suc i) (suc j) r a b = ap suc (one-index (suc x.0) next l t e f i j r.1 a b)

-- what is in the tables for P is in them for what means the same
pub part-same : (l : Live) (n : ℕ) (P Q : ℕ → Type 0) (links : List Links) → ((t : ℕ) → P t ↔ Q t) → PartLinked l n P links → PartLinked l n Q links
part-same l n P Q links both p = record {
  size = p.size;
  followers = λ i t e m at on.
      let old = p.followers i t e m at on in
      record {
        exactly = λ u. (
          (λ j. elim ((old.exactly u).0 j) [ inl a ↦ inl a | inr a ↦ inr (a.0, (both t).0 a.1) ]),
          (λ h. (old.exactly u).1 (elim h [ inl a ↦ inl a | inr a ↦ inr (a.0, (both t).1 a.1) ])),
        );
        ascending = old.ascending;
      };
  leads = p.leads;
  falling = p.falling;
}

pub linked-part : (l : Live) (n : ℕ) (links : List Links) → Linked l links → PartLinked l n (λ t. ⊥) links
linked-part l n links p = record {
  size = p.size;
  followers = λ i t e m at on.
      let old = p.followers i t e m at on in
      record {
        exactly = λ u. ((λ j. inl ((old.exactly u).0 j)), (λ h. elim h [ inl a ↦ (old.exactly u).1 a | inr a ↦ absurd a.1 ]));
        ascending = old.ascending;
      };
  leads = p.leads;
  falling = p.falling;
}

pub part-linked : (l : Live) (n : ℕ) (links : List Links) → PartLinked l n (λ t. ⊥) links → Linked l links
part-linked l n links p = record {
  size = p.size;
  followers = λ i t e m at on.
      let old = p.followers i t e m at on in
      record {
        exactly = λ u. ((λ j. elim ((old.exactly u).0 j) [ inl a ↦ a | inr a ↦ absurd a.1 ]), (λ f. (old.exactly u).1 (inl f)));
        ascending = old.ascending;
      };
  leads = p.leads;
  falling = p.falling;
}

-- the list of one event is changed, so that it has n behind it where Q holds; P and Q differ for no other
module _ (low next : ℕ) (l : Live) (n t : ℕ) (P Q : ℕ → Type 0) (change : List ℕ → List ℕ → Type 0) (old new : List Links) (r : Rising low l next)
    (others : (s : ℕ) → s ≢ t → P s ↔ Q s) (c : FollowersChanged l t change old new) (p : PartLinked l n P old) where
  size-kept : length new ≡ length l
  size-kept = ap length c.is ∙ length-set old c.index c.after ∙ p.size

  inside : c.index < length old
  inside = slice_get_within old c.index c.before c.was

  -- what stands at the index now
  there : (m : Links) → slice_get new c.index ≡ Some m → m ≡ c.after
  there m on = at-one new c.index m c.after on (ap (λ (k : List Links). slice_get k c.index) c.is ∙ set-here old c.index c.after inside)

  -- what stands elsewhere stood there
  elsewhere : (i : ℕ) (m : Links) → i ≢ c.index → slice_get new i ≡ Some m → slice_get old i ≡ Some m
  elsewhere i m differs on = sym (set-other old c.index i c.after differs) ∙ ap (λ (k : List Links). slice_get k i) (sym c.is) ∙ on

  old-list : ListsWith l n t (P t) c.before.followers.items
  old-list = p.followers c.index t c.event c.before c.stands c.was

  followers-kept : ListsWith l n t (Q t) c.after.followers.items → (i s : ℕ) (e : Event) (m : Links) → slice_get l i ≡ Some (s, e) → slice_get new i ≡ Some m →
      ListsWith l n s (Q s) m.followers.items
  followers-kept list i s e m at on = elim (cases_eq i c.index) [
    | inl is ↦
        let here : slice_get l c.index ≡ Some (s, e) = subst (λ (k : ℕ). slice_get l k ≡ Some (s, e)) is at in
        let one : s ≡ t = ap (λ (x : ℕ × Event). x.0) (at-one l c.index (s, e) (t, c.event) here c.stands) in
        let what : m ≡ c.after = there m (subst (λ (k : ℕ). slice_get new k ≡ Some m) is on) in
        subst (λ (k : ℕ). ListsWith l n k (Q k) m.followers.items) (sym one)
        (subst (λ (k : Links). ListsWith l n t (Q t) k.followers.items) (sym what) list)
    | inr differs ↦
        let before = p.followers i s e m at (elsewhere i m differs on) in
        let other : s ≢ t = λ is. differs (one-index low next l t e c.event i c.index r (at ∙ ap (λ (k : ℕ). Some (k, e)) is) c.stands) in
        let both = others s other in
        record {
          exactly = λ u. (
            (λ j. elim ((before.exactly u).0 j) [ inl a ↦ inl a | inr a ↦ inr (a.0, both.0 a.1) ]),
            (λ h. (before.exactly u).1 (elim h [ inl a ↦ inl a | inr a ↦ inr (a.0, both.1 a.1) ])),
          );
          ascending = before.ascending;
        }
  ]

  leads-kept : (i u : ℕ) (f : Event) (m : Links) → slice_get l i ≡ Some (u, f) → slice_get new i ≡ Some m → (s : ℕ) → In s m.leads.items ↔ Follower l s u
  leads-kept i u f m at on s = elim (cases_eq i c.index) [
    | inl is ↦
        let here : slice_get l c.index ≡ Some (u, f) = subst (λ (k : ℕ). slice_get l k ≡ Some (u, f)) is at in
        let what : m ≡ c.after = there m (subst (λ (k : ℕ). slice_get new k ≡ Some m) is on) in
        let known = p.leads c.index u f c.before here c.was s in
        subst (λ (k : List ℕ). In s k ↔ Follower l s u) (sym (ap (λ (k : Links). k.leads.items) what ∙ c.leads)) known
    | inr differs ↦ p.leads i u f m at (elsewhere i m differs on) s
  ]

  falling-kept : (i : ℕ) (m : Links) → slice_get new i ≡ Some m → Falling m.leads.items
  falling-kept i m on = elim (cases_eq i c.index) [
    | inl is ↦
        let what : m ≡ c.after = there m (subst (λ (k : ℕ). slice_get new k ≡ Some m) is on) in
        subst (λ (k : List ℕ). Falling k) (sym (ap (λ (k : Links). k.leads.items) what ∙ c.leads)) (p.falling c.index c.before c.was)
    | inr differs ↦ p.falling i m (elsewhere i m differs on)
  ]

  pub part-changed : ListsWith l n t (Q t) c.after.followers.items → PartLinked l n Q new
  part-changed list = record { size = size-kept; followers = followers-kept list; leads = leads-kept; falling = falling-kept }

-- the ticket n is put behind the followers of t, which is the next of those that it follows
pub link-more : (low : ℕ) (l : Live) (n t done : ℕ) (leads : List ℕ) (old new : List Links) → Rising low l n → Falling leads → slice_get leads done ≡ Some t →
    FollowersChanged l t (λ before after. after ≡ before ++ n ∷ []) old new → PartLinked l n (λ s. In s (take done leads)) old →
    PartLinked l n (λ s. In s (take (suc done) leads)) new
link-more low l n t done leads old new r falling is c p =
    let next : take (suc done) leads ≡ take done leads ++ t ∷ [] = take-next leads done t is in
    let list = p.followers c.index t c.event c.before c.stands c.was in
    let absent : In t (take done leads) → ⊥ = λ i.
    let less : t < t = in-order-across (λ (a : ℕ) (b : ℕ). b < a) (take done leads) (t ∷ drop (suc done) leads) t t
    (subst (λ (k : List ℕ). Falling k) (parts-at leads done t is) falling) i (inl refl) in
    absurd (omega arith) in
    let lower : (u : ℕ) → In u c.before.followers.items → u < n = λ u j. elim ((list.exactly u).0 j) [
      | inl f ↦ (rising-in low n l u f.dependent.dependent r f.dependent.dependent_live).1
      | inr more ↦ absurd (absent more.1)
    ] in
    part-changed low n l n t (λ s. In s (take done leads)) (λ s. In s (take (suc done) leads)) (λ before after. after ≡ before ++ n ∷ []) old new r
    (λ s differs. (
      (λ i. subst (λ (k : List ℕ). In s k) (sym next) (in-left s (take done leads) (t ∷ []) i)),
      (λ i. elim (in-parts s (take done leads) (t ∷ []) (subst (λ (k : List ℕ). In s k) next i)) [
        | inl a ↦ a
        | inr (inl a) ↦ absurd (differs a)
        | inr (inr a) ↦ absurd a
      ]),
    ))
    c p
    (subst (λ (k : List ℕ). ListsWith l n t (In t (take (suc done) leads)) k) (sym c.followers)
    (record {
      exactly = λ u. (
        (λ i. elim (in-parts u c.before.followers.items (n ∷ []) i) [
          | inl a ↦ elim ((list.exactly u).0 a) [ inl f ↦ inl f | inr more ↦ absurd (absent more.1) ]
          | inr (inl a) ↦ inr (a, subst (λ (k : List ℕ). In t k) (sym next) (in-right t (take done leads) (t ∷ []) (inl refl)))
          | inr (inr a) ↦ absurd a
        ]),
        (λ h. elim h [
          | inl f ↦ in-left u c.before.followers.items (n ∷ []) ((list.exactly u).1 (inl f))
          | inr more ↦ in-right u c.before.followers.items (n ∷ []) (inl more.0)
        ]),
      );
      ascending = in-order-more ◌<◌ c.before.followers.items n list.ascending lower;
    }))

-- nothing is changed
pub link-same : (low next : ℕ) (l : Live) (n t : ℕ) (P : ℕ → Type 0) (old new : List Links) → Rising low l next →
    FollowersChanged l t (λ before after. after ≡ before) old new → PartLinked l n P old → PartLinked l n P new
link-same low next l n t P old new r c p =
    part-changed low next l n t P P (λ before after. after ≡ before) old new r (λ s differs. ((λ i. i), (λ i. i))) c p
    (subst (λ (k : List ℕ). ListsWith l n t (P t) k) (sym c.followers) (p.followers c.index t c.event c.before c.stands c.was))

-- n, which is not live, is taken out of the followers of t, which is the next of those that it followed
pub unlink-more : (low next : ℕ) (l : Live) (n t done : ℕ) (leads : List ℕ) (old new : List Links) → Rising low l next → NoneAt l n → Falling leads →
    slice_get leads done ≡ Some t → FollowersChanged l t (Removed n) old new → PartLinked l n (λ s. In s (drop done leads)) old →
    PartLinked l n (λ s. In s (drop (suc done) leads)) new
unlink-more low next l n t done leads old new r none falling is c p =
    let rest : drop done leads ≡ t ∷ drop (suc done) leads = drop-next leads done t is in
    let list = p.followers c.index t c.event c.before c.stands c.was in
    let absent : In t (drop (suc done) leads) → ⊥ = λ i.
    let less : t < t = every-in (λ (b : ℕ). b < t) (drop (suc done) leads) t
    (in-order-right (λ (a : ℕ) (b : ℕ). b < a) (take done leads) (t ∷ drop (suc done) leads)
    (subst (λ (k : List ℕ). Falling k) (parts-at leads done t is) falling)).0 i in
    absurd (omega arith) in
    part-changed low next l n t (λ s. In s (drop done leads)) (λ s. In s (drop (suc done) leads)) (Removed n) old new r
    (λ s differs. (
      (λ i. elim (subst (λ (k : List ℕ). In s k) rest i) [ inl a ↦ absurd (differs a) | inr a ↦ a ]),
      (λ i. subst (λ (k : List ℕ). In s k) (sym rest) (inr i)),
    ))
    c p
    (record {
      exactly = λ u. (
        (λ i.
            let kept = (c.followers.exactly u).0 i in
            elim ((list.exactly u).0 kept.0) [ inl f ↦ inl f | inr more ↦ absurd (kept.1 more.0) ]),
        (λ h. elim h [
          | inl f ↦ (c.followers.exactly u).1
              ((list.exactly u).1 (inl f), λ same. none f.dependent.dependent (subst (λ (v : ℕ). LiveAt l v f.dependent.dependent) same f.dependent.dependent_live))
          | inr more ↦ absurd (absent more.1)
        ]),
      );
      ascending = c.followers.ascending;
    })

-- the lists at all places are ascending
pub lists-ascend : (l : Live) (n : ℕ) (P : ℕ → Type 0) (links : List Links) → PartLinked l n P links → (i : ℕ) (m : Links) → slice_get links i ≡ Some m →
    InOrder ◌<◌ m.followers.items
lists-ascend l n P links p i m on =
    let within : i < length links = slice_get_within links i m on in
    let size : length links ≡ length l = p.size in
    let less : i < length l = omega arith in
    let at = at-within l i less in
    (p.followers i at.0.0 at.0.1 m at.1 on).ascending

-- the list at the index of t is written
pub changed-at : (l : Live) (t index : ℕ) (e : Event) (change : List ℕ → List ℕ → Type 0) (old : List Links) (r after : Links) → slice_get l index ≡ Some (t, e) →
    length old ≡ length l → change (get_or old index r).followers.items after.followers.items → after.leads.items ≡ (get_or old index r).leads.items →
    FollowersChanged l t change old (slice_set old index after)
changed-at l t index e change old r after stands size changes leads =
    let inside : index < length l = slice_get_within l index (t, e) stands in
    let within : index < length old = omega arith in
    record {
      index = index;
      event = e;
      before = get_or old index r;
      after = after;
      stands = stands;
      was = slice_get-get_or old index r within;
      is = refl;
      followers = changes;
      leads = leads;
    }

pub removed : (ts us : List ℕ) (i t : ℕ) → slice_get ts i ≡ Some t → InOrder ◌<◌ ts → us ≡ remove ts i → Removed t ts us
removed ts us i t is o left = record {
  exactly = λ u. subst (λ (k : List ℕ). In u k ↔ (In u ts × (u ≡ t → ⊥))) (sym left) (in-removed ts i t u is o);
  ascending = subst (λ (k : List ℕ). InOrder ◌<◌ k) (sym left) (in-order-removed ◌<◌ ts i t is o);
}

-- one more is passed
pub link-next : (l : Live) (n t done : ℕ) (leads : List ℕ) (old new : List Links) → Rising 0 l n → Falling leads → done < length leads → t ≡ get_or leads done 0 →
    FollowersChanged l t (λ before after. after ≡ before ++ n ∷ []) old new → PartLinked l n (λ s. In s (take done leads)) old →
    PartLinked l n (λ s. In s (take (done + 1) leads)) new
link-next l n t done leads old new r falling less is c p =
    let more : suc done ≡ done + 1 = omega arith in
    subst (λ (k : ℕ). PartLinked l n (λ s. In s (take k leads)) new) more
    (link-more 0 l n t done leads old new r falling (slice_get-get_or leads done 0 less ∙ ap (λ (k : ℕ). Some k) (sym is)) c p)

pub unlink-next : (l : Live) (n t done : ℕ) (leads : List ℕ) (old new : List Links) → IsRising l → NoneAt l n → Falling leads → done < length leads → t ≡ get_or leads done 0 →
    FollowersChanged l t (Removed n) old new → PartLinked l n (λ s. In s (drop done leads)) old →
    PartLinked l n (λ s. In s (drop (done + 1) leads)) new
unlink-next l n t done leads old new r none falling less is c p =
    let more : suc done ≡ done + 1 = omega arith in
    subst (λ (k : ℕ). PartLinked l n (λ s. In s (drop k leads)) new) more
    (unlink-more 0 r.0 l n t done leads old new r.1 none falling (slice_get-get_or leads done 0 less ∙ ap (λ (k : ℕ). Some k) (sym is)) c p)

-- the next ticket is not live
pub next-absent : (l : Live) (n : ℕ) → Rising 0 l n → NoneAt l n
next-absent l n r e i = let less : n < n = (rising-in 0 n l n e r i).1 in omega arith

-- what the tables say of an index
pub record LinkedHere (l : Live) (index : ℕ) (m : Links) : Type 0 where
  pub ticket : ℕ
  pub event : Event
  pub stands : slice_get l index ≡ Some (ticket, event)
  pub followers : ListsFollowers l ticket m.followers.items
  pub leads : (t : ℕ) → In t m.leads.items ↔ Follower l t ticket
  pub falling : Falling m.leads.items

pub linked-here : (l : Live) (links : List Links) (index : ℕ) (r : Links) → Linked l links → index < length l → LinkedHere l index (get_or links index r)
linked-here l links index r p less =
    let size : length links ≡ length l = p.size in
    let within : index < length links = omega arith in
    let on = slice_get-get_or links index r within in
    let at = at-within l index less in
    record {
      ticket = at.0.0;
      event = at.0.1;
      stands = at.1;
      followers = p.followers index at.0.0 at.0.1 (get_or links index r) at.1 on;
      leads = p.leads index at.0.0 at.0.1 (get_or links index r) at.1 on;
      falling = p.falling index (get_or links index r) on;
    }

-- what the tables list at the index of a ticket
pub linked-there : (l : Live) (links : List Links) (index : ℕ) (m : Links) → Linked l links → index < length l → slice_get links index ≡ Some m → LinkedHere l index m
linked-there l links index m p less on = subst (λ (k : Links). LinkedHere l index k) (get_or_from_slice_get links index m m on) (linked-here l links index m p less)

pub followers-at : (l : Live) (links : List Links) (t index : ℕ) (e : Event) (m : Links) → Linked l links → slice_get l index ≡ Some (t, e) → m ≡ get_or links index m →
    ListsFollowers l t m.followers.items
followers-at l links t index e m p at is =
    let inside : index < length l = slice_get_within l index (t, e) at in
    let size : length links ≡ length l = p.size in
    let within : index < length links = omega arith in
    p.followers index t e m at (slice_get-get_or links index m within ∙ ap (λ (k : Links). Some k) (sym is))

-- what the tables list of the events that it follows
pub leads-at : (l : Live) (links : List Links) (u index : ℕ) (f : Event) (m : Links) → Linked l links → slice_get l index ≡ Some (u, f) → m ≡ get_or links index m →
    ListsLeads l u m.leads.items
leads-at l links u index f m p at is =
    let inside : index < length l = slice_get_within l index (u, f) at in
    let size : length links ≡ length l = p.size in
    let within : index < length links = omega arith in
    let held : slice_get links index ≡ Some m = slice_get-get_or links index m within ∙ ap (λ (k : Links). Some k) (sym is) in
    record { exactly = p.leads index u f m at held; falling = p.falling index m held }
