-- Undo and rollback: a step then its undo, when an undo is taken, and what a rollback leaves.
use Rattle.std.proofs.Common.{◌≡◌, inl, inr, ℕ, suc, ◌<◌, ◌≤◌, [], ◌∷◌, ◌++◌, refl, sym, ◌∙◌, ap, subst, arith}
use Rattle.std.proofs.lemmas.List.{append-nil}
use Rattle.syntax.specs.Lists.{In}
use Rattle.runs.specs.Dependence.{Causes, Without, ended, stays, leaves}
use Rattle.runs.specs.Live.{Live, events, Rising, LiveAt, DependsOn, WithoutTickets, NoDependent}
use Rattle.runs.specs.Object.{Object, with_event}
use Rattle.runs.specs.Sound.{Sound}
use Rattle.runs.specs.declared.event.Event.{Event}
use Rattle.runs.proofs.public.Elements.{Distinct}
use Rattle.runs.proofs.public.Respecting.{run-distinct}
use Rattle.runs.proofs.public.Tickets.{rising-in, rising-one, rising-more, live-right, event-in}
use Rattle.runs.proofs.public.Effects.{sound-formed}
use Rattle.runs.proofs.public.DependsOnLaw.{depends-up, depends-causes, causes-depends-at, causes-depends, one-ticket}

-- nothing live has the ticket, so nothing leaves
without-none : (t : ℕ) (l : Live) → ((u : ℕ) (e : Event) → LiveAt l u e → u ≡ t → ⊥) → WithoutTickets (λ v. v ≡ t) l l
without-none t [] none = ended
without-none t (x ∷ l) none = stays (none x.0 x.1 (inl refl)) (without-none t l (λ u e i. none u e (inr i)))

-- a list in which one entry alone has the ticket
pub without-one : (t : ℕ) (e : Event) (l k : Live) → ((u : ℕ) (f : Event) → LiveAt l u f → u ≡ t → ⊥) → ((u : ℕ) (f : Event) → LiveAt k u f → u ≡ t → ⊥) →
    WithoutTickets (λ v. v ≡ t) (l ++ (t, e) ∷ k) (l ++ k)
without-one t e [] k none after = leaves refl (without-none t k after)
without-one t e (x ∷ l) k none after = stays (none x.0 x.1 (inl refl)) (without-one t e l k (λ u f i. none u f (inr i)) after)

-- the newest event has no dependent
newest-alone : (o : Object) (e : Event) → Sound o → NoDependent (o.live ++ (o.next, e) ∷ []) o.next
newest-alone o e s u f i follows =
    let up = depends-up (o.live ++ (o.next, e) ∷ []) o.next u follows in
    let below : u < suc o.next = (rising-in 1 (suc o.next) (o.live ++ (o.next, e) ∷ []) u f (rising-more 1 o.next o.live e s.rising) i).1 in
    omega arith

-- what an undo of the newest event needs
pub record UndoesNewest (o : Object) (e : Event) : Type 0 where
  pub live : LiveAt (with_event o e).live o.next e
  pub alone : NoDependent (with_event o e).live o.next
  pub rest : WithoutTickets (λ v. v ≡ o.next) (with_event o e).live o.live

pub undoes-newest : (o : Object) (e : Event) → Sound o → UndoesNewest o e
undoes-newest o e s = record {
  live = live-right o.live ((o.next, e) ∷ []) (o.next, e) (inl refl);
  alone = newest-alone o e s;
  rest = subst (λ (l : Live). WithoutTickets (λ v. v ≡ o.next) (o.live ++ (o.next, e) ∷ []) l) (append-nil o.live)
      (without-one o.next e o.live []
      (λ u f i is. let below : u < o.next = (rising-in 1 o.next o.live u f s.rising i).1 in absurd (omega arith)) (λ u f i is. i));
}

-- the list without the entry of one ticket
pub take-one : (t : ℕ) (l : Live) → (k : Live) × WithoutTickets (λ v. v ≡ t) l k
take-one t [] = ([], ended)
take-one t (x ∷ l) =
    let rest = take-one t l in
    elim (Rattle.std.proofs.lemmas.Bool.cases_eq x.0 t) [
      | inl is ↦ (rest.0, leaves is rest.1)
      | inr other ↦ (x ∷ rest.0, stays other rest.1)
    ]

-- the events of a sound object are distinct
pub sound-distinct : (o : Object) → Sound o → Distinct (events o.live)
sound-distinct o s = run-distinct o.opening s.runs.0 (events o.live) (sound-formed o s) s.runs.1

-- by tickets, no other live event depends on that of t
pub alone-by-causes : (o : Object) (t : ℕ) (e : Event) → Sound o → LiveAt o.live t e →
    ((f : Event) → In f (events o.live) → Causes (events o.live) e f → f ≡ e) → NoDependent o.live t
alone-by-causes o t e s i alone u f j follows =
    let one = alone f (event-in o.live u f j) (depends-causes 1 o.next o.live t u e f s.rising i follows j) in
    one-ticket o.live u t e (sound-distinct o s) (subst (λ (g : Event). LiveAt o.live u g) one j) i

pub causes-by-alone : (o : Object) (t : ℕ) (e : Event) → Sound o → LiveAt o.live t e → NoDependent o.live t →
    (f : Event) → In f (events o.live) → Causes (events o.live) e f → f ≡ e
causes-by-alone o t e s i alone f j c =
    let at = causes-depends 1 o.next o.live t e f s.rising (sound-distinct o s) i c in
    rising-one 1 o.next o.live t f e s.rising (subst (λ v. LiveAt o.live v f) (alone at.0 f at.1 at.2) at.1) i

-- taking out what follows a ticket takes out the events that its event causes
pub without-kept : (o : Object) (t : ℕ) (e : Event) → Sound o → LiveAt o.live t e → (l k : Live) → ((u : ℕ) (f : Event) → LiveAt l u f → LiveAt o.live u f) →
    WithoutTickets (DependsOn o.live t) l k → Without (Causes (events o.live) e) (events l) (events k)
without-kept o t e s i l k inside ended = ended
without-kept o t e s i l k inside (stays {x = (u, f)} {l = l'} {k = k'} out w) =
    stays (λ c. out (causes-depends-at 1 o.next o.live t u e f s.rising (sound-distinct o s) i (inside u f (inl refl)) c))
    (without-kept o t e s i l' k' (λ v g j. inside v g (inr j)) w)
without-kept o t e s i l k inside (leaves {x = (u, f)} {l = l'} gone w) =
    leaves (depends-causes 1 o.next o.live t u e f s.rising i gone (inside u f (inl refl)))
    (without-kept o t e s i l' k (λ v g j. inside v g (inr j)) w)

-- which entries are left
pub record LeftLive (D : ℕ → Type 0) (l k : Live) : Type 0 where
  pub of_left : (u : ℕ) (f : Event) → LiveAt k u f → LiveAt l u f × (D u → ⊥)
  pub to_left : (u : ℕ) (f : Event) → LiveAt l u f → (D u → ⊥) → LiveAt k u f

ticket-moved : (D : ℕ → Type 0) (u t : ℕ) (e f : Event) → ◌≡◌ {A = ℕ × Event} (u, f) (t, e) → D u → D t
ticket-moved D u t e f is d = subst D (ap (λ (y : ℕ × Event). y.0) is) d

left-live : (D : ℕ → Type 0) (l k : Live) → WithoutTickets D l k → LeftLive D l k
left-live D l k ended = record { of_left = λ u f i. absurd i; to_left = λ u f i out. i }
left-live D l k (stays {x = (t, e)} {l = l'} {k = k'} out w) =
    let rest = left-live D l' k' w in
    record {
      of_left = λ u f i. elim i [
        | inl a ↦ (inl a, λ d. out (ticket-moved D u t e f a d))
        | inr a ↦ let at = rest.of_left u f a in (inr at.0, at.1)
      ];
      to_left = λ u f i none. elim i [ inl a ↦ inl a | inr a ↦ inr (rest.to_left u f a none) ];
    }
left-live D l k (leaves {x = (t, e)} {l = l'} gone w) =
    let rest = left-live D l' k w in
    record {
      of_left = λ u f i. let at = rest.of_left u f i in (inr at.0, at.1);
      to_left = λ u f i none. elim i [
        | inl a ↦ absurd (none (ticket-moved D t u f e (sym a) gone))
        | inr a ↦ rest.to_left u f a none
      ];
    }

pub without-live : (D : ℕ → Type 0) (l k : Live) → WithoutTickets D l k →
    ((u : ℕ) (f : Event) → LiveAt k u f → LiveAt l u f × (D u → ⊥)) × ((u : ℕ) (f : Event) → LiveAt l u f → (D u → ⊥) → LiveAt k u f)
without-live D l k w = let both = left-live D l k w in (both.of_left, both.to_left)

-- a list from which one entry is taken out
pub record TakenFrom (t : ℕ) (e : Event) (l k : Live) : Type 0 where
  pub before : Live
  pub after : Live
  pub is : l ≡ before ++ (t, e) ∷ after
  pub left : k ≡ before ++ after

without-absent : (t : ℕ) (l k : Live) → ((u : ℕ) (f : Event) → LiveAt l u f → u ≡ t → ⊥) → WithoutTickets (λ v. v ≡ t) l k → k ≡ l
without-absent t l k none ended = refl
without-absent t l k none (stays {x = (u, e)} {l = l'} {k = k'} out w) =
    ap (λ (z : Live). (u, e) ∷ z) (without-absent t l' k' (λ v f i. none v f (inr i)) w)
without-absent t l k none (leaves {x = (u, e)} {l = l'} gone w) = absurd (none u e (inl refl) gone)

pub without-splits : (t low next : ℕ) (e : Event) (l k : Live) → Rising low l next → LiveAt l t e → WithoutTickets (λ v. v ≡ t) l k → TakenFrom t e l k
without-splits t low next e l k r i ended = absurd i
without-splits t low next e l k r i (stays {x = (u, f)} {l = l'} {k = k'} out w) =
    elim i [
      | inl a ↦ absurd (out (sym (ap (λ (y : ℕ × Event). y.0) a)))
      | inr a ↦
          let rest = without-splits t (suc u) next e l' k' r.1 a w in
          record { before = (u, f) ∷ rest.before; after = rest.after; is = ap (λ (z : Live). (u, f) ∷ z) rest.is; left = ap (λ (z : Live). (u, f) ∷ z) rest.left }
    ]
without-splits t low next e l k r i (leaves {x = (u, f)} {l = l'} gone w) =
    let above : (v : ℕ) (g : Event) → LiveAt l' v g → v ≡ t → ⊥ = λ v g j is.
    let high : suc u ≤ v = (rising-in (suc u) next l' v g r.1 j).0 in
    let here : u ≡ t = gone in
    absurd (omega arith) in
    record {
      before = [];
      after = l';
      is = ap (λ (z : Event). (u, z) ∷ l') (rising-one low next ((u, f) ∷ l') u f e r (inl refl) (subst (λ v. LiveAt ((u, f) ∷ l') v e) (sym gone) i))
          ∙ ap (λ (v : ℕ). (v, e) ∷ l') gone;
      left = without-absent t l' k above w;
    }
