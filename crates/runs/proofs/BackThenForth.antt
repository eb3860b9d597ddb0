-- Any commands amount to undos from the greatest ticket down, and then steps in order of tickets.
use Rattle.std.proofs.Common.{◌≡◌, ◌↔◌, inl, inr, ℕ, suc, ◌+◌, ◌<◌, ◌≤◌, List, [], ◌∷◌, ◌++◌, length, Bool, true, false, cond, eqb, refl, sym, ◌∙◌, ap, subst, arith}
use Rattle.std.proofs.lemmas.List.{append-nil, append_assoc, length-append, length_push}
use Rattle.std.proofs.lemmas.Bool.{eq-eqb, ne_eqb}
use Rattle.syntax.specs.Lists.{In}
use Rattle.system.specs.Expression.{is_in}
use Rattle.runs.proofs.public.SharingWidths.{KeepsSharing}
use Rattle.runs.specs.Steps.{State, Run}
use Rattle.runs.specs.Dependence.{Directly}
use Rattle.runs.specs.Choices.{choice_of}
use Rattle.runs.specs.Live.{Live, events, Rising, LiveAt, DependsOn, same, later}
use Rattle.runs.specs.Object.{Object, Reaches, most_live, last_ticket, with_event, with_live}
use Rattle.runs.specs.Does.{Does}
use Rattle.runs.specs.Answered.{DoesAll}
use Rattle.runs.specs.BackAndForth.{tickets, missing_from, undo_each, undone_each, step_each, stepped_each, back_and_forth, back_and_forth_replies}
use Rattle.runs.specs.Sound.{Sound}
use Rattle.runs.specs.declared.event.Event.{Event}
use Rattle.runs.specs.Commands.{Command, Reply}
use Rattle.runs.proofs.public.WellFormed.{WellFormed}
use Rattle.runs.proofs.public.Orders.{run-formed, run-part}
use Rattle.runs.proofs.KeptSharing.{keeps_sharing_run}
use Rattle.runs.proofs.public.Lists.{every-in}
use Rattle.runs.proofs.public.Tickets.{rising-le, rising-lower, rising-in, rising-one, rising-join, rising-parts, live-left, live-right, live-parts, events-join}
use Rattle.runs.proofs.Back.{Back, nothing, keeps, drops, dropped, Free, back-in, back-rising}
use Rattle.runs.proofs.public.Effects.{sound-formed, reaches-more}
use Rattle.runs.proofs.AfterCommands.{After}
use Rattle.runs.proofs.public.UndoLaws.{without-one}
use Rattle.runs.proofs.ChoiceMeansOne.{means}

-- commands that are done, and then more
pub done-join : (o m p : Object) (cs ds : List Command) (rs qs : List Reply) → DoesAll o cs rs m → DoesAll m ds qs p → DoesAll o (cs ++ ds) (rs ++ qs) p
done-join o m p [] ds rs qs d e =
    subst (λ (r : List Reply). DoesAll o ds (r ++ qs) p) (sym d.0) (subst (λ (x : Object). DoesAll x ds qs p) d.1 e)
done-join o m p (c ∷ cs) ds rs qs d e =
    (d.0, d.1 ++ qs, d.2, ap (λ (r : List Reply). r ++ qs) d.3, d.4, done-join d.2 m p cs ds d.1 qs d.5 e)

-- where no later event depends directly on the event of an entry, nothing follows it
free-depends : (next : ℕ) (p k : Live) (x : ℕ × Event) (u : ℕ) → Rising 1 (p ++ x ∷ k) next → Free x.1 k → DependsOn (p ++ x ∷ k) x.0 u → u ≡ x.0
free-depends next p k x u r free same = refl
free-depends next p k x u r free (later {u = v} g h before iv iu less d) =
    let one : v ≡ x.0 = free-depends next p k x v r free before in
    let is : g ≡ x.1 = rising-one 1 next (p ++ x ∷ k) x.0 g x.1 r (subst (λ y. LiveAt (p ++ x ∷ k) y g) one iv) (live-right p (x ∷ k) (x.0, x.1) (inl refl)) in
    let parts = rising-parts 1 next p (x ∷ k) r in
    let low : parts.0 ≤ x.0 = parts.2.0 in
    elim (live-parts p (x ∷ k) (u, h) iu) [
      | inl a ↦ let below : u < parts.0 = (rising-in 1 parts.0 p u h parts.1 a).1 in absurd (omega arith)
      | inr (inl a) ↦ let equal : u ≡ x.0 = ap (λ (y : ℕ × Event). y.0) a in equal
      | inr (inr a) ↦ absurd (every-in (λ (y : ℕ × Event). Directly x.1 y.1 → ⊥) k (u, h) free a (subst (λ (y : Event). Directly y h) is d))
    ]

one-undone : (o : Object) (p k : Live) (x : ℕ × Event) → Rising 1 (p ++ x ∷ k) o.next → Free x.1 k →
    DoesAll (with_live o (p ++ x ∷ k)) (Command.Undo x.0 ∷ []) (Reply.Undone x.0 x.1 ∷ []) (with_live o (p ++ k))
one-undone o p k x r free =
    let parts = rising-parts 1 o.next p (x ∷ k) r in
    let low : parts.0 ≤ x.0 = parts.2.0 in (
      Reply.Undone x.0 x.1,
      [],
      with_live o (p ++ k),
      refl,
      (
        refl,
        live-right p (x ∷ k) (x.0, x.1) (inl refl),
        (λ u f i follows. free-depends o.next p k x u r free follows),
        (
          p ++ k,
          without-one x.0 x.1 p k
              (λ u f i is. let below : u < parts.0 = (rising-in 1 parts.0 p u f parts.1 i).1 in absurd (omega arith))
              (λ u f i is. let above : suc x.0 ≤ u = (rising-in (suc x.0) o.next k u f parts.2.1 i).0 in absurd (omega arith)),
          refl,
        ),
      ),
      (refl, refl),
    )

-- the undos of what is not kept, from the greatest ticket down
pub back-undoes : (o : Object) (p l k : Live) (b : Back l k) → Rising 1 (p ++ l) o.next →
    DoesAll (with_live o (p ++ l)) (undo_each (dropped b)) (undone_each (dropped b)) (with_live o (p ++ k))
back-undoes o p l k nothing r = (refl, refl)
back-undoes o p l k (keeps {x = x} {l = l'} {k = k'} b) r =
    let rest = back-undoes o (p ++ x ∷ []) l' k' b (subst (λ (z : Live). Rising 1 z o.next) (sym (append_assoc p (x ∷ []) l')) r) in
    subst (λ (z : Live). DoesAll (with_live o (p ++ x ∷ l')) (undo_each (dropped b)) (undone_each (dropped b)) (with_live o z)) (append_assoc p (x ∷ []) k')
    (subst (λ (z : Live). DoesAll (with_live o z) (undo_each (dropped b)) (undone_each (dropped b)) (with_live o ((p ++ x ∷ []) ++ k'))) (append_assoc p (x ∷ []) l') rest)
back-undoes o p l k (drops {x = x} {l = l'} free b) r =
    let rest = back-undoes o (p ++ x ∷ []) l' k b (subst (λ (z : Live). Rising 1 z o.next) (sym (append_assoc p (x ∷ []) l')) r) in
    let parts = rising-parts 1 o.next p (x ∷ l') r in
    let left : Rising 1 (p ++ x ∷ k) o.next = rising-join 1 parts.0 o.next p (x ∷ k) parts.1 (parts.2.0, back-rising (suc x.0) o.next l' k b parts.2.1) in
    done-join (with_live o (p ++ x ∷ l')) (with_live o (p ++ x ∷ k)) (with_live o (p ++ k))
    (undo_each (dropped b)) (Command.Undo x.0 ∷ []) (undone_each (dropped b)) (Reply.Undone x.0 x.1 ∷ [])
    (subst (λ (z : Live). DoesAll (with_live o (p ++ x ∷ l')) (undo_each (dropped b)) (undone_each (dropped b)) (with_live o z)) (append_assoc p (x ∷ []) k)
    (subst (λ (z : Live). DoesAll (with_live o z) (undo_each (dropped b)) (undone_each (dropped b)) (with_live o ((p ++ x ∷ []) ++ k))) (append_assoc p (x ∷ []) l') rest))
    (one-undone o p k x left free)

-- the object after the steps of some live events
pub record Forth (o : Object) (new : Live) : Type 0 where
  pub last : Object
  pub done : DoesAll o (step_each new) (stepped_each o.next new) last
  pub events_are : events last.live ≡ events o.live ++ events new
  pub opening : last.opening ≡ o.opening

pub forth : (is_sync is_shared : ℕ → Bool) (new : Live) (o : Object) (upto : ℕ) → KeepsSharing is_sync is_shared o.opening.residual → WellFormed o.opening.residual →
    Rising o.next new upto → upto ≤ suc last_ticket → length o.live + length new ≤ most_live → (S T : State) → Reaches o S → Run S (events new) T → Forth o new
forth is_sync is_shared [] o upto keep w r unspent room S T reach run =
    record { last = o; done = (refl, refl); events_are = sym (append-nil (events o.live)); opening = refl }
forth is_sync is_shared (x ∷ new) o upto keep w r unspent room S T reach run =
    let first : o.next ≤ x.0 = r.0 in
    let above = rising-le (suc x.0) upto new r.1 in
    let more = length_push o.live (o.next, x.1) in
    let rest = forth is_sync is_shared new (with_event o x.1) upto keep w
    (rising-lower (suc o.next) (suc x.0) upto new (omega arith) r.1) unspent (omega arith) run.0 T (reaches-more o x.1 S run.0 reach run.1) run.2 in
    let here : Does o (Command.Step (choice_of x.1)) (Reply.Stepped o.next x.1) (with_event o x.1) = (
      refl,
      omega arith,
      omega arith,
      (
        S,
        reach,
        means is_sync is_shared S x.1 (keeps_sharing_run is_sync is_shared o.opening S (events o.live) keep reach)
            (run-formed o.opening S (events o.live) w reach) (run.0, run.1),
      ),
      refl,
    ) in
    record {
      last = rest.last;
      done = (Reply.Stepped o.next x.1, stepped_each (suc o.next) new, with_event o x.1, refl, here, rest.done);
      events_are = rest.events_are ∙ ap (λ (h : List Event). h ++ events new) (events-join o.live ((o.next, x.1) ∷ []))
          ∙ append_assoc (events o.live) (x.1 ∷ []) (events new);
      opening = rest.opening;
    }

-- a live ticket is in the list of tickets
is-in-live : (l : Live) (t : ℕ) (e : Event) → LiveAt l t e → is_in t (tickets l) ≡ true
is-in-live [] t e i = absurd i
is-in-live (x ∷ l) t e i =
    elim i [
      | inl a ↦ ap (λ b. cond b true (is_in t (tickets l))) (eq-eqb t x.0 (ap (λ (y : ℕ × Event). y.0) a))
      | inr a ↦ pick (eqb t x.0) (is_in t (tickets l)) (is-in-live l t e a)
    ]
  where
    pick : (b c : Bool) → c ≡ true → cond b true c ≡ true
    pick true c h = refl
    pick false c h = h

is-in-none : (l : Live) (t : ℕ) → ((e : Event) → LiveAt l t e → ⊥) → is_in t (tickets l) ≡ false
is-in-none [] t none = refl
is-in-none (x ∷ l) t none =
    ap (λ b. cond b true (is_in t (tickets l))) (ne_eqb t x.0 (λ is. none x.1 (inl (ap (λ (u : ℕ). (u, x.1)) is))))
    ∙ is-in-none l t (λ e i. none e (inr i))

missing-all : (k l : Live) → ((x : ℕ × Event) → In x l → (e : Event) × LiveAt k x.0 e) → missing_from k l ≡ []
missing-all k [] all = refl
missing-all k (x ∷ l) all =
    let here = all x (inl refl) in
    ap (λ b. cond b (missing_from k l) (x ∷ missing_from k l)) (is-in-live k x.0 here.0 here.1) ∙ missing-all k l (λ y i. all y (inr i))

missing-none : (k l : Live) → ((x : ℕ × Event) → In x l → (e : Event) → LiveAt k x.0 e → ⊥) → missing_from k l ≡ l
missing-none k [] none = refl
missing-none k (x ∷ l) none =
    ap (λ b. cond b (missing_from k l) (x ∷ missing_from k l)) (is-in-none k x.0 (none x (inl refl)))
    ∙ ap (λ (z : Live). x ∷ z) (missing-none k l (λ y i. none y (inr i)))

missing-join : (k l m : Live) → missing_from k (l ++ m) ≡ missing_from k l ++ missing_from k m
missing-join k [] m = refl
missing-join k (x ∷ l) m = pick (is_in x.0 (tickets k)) (missing-join k l m)
  where
    pick : (b : Bool) → missing_from k (l ++ m) ≡ missing_from k l ++ missing_from k m →
        cond b (missing_from k (l ++ m)) (x ∷ missing_from k (l ++ m)) ≡ cond b (missing_from k l) (x ∷ missing_from k l) ++ missing_from k m
    pick true h = h
    pick false h = ap (λ (z : Live). x ∷ z) h

-- what is not kept is what is missing from a list that has, of these tickets, the kept ones alone
missing-dropped : (low next : ℕ) (whole l k : Live) (b : Back l k) → Rising low l next → ((x : ℕ × Event) → In x k → In x whole) →
    ((u : ℕ) (f : Event) → low ≤ u → u < next → LiveAt whole u f → LiveAt k u f) → missing_from whole l ≡ dropped b
missing-dropped low next whole l k nothing r inside only = refl
missing-dropped low next whole l k (keeps {x = x} {l = l'} {k = k'} b) r inside only =
    let first : low ≤ x.0 = r.0 in
    ap (λ c. cond c (missing_from whole l') (x ∷ missing_from whole l')) (is-in-live whole x.0 x.1 (inside x (inl refl)))
    ∙ missing-dropped (suc x.0) next whole l' k' b r.1 (λ y i. inside y (inr i))
    (λ u f above below i. elim (only u f (omega arith) below i) [
      | inl a ↦ let is : u ≡ x.0 = ap (λ (y : ℕ × Event). y.0) a in absurd (omega arith)
      | inr a ↦ a
    ])
missing-dropped low next whole l k (drops {x = x} {l = l'} free b) r inside only =
    let first : low ≤ x.0 = r.0 in
    let top = rising-le (suc x.0) next l' r.1 in
    ap (λ c. cond c (missing_from whole l') (x ∷ missing_from whole l'))
    (is-in-none whole x.0 (λ e i.
    let above : suc x.0 ≤ x.0 = (rising-in (suc x.0) next l' x.0 e r.1 (back-in l' k (x.0, e) b (only x.0 e first top i))).0 in absurd (omega arith)))
    ∙ ap (λ (z : Live). x ∷ z) (missing-dropped (suc x.0) next whole l' k b r.1 inside (λ u f above below i. only u f (omega arith) below i))

-- the parts that are missing, where one list is a part of the other and new events
pub record Missing (l kept new : Live) (b : Back l kept) : Type 0 where
  pub old : missing_from (kept ++ new) l ≡ dropped b
  pub fresh : missing_from l (kept ++ new) ≡ new

pub missing : (next upto : ℕ) (l kept new : Live) (b : Back l kept) → Rising 1 l next → Rising next new upto → Missing l kept new b
missing next upto l kept new b r s = record {
  old = missing-dropped 1 next (kept ++ new) l kept b r (λ x i. live-left kept new x i)
      (λ u f above below i. elim (live-parts kept new (u, f) i) [
        | inl a ↦ a
        | inr a ↦ let high : next ≤ u = (rising-in next upto new u f s a).0 in absurd (omega arith)
      ]);
  fresh = missing-join l kept new
      ∙ ap (λ (z : Live). z ++ missing_from l new) (missing-all l kept (λ x i. (x.1, back-in l kept x b i)))
      ∙ missing-none l new (λ x i e j.
      let high : next ≤ x.0 = (rising-in next upto new x.0 x.1 s i).0 in
      let low : x.0 < next = (rising-in 1 next l x.0 e r j).1 in
      absurd (omega arith));
}

-- objects with one opening and the same events have one state
pub same-state : (p q : Object) → p.opening ≡ q.opening → events p.live ≡ events q.live → (T : State) → Reaches p T ↔ Reaches q T
same-state p q is equal T = (
  (λ r. subst (λ (h : List Event). Run q.opening h T) equal (subst (λ (S : State). Run S (events p.live) T) is r)),
  (λ r. subst (λ (h : List Event). Run p.opening h T) (sym equal) (subst (λ (S : State). Run S (events q.live) T) (sym is) r)),
)

pub back-then-forth : (is_sync is_shared : ℕ → Bool) (o o' : Object) → KeepsSharing is_sync is_shared o.opening.residual → Sound o → Sound o' → After o o' →
    (p : Object) × DoesAll o (back_and_forth o.live o'.live) (back_and_forth_replies o.next o.live o'.live) p
    × (events p.live ≡ events o'.live) × ((T : State) → Reaches p T ↔ Reaches o' T)
back-then-forth is_sync is_shared o o' keep s s' a =
    let w = sound-formed o s in
    let run : Run o.opening (events a.kept ++ events a.new) s'.runs.0 =
    subst (λ (h : List Event). Run o.opening h s'.runs.0) (ap events a.is ∙ events-join a.kept a.new)
    (subst (λ (S : State). Run S (events o'.live) s'.runs.0) a.opening s'.runs.1) in
    let parts = run-part o.opening s'.runs.0 (events a.kept) (events a.new) run in
    let room = s'.room in
    let sizes : length o'.live ≡ length a.kept + length a.new = ap (λ (l : Live). length l) a.is ∙ length-append a.kept a.new in
    let ahead = forth is_sync is_shared a.new (with_live o a.kept) o'.next keep w a.rising s'.unspent (omega arith) parts.middle s'.runs.0 parts.first parts.second in
    let back = back-undoes o [] o.live a.kept a.back s.rising in
    let both = done-join o (with_live o a.kept) ahead.last (undo_each (dropped a.back)) (step_each a.new) (undone_each (dropped a.back)) (stepped_each o.next a.new) back ahead.done in
    let lists = missing o.next o'.next o.live a.kept a.new a.back s.rising a.rising in
    let old : missing_from o'.live o.live ≡ dropped a.back = ap (λ (z : Live). missing_from z o.live) a.is ∙ lists.old in
    let fresh : missing_from o.live o'.live ≡ a.new = ap (λ (z : Live). missing_from o.live z) a.is ∙ lists.fresh in
    let equal : events ahead.last.live ≡ events o'.live = ahead.events_are ∙ sym (events-join a.kept a.new) ∙ sym (ap events a.is) in (
      ahead.last,
      subst (λ (z : Live). DoesAll o (undo_each z ++ step_each (missing_from o.live o'.live)) (undone_each z ++ stepped_each o.next (missing_from o.live o'.live)) ahead.last) (sym old)
          (subst (λ (z : Live). DoesAll o (undo_each (dropped a.back) ++ step_each z) (undone_each (dropped a.back) ++ stepped_each o.next z) ahead.last) (sym fresh) both),
      equal,
      same-state ahead.last o' (ahead.opening ∙ sym a.opening) equal,
    )
