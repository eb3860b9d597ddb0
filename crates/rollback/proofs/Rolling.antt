-- The marked events are undone one after another, the greatest ticket first, on which none depends then.
use Rattle.std.proofs.Common.{◌≡◌, ◌≢◌, inl, inr, ℕ, suc, ◌+◌, ◌==◌, ◌<◌, ◌≤◌, List, [], ◌∷◌, length, Bool, true, false, cond, not, Result, Ok, Err, refl, sym, ◌∙◌, ap, subst, arith, eqb-true, eq-eqb, length-append}
use Rattle.std.proofs.lemmas.Bool.{cases_eq}
use Rattle.syntax.specs.Lists.{In}
use Rattle.runs.specs.Commands.{Command, Reply}
use Rattle.runs.specs.Dependence.{ended, stays, leaves}
use Rattle.runs.specs.Does.{Answers, Does}
use Rattle.runs.specs.InOrder.{InOrder}
use Rattle.runs.specs.Live.{Live, IsLive, LiveAt, DependsOn, NoDependent, WithoutTickets, ConsequencesList}
use Rattle.runs.specs.Object.{Object}
use Rattle.runs.specs.Sound.{Sound}
use Rattle.runs.specs.Steps.{opening}
use Rattle.runs.specs.declared.event.Event.{Event}
use Rattle.runs.specs.declared.command.Refusal.{Refusal}
use Rattle.runs.specs.declared.command.Refusal.TheVariants.{NoSuchEvent, NeededBy}
use Rattle.runs.proofs.public.DependsOnLaw.{depends-up}
use Rattle.runs.proofs.public.Lists.{every-in, every-of}
use Rattle.runs.proofs.public.UndoLaws.{without-live, without-splits}
use Rattle.dependence.specs.Shown.{Greatest}
use Rattle.dependence.proofs.public.Following.{follows-on, follows-in}
use Rattle.machine.specs.AtMachine.{AtMachine, object}
use Rattle.machine.specs.Marks.{without_ticket, marks_behind}
use Rattle.machine.specs.Results.{undo_reply}
use Rattle.machine.proofs.public.MarkLaws.{not-same}
use Rattle.rollback.specs.internal.Undoing.{Undone}

-- ---- tickets without one
in-left : (t : ℕ) (ts : List ℕ) (u : ℕ) → In u (without_ticket t ts) → In u ts × (u ≢ t)
in-left t [] u i = absurd i
in-left t (x ∷ ts) u i = pick (x == t) refl (in-left t ts u) i
  where
    pick : (b : Bool) → (x == t) ≡ b → (In u (without_ticket t ts) → In u ts × (u ≢ t)) →
        In u (cond (not b) (x ∷ without_ticket t ts) (without_ticket t ts)) → In u (x ∷ ts) × (u ≢ t)
    pick true is more j = let at = more j in (inr at.0, at.1)
    pick false is more (inl e) = (inl e, λ same. let on : (x == t) ≡ true = eq-eqb x t (sym e ∙ same) in cc)
    pick false is more (inr j) = let at = more j in (inr at.0, at.1)

left-in : (t : ℕ) (ts : List ℕ) (u : ℕ) → In u ts → u ≢ t → In u (without_ticket t ts)
left-in t [] u i other = absurd i
left-in t (x ∷ ts) u i other = pick (x == t) refl (λ j. left-in t ts u j other) i
  where
    pick : (b : Bool) → (x == t) ≡ b → (In u ts → In u (without_ticket t ts)) → In u (x ∷ ts) →
        In u (cond (not b) (x ∷ without_ticket t ts) (without_ticket t ts))
    pick true is more (inl e) = absurd (other (e ∙ eqb-true x t is))
    pick true is more (inr j) = more j
    pick false is more (inl e) = inl e
    pick false is more (inr j) = inr (more j)

-- what stands in front
in-front-stays : (t x : ℕ) (ts : List ℕ) → x ≢ t → without_ticket t (x ∷ ts) ≡ x ∷ without_ticket t ts
in-front-stays t x ts other = ap (λ (b : Bool). cond (not b) (x ∷ without_ticket t ts) (without_ticket t ts)) (not-same x t other)

in-front-goes : (t x : ℕ) (ts : List ℕ) → x ≡ t → without_ticket t (x ∷ ts) ≡ without_ticket t ts
in-front-goes t x ts is = ap (λ (b : Bool). cond (not b) (x ∷ without_ticket t ts) (without_ticket t ts)) (eq-eqb x t is)

left-ascending : (t : ℕ) (ts : List ℕ) → InOrder ◌<◌ ts → InOrder ◌<◌ (without_ticket t ts)
left-ascending t [] h = tt
left-ascending t (x ∷ ts) h =
    elim (cases_eq x t) [
      | inl is ↦ subst (λ (k : List ℕ). InOrder ◌<◌ k) (sym (in-front-goes t x ts is)) (left-ascending t ts h.1)
      | inr other ↦
          subst (λ (k : List ℕ). InOrder ◌<◌ k) (sym (in-front-stays t x ts other)) (
            every-of (λ (u : ℕ). x < u) (without_ticket t ts) (λ u i. every-in (λ (v : ℕ). x < v) ts u h.0 (in-left t ts u i).0),
            left-ascending t ts h.1,
          )
    ]

left-all : (t : ℕ) (ts : List ℕ) → (In t ts → ⊥) → without_ticket t ts ≡ ts
left-all t [] none = refl
left-all t (x ∷ ts) none =
    in-front-stays t x ts (λ is. none (inl (sym is))) ∙ ap (λ (k : List ℕ). x ∷ k) (left-all t ts (λ i. none (inr i)))

left-fewer : (t : ℕ) (ts : List ℕ) → InOrder ◌<◌ ts → In t ts → suc (length (without_ticket t ts)) ≡ length ts
left-fewer t [] h i = absurd i
left-fewer t (x ∷ ts) h (inl is) =
    let none : In t ts → ⊥ = λ j. let less : x < t = every-in (λ (v : ℕ). x < v) ts t h.0 j in omega arith in
    ap (λ (k : List ℕ). suc (length k)) (in-front-goes t x ts (sym is) ∙ left-all t ts none)
left-fewer t (x ∷ ts) h (inr j) =
    let less : x < t = every-in (λ (v : ℕ). x < v) ts t h.0 j in
    let other : x ≢ t = λ is. omega arith in
    ap (λ (k : List ℕ). suc (length k)) (in-front-stays t x ts other) ∙ ap suc (left-fewer t ts h.1 j)

-- ---- lists without some, and then without others
without-then : (D E F : ℕ → Type 0) (l m k : Live) → ((u : ℕ) → D u → F u) → ((u : ℕ) → E u → F u) →
    ((u : ℕ) → (D u → ⊥) → (E u → ⊥) → F u → ⊥) → WithoutTickets D l m → WithoutTickets E m k → WithoutTickets F l k
without-then D E F l m k df ef nf ended ended = ended
without-then D E F l m k df ef nf (stays {x = x} {l = l'} {k = m'} out w) (stays {k = k'} off v) =
    stays (nf x.0 out off) (without-then D E F l' m' k' df ef nf w v)
without-then D E F l m k df ef nf (stays {x = x} {l = l'} {k = m'} out w) (leaves gone v) =
    leaves (ef x.0 gone) (without-then D E F l' m' k df ef nf w v)
without-then D E F l m k df ef nf (leaves {x = x} {l = l'} gone w) v =
    leaves (df x.0 gone) (without-then D E F l' m k df ef nf w v)

without-alike : (D E : ℕ → Type 0) (l k : Live) → ((u : ℕ) (f : Event) → LiveAt l u f → D u → E u) →
    ((u : ℕ) (f : Event) → LiveAt l u f → E u → D u) → WithoutTickets D l k → WithoutTickets E l k
without-alike D E l k to from ended = ended
without-alike D E l k to from (stays {x = x} {l = l'} {k = k'} out w) =
    stays (λ e. out (from x.0 x.1 (inl refl) e)) (without-alike D E l' k' (λ u f i. to u f (inr i)) (λ u f i. from u f (inr i)) w)
without-alike D E l k to from (leaves {x = x} {l = l'} gone w) =
    leaves (to x.0 x.1 (inl refl) gone) (without-alike D E l' k (λ u f i. to u f (inr i)) (λ u f i. from u f (inr i)) w)

nothing-left-out : (D : ℕ → Type 0) (l : Live) → ((u : ℕ) → D u → ⊥) → WithoutTickets D l l
nothing-left-out D [] none = ended
nothing-left-out D (x ∷ l) none = stays (none x.0) (nothing-left-out D l none)

-- ---- the rollback of the event of ticket t, from the machine with all marked to one with some of them undone
abbrev IsUndone : AtMachine → AtMachine → ℕ → Type 0
IsUndone before now u = In u before.marked × (In u now.marked → ⊥)

pub record Rolling (before now : AtMachine) (t : ℕ) : Type 0 where
  pub live : IsLive before.live t
  pub all : ConsequencesList before.live t before.marked
  pub left : WithoutTickets (IsUndone before now) before.live now.live
  pub inside : (u : ℕ) → In u now.marked → In u before.marked
  pub ascending : InOrder ◌<◌ now.marked
  pub count : length now.live + length before.marked ≡ length before.live + length now.marked
  pub next : now.next ≡ before.next
  pub system : now.checked ≡ before.checked

pub begun : (m : AtMachine) (t : ℕ) → IsLive m.live t → ConsequencesList m.live t m.marked → Rolling m m t
begun m t live all = record {
  live = live;
  all = all;
  left = nothing-left-out (IsUndone m m) m.live (λ u h. h.1 h.0);
  inside = λ u i. i;
  ascending = all.ascending;
  count = refl;
  next = refl;
  system = refl;
}

-- on the greatest marked one no other depends
pub alone : (before now : AtMachine) (t last : ℕ) → Rolling before now t → Greatest now.marked last → NoDependent now.live last
alone before now t last h most u f i follows =
    let old = (without-live (IsUndone before now) before.live now.live h.left).0 in
    let own = (h.all.exactly last).0 (h.inside last most.inside) in
    let marked : In u before.marked =
    (h.all.exactly u).1 (
      f,
      (old u f i).0,
      follows-on before.live t last u own.2 (follows-in now.live before.live last u (λ v g j. (old v g j).0) follows),
    ) in
    let up : last ≤ u = depends-up now.live last u follows in
    elim (cases_eq u last) [
      | inl is ↦ is
      | inr other ↦ absurd ((old u f i).1 (marked, λ j. let low : u ≤ last = most.greatest u j in other (omega arith)))
    ]

-- its undo takes it out
pub undone : (m m' : AtMachine) (t : ℕ) (r : Result Event Refusal) → IsLive m.live t → NoDependent m.live t →
    Answers (object m) (Command.Undo t) (undo_reply t r) (object m') → m'.checked ≡ m.checked → m'.marked ≡ marks_behind (undo_reply t r) m.marked →
    Undone m t m'
undone m m' t (Ok e) live none (inl d) system marks = record {
  live = subst (λ (k : Live). WithoutTickets (λ v. v ≡ t) m.live k) (sym (ap (λ (o : Object). o.live) d.3.2)) d.3.1;
  marked = marks;
  next = ap (λ (o : Object). o.next) d.3.2;
  system = system;
}
undone m m' t (Ok e) live none (inr d) system marks = absurd d.0
undone m m' t (Err NoSuchEvent) live none (inl d) system marks = absurd (d.0 live.0 live.1)
undone m m' t (Err (NeededBy u)) live none (inl d) system marks =
    let first = d.0.1 in absurd (first.other (none u first.event first.live first.depends))
undone m m' t (Err why) live none (inl d) system marks = absurd d.0
undone m m' t (Err why) live none (inr d) system marks = absurd d.0

fewer-live : (o : Object) (t : ℕ) (k : Live) → Sound o → IsLive o.live t → WithoutTickets (λ v. v ≡ t) o.live k → suc (length k) ≡ length o.live
fewer-live o t k sound live out =
    let parts = without-splits t 1 o.next live.0 o.live k sound.rising live.1 out in
    let long = ap (λ (l : Live). length l) parts.is ∙ length-append parts.before ((t, live.0) ∷ parts.after) in
    let short = ap (λ (l : Live). length l) parts.left ∙ length-append parts.before parts.after in
    omega arith

-- one more is undone
pub more : (before now after : AtMachine) (t last : ℕ) → Rolling before now t → Sound (object now) → Greatest now.marked last →
    IsLive now.live last → Undone now last after → Rolling before after t × (length after.marked < length now.marked)
more before now after t last h sound most live u =
    let less = fewer-live (object now) last after.live sound live u.live in
    let fewer : suc (length after.marked) ≡ length now.marked =
    ap (λ (k : List ℕ). suc (length k)) u.marked ∙ left-fewer last now.marked h.ascending most.inside in
    let old : (v : ℕ) → In v after.marked → In v now.marked × (v ≢ last) =
    λ v i. in-left last now.marked v (subst (λ (k : List ℕ). In v k) u.marked i) in
    let still : (v : ℕ) → In v now.marked → v ≢ last → In v after.marked =
    λ v i other. subst (λ (k : List ℕ). In v k) (sym u.marked) (left-in last now.marked v i other) in (
      record {
        live = h.live;
        all = h.all;
        left =
            without-then (IsUndone before now) (λ v. v ≡ last) (IsUndone before after) before.live now.live after.live
            (λ v d. (d.0, λ i. d.1 (old v i).0))
            (λ v is. (subst (λ (w : ℕ). In w before.marked) (sym is) (h.inside last most.inside), λ i. (old v i).1 is))
            (λ v off other f. off (f.0, λ i. f.1 (still v i other))) h.left u.live;
        inside = λ v i. h.inside v (old v i).0;
        ascending = subst (λ (k : List ℕ). InOrder ◌<◌ k) (sym u.marked) (left-ascending last now.marked h.ascending);
        count = let sum = h.count in omega arith;
        next = u.next ∙ h.next;
        system = u.system ∙ h.system;
      },
      omega arith,
    )

-- once none is marked, the event is rolled back
pub rolled : (before now : AtMachine) (t : ℕ) → Rolling before now t → now.marked ≡ [] →
    Does (object before) (Command.Roll t) (Reply.Rolled (length before.marked)) (object now)
rolled before now t h none =
    let no : (u : ℕ) → In u now.marked → ⊥ = λ u i. subst (λ (k : List ℕ). In u k) none i in
    let out : WithoutTickets (DependsOn before.live t) before.live now.live =
    without-alike (IsUndone before now) (DependsOn before.live t) before.live now.live (λ u f i d. ((h.all.exactly u).0 d.0).2)
    (λ u f i follows. ((h.all.exactly u).1 (f, i, follows), no u)) h.left in
    let sum : length now.live + length before.marked ≡ length before.live + 0 = h.count ∙ ap (λ (k : List ℕ). length before.live + length k) none in
    let begins : opening now.checked ≡ opening before.checked = ap opening h.system in
    (h.live, (now.live, out, omega arith, λ i. record { opening = begins i; live = now.live; next = h.next i }))
