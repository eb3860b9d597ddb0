-- After any commands: a part of what was live, to which nothing that is gone leads, and events under new tickets.
use Rattle.std.proofs.Common.{◌≡◌, ◌⊎◌, inl, inr, ℕ, suc, ◌<◌, ◌≤◌, List, [], ◌∷◌, ◌++◌, refl, sym, ◌∙◌, ap, subst, arith}
use Rattle.std.proofs.lemmas.List.{append-nil, append_assoc}
use Rattle.runs.specs.Dependence.{Directly}
use Rattle.runs.specs.Live.{Live, Rising, LiveAt, DependsOn, same, later}
use Rattle.runs.specs.Object.{Object}
use Rattle.runs.specs.Does.{Answers}
use Rattle.runs.specs.Answered.{Answered}
use Rattle.runs.specs.Sound.{Sound}
use Rattle.runs.specs.declared.event.Event.{Event}
use Rattle.runs.specs.Commands.{Command, Reply}
use Rattle.runs.proofs.public.Lists.{every-in}
use Rattle.runs.proofs.public.Tickets.{rising-le, rising-in, rising-one, rising-join, live-left, live-parts}
use Rattle.runs.proofs.Back.{Back, nothing, keeps, drops, back-all, back-in, back-on, back-parts, back-rising}
use Rattle.runs.proofs.public.Effects.{Effect, unchanged, added, taken, answers-effect, effect-sound}

pub record After (o o' : Object) : Type 0 where
  -- what is still live, and what is new
  pub kept : Live
  pub new : Live
  pub is : o'.live ≡ kept ++ new
  pub back : Back o.live kept
  pub rising : Rising o.next new o'.next
  pub opening : o'.opening ≡ o.opening

after-none : (o : Object) → After o o
after-none o = record { kept = o.live; new = []; is = sym (append-nil o.live); back = back-all o.live; rising = omega arith; opening = refl }

effect-after : (o o' : Object) → Effect o o' → After o o'
effect-after o o' (unchanged is) = subst (λ (p : Object). After o p) (sym is) (after-none o)
effect-after o o' (added e T r a room unspent is) = subst (λ (p : Object). After o p) (sym is)
    (record { kept = o.live; new = (o.next, e) ∷ []; is = refl; back = back-all o.live; rising = (omega arith, omega arith); opening = refl })
effect-after o o' (taken k b is) = subst (λ (p : Object). After o p) (sym is)
    (record { kept = k; new = []; is = sym (append-nil k); back = b; rising = omega arith; opening = refl })

after-join : (o p q : Object) → After o p → After p q → After o q
after-join o p q a b =
    let parts = back-parts a.kept a.new b.kept (subst (λ (l : Live). Back l b.kept) a.is b.back) in
    record {
      kept = parts.first;
      new = parts.second ++ b.new;
      is = b.is ∙ ap (λ (l : Live). l ++ b.new) parts.is ∙ append_assoc parts.first parts.second b.new;
      back = back-on o.live a.kept parts.first a.back parts.of_first;
      rising = rising-join o.next p.next q.next parts.second b.new (back-rising o.next p.next a.new parts.second parts.of_second a.rising) b.rising;
      opening = b.opening ∙ a.opening;
    }

-- what a list of commands leaves is sound, and is so made
pub answered-after : (o : Object) (cs : List Command) (replies : List Reply) (o' : Object) → Sound o → Answered o cs replies o' → Sound o' × After o o'
answered-after o [] replies o' s h = (subst Sound (sym h.1) s, subst (λ (p : Object). After o p) (sym h.1) (after-none o))
answered-after o (c ∷ cs) replies o' s h =
    let effect = answers-effect o c h.0 h.2 s h.4 in
    let rest = answered-after h.2 cs h.1 o' (effect-sound o h.2 s effect) h.5 in
    (rest.0, after-join o h.2 o' (effect-after o h.2 effect) rest.1)

pub answers-after : (o : Object) (c : Command) (reply : Reply) (o' : Object) → Sound o → Answers o c reply o' → After o o'
answers-after o c reply o' s h = effect-after o o' (answers-effect o c reply o' s h)

-- a live event was live before, or has a new ticket
pub old-or-new : (o o' : Object) (t : ℕ) (e : Event) → After o o' → LiveAt o'.live t e → LiveAt o.live t e ⊎ (o.next ≤ t)
old-or-new o o' t e a i =
    elim (live-parts a.kept a.new (t, e) (subst (λ (l : Live). LiveAt l t e) a.is i)) [
      | inl u ↦ inl (back-in o.live a.kept (t, e) a.back u)
      | inr u ↦ inr (rising-in o.next o'.next a.new t e a.rising u).0
    ]

pub next-grows : (o o' : Object) → After o o' → o.next ≤ o'.next
next-grows o o' a = rising-le o.next o'.next a.new a.rising

-- what is not kept has no kept follower
gone-direct : (low next : ℕ) (l k : Live) (t u : ℕ) (e f : Event) → Rising low l next → Back l k → LiveAt l t e → (LiveAt k t e → ⊥) →
    LiveAt l u f → t < u → Directly e f → LiveAt k u f → ⊥
gone-direct low next l k t u e f r nothing i out j less d kept = absurd kept
gone-direct low next l k t u e f r (keeps {x = x} {l = l'} {k = k'} b) i out j less d kept =
    elim i [
      | inl a ↦ out (inl a)
      | inr a ↦ elim j [
        | inl c ↦
            let is : u ≡ x.0 = ap (λ (y : ℕ × Event). y.0) c in
            let above : suc x.0 ≤ t = (rising-in (suc x.0) next l' t e r.1 a).0 in
            absurd (omega arith)
        | inr c ↦ elim kept [
          | inl m ↦
              let is : u ≡ x.0 = ap (λ (y : ℕ × Event). y.0) m in
              let above : suc x.0 ≤ u = (rising-in (suc x.0) next l' u f r.1 c).0 in
              absurd (omega arith)
          | inr m ↦ gone-direct (suc x.0) next l' k' t u e f r.1 b a (λ y. out (inr y)) c less d m
        ]
      ]
    ]
gone-direct low next l k t u e f r (drops {x = x} {l = l'} free b) i out j less d kept =
    elim i [
      | inl a ↦ every-in (λ (y : ℕ × Event). Directly x.1 y.1 → ⊥) k (u, f) free kept
          (subst (λ (y : Event). Directly y f) (ap (λ (y : ℕ × Event). y.1) a) d)
      | inr a ↦ elim j [
        | inl c ↦
            let is : u ≡ x.0 = ap (λ (y : ℕ × Event). y.0) c in
            let above : suc x.0 ≤ t = (rising-in (suc x.0) next l' t e r.1 a).0 in
            absurd (omega arith)
        | inr c ↦ gone-direct (suc x.0) next l' k t u e f r.1 b a out c less d kept
      ]
    ]

-- no follower of what is not kept is kept
pub gone-follows : (low next : ℕ) (l k : Live) (t u : ℕ) (e f : Event) → Rising low l next → Back l k → LiveAt l t e → (LiveAt k t e → ⊥) →
    DependsOn l t u → LiveAt l u f → LiveAt k u f → ⊥
gone-follows low next l k t u e f r b i out same j kept =
    out (subst (λ (g : Event). LiveAt k t g) (rising-one low next l t f e r j i) kept)
gone-follows low next l k t u e f r b i out (later {u = v} g h before iv iu less d) j kept =
    gone-direct low next l k v u g f r b iv (gone-follows low next l k t v e g r b i out before iv) j less
    (subst (λ (x : Event). Directly g x) (rising-one low next l u h f r iu j) d) kept

-- whoever loses a live event loses all that depend on it
pub least-rollback : (o o' : Object) (t u : ℕ) (e f : Event) → Sound o → Sound o' → After o o' → LiveAt o.live t e → (LiveAt o'.live t e → ⊥) →
    LiveAt o.live u f → DependsOn o.live t u → LiveAt o'.live u f → ⊥
least-rollback o o' t u e f s s' a i out j follows kept =
    elim (live-parts a.kept a.new (u, f) (subst (λ (l : Live). LiveAt l u f) a.is kept)) [
      | inl m ↦ gone-follows 1 o.next o.live a.kept t u e f s.rising a.back i
          (λ m. out (subst (λ (l : Live). LiveAt l t e) (sym a.is) (live-left a.kept a.new (t, e) m))) follows j m
      | inr m ↦
          let new : o.next ≤ u = (rising-in o.next o'.next a.new u f a.rising m).0 in
          let old : u < o.next = (rising-in 1 o.next o.live u f s.rising j).1 in
          absurd (omega arith)
    ]
