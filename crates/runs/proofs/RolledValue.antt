-- A rollback of a variable leaves it with the value that it had before its last live writer.
use Rattle.std.proofs.Common.{◌≡◌, inl, inr, ℕ, suc, ◌<◌, ◌≤◌, List, [], ◌∷◌, ◌++◌, Some, refl, sym, ◌∙◌, ap, subst, arith}
use Rattle.syntax.specs.Lists.{In}
use Rattle.system.specs.Expression.{get, Store}
use Rattle.runs.specs.Steps.{State, Run}
use Rattle.runs.specs.Dependence.{ended, stays, leaves}
use Rattle.runs.specs.Live.{Live, events, Rising, LiveAt, DependsOn, same, WithoutTickets, LastWriter, NoWriter}
use Rattle.runs.specs.Object.{Object}
use Rattle.runs.specs.Sound.{Sound}
use Rattle.runs.specs.declared.event.Event.{Event}
use Rattle.runs.proofs.public.Stores.{get-after}
use Rattle.runs.proofs.public.StepOf.{run-determined}
use Rattle.runs.proofs.public.Orders.{run-part}
use Rattle.runs.proofs.public.Tickets.{rising-parts, rising-in, live-right, events-join}
use Rattle.runs.proofs.public.Effects.{sound-formed}
use Rattle.runs.proofs.public.DependsOnLaw.{depends-up}

-- a live entry, with what stands before and after it
pub record Split (l : Live) (t : ℕ) (e : Event) : Type 0 where
  pub before : Live
  pub after : Live
  pub is : l ≡ before ++ (t, e) ∷ after

pub split : (l : Live) (t : ℕ) (e : Event) → LiveAt l t e → Split l t e
split [] t e i = absurd i
split (x ∷ l) t e i =
    elim i [
      | inl a ↦ record { before = []; after = l; is = ap (λ (y : ℕ × Event). y ∷ l) (sym a) }
      | inr a ↦ let rest = split l t e a in
          record { before = x ∷ rest.before; after = rest.after; is = ap (λ (z : Live). x ∷ z) rest.is }
    ]

-- events that don't write a variable leave its value
pub run-unwritten : (S T : State) (l : Live) (x : ℕ) → Run S (events l) T → NoWriter l x → get T.store x ≡ get S.store x
run-unwritten S T [] x r none = ap (λ (U : State). get U.store x) (sym r)
run-unwritten S T (y ∷ l) x r none =
    run-unwritten r.0 T l x r.2 (λ u f i. none u f (inr i))
    ∙ ap (λ (s : Store). get s x) r.1.stored
    ∙ get-after S.store y.1 x (λ is. none y.0 y.1 (inl refl) is)

without-inside : (D : ℕ → Type 0) (l k : Live) → WithoutTickets D l k → (x : ℕ × Event) → In x k → In x l
without-inside D l k ended x i = i
without-inside D l k (stays {l = l'} {k = k'} out w) x i = elim i [ inl a ↦ inl a | inr a ↦ inr (without-inside D l' k' w x a) ]
without-inside D l k (leaves {l = l'} gone w) x i = inr (without-inside D l' k w x i)

-- what is left after the first entry was taken out
without-head : (D : ℕ → Type 0) (t : ℕ) (e : Event) (l k : Live) → D t → WithoutTickets D ((t, e) ∷ l) k → (x : ℕ × Event) → In x k → In x l
without-head D t e l k d (stays out w) x i = absurd (out d)
without-head D t e l k d (leaves gone w) x i = without-inside D l k w x i

-- where nothing of a first part is taken out, what is left begins with it
record Begins (D : ℕ → Type 0) (before after k : Live) : Type 0 where
  rest : Live
  is : k ≡ before ++ rest
  left : WithoutTickets D after rest

without-begins : (D : ℕ → Type 0) (before after k : Live) → ((u : ℕ) (f : Event) → LiveAt before u f → D u → ⊥) →
    WithoutTickets D (before ++ after) k → Begins D before after k
without-begins D [] after k none w = record { rest = k; is = refl; left = w }
without-begins D (x ∷ before) after k none (stays {k = k'} out w) =
    let rest = without-begins D before after k' (λ u f i. none u f (inr i)) w in
    record { rest = rest.rest; is = ap (λ (z : Live). x ∷ z) rest.is; left = rest.left }
without-begins D (x ∷ before) after k none (leaves gone w) = absurd (none x.0 x.1 (inl refl) gone)

-- the rollback of a last writer
pub record WriterGone (o : Object) (x : ℕ) (k : Live) : Type 0 where
  pub before : Live
  pub ticket : ℕ
  pub event : Event
  pub after : Live
  pub is : o.live ≡ before ++ (ticket, event) ∷ after
  pub writes : event.written ≡ Some x
  pub none : NoWriter after x
  pub value : (S T : State) → Run o.opening (events before) S → Run o.opening (events k) T → get T.store x ≡ get S.store x

pub writer-gone : (o : Object) (x t : ℕ) (k : Live) → Sound o → LastWriter o.live x t → WithoutTickets (DependsOn o.live t) o.live k → WriterGone o x k
writer-gone o x t k s last w =
    let parts = split o.live t last.event last.live in
    let l : Live = parts.before ++ (t, last.event) ∷ parts.after in
    let rising : Rising 1 l o.next = subst (λ (z : Live). Rising 1 z o.next) parts.is s.rising in
    let bounds = rising-parts 1 o.next parts.before ((t, last.event) ∷ parts.after) rising in
    let low : bounds.0 ≤ t = bounds.2.0 in
    let none : NoWriter parts.after x = λ u f i is.
    let above : suc t ≤ u = (rising-in (suc t) o.next parts.after u f bounds.2.1 i).0 in
    let below : u ≤ t = last.last u f (subst (λ (z : Live). LiveAt z u f) (sym parts.is) (live-right parts.before ((t, last.event) ∷ parts.after) (u, f) (inr i))) is in
    absurd (omega arith) in
    let begins = without-begins (DependsOn o.live t) parts.before ((t, last.event) ∷ parts.after) k
    (λ u f i follows.
    let up : t ≤ u = depends-up o.live t u follows in
    let below : u < bounds.0 = (rising-in 1 bounds.0 parts.before u f bounds.1 i).1 in
    absurd (omega arith))
    (subst (λ (z : Live). WithoutTickets (DependsOn o.live t) z k) parts.is w) in
    record {
      before = parts.before;
      ticket = t;
      event = last.event;
      after = parts.after;
      is = parts.is;
      writes = last.writes;
      none = none;
      value = λ S T before run.
          let whole = run-part o.opening T (events parts.before) (events begins.rest)
          (subst (λ (h : List Event). Run o.opening h T) (ap events begins.is ∙ events-join parts.before begins.rest) run) in
          run-unwritten whole.middle T begins.rest x whole.second
          (λ u f i is. none u f (without-head (DependsOn o.live t) t last.event parts.after begins.rest same begins.left (u, f) i) is)
          ∙ ap (λ (U : State). get U.store x) (run-determined o.opening (events parts.before) whole.middle S (sound-formed o s) whole.first before);
    }
