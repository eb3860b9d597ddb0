-- The list of a residual's actions is exactly what it offers.
use Rattle.std.proofs.Common.{◌≡◌, ◌⊎◌, inl, inr, ◌↔◌, ℕ, zero, suc, ◌+◌, ◌*◌, ◌==◌, List, [], ◌∷◌, Bool, true, false, cond, Option, Some, None, slice_get, refl, sym, ◌∙◌, ap, subst, arith}
use Rattle.address.specs.declared.Entry.{Entry}
use Rattle.address.specs.declared.Entry.TheVariants.{Ordered, Branch}
use Rattle.syntax.specs.Lists.{In}
use Rattle.system.specs.Expression.{Store, Expression, by_guards, decide, value}
use Rattle.system.specs.Residual.{Residual, done, halted, inside, beside, assign, send, receive, sync, held, loop, while, test, choose, closing, drain, within, along, arm_at, opened}
use Rattle.runs.specs.Moves.{Place, Move, Local, assigns, tests, turns, sends, receives, syncs, opens, releases, closes}
use Rattle.runs.specs.Steps.{State}
use Rattle.runs.proofs.public.Lists.{in-left, in-right, in-parts}
use Rattle.local_actions.specs.Actions.{action_of, Decided, Offered}
use Rattle.local_actions.specs.Walk.{action_at}
use Rattle.local_actions.specs.internal.Listed.{behind, open_actions, actions_of_residual}
use Rattle.local_actions.specs.declared.action.LocalAction.{LocalAction}
use Rattle.local_actions.specs.declared.action.ActionKind.{ActionKind}
use Rattle.local_actions.specs.declared.action.ActionKind.TheVariants.{Opens}

in-behind : (x : Entry) (a : Place) (v : ActionKind) (rs : List LocalAction) → In (action_at a v) rs → In (action_at (x ∷ a) v) (behind x rs)
in-behind x a v [] h = absurd h
in-behind x a v (r ∷ rs) h =
    elim h [ inl u ↦ inl (ap (λ (k : LocalAction). action_at (x ∷ k.place) k.action) u) | inr u ↦ inr (in-behind x a v rs u) ]

-- an action behind an entry is one of the child's
pub record Behind (x : Entry) (l : LocalAction) (rs : List LocalAction) : Type 0 where
  pub rest : Place
  pub is : l.place ≡ x ∷ rest
  pub inner : In (action_at rest l.action) rs

pub behind-in : (x : Entry) (l : LocalAction) (rs : List LocalAction) → In l (behind x rs) → Behind x l rs
behind-in x l [] h = absurd h
behind-in x l (k ∷ rs) h =
    elim h [
      | inl u ↦ record {
        rest = k.place;
        is = ap (λ (o : LocalAction). o.place) u;
        inner = inl (ap (λ (o : LocalAction). action_at k.place o.action) u);
      }
      | inr u ↦ let later = behind-in x l rs u in record { rest = later.rest; is = later.is; inner = inr later.inner }
    ]

in-opens : (k j n c : ℕ) (channels : List ℕ) → slice_get channels j ≡ Some c → n ≡ k + j → In (action_at (Ordered 0 ∷ []) (Opens c n)) (open_actions k channels)
in-opens k j n c [] h e = cc
in-opens k zero n c (d ∷ ds) h e =
    let same : c ≡ d = cc in
    let number : n ≡ k = omega (arith, e) in
    inl (λ i. action_at (Ordered 0 ∷ []) (Opens (same i) (number i)))
in-opens k (suc j) n c (d ∷ ds) h e = inr (in-opens (suc k) j n c ds h (omega (arith, e)))

-- an open in the list is of an arm that there is
record Opening (k : ℕ) (l : LocalAction) (channels : List ℕ) : Type 0 where
  pub number : ℕ
  pub channel : ℕ
  pub there : slice_get channels number ≡ Some channel
  pub is : l ≡ action_at (Ordered 0 ∷ []) (Opens channel (k + number))

opens-in : (k : ℕ) (l : LocalAction) (channels : List ℕ) → In l (open_actions k channels) → Opening k l channels
opens-in k l [] h = absurd h
opens-in k l (c ∷ cs) h =
    elim h [
      | inl u ↦ record { number = 0; channel = c; there = refl; is = u ∙ ap (λ n. action_at (Ordered 0 ∷ []) (Opens c n)) (let e : k ≡ k + 0 = omega arith in e) }
      | inr u ↦ let later = opens-in (suc k) l cs u in
          record {
            number = suc later.number;
            channel = later.channel;
            there = later.there;
            is = later.is ∙ ap (λ n. action_at (Ordered 0 ∷ []) (Opens later.channel n)) (let e : suc k + later.number ≡ k + suc later.number = omega arith in e);
          }
    ]

-- each move that is possible, and decided by the store, is listed as an action
pub complete : (s : Store) (r : Residual) (a : Place) (m : Move) (q : Residual) → Local r a m q → Decided s m → In (action_at a (action_of s m)) (actions_of_residual s r)
complete s done a m q h d = absurd h
complete s halted a m q h d = absurd h
complete s (inside i child next) a m q h d =
    rw h.2 (in-behind (Ordered i) h.0 (action_of s m) (actions_of_residual s child) (complete s child h.0 m h.1 h.3 d))
complete s (beside k child rest) a m q h d =
    elim h [
      | inl u ↦ rw u.2 (in-left (action_at (Branch k ∷ u.0) (action_of s m)) (behind (Branch k) (actions_of_residual s child)) (actions_of_residual s rest)
          (in-behind (Branch k) u.0 (action_of s m) (actions_of_residual s child) (complete s child u.0 m u.1 u.3 d)))
      | inr u ↦ in-right (action_at a (action_of s m)) (behind (Branch k) (actions_of_residual s child)) (actions_of_residual s rest) (complete s rest a m u.0 u.1 d)
    ]
complete s (assign x w e) a m q h d = rw (h.0, h.1) (inl refl)
complete s (send c w e) a m q h d = elim h.1 [ inl u ↦ rw (h.0, u.0) (inl refl) | inr u ↦ rw (h.0, u.0) (inl refl) ]
complete s (receive c x) a m q h d = rw (h.0, h.1) (inl refl)
complete s (sync c) a m q h d = elim h.1 [ inl u ↦ rw (h.0, u.0) (inl refl) | inr u ↦ rw (h.0, u.0) (inl refl) ]
complete s (held c) a m q h d = rw (h.0, h.1) (inl refl)
complete s (loop k body) a m q h d = rw (h.0, h.1) (inl refl)
complete s (while k e body) a m q h d =
    elim h.1 [
      | inl u ↦ let same : decide s (by_guards (e ∷ []) false) ≡ Some 0 = rw u.0 at d in
          rw (h.0, u.0) (inl (ap (λ o. action_at (Ordered (2 * k) ∷ []) (action_of s (tests (by_guards (e ∷ []) false) o))) (sym same)))
      | inr u ↦ let same : decide s (by_guards (e ∷ []) false) ≡ None = rw u.0 at d in
          rw (h.0, u.0) (inl (ap (λ o. action_at (Ordered (2 * k) ∷ []) (action_of s (tests (by_guards (e ∷ []) false) o))) (sym same)))
    ]
complete s (test t arms) a m q h d =
    elim h.1 [
      | inl u ↦ let same : decide s t ≡ Some u.0 = rw u.1 at d in rw (h.0, u.1) (inl (ap (λ o. action_at (Ordered 0 ∷ []) (action_of s (tests t o))) (sym same)))
      | inr u ↦ let same : decide s t ≡ None = rw u.0 at d in rw (h.0, u.0) (inl (ap (λ o. action_at (Ordered 0 ∷ []) (action_of s (tests t o))) (sym same)))
    ]
complete s (choose channels arms) a m q h d = rw (h.0, h.5) (in-opens 0 h.2 h.2 h.1 channels h.4 (omega arith))
complete s (closing c) a m q h d = rw (h.0, h.1) (inl refl)
complete s (drain c k) a m q h d = rw (h.0, h.1) (inl refl)

-- a residual with a store
abbrev pub state : Residual → Store → State
state r s = record { residual = r; store = s }

-- one action of a leaf
one : (s : Store) (r q : Residual) (x : LocalAction) (a : Place) (m : Move) → x ≡ action_at a (action_of s m) → Decided s m → Local r a m q → Offered (state r s) x
one s r q x a m e d h = record {
  move = m;
  after = q;
  possible = subst (λ b. Local r b m q) (sym (ap (λ (y : LocalAction). y.place) e)) h;
  decided = d;
  shown = ap (λ (y : LocalAction). y.action) e;
}

guard-holds : (b : Bool) → (cond {A = Option ℕ} b (Some 0) None ≡ Some 0) ⊎ (cond {A = Option ℕ} b (Some 0) None ≡ None)
guard-holds true = inl refl
guard-holds false = inr refl

-- one guard takes arm 0 or none
one-guard : (s : Store) (e : Expression) → (decide s (by_guards (e ∷ []) false) ≡ Some 0) ⊎ (decide s (by_guards (e ∷ []) false) ≡ None)
one-guard s e = guard-holds ((value s e).bits == 1)

some-or-none : (o : Option ℕ) → ((k : ℕ) × (o ≡ Some k)) ⊎ (o ≡ None)
some-or-none None = inr refl
some-or-none (Some k) = inl (k, refl)

-- each action in the list is offered
pub sound : (s : Store) (r : Residual) (x : LocalAction) → In x (actions_of_residual s r) → Offered (state r s) x
sound s done x i = absurd i
sound s halted x i = absurd i
sound s (inside i child next) x h =
    let deep = behind-in (Ordered i) x (actions_of_residual s child) h in
    let below = sound s child (action_at deep.rest x.action) deep.inner in
    record { move = below.move; after = within i below.after next; possible = (deep.rest, below.after, deep.is, below.possible, refl); decided = below.decided; shown = below.shown }
sound s (beside k child rest) x h =
    elim (in-parts x (behind (Branch k) (actions_of_residual s child)) (actions_of_residual s rest) h) [
      | inl v ↦ let deep = behind-in (Branch k) x (actions_of_residual s child) v in
          let below = sound s child (action_at deep.rest x.action) deep.inner in
          record { move = below.move; after = along k below.after rest; possible = inl (deep.rest, below.after, deep.is, below.possible, refl); decided = below.decided; shown = below.shown }
      | inr v ↦ let below = sound s rest x v in
          record { move = below.move; after = along k child below.after; possible = inr (below.after, below.possible, refl); decided = below.decided; shown = below.shown }
    ]
sound s (assign y w e) x h = elim h [ inl v ↦ one s (assign y w e) done x [] (assigns y w e) v tt (refl, refl, refl) | inr v ↦ absurd v ]
sound s (send c w e) x h = elim h [ inl v ↦ one s (send c w e) done x (Ordered 0 ∷ []) (sends c w e false) v tt (refl, inl (refl, refl)) | inr v ↦ absurd v ]
sound s (receive c y) x h = elim h [ inl v ↦ one s (receive c y) done x [] (receives c (Some y)) v tt (refl, refl, refl) | inr v ↦ absurd v ]
sound s (sync c) x h = elim h [ inl v ↦ one s (sync c) done x (Ordered 0 ∷ []) (syncs c false) v tt (refl, inl (refl, refl)) | inr v ↦ absurd v ]
sound s (held c) x h = elim h [ inl v ↦ one s (held c) done x (Ordered 1 ∷ []) (releases c) v tt (refl, refl, refl) | inr v ↦ absurd v ]
sound s (loop k body) x h =
    elim h [ inl v ↦ one s (loop k body) (within (2 * k + 1) body (loop (k + 1) body)) x (Ordered (2 * k) ∷ []) turns v tt (refl, refl, refl) | inr v ↦ absurd v ]
sound s (while k e body) x h =
    let d = by_guards (e ∷ []) false in
    elim h [
      | inl v ↦ elim (one-guard s e) [
        | inl u ↦ one s (while k e body) (within (2 * k + 1) body (while (k + 1) e body)) x (Ordered (2 * k) ∷ []) (tests d (Some 0))
            (v ∙ ap (λ o. action_at (Ordered (2 * k) ∷ []) (action_of s (tests d o))) u) u (refl, inl (refl, refl))
        | inr u ↦ one s (while k e body) done x (Ordered (2 * k) ∷ []) (tests d None)
            (v ∙ ap (λ o. action_at (Ordered (2 * k) ∷ []) (action_of s (tests d o))) u) u (refl, inr (refl, refl))
      ]
      | inr v ↦ absurd v
    ]
sound s (test d arms) x h =
    elim h [
      | inl v ↦ elim (some-or-none (decide s d)) [
        | inl u ↦ one s (test d arms) (within 1 (arm_at arms u.0) done) x (Ordered 0 ∷ []) (tests d (Some u.0))
            (v ∙ ap (λ o. action_at (Ordered 0 ∷ []) (action_of s (tests d o))) u.1) u.1 (refl, inl (u.0, refl, refl))
        | inr u ↦ one s (test d arms) done x (Ordered 0 ∷ []) (tests d None)
            (v ∙ ap (λ o. action_at (Ordered 0 ∷ []) (action_of s (tests d o))) u) u (refl, inr (refl, refl))
      ]
      | inr v ↦ absurd v
    ]
sound s (choose channels arms) x h =
    let o = opens-in 0 x channels h in
    one s (choose channels arms) (within 1 (opened o.channel None (arm_at arms o.number)) (closing o.channel)) x (Ordered 0 ∷ []) (opens o.channel o.number None)
    (o.is ∙ ap (λ n. action_at (Ordered 0 ∷ []) (Opens o.channel n)) (let e : 0 + o.number ≡ o.number = omega arith in e)) tt (refl, o.channel, o.number, None, o.there, refl, refl)
sound s (closing c) x h = elim h [ inl v ↦ one s (closing c) done x (Ordered 2 ∷ []) (closes c) v tt (refl, refl, refl) | inr v ↦ absurd v ]
sound s (drain c k) x h = elim h [ inl v ↦ one s (drain c k) (drain c (k + 1)) x (Ordered k ∷ []) (receives c None) v tt (refl, refl, refl) | inr v ↦ absurd v ]

-- the list of a residual's actions is exactly what it offers
pub exactly : (s : Store) (r : Residual) (x : LocalAction) → In x (actions_of_residual s r) ↔ Offered (state r s) x
exactly s r x = (
  sound s r x,
  λ o. subst (λ (v : ActionKind). In (action_at x.place v) (actions_of_residual s r)) (sym o.shown) (complete s r x.place o.move o.after o.possible o.decided),
)
