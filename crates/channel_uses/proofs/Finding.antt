-- What a walk for one channel finds, child by child.
use Rattle.std.proofs.Common.{◌≡◌, inl, inr, ℕ, zero, suc, ◌+◌, ◌*◌, ◌<◌, ◌≤◌, List, [], ◌∷◌, ◌++◌, length, map, Bool, true, false, cond, Option, Some, None, slice_index_or, refl, sym, ap, ap₂, ◌∙◌, subst, arith}
use Rattle.address.specs.declared.Entry.{Entry}
use Rattle.address.specs.declared.Entry.TheVariants.{Ordered, Branch}
use Rattle.syntax.specs.Lists.{In}
use Rattle.system.specs.Expression.{Store, Expression}
use Rattle.runs.proofs.public.Options.{none-some, some-injective}
use Rattle.process_tree.specs.Children.{proc_at}
use Rattle.process_tree.specs.Code.{Once, assigning, receiving, Sender, sending, syncing, Code, Codes, no_code, code, code_at}
use Rattle.process_tree.specs.Remaining.{Received, with_value, residual_once, residual_sender, channel_of}
use Rattle.process_tree.specs.Proc.{waiting, holding, past, Proc, idle, stopped, once, sender, fresh, turn, ended_at_once, ended, untested, skipped, took, unopened, entered, closed, sequence, parallel, drained, Procs, no_procs, proc, started, all_started}
use Rattle.process_tree.specs.Translation.{row_of}
use Rattle.process_tree.specs.View.{code_view}
use Rattle.process_tree.specs.declared.code.Await.{Await}
use Rattle.process_tree.specs.declared.code.Code as made
use Rattle.process_tree.specs.Tidy.{last_moved}
use Rattle.process_tree.specs.internal.Received.{puts_once, puts_sender, puts_guard}
use Rattle.local_actions.specs.Walk.{Walk, action_at, added, down, up}
use Rattle.local_actions.specs.internal.Listed.{behind, actions_of_residual, again_at, Listing, nothing, at_work, one_after, both, listed, listed_sequence, listed_parallel}
use Rattle.local_actions.specs.declared.action.LocalAction.{LocalAction}
use Rattle.local_actions.specs.declared.action.ActionKind.TheVariants.{Closes}
use Rattle.local_actions.proofs.public.OneByOne.{step-here}
use Rattle.local_actions.proofs.public.Walks.{added-none, added-both, through}
use Rattle.channel_uses.specs.OnChannel.{on}
use Rattle.channel_uses.specs.StemsFrom.{StemsFrom, AllStemFrom}
use Rattle.channel_uses.specs.Uses.{used, all_used}
use Rattle.std.proofs.lemmas.Bool.{cases_lt}
use Rattle.channel_uses.specs.internal.Located.{finds, finds_at}
use Rattle.channel_uses.specs.internal.Parts.{UnusedBetween}
use Rattle.channel_uses.proofs.Parts.{is-await}
use Rattle.channel_uses.proofs.Stems.{all-stem}
use Rattle.channel_uses.proofs.OnChannel.{dropped, on-behind, on-both, other-channel, opens_none, in-first, in-second, in-arm}

-- ---- what does not use the channel
pub after-none : (e i : ℕ) (x rest : Listing) → on e x.actions ≡ [] → on e rest.actions ≡ [] → on e (one_after i x rest).actions ≡ []
after-none e i x rest h k = pick x.over
  where
    pick : (b : Bool) → on e (cond b rest (at_work (behind (Ordered i) x.actions))).actions ≡ []
    pick true = k
    pick false = on-behind e (Ordered i) x.actions ∙ ap (behind (Ordered i)) h

both-none : (e k : ℕ) (x rest : Listing) → on e x.actions ≡ [] → on e rest.actions ≡ [] → on e (both k x rest).actions ≡ []
both-none e k x rest h g =
    on-both e (behind (Branch k) x.actions) rest.actions ∙ ap₂ (λ a b. a ++ b) (on-behind e (Branch k) x.actions ∙ ap (behind (Branch k)) h) g

again-listed-none : (e : ℕ) (s : Store) (n : ℕ) (g : Option Expression) → on e (again_at s n g) ≡ []
again-listed-none e s n None = refl
again-listed-none e s n (Some x) = refl

pub once_listed_none : (e : ℕ) (s : Store) (env : Received) (o : Once) → on e (actions_of_residual s (residual_once (puts_once env o))) ≡ []
once_listed_none e s env (assigning x w v) = refl
once_listed_none e s env (receiving d x) = refl

pub once_none : (e : ℕ) (s : Store) (env : Received) (o : Once) (made : Bool) → on e (listed s env (once o made)).actions ≡ []
once_none e s env o true = refl
once_none e s env o false = once_listed_none e s env o

waiting-listed-none : (e : ℕ) (s : Store) (env : Received) (x : Sender) → (In e (channel_of x ∷ []) → ⊥) → on e (actions_of_residual s (residual_sender (puts_sender env x))) ≡ []
waiting-listed-none e s env (sending d w v) h = dropped _ _ [] (other-channel d e [] h)
waiting-listed-none e s env (syncing d) h = dropped _ _ [] (other-channel d e [] h)

-- no use of the whole
abbrev Unused : ℕ → List ℕ → Type 0
Unused e ds = In e ds → ⊥

mutual
  -- nothing is listed on a channel that the command does not use
  pub listed-none : (s : Store) (p : Proc) (env : Received) (c : Code) (e : ℕ) → StemsFrom p c → Unused e (used c) → on e (listed s env p).actions ≡ []
  listed-none s idle env c e t h = refl
  listed-none s stopped env c e t h = refl
  listed-none s (once o made) env c e t h = once_none e s env o made
  listed-none s (sender x waiting) env c e t h = waiting-listed-none e s env x (subst (λ k. Unused e (used k)) t h)
  listed-none s (sender x holding) env c e t h = dropped _ _ [] (other-channel (channel_of x) e [] (subst (λ k. Unused e (used k)) t h))
  listed-none s (sender x past) env c e t h = refl
  listed-none s (fresh g b) env c e t h = again-listed-none e s 0 (puts_guard env g)
  listed-none s (turn g b n q) env c e t h =
      after-none e (2 * n + 1) (listed s env q) (at_work (again_at s (n + 1) (puts_guard env g))) (listed-none s q env b e t.1 (subst (λ k. Unused e (used k)) t.0 h))
      (again-listed-none e s (n + 1) (puts_guard env g))
  listed-none s (ended_at_once g b) env c e t h = refl
  listed-none s (ended g b n q) env c e t h = refl
  listed-none s (untested d cs) env c e t h = refl
  listed-none s (skipped d cs) env c e t h = refl
  listed-none s (took d cs j q) env c e t h =
      after-none e 1 (listed s env q) nothing (listed-none s q env (code_at cs j) e t.1 (λ i. subst (λ k. Unused e (used k)) t.0 h (in-arm e cs j i))) refl
  listed-none s (unopened ds cs) env c e t h = opens_none e 0 ds
  listed-none s (entered ds cs d v q) env c e t h =
      after-none e 1 (listed s (with_value d v env) q) (at_work (action_at (Ordered 2 ∷ []) (Closes d) ∷ []))
      (listed-none s q (with_value d v env) (code_at cs t.1) e t.3 (λ i. subst (λ k. Unused e (used k)) t.0 h (in-arm e cs t.1 i))) refl
  listed-none s (closed ds cs d v q) env c e t h = refl
  listed-none s (sequence ps) env c e t h = sequence-none s ps env t.0 (last_moved ps) 0 e t.2 (subst (λ k. Unused e (used k)) t.1 h)
  listed-none s (parallel ps) env c e t h = parallel-none s ps env t.0 0 e t.2 (subst (λ k. Unused e (used k)) t.1 h)
  listed-none s (drained d n) env c e t h = refl

  sequence-none : (s : Store) (ps : Procs) (env : Received) (cs : Codes) (k n e : ℕ) → AllStemFrom ps cs → Unused e (all_used cs) → on e (listed_sequence s env k n ps).actions ≡ []
  sequence-none s no_procs env cs zero n e t h = refl
  sequence-none s no_procs env cs (suc k) n e t h = refl
  sequence-none s (proc p ps) env no_code k n e t h = absurd t
  sequence-none s (proc p ps) env (code c cs) zero n e t h =
      after-none e n (listed s env p) (listed_sequence s env zero (n + 1) ps) (listed-none s p env c e t.0 (λ i. h (in-first e (used c) (all_used cs) i)))
      (sequence-none s ps env cs zero (n + 1) e t.1 (λ i. h (in-second e (used c) (all_used cs) i)))
  sequence-none s (proc p ps) env (code c cs) (suc k) n e t h = sequence-none s ps env cs k (n + 1) e t.1 (λ i. h (in-second e (used c) (all_used cs) i))

  parallel-none : (s : Store) (ps : Procs) (env : Received) (cs : Codes) (n e : ℕ) → AllStemFrom ps cs → Unused e (all_used cs) → on e (listed_parallel s env n ps).actions ≡ []
  parallel-none s no_procs env cs n e t h = refl
  parallel-none s (proc p ps) env no_code n e t h = absurd t
  parallel-none s (proc p ps) env (code c cs) n e t h =
      both-none e n (listed s env p) (listed_parallel s env (n + 1) ps) (listed-none s p env c e t.0 (λ i. h (in-first e (used c) (all_used cs) i)))
      (parallel-none s ps env cs (n + 1) e t.1 (λ i. h (in-second e (used c) (all_used cs) i)))

-- arms that have not opened offer none
pub awaits-none : (e : ℕ) (s : Store) (env : Received) (c : made.Code) (w : Await) → c ≡ made.Await w → on e (listed s env (started (code_view c))).actions ≡ []
awaits-none e s env c w is = ap (λ (k : Code). on e (listed s env (started k)).actions) (is-await c w w w.arms is refl refl) ∙ opens_none e 0 w.channels

-- ---- branches by their numbers
-- what branches from number k on offer on the channel, the first of all in branch n
pub on_from : ℕ → Store → Received → ℕ → ℕ → Procs → List LocalAction
on_from e s env k n no_procs = []
on_from e s env zero n (proc p ps) = behind (Branch n) (on e (listed s env p).actions) ++ on_from e s env zero (n + 1) ps
on_from e s env (suc k) n (proc p ps) = on_from e s env k (n + 1) ps

pub from-all : (e : ℕ) (s : Store) (env : Received) (n : ℕ) (ps : Procs) → on_from e s env 0 n ps ≡ on e (listed_parallel s env n ps).actions
unfolding on_from
from-all e s env n no_procs = refl
from-all e s env n (proc p ps) =
    ap₂ (λ a b. a ++ b) (sym (on-behind e (Branch n) (listed s env p).actions)) (from-all e s env (n + 1) ps) ∙ sym (on-both e (behind (Branch n) (listed s env p).actions) (listed_parallel s env (n + 1) ps).actions)

-- one by one
pub from-step : (e : ℕ) (s : Store) (env : Received) (ps : Procs) (k n m l : ℕ) (p : Proc) → proc_at ps k ≡ Some p → m ≡ n + k → l ≡ k + 1
    → on_from e s env k n ps ≡ behind (Branch m) (on e (listed s env p).actions) ++ on_from e s env l n ps
unfolding on_from
from-step e s env no_procs k n m l p h a b = none-some p h
from-step e s env (proc q ps) zero n m l p h a b =
    let first : n ≡ m = omega arith in
    let one : l ≡ suc zero = omega arith in
    ap₂ (λ j (x : Proc). behind (Branch j) (on e (listed s env x).actions) ++ on_from e s env zero (n + 1) ps) first (some-injective q p h)
    ∙ ap (λ j. behind (Branch m) (on e (listed s env p).actions) ++ on_from e s env j n (proc q ps)) (sym one)
from-step e s env (proc q ps) (suc k) n m l p h a b =
    let next : l ≡ suc (k + 1) = omega arith in
    from-step e s env ps k (n + 1) m (k + 1) p h (omega arith) refl
    ∙ ap (λ j. behind (Branch m) (on e (listed s env p).actions) ++ on_from e s env j n (proc q ps)) (sym next)

-- those that do not use the channel are passed
pub from-skip : (e : ℕ) (s : Store) (env : Received) (ps : Procs) (cs : Codes) (j k n : ℕ) → AllStemFrom ps cs → UnusedBetween e cs j k → j ≤ k → on_from e s env j n ps ≡ on_from e s env k n ps
unfolding on_from
from-skip e s env no_procs cs j k n t h l = refl
from-skip e s env (proc p ps) no_code j k n t h l = absurd t
from-skip e s env (proc p ps) (code c cs) zero zero n t h l = refl
from-skip e s env (proc p ps) (code c cs) zero (suc k) n t h l =
    ap (λ a. behind (Branch n) a ++ on_from e s env zero (n + 1) ps) (listed-none s p env c e t.0 (h 0 (omega arith) (omega arith)))
    ∙ from-skip e s env ps cs zero k (n + 1) t.1 (λ i low high u. h (suc i) (omega arith) (omega arith) u) (omega arith)
from-skip e s env (proc p ps) (code c cs) (suc j) zero n t h l = absurd (omega arith)
from-skip e s env (proc p ps) (code c cs) (suc j) (suc k) n t h l =
    from-skip e s env ps cs j k (n + 1) t.1 (λ i low high u. h (suc i) (omega arith) (omega arith) u) (omega arith)

-- where none of the others uses the channel, of so many
pub parallel-rest : (e : ℕ) (s : Store) (env : Received) (ps : Procs) (cs : Codes) (k m n : ℕ) → AllStemFrom ps cs → UnusedBetween e cs k m → proc_at ps m ≡ None → on_from e s env k n ps ≡ []
unfolding on_from
parallel-rest e s env no_procs cs k m n t h none = refl
parallel-rest e s env (proc p ps) no_code k m n t h none = absurd t
parallel-rest e s env (proc p ps) (code c cs) k zero n t h none = none-some p (sym none)
parallel-rest e s env (proc p ps) (code c cs) zero (suc m) n t h none =
    ap₂ (λ (xs ys : List LocalAction). behind (Branch n) xs ++ ys) (listed-none s p env c e t.0 (h 0 (omega arith) (omega arith)))
    (parallel-rest e s env ps cs zero m (n + 1) t.1 (λ i low high u. h (suc i) (omega arith) (omega (arith, high)) u) none)
parallel-rest e s env (proc p ps) (code c cs) (suc k) (suc m) n t h none =
    parallel-rest e s env ps cs k m (n + 1) t.1 (λ i low high u. h (suc i) (omega (arith, low)) (omega (arith, high)) u) none

-- past the last command there is none
pub from-end : (e : ℕ) (s : Store) (env : Received) (xs : List made.Code) (k n : ℕ) → length xs ≤ k → on_from e s env k n (all_started (row_of (map code_view xs))) ≡ []
unfolding on_from
from-end e s env [] k n l = refl
from-end e s env (x ∷ xs) zero n l = absurd (omega (arith, l))
from-end e s env (x ∷ xs) (suc k) n l = from-end e s env xs k (n + 1) (omega (arith, l))

-- ---- children one by one
-- a child that has something to do is at work
pub child-here : (e : ℕ) (s : Store) (env : Received) (ps : Procs) (k : ℕ) (p : Proc) → proc_at ps k ≡ Some p → (listed s env p).over ≡ false
    → on e (listed_sequence s env k 0 ps).actions ≡ behind (Ordered k) (on e (listed s env p).actions)
child-here e s env ps k p h o = ap (λ (l : Listing). on e l.actions) (step-here s env ps k p h o) ∙ on-behind e (Ordered k) (listed s env p).actions

-- ---- walks
-- down, what is found there, and up again
pub found-through : (x : Entry) (rs : List LocalAction) (w u v : Walk) → u ≡ down x w → v ≡ added rs u → up v ≡ added (behind x rs) w
found-through x rs w u v e h = ap up (h ∙ ap (added rs) e) ∙ through x rs w

-- one branch more
pub branch-added : (e : ℕ) (s : Store) (w u v : Walk) (ps : Procs) (cs : Codes) (j k l : ℕ) (p : Proc) → AllStemFrom ps cs → UnusedBetween e cs j k → j ≤ k → proc_at ps k ≡ Some p → l ≡ k + 1
    → (u.received ≡ w.received) × (added (on_from e s w.received j 0 ps) u ≡ added (on_from e s w.received 0 0 ps) w)
    → v ≡ added (behind (Branch k) (on e (listed s u.received p).actions)) u
    → (v.received ≡ w.received) × (added (on_from e s w.received l 0 ps) v ≡ added (on_from e s w.received 0 0 ps) w)
branch-added e s w u v ps cs j k l p t un low at next inv made =
    let rest = on_from e s w.received l 0 ps in
    let here = behind (Branch k) (on e (listed s w.received p).actions) in
    let zero_plus : k ≡ 0 + k = omega arith in
    let is : v ≡ added here u = made ∙ ap (λ env. added (behind (Branch k) (on e (listed s env p).actions)) u) inv.0 in (
      ap (λ (a : Walk). a.received) is ∙ inv.0,
      ap (added rest) is ∙ added-both here rest u
          ∙ ap (λ rs. added rs u) (sym (from-skip e s w.received ps cs j k 0 t un low ∙ from-step e s w.received ps k 0 k l p at zero_plus next)) ∙ inv.1,
    )

-- what is found one entry down
pub found-below : (x : Entry) (e : ℕ) (s : Store) (p : Proc) (w u v : Walk) → u ≡ down x w → v ≡ finds e s p u → up v ≡ finds_at x e s p w
found-below x e s p w u v is h = ap up (h ∙ ap (finds e s p) is) ∙ through x (on e (listed s w.received p).actions) w

-- what is found of the child that is at work is what is found of the sequence
pub child-found : (e : ℕ) (s : Store) (w u v : Walk) (ps : Procs) (k from : ℕ) (p : Proc) → u ≡ w → listed_sequence s w.received k 0 ps ≡ listed_sequence s w.received from 0 ps → proc_at ps k ≡ Some p
    → (listed s w.received p).over ≡ false → v ≡ finds_at (Ordered k) e s p u → v ≡ added (on e (listed_sequence s w.received from 0 ps).actions) w
child-found e s w u v ps k from p same rest at open_ h =
    h ∙ ap (finds_at (Ordered k) e s p) same ∙ ap (λ l. added l w) (sym (child-here e s w.received ps k p at open_) ∙ ap (λ (l : Listing). on e l.actions) rest)

-- the command of this number
pub code-at : (cs : List made.Code) (i : ℕ) (x : made.Code) → i < length cs → x ≡ slice_index_or cs i x → code_at (row_of (map code_view cs)) i ≡ code_view x
code-at [] i x l e = absurd (omega (arith, l))
code-at (c ∷ cs) zero x l e = ap code_view (sym e)
code-at (c ∷ cs) (suc i) x l e = code-at cs i x (omega (arith, l)) e

-- where none of the others uses the channel
pub from-done : (e : ℕ) (s : Store) (env : Received) (xs : List made.Code) (j : ℕ) → UnusedBetween e (row_of (map code_view xs)) j (length xs)
    → on_from e s env j 0 (all_started (row_of (map code_view xs))) ≡ []
from-done e s env xs j h = elim (cases_lt (length xs) j) [
  | inl less ↦ from-end e s env xs j 0 (omega (arith, less))
  | inr le ↦ from-skip e s env (all_started (row_of (map code_view xs))) (row_of (map code_view xs)) j (length xs) 0 (all-stem (row_of (map code_view xs))) h le
      ∙ from-end e s env xs (length xs) 0 (omega arith)
]

-- then all was found
pub all-found : (e : ℕ) (s : Store) (w u : Walk) (ps : Procs) (j : ℕ) → on_from e s w.received j 0 ps ≡ [] → added (on_from e s w.received j 0 ps) u ≡ added (on_from e s w.received 0 0 ps) w
    → u ≡ added (on e (listed_parallel s w.received 0 ps).actions) w
all-found e s w u ps j done h = sym (added-none u) ∙ ap (λ l. added l u) (sym done) ∙ h ∙ ap (λ l. added l w) (from-all e s w.received 0 ps)
