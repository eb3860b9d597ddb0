-- What a process offers on a channel, form by form.
use Rattle.std.proofs.Common.{◌≡◌, inl, inr, ℕ, zero, suc, ◌+◌, ◌*◌, ◌==◌, List, [], ◌∷◌, ◌++◌, Bool, true, false, cond, Option, Some, None, refl, sym, ap, ap₂, ◌∙◌, subst, ne_eqb}
use Rattle.address.specs.declared.Entry.{Entry}
use Rattle.address.specs.declared.Entry.TheVariants.{Ordered, Branch}
use Rattle.syntax.specs.Lists.{In}
use Rattle.system.specs.Expression.{Store, Expression, Decision}
use Rattle.system.specs.Residual.{Residual, done, test, choose, closing, within, along}
use Rattle.runs.specs.internal.After.{is_done}
use Rattle.process_tree.specs.Code.{Once, assigning, receiving, Sender, sending, syncing, Codes, no_code, code, code_at}
use Rattle.process_tree.specs.Proc.{waiting, holding, past, idle, stopped, once, sender, fresh, turn, ended_at_once, ended, untested, skipped, took, unopened, entered, closed, sequence, parallel, drained, Procs, no_procs, proc}
use Rattle.process_tree.specs.Remaining.{Received, with_value, puts, residual_once, residual_sender, channel_of, again, residual, residual_arms, remaining, remaining_sequence, remaining_parallel}
use Rattle.process_tree.proofs.public.Puts.{puts-once, puts-sender, puts-again, puts-test, puts-choose}
use Rattle.local_actions.specs.Walk.{action_at}
use Rattle.local_actions.specs.internal.Listed.{behind, open_actions, actions_of_residual}
use Rattle.local_actions.specs.declared.action.LocalAction.{LocalAction}
use Rattle.channel_uses.specs.OnChannel.{is_partner_on, on, OffersNothingUnused}
use Rattle.channel_uses.specs.StemsFrom.{AllStemFrom}
use Rattle.channel_uses.specs.Uses.{used, all_used}

-- ---- lists
behind-cond : (x : Entry) (b : Bool) (r : LocalAction) (rs : List LocalAction) → behind x (cond b (r ∷ rs) rs) ≡ cond b (action_at (x ∷ r.place) r.action ∷ behind x rs) (behind x rs)
behind-cond x true r rs = refl
behind-cond x false r rs = refl

-- those on a channel, one entry further down
pub on-behind : (e : ℕ) (x : Entry) (rs : List LocalAction) → on e (behind x rs) ≡ behind x (on e rs)
on-behind e x [] = refl
on-behind e x (r ∷ rs) =
    ap (λ l. cond (is_partner_on e r.action) (action_at (x ∷ r.place) r.action ∷ l) l) (on-behind e x rs) ∙ sym (behind-cond x (is_partner_on e r.action) r (on e rs))

both-cond : (b : Bool) (r : LocalAction) (xs ys : List LocalAction) → cond b (r ∷ xs) xs ++ ys ≡ cond b (r ∷ (xs ++ ys)) (xs ++ ys)
both-cond true r xs ys = refl
both-cond false r xs ys = refl

-- of two lists
pub on-both : (e : ℕ) (xs ys : List LocalAction) → on e (xs ++ ys) ≡ on e xs ++ on e ys
on-both e [] ys = refl
on-both e (r ∷ xs) ys = ap (λ l. cond (is_partner_on e r.action) (r ∷ l) l) (on-both e xs ys) ∙ sym (both-cond (is_partner_on e r.action) r (on e xs) (on e ys))

-- one that is not on the channel
pub on-other : (e : ℕ) (r : LocalAction) (rs : List LocalAction) → is_partner_on e r.action ≡ false → on e (r ∷ rs) ≡ on e rs
on-other e r rs h = ap (λ b. cond b (r ∷ on e rs) (on e rs)) h

-- the same, by the test
pub dropped : (b : Bool) (r : LocalAction) (rs : List LocalAction) → b ≡ false → cond b (r ∷ rs) rs ≡ rs
dropped b r rs h = ap (λ c. cond c (r ∷ rs) rs) h

-- one that is
pub on-one : (e : ℕ) (r : LocalAction) (rs : List LocalAction) → is_partner_on e r.action ≡ true → on e (r ∷ rs) ≡ r ∷ on e rs
on-one e r rs h = ap (λ b. cond b (r ∷ on e rs) (on e rs)) h

-- ---- residuals
-- a sequence offers what its first child does, or as the rest where that is done
pub on-within : (e : ℕ) (s : Store) (i : ℕ) (r rest : Residual)
    → on e (actions_of_residual s (within i r rest)) ≡ cond (is_done r) (on e (actions_of_residual s rest)) (behind (Ordered i) (on e (actions_of_residual s r)))
on-within e s i done rest = refl
on-within e s i r rest = on-behind e (Ordered i) (actions_of_residual s r)

-- a parallel what both do
pub on-along : (e : ℕ) (s : Store) (k : ℕ) (r rest : Residual) → on e (actions_of_residual s (along k r rest)) ≡ behind (Branch k) (on e (actions_of_residual s r)) ++ on e (actions_of_residual s rest)
on-along e s k done rest = refl
on-along e s k r rest = on-both e (behind (Branch k) (actions_of_residual s r)) (actions_of_residual s rest) ∙ ap (λ l. l ++ on e (actions_of_residual s rest)) (on-behind e (Branch k) (actions_of_residual s r))

-- ---- what does not use the channel
either : {X : Type 0} (b : Bool) (x y z : X) → x ≡ z → y ≡ z → cond b x y ≡ z
either true x y z h k = h
either false x y z h k = k

-- a node offers nothing where neither its child nor what comes after it does
within-none : (e : ℕ) (s : Store) (i : ℕ) (r rest : Residual) → on e (actions_of_residual s r) ≡ [] → on e (actions_of_residual s rest) ≡ [] → on e (actions_of_residual s (within i r rest)) ≡ []
within-none e s i r rest h k =
    on-within e s i r rest ∙ either (is_done r) (on e (actions_of_residual s rest)) (behind (Ordered i) (on e (actions_of_residual s r))) [] k (ap (behind (Ordered i)) h)

along-none : (e : ℕ) (s : Store) (k : ℕ) (r rest : Residual) → on e (actions_of_residual s r) ≡ [] → on e (actions_of_residual s rest) ≡ [] → on e (actions_of_residual s (along k r rest)) ≡ []
along-none e s k r rest h g = on-along e s k r rest ∙ ap₂ (λ a b. behind (Branch k) a ++ b) h g

-- another channel
pub other-channel : (d e : ℕ) (ds : List ℕ) → (In e (d ∷ ds) → ⊥) → (d == e) ≡ false
other-channel d e ds h = ne_eqb d e (λ is. h (inl (sym is)))

-- a loop offers a turn or a test
pub again-none : (e : ℕ) (s : Store) (n : ℕ) (env : Received) (g : Option Expression) (r : Residual) → on e (actions_of_residual s (puts env (again n g r))) ≡ []
again-none e s n env None r = ap (λ q. on e (actions_of_residual s q)) (puts-again env n None r)
again-none e s n env (Some x) r = ap (λ q. on e (actions_of_residual s q)) (puts-again env n (Some x) r)

-- an `if` or `case` a test
pub test-none : (e : ℕ) (s : Store) (env : Received) (d : Decision) (cs : Codes) → on e (actions_of_residual s (puts env (test d (residual_arms cs)))) ≡ []
test-none e s env d cs = ap (λ q. on e (actions_of_residual s q)) (puts-test env d (residual_arms cs))

once-none : (e : ℕ) (s : Store) (env : Received) (o : Once) → on e (actions_of_residual s (puts env (residual_once o))) ≡ []
once-none e s env (assigning x w v) = ap (λ q. on e (actions_of_residual s q)) (puts-once env (assigning x w v))
once-none e s env (receiving d x) = ap (λ q. on e (actions_of_residual s q)) (puts-once env (receiving d x))

waiting-none : (e : ℕ) (s : Store) (env : Received) (x : Sender) → (In e (channel_of x ∷ []) → ⊥) → on e (actions_of_residual s (puts env (residual_sender x))) ≡ []
waiting-none e s env (sending d w v) h =
    ap (λ q. on e (actions_of_residual s q)) (puts-sender env (sending d w v)) ∙ dropped _ _ [] (other-channel d e [] h)
waiting-none e s env (syncing d) h =
    ap (λ q. on e (actions_of_residual s q)) (puts-sender env (syncing d)) ∙ dropped _ _ [] (other-channel d e [] h)

pub opens_none : (e k : ℕ) (ds : List ℕ) → on e (open_actions k ds) ≡ []
opens_none e k [] = refl
opens_none e k (d ∷ ds) = opens_none e (suc k) ds

choose-none : (e : ℕ) (s : Store) (env : Received) (ds : List ℕ) (cs : Codes) → on e (actions_of_residual s (puts env (choose ds (residual_arms cs)))) ≡ []
choose-none e s env ds cs = ap (λ q. on e (actions_of_residual s q)) (puts-choose env ds (residual_arms cs)) ∙ opens_none e 0 ds

-- ---- uses of parts
pub in-first : (e : ℕ) (xs ys : List ℕ) → In e xs → In e (xs ++ ys)
in-first e [] ys i = absurd i
in-first e (x ∷ xs) ys i = elim i [ inl is ↦ inl is | inr later ↦ inr (in-first e xs ys later) ]

pub in-second : (e : ℕ) (xs ys : List ℕ) → In e ys → In e (xs ++ ys)
in-second e [] ys i = i
in-second e (x ∷ xs) ys i = inr (in-second e xs ys i)

-- what an arm uses is used
pub in-arm : (e : ℕ) (cs : Codes) (j : ℕ) → In e (used (code_at cs j)) → In e (all_used cs)
in-arm e no_code j i = absurd i
in-arm e (code c cs) zero i = in-first e (used c) (all_used cs) i
in-arm e (code c cs) (suc j) i = in-second e (used c) (all_used cs) (in-arm e cs j i)

-- no use of the whole is none of a part
abbrev Unused : ℕ → List ℕ → Type 0
Unused e ds = In e ds → ⊥

mutual
  -- a process offers nothing on a channel that its command does not use
  pub none-unused : OffersNothingUnused
  none-unused s idle env c e t h = refl
  none-unused s stopped env c e t h = refl
  none-unused s (once o true) env c e t h = refl
  none-unused s (once o false) env c e t h = once-none e s env o
  none-unused s (sender x waiting) env c e t h = waiting-none e s env x (subst (λ k. Unused e (used k)) t h)
  none-unused s (sender x holding) env c e t h =
      dropped _ _ [] (other-channel (channel_of x) e [] (subst (λ k. Unused e (used k)) t h))
  none-unused s (sender x past) env c e t h = refl
  none-unused s (fresh g b) env c e t h = again-none e s 0 env g (residual b)
  none-unused s (turn g b n q) env c e t h =
      within-none e s (2 * n + 1) (remaining env q) (puts env (again (n + 1) g (residual b))) (none-unused s q env b e t.1 (subst (λ k. Unused e (used k)) t.0 h))
      (again-none e s (n + 1) env g (residual b))
  none-unused s (ended_at_once g b) env c e t h = refl
  none-unused s (ended g b n q) env c e t h = refl
  none-unused s (untested d cs) env c e t h = test-none e s env d cs
  none-unused s (skipped d cs) env c e t h = refl
  none-unused s (took d cs j q) env c e t h =
      within-none e s 1 (remaining env q) done (none-unused s q env (code_at cs j) e t.1 (λ i. subst (λ k. Unused e (used k)) t.0 h (in-arm e cs j i))) refl
  none-unused s (unopened ds cs) env c e t h = choose-none e s env ds cs
  none-unused s (entered ds cs d v q) env c e t h =
      within-none e s 1 (remaining (with_value d v env) q) (closing d)
      (none-unused s q (with_value d v env) (code_at cs t.1) e t.3 (λ i. subst (λ k. Unused e (used k)) t.0 h (in-arm e cs t.1 i))) refl
  none-unused s (closed ds cs d v q) env c e t h = refl
  none-unused s (sequence ps) env c e t h = none-in-turn s ps env t.0 0 e t.2 (subst (λ k. Unused e (used k)) t.1 h)
  none-unused s (parallel ps) env c e t h = none-side-by-side s ps env t.0 0 e t.2 (subst (λ k. Unused e (used k)) t.1 h)
  none-unused s (drained d n) env c e t h = refl

  none-in-turn : (s : Store) (ps : Procs) (env : Received) (cs : Codes) (n e : ℕ) → AllStemFrom ps cs → Unused e (all_used cs) → on e (actions_of_residual s (remaining_sequence env n ps)) ≡ []
  none-in-turn s no_procs env cs n e t h = refl
  none-in-turn s (proc p ps) env no_code n e t h = absurd t
  none-in-turn s (proc p ps) env (code c cs) n e t h =
      within-none e s n (remaining env p) (remaining_sequence env (n + 1) ps) (none-unused s p env c e t.0 (λ i. h (in-first e (used c) (all_used cs) i)))
      (none-in-turn s ps env cs (n + 1) e t.1 (λ i. h (in-second e (used c) (all_used cs) i)))

  none-side-by-side : (s : Store) (ps : Procs) (env : Received) (cs : Codes) (n e : ℕ) → AllStemFrom ps cs → Unused e (all_used cs) → on e (actions_of_residual s (remaining_parallel env n ps)) ≡ []
  none-side-by-side s no_procs env cs n e t h = refl
  none-side-by-side s (proc p ps) env no_code n e t h = absurd t
  none-side-by-side s (proc p ps) env (code c cs) n e t h =
      along-none e s n (remaining env p) (remaining_parallel env (n + 1) ps) (none-unused s p env c e t.0 (λ i. h (in-first e (used c) (all_used cs) i)))
      (none-side-by-side s ps env cs (n + 1) e t.1 (λ i. h (in-second e (used c) (all_used cs) i)))
