-- `after` answers exactly the moves that a well-formed residual offers.
use Rattle.std.proofs.Common.{◌≡◌, ◌⊎◌, ℕ, ◌+◌, ◌*◌, ◌<◌, ◌==◌, List, [], ◌∷◌, Bool, true, false, cond, Option, Some, None, slice_get, refl, sym, ap, subst₂, ◌∙◌, inl, inr, ⊎_elim, arith}
use Rattle.std.proofs.lemmas.Bool.{eqb-true, eq-eqb, ne_eqb}
use Rattle.address.specs.declared.Entry.TheVariants.{Ordered, Branch}
use Rattle.runs.specs.Moves.{Place, Move, assigns, tests, turns, sends, receives, syncs, opens, releases, closes, Local}
use Rattle.value.specs.Word.{Word}
use Rattle.system.specs.Expression.{Expression, Decision, by_guards}
use Rattle.system.specs.Residual.{Residual, done, halted, inside, beside, assign, send, receive, sync, held, loop, while, test, choose, closing, drain, Arms, within, along, arm_at, opened}
use Rattle.runs.specs.Asking.{ask_of}
use Rattle.runs.specs.ByPlace.{if_here, if_act, if_child, if_branch}
use Rattle.runs.specs.internal.After.{Answer, around, after_assign, after_send, after_receive, after_sync, after_held, after_loop, after_while, after_test, after_open, after_choose, after_closing, after_drain, after}
use Rattle.runs.specs.declared.ask.Ask.{Ask}
use Rattle.runs.specs.declared.ask.Ask.TheVariants as ask
use Rattle.runs.proofs.public.Options.{none-some, cond-some}
use Rattle.runs.proofs.public.WellFormed.{WellFormed}
use Rattle.runs.proofs.public.Kept.{branches-place}

-- the answer of this move and this residual
abbrev answer : Move → Residual → Answer
answer m q = Some (m, q)

-- the move of an answer, or m
move_or : Move → Answer → Move
move_or m None = m
move_or m (Some x) = x.0

-- the residual of an answer, or q
left_or : Residual → Answer → Residual
left_or q None = q
left_or q (Some x) = x.1

-- equal answers have equal parts
parts : (m n : Move) (q t : Residual) → answer m q ≡ answer n t → (m ≡ n) × (q ≡ t)
unfolding move_or left_or
parts m n q t e = (ap (move_or m) e, ap (left_or q) e)

-- an answer with the rest around it comes of an answer
around-is : (f : Residual → Residual) (x : Answer) (m : Move) (q : Residual) → around f x ≡ Some (m, q)
    → (t : Residual) × (x ≡ Some (m, t)) × (q ≡ f t)
around-is f None m q e = none-some (m, q) e
around-is f (Some x) m q e =
    let p = parts x.0 m (f x.1) q e in
    (x.1, ap (λ n. Some (n, x.1)) p.0, sym p.1)

-- the rest is put around an answer
around-at : (f : Residual → Residual) (x : Answer) (m : Move) (q t : Residual) → x ≡ Some (m, t) → q ≡ f t
    → around f x ≡ Some (m, q)
around-at f x m q t e h = ap (around f) e ∙ ap (λ u. Some (m, u)) (sym h)

-- an answer at the command's own place
if_here-is : (a : Place) (x : Answer) (m : Move) (q : Residual) → if_here a x ≡ Some (m, q) → (a ≡ []) × (x ≡ Some (m, q))
if_here-is [] x m q e = (refl, e)
if_here-is (y ∷ a) x m q e = none-some (m, q) e

-- the command's own place gives the answer
if_here-at : (a : Place) (x : Answer) → a ≡ [] → if_here a x ≡ x
if_here-at a x e = ap (λ b. if_here b x) e

-- a number equals itself
same : (n : ℕ) → (n == n) ≡ true
same n = eq-eqb n n refl

-- an answer at act n is at that place
if_act-is : (n : ℕ) (a : Place) (x : Answer) (m : Move) (q : Residual) → if_act n a x ≡ Some (m, q)
    → (a ≡ Ordered n ∷ []) × (x ≡ Some (m, q))
if_act-is n [] x m q e = none-some (m, q) e
if_act-is n (Ordered i ∷ []) x m q e =
    let h = cond-some (i == n) x (m, q) e in
    (ap (λ k. Ordered k ∷ []) (eqb-true i n h.0), h.1)
if_act-is n (Ordered i ∷ y ∷ a) x m q e = none-some (m, q) e
if_act-is n (Branch i ∷ a) x m q e = none-some (m, q) e

-- the place of act n gives the answer
if_act-at : (n : ℕ) (a : Place) (x : Answer) → a ≡ Ordered n ∷ [] → if_act n a x ≡ x
if_act-at n a x e = ap (λ b. if_act n b x) e ∙ ap (λ b. cond b x None) (same n)

-- an answer in child n is the child's
if_child-is : (n : ℕ) (a : Place) (f : Place → Answer) (m : Move) (q : Residual) → if_child n a f ≡ Some (m, q)
    → (b : Place) × (a ≡ Ordered n ∷ b) × (f b ≡ Some (m, q))
if_child-is n [] f m q e = none-some (m, q) e
if_child-is n (Ordered i ∷ b) f m q e =
    let h = cond-some (i == n) (f b) (m, q) e in
    (b, ap (λ k. Ordered k ∷ b) (eqb-true i n h.0), h.1)
if_child-is n (Branch i ∷ b) f m q e = none-some (m, q) e

-- a place in child n gives the child's answer
if_child-at : (n : ℕ) (a b : Place) (f : Place → Answer) → a ≡ Ordered n ∷ b → if_child n a f ≡ f b
if_child-at n a b f e = ap (λ c. if_child n c f) e ∙ ap (λ c. cond c (f b) None) (same n)

-- an answer of branch n, or of the rest
branch_cases : (n i : ℕ) (b : Place) (c : Bool) (x y : Answer) (z : Move × Residual) → (i == n) ≡ c → cond c x y ≡ Some z
    → ((i ≡ n) × (x ≡ Some z)) ⊎ (y ≡ Some z)
branch_cases n i b true x y z t e = inl (eqb-true i n t, e)
branch_cases n i b false x y z t e = inr e

-- an answer beside branch n is that of the branch or of the rest
if_branch-is : (n : ℕ) (a : Place) (f : Place → Answer) (x : Answer) (z : Move × Residual) → if_branch n a f x ≡ Some z
    → ((b : Place) × (a ≡ Branch n ∷ b) × (f b ≡ Some z)) ⊎ (x ≡ Some z)
if_branch-is n [] f x z e = inr e
if_branch-is n (Ordered i ∷ b) f x z e = inr e
if_branch-is n (Branch i ∷ b) f x z e =
    elim (branch_cases n i b (i == n) (f b) x z refl e) [
      | inl h ↦ inl (b, ap (λ k. Branch k ∷ b) h.0, h.1)
      | inr h ↦ inr h
    ]

-- a place in branch n gives the branch's answer
if_branch-at : (n : ℕ) (a b : Place) (f : Place → Answer) (x : Answer) → a ≡ Branch n ∷ b → if_branch n a f x ≡ f b
if_branch-at n a b f x e = ap (λ c. if_branch n c f x) e ∙ ap (λ c. cond c (f b) x) (same n)

-- a place in a later branch gives the answer of the rest
if_branch-other : (n j : ℕ) (a b : Place) (f : Place → Answer) (x : Answer) → n < j → a ≡ Branch j ∷ b → if_branch n a f x ≡ x
if_branch-other n j a b f x l e =
    let other : (j == n) ≡ false = ne_eqb j n (λ d. omega arith) in
    ap (λ c. if_branch n c f x) e ∙ ap (λ c. cond c (f b) x) other

-- what an assignment answers
assign_only : (x w : ℕ) (e : Expression) (k : Ask) (m : Move) (q : Residual) → after_assign x w e k ≡ Some (m, q)
    → (m ≡ assigns x w e) × (q ≡ done) × (ask_of m ≡ k)
assign_only x w e ask.Assign m q h = let p = parts (assigns x w e) m done q h in (sym p.0, sym p.1, ap ask_of (sym p.0))
assign_only x w e _ m q h = none-some (m, q) h

-- what a send answers
send_only : (c w : ℕ) (e : Expression) (k : Ask) (m : Move) (q : Residual) → after_send c w e k ≡ Some (m, q)
    → (((m ≡ sends c w e false) × (q ≡ done)) ⊎ ((m ≡ sends c w e true) × (q ≡ held c))) × (ask_of m ≡ k)
send_only c w e ask.Send m q h = let p = parts (sends c w e false) m done q h in (inl (sym p.0, sym p.1), ap ask_of (sym p.0))
send_only c w e ask.Hold m q h = let p = parts (sends c w e true) m (held c) q h in (inr (sym p.0, sym p.1), ap ask_of (sym p.0))
send_only c w e _ m q h = none-some (m, q) h

-- what a receive answers
receive_only : (c x : ℕ) (k : Ask) (m : Move) (q : Residual) → after_receive c x k ≡ Some (m, q)
    → (m ≡ receives c (Some x)) × (q ≡ done) × (ask_of m ≡ k)
receive_only c x ask.Receive m q h = let p = parts (receives c (Some x)) m done q h in (sym p.0, sym p.1, ap ask_of (sym p.0))
receive_only c x _ m q h = none-some (m, q) h

-- what a handshake without data answers
sync_only : (c : ℕ) (k : Ask) (m : Move) (q : Residual) → after_sync c k ≡ Some (m, q)
    → (((m ≡ syncs c false) × (q ≡ done)) ⊎ ((m ≡ syncs c true) × (q ≡ held c))) × (ask_of m ≡ k)
sync_only c ask.Sync m q h = let p = parts (syncs c false) m done q h in (inl (sym p.0, sym p.1), ap ask_of (sym p.0))
sync_only c ask.Hold m q h = let p = parts (syncs c true) m (held c) q h in (inr (sym p.0, sym p.1), ap ask_of (sym p.0))
sync_only c _ m q h = none-some (m, q) h

-- what a held send or sync answers
held_only : (c : ℕ) (k : Ask) (m : Move) (q : Residual) → after_held c k ≡ Some (m, q)
    → (m ≡ releases c) × (q ≡ done) × (ask_of m ≡ k)
held_only c ask.Release m q h = let p = parts (releases c) m done q h in (sym p.0, sym p.1, ap ask_of (sym p.0))
held_only c _ m q h = none-some (m, q) h

-- what a loop answers
loop_only : (n : ℕ) (body : Residual) (k : Ask) (m : Move) (q : Residual) → after_loop n body k ≡ Some (m, q)
    → (m ≡ turns) × (q ≡ within (2 * n + 1) body (loop (n + 1) body)) × (ask_of m ≡ k)
loop_only n body ask.Turn m q h =
    let p = parts turns m (within (2 * n + 1) body (loop (n + 1) body)) q h in
    (sym p.0, sym p.1, ap ask_of (sym p.0))
loop_only n body _ m q h = none-some (m, q) h

-- what a while loop answers
while_only : (n : ℕ) (e : Expression) (body : Residual) (k : Ask) (m : Move) (q : Residual) → after_while n e body k ≡ Some (m, q)
    → (((m ≡ tests (by_guards (e ∷ []) false) (Some 0)) × (q ≡ within (2 * n + 1) body (while (n + 1) e body)))
    ⊎ ((m ≡ tests (by_guards (e ∷ []) false) None) × (q ≡ done))) × (ask_of m ≡ k)
while_only n e body (ask.Test None) m q h =
    let p = parts (tests (by_guards (e ∷ []) false) None) m done q h in
    (inr (sym p.0, sym p.1), ap ask_of (sym p.0))
while_only n e body (ask.Test (Some j)) m q h =
    let t = within (2 * n + 1) body (while (n + 1) e body) in
    let d = by_guards (e ∷ []) false in
    let g = cond-some (j == 0) (Some (tests d (Some j), t)) (m, q) h in
    let p = parts (tests d (Some j)) m t q g.1 in
    let z : j ≡ 0 = eqb-true j 0 g.0 in
    (inl (sym p.0 ∙ ap (λ i. tests d (Some i)) z, sym p.1), ap ask_of (sym p.0))
while_only n e body _ m q h = none-some (m, q) h

-- what a test with arms answers
test_only : (d : Decision) (arms : Arms) (k : Ask) (m : Move) (q : Residual) → after_test d arms k ≡ Some (m, q)
    → (((j : ℕ) × (m ≡ tests d (Some j)) × (q ≡ within 1 (arm_at arms j) done)) ⊎ ((m ≡ tests d None) × (q ≡ done))) × (ask_of m ≡ k)
test_only d arms (ask.Test None) m q h = let p = parts (tests d None) m done q h in (inr (sym p.0, sym p.1), ap ask_of (sym p.0))
test_only d arms (ask.Test (Some j)) m q h =
    let p = parts (tests d (Some j)) m (within 1 (arm_at arms j) done) q h in
    (inl (j, sym p.0, sym p.1), ap ask_of (sym p.0))
test_only d arms _ m q h = none-some (m, q) h

-- what an arm answers that opens on its channel
open_only : (g : Option ℕ) (arms : Arms) (j : ℕ) (v : Option Word) (m : Move) (q : Residual) → after_open g arms j v ≡ Some (m, q)
    → (c : ℕ) × (g ≡ Some c) × (m ≡ opens c j v) × (q ≡ within 1 (opened c v (arm_at arms j)) (closing c))
open_only None arms j v m q h = none-some (m, q) h
open_only (Some c) arms j v m q h =
    let p = parts (opens c j v) m (within 1 (opened c v (arm_at arms j)) (closing c)) q h in
    (c, refl, sym p.0, sym p.1)

-- what arms answer that wait on their channels
choose_only : (channels : List ℕ) (arms : Arms) (k : Ask) (m : Move) (q : Residual) → after_choose channels arms k ≡ Some (m, q)
    → ((c : ℕ) × (j : ℕ) × (v : Option Word) × (slice_get channels j ≡ Some c) × (m ≡ opens c j v)
    × (q ≡ within 1 (opened c v (arm_at arms j)) (closing c))) × (ask_of m ≡ k)
choose_only channels arms (ask.Open j v) m q h =
    let p = open_only (slice_get channels j) arms j v m q h in
    ((p.0, j, v, p.1, p.2, p.3), ap ask_of p.2)
choose_only channels arms _ m q h = none-some (m, q) h

-- what comes after an opened arm answers
closing_only : (c : ℕ) (k : Ask) (m : Move) (q : Residual) → after_closing c k ≡ Some (m, q)
    → (m ≡ closes c) × (q ≡ done) × (ask_of m ≡ k)
closing_only c ask.Close m q h = let p = parts (closes c) m done q h in (sym p.0, sym p.1, ap ask_of (sym p.0))
closing_only c _ m q h = none-some (m, q) h

-- what the receives on an output port answer
drain_only : (c n : ℕ) (k : Ask) (m : Move) (q : Residual) → after_drain c n k ≡ Some (m, q)
    → (m ≡ receives c None) × (q ≡ drain c (n + 1)) × (ask_of m ≡ k)
drain_only c n ask.Receive m q h = let p = parts (receives c None) m (drain c (n + 1)) q h in (sym p.0, sym p.1, ap ask_of (sym p.0))
drain_only c n _ m q h = none-some (m, q) h

-- what is answered is offered, and answers to what was asked
pub only : (k : Ask) (r : Residual) (a : Place) (m : Move) (q : Residual) → after k r a ≡ Some (m, q) → Local r a m q × (ask_of m ≡ k)
only k done a m q h = none-some (m, q) h
only k halted a m q h = none-some (m, q) h
only k (inside i child next) a m q h =
    let d = if_child-is i a (λ b. around (λ t. within i t next) (after k child b)) m q h in
    let e = around-is (λ t. within i t next) (after k child d.0) m q d.2 in
    let c = only k child d.0 m e.0 e.1 in
    ((d.0, e.0, d.1, c.0, e.2), c.1)
only k (beside n child rest) a m q h =
    elim (if_branch-is n a (λ b. around (λ t. along n t rest) (after k child b)) (around (λ t. along n child t) (after k rest a)) (m, q) h) [
      | inl d ↦
          let e = around-is (λ t. along n t rest) (after k child d.0) m q d.2 in
          let c = only k child d.0 m e.0 e.1 in
          (inl (d.0, e.0, d.1, c.0, e.2), c.1)
      | inr d ↦
          let e = around-is (λ t. along n child t) (after k rest a) m q d in
          let c = only k rest a m e.0 e.1 in
          (inr (e.0, c.0, e.2), c.1)
    ]
only k (assign x w e) a m q h =
    let d = if_here-is a (after_assign x w e k) m q h in
    let c = assign_only x w e k m q d.1 in
    ((d.0, c.0, c.1), c.2)
only k (send g w e) a m q h =
    let d = if_act-is 0 a (after_send g w e k) m q h in
    let c = send_only g w e k m q d.1 in
    ((d.0, c.0), c.1)
only k (receive g x) a m q h =
    let d = if_here-is a (after_receive g x k) m q h in
    let c = receive_only g x k m q d.1 in
    ((d.0, c.0, c.1), c.2)
only k (sync g) a m q h =
    let d = if_act-is 0 a (after_sync g k) m q h in
    let c = sync_only g k m q d.1 in
    ((d.0, c.0), c.1)
only k (held g) a m q h =
    let d = if_act-is 1 a (after_held g k) m q h in
    let c = held_only g k m q d.1 in
    ((d.0, c.0, c.1), c.2)
only k (loop n body) a m q h =
    let d = if_act-is (2 * n) a (after_loop n body k) m q h in
    let c = loop_only n body k m q d.1 in
    ((d.0, c.0, c.1), c.2)
only k (while n e body) a m q h =
    let d = if_act-is (2 * n) a (after_while n e body k) m q h in
    let c = while_only n e body k m q d.1 in
    ((d.0, c.0), c.1)
only k (test e arms) a m q h =
    let d = if_act-is 0 a (after_test e arms k) m q h in
    let c = test_only e arms k m q d.1 in
    ((d.0, c.0), c.1)
only k (choose channels arms) a m q h =
    let d = if_act-is 0 a (after_choose channels arms k) m q h in
    let c = choose_only channels arms k m q d.1 in
    ((d.0, c.0.0, c.0.1, c.0.2, c.0.3, c.0.4, c.0.5), c.1)
only k (closing g) a m q h =
    let d = if_act-is 2 a (after_closing g k) m q h in
    let c = closing_only g k m q d.1 in
    ((d.0, c.0, c.1), c.2)
only k (drain g n) a m q h =
    let d = if_act-is n a (after_drain g n k) m q h in
    let c = drain_only g n k m q d.1 in
    ((d.0, c.0, c.1), c.2)

-- a leaf's answer to a move that it offers
leaf : (f : Ask → Answer) (m n : Move) (q t : Residual) → m ≡ n → q ≡ t → f (ask_of n) ≡ answer n t → f (ask_of m) ≡ answer m q
leaf f m n q t e d h = subst₂ (λ z u. f (ask_of z) ≡ answer z u) (sym e) (sym d) h

-- what a well-formed residual offers is answered
pub found : (r : Residual) (a : Place) (m : Move) (q : Residual) → WellFormed r → Local r a m q → after (ask_of m) r a ≡ Some (m, q)
found done a m q w h = absurd h
found halted a m q w h = absurd h
found (inside i child next) a m q w h =
    if_child-at i a h.0 (λ b. around (λ t. within i t next) (after (ask_of m) child b)) h.2
    ∙ around-at (λ t. within i t next) (after (ask_of m) child h.0) m q h.1 (found child h.0 m h.1 w.0 h.3) h.4
found (beside n child rest) a m q w (inl h) =
    if_branch-at n a h.0 (λ b. around (λ t. along n t rest) (after (ask_of m) child b)) (around (λ t. along n child t) (after (ask_of m) rest a)) h.2
    ∙ around-at (λ t. along n t rest) (after (ask_of m) child h.0) m q h.1 (found child h.0 m h.1 w.0 h.3) h.4
found (beside n child rest) a m q w (inr h) =
    let d = branches-place (n + 1) rest a m h.0 w.2 w.1 h.1 in
    if_branch-other n d.number a d.rest (λ b. around (λ t. along n t rest) (after (ask_of m) child b)) (around (λ t. along n child t) (after (ask_of m) rest a)) (omega arith) d.is
    ∙ around-at (λ t. along n child t) (after (ask_of m) rest a) m q h.0 (found rest a m h.0 w.1 h.1) h.2
found (assign x v e) a m q w h =
    if_here-at a (after_assign x v e (ask_of m)) h.0 ∙ leaf (after_assign x v e) m _ q _ h.1 h.2 refl
found (send c v e) a m q w h =
    if_act-at 0 a (after_send c v e (ask_of m)) h.0
    ∙ ⊎_elim (λ d. leaf (after_send c v e) m _ q _ d.0 d.1 refl) (λ d. leaf (after_send c v e) m _ q _ d.0 d.1 refl) h.1
found (receive c x) a m q w h =
    if_here-at a (after_receive c x (ask_of m)) h.0 ∙ leaf (after_receive c x) m _ q _ h.1 h.2 refl
found (sync c) a m q w h =
    if_act-at 0 a (after_sync c (ask_of m)) h.0
    ∙ ⊎_elim (λ d. leaf (after_sync c) m _ q _ d.0 d.1 refl) (λ d. leaf (after_sync c) m _ q _ d.0 d.1 refl) h.1
found (held c) a m q w h =
    if_act-at 1 a (after_held c (ask_of m)) h.0 ∙ leaf (after_held c) m _ q _ h.1 h.2 refl
found (loop k body) a m q w h =
    if_act-at (2 * k) a (after_loop k body (ask_of m)) h.0 ∙ leaf (after_loop k body) m _ q _ h.1 h.2 refl
found (while k e body) a m q w h =
    if_act-at (2 * k) a (after_while k e body (ask_of m)) h.0
    ∙ ⊎_elim (λ d. leaf (after_while k e body) m _ q _ d.0 d.1 refl) (λ d. leaf (after_while k e body) m _ q _ d.0 d.1 refl) h.1
found (test e arms) a m q w h =
    if_act-at 0 a (after_test e arms (ask_of m)) h.0
    ∙ ⊎_elim (λ d. leaf (after_test e arms) m _ q _ d.1 d.2 refl) (λ d. leaf (after_test e arms) m _ q _ d.0 d.1 refl) h.1
found (choose channels arms) a m q w h =
    if_act-at 0 a (after_choose channels arms (ask_of m)) h.0
    ∙ leaf (after_choose channels arms) m _ q _ h.5 h.6 (ap (λ g. after_open g arms h.2 h.3) h.4)
found (closing c) a m q w h =
    if_act-at 2 a (after_closing c (ask_of m)) h.0 ∙ leaf (after_closing c) m _ q _ h.1 h.2 refl
found (drain c k) a m q w h =
    if_act-at k a (after_drain c k (ask_of m)) h.0 ∙ leaf (after_drain c k) m _ q _ h.1 h.2 refl
