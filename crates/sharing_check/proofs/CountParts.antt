-- What residuals amount to, put together from their parts.
use Rattle.std.proofs.Common.{◌≡◌, ℕ, suc, ◌+◌, max, List, [], ◌∷◌, Option, None, Some, Bool, true, false, cond, ◌==◌, refl, sym, ap, ◌∙◌, arith}
use Rattle.system.specs.Expression.{Expression, Decision, variables, decision_variables}
use Rattle.system.specs.Residual as residual
use Rattle.system.specs.Residual.{Residual, Arms, no_arms, arm, done, halted, test, choose, within, along}
use Rattle.system.specs.Translation.{OnChannel, in_sequence, in_parallel, arms_of, choose_of}
use Rattle.sharing_check.specs.declared.widths.Together.TheVariants.{InOneBranch}
use Rattle.sharing_check.specs.declared.widths.Width.{Width}
use Rattle.sharing_rule.specs.Measure.{amount, amount_of_arms, most}
use Rattle.sharing_check.specs.internal.Counting.{Side, senders, receivers, users, Table, cut, nothing, join, send, receive, sync, of_side, uses, measure, used_by, adding, in_turn, last_in_turn, arms_in_turn, side_by_side}
use Rattle.sharing_check.proofs.CountTables.{same_table}

-- what a use of channel d counts for channel c
abbrev by_use : Width → Side → ℕ → ℕ → ℕ
by_use w side c d = cond (c == d) (of_side side w) 0

-- the fields of a side's measure
record Fields (side : Side) (c : ℕ) : Type 0 where
  together : (a b : ℕ) → (measure side c).together a b ≡ a + b
  reads : (x : ℕ) → (measure side c).reads x ≡ 0
  writes : (x : ℕ) → (measure side c).writes x ≡ 0
  sends : (d : ℕ) → (measure side c).sends d ≡ by_use send side c d
  holds : (d : ℕ) → (measure side c).holds d ≡ by_use send side c d
  receives : (d : ℕ) → (measure side c).receives d ≡ by_use receive side c d
  opens : (d : ℕ) → (measure side c).opens d ≡ by_use receive side c d
  closes : (d : ℕ) → (measure side c).closes d ≡ by_use receive side c d
  syncs : (d : ℕ) → (measure side c).syncs d ≡ by_use sync side c d

no_count : (b : Bool) (n : ℕ) → n ≡ cond b n n
no_count true n = refl
no_count false n = refl

fields : (side : Side) (c : ℕ) → Fields side c
fields senders c = record {
  together = λ a b. refl;
  reads = λ x. refl;
  writes = λ x. refl;
  sends = λ d. refl;
  holds = λ d. refl;
  receives = λ d. no_count (c == d) 0;
  opens = λ d. no_count (c == d) 0;
  closes = λ d. no_count (c == d) 0;
  syncs = λ d. refl;
}
fields receivers c = record {
  together = λ a b. refl;
  reads = λ x. refl;
  writes = λ x. refl;
  sends = λ d. no_count (c == d) 0;
  holds = λ d. no_count (c == d) 0;
  receives = λ d. refl;
  opens = λ d. refl;
  closes = λ d. refl;
  syncs = λ d. refl;
}
fields users c = record {
  together = λ a b. refl;
  reads = λ x. refl;
  writes = λ x. refl;
  sends = λ d. refl;
  holds = λ d. refl;
  receives = λ d. refl;
  opens = λ d. refl;
  closes = λ d. refl;
  syncs = λ d. refl;
}

-- what is read counts nothing
no_reads : (side : Side) (c : ℕ) (xs : List ℕ) → most (measure side c).reads xs ≡ 0
no_reads side c [] = refl
no_reads side c (x ∷ xs) = none _ _ ((fields side c).reads x) (no_reads side c xs)
  where
    none : (a b : ℕ) → a ≡ 0 → b ≡ 0 → max a b ≡ 0
    none a b e f = omega arith

-- commands without parts
pub used_by_send : (d w : ℕ) (e : Expression) → used_by (residual.send d w e) ≡ uses d send
unfolding used_by uses
used_by_send d w e = same_table _ _ (λ side c. sent _ _ _ _ ((fields side c).sends d) ((fields side c).holds d) (no_reads side c (variables e)))
  where
    sent : (n a b r : ℕ) → a ≡ n → b ≡ n → r ≡ 0 → cut (max a (max b r)) ≡ cut n
    sent n a b r e f g = omega arith

pub used_by_receive : (d x : ℕ) → used_by (residual.receive d x) ≡ uses d receive
unfolding used_by uses
used_by_receive d x = same_table _ _ (λ side c. received _ _ _ ((fields side c).receives d) ((fields side c).writes x))
  where
    received : (n a b : ℕ) → a ≡ n → b ≡ 0 → cut (max a b) ≡ cut n
    received n a b e f = omega arith

pub used_by_sync : (d : ℕ) → used_by (residual.sync d) ≡ uses d sync
unfolding used_by uses
used_by_sync d = same_table _ _ (λ side c. synced side (c == d) _ _ ((fields side c).syncs d) ((fields side c).holds d))
  where
    synced : (side : Side) (h : Bool) (a b : ℕ) → a ≡ cond h (of_side side sync) 0 → b ≡ cond h (of_side side send) 0
        → cut (max a b) ≡ cut (cond h (of_side side sync) 0)
    synced senders true a b e f = omega arith
    synced senders false a b e f = omega arith
    synced receivers true a b e f = omega arith
    synced receivers false a b e f = omega arith
    synced users true a b e f = omega arith
    synced users false a b e f = omega arith

-- what amounts to nothing
abbrev Idle : Residual → Type 0
Idle r = (side : Side) (c : ℕ) → amount (measure side c) r ≡ 0

adding_idle : (t : Table) (r : Residual) → Idle r → adding t r ≡ t
unfolding join used_by
adding_idle t r idle = same_table _ _ (λ side c. whole (t side c) _ (idle side c))
  where
    whole : (n a : ℕ) → a ≡ 0 → max n (cut a) ≡ n
    whole n a e = omega arith

pub adding_done : (t : Table) → adding t done ≡ t
adding_done t = adding_idle t done (λ side c. refl)

pub adding_halted : (t : Table) → adding t halted ≡ t
adding_halted t = adding_idle t halted (λ side c. refl)

pub adding_assign : (t : Table) (x w : ℕ) (e : Expression) → adding t (residual.assign x w e) ≡ t
adding_assign t x w e = adding_idle t (residual.assign x w e) (λ side c. none _ _ ((fields side c).writes x) (no_reads side c (variables e)))
  where
    none : (a b : ℕ) → a ≡ 0 → b ≡ 0 → max a b ≡ 0
    none a b e f = omega arith

-- what amounts to the same
abbrev SameAmount : Residual → Residual → Type 0
SameAmount r q = (side : Side) (c : ℕ) → amount (measure side c) r ≡ amount (measure side c) q

used_by_same : (r q : Residual) → SameAmount r q → used_by r ≡ used_by q
unfolding used_by
used_by_same r q same = same_table _ _ (λ side c. ap cut (same side c))

pub used_by_loop : (k : ℕ) (body : Residual) → used_by (residual.loop k body) ≡ used_by body
used_by_loop k body = used_by_same _ body (λ side c. refl)

pub used_by_while : (k : ℕ) (e : Expression) (body : Residual) → used_by (residual.while k e body) ≡ used_by body
used_by_while k e body = used_by_same _ body (λ side c. least _ _ (no_reads side c (variables e)))
  where
    least : (a n : ℕ) → a ≡ 0 → max a n ≡ n
    least a n e = omega arith

-- one part after another
adding_both : (t : Table) (r q s : Residual)
    → ((side : Side) (c : ℕ) → max (amount (measure side c) r) (amount (measure side c) q) ≡ amount (measure side c) s)
    → adding (adding t r) q ≡ adding t s
unfolding join used_by
adding_both t r q s most = same_table _ _ (λ side c. both (t side c) _ _ _ (most side c))
  where
    both : (n a b m : ℕ) → max a b ≡ m → max (max n (cut a)) (cut b) ≡ max n (cut m)
    both n a b m e = omega arith

-- the amount of a child and what comes after it
amount_within : (side : Side) (c n : ℕ) (child next : Residual)
    → max (amount (measure side c) child) (amount (measure side c) next) ≡ amount (measure side c) (within n child next)
amount_within side c n done next = least (amount (measure side c) next)
  where
    least : (a : ℕ) → max 0 a ≡ a
    least a = omega arith
amount_within side c n child next = refl

-- children one after another
pub adding_sequence : (t : Table) (n : ℕ) (rs : List Residual) → adding t (in_sequence n rs) ≡ in_turn t rs
adding_sequence t n [] = adding_done t
adding_sequence t n (r ∷ rs) =
    sym (adding_both t r (in_sequence (suc n) rs) (within n r (in_sequence (suc n) rs)) (λ side c. amount_within side c n r (in_sequence (suc n) rs)))
    ∙ adding_sequence (adding t r) (suc n) rs

-- arms
abbrev by_arms : Arms → Table
by_arms arms side c = cut (amount_of_arms (measure side c) arms)

in_turn_arms : (t : Table) (rs : List Residual) (last : Option Residual) → last_in_turn (in_turn t rs) last ≡ join InOneBranch t (by_arms (arms_of rs last))
unfolding join used_by
in_turn_arms t [] None = same_table _ _ (λ side c. whole (t side c))
  where
    whole : (n : ℕ) → n ≡ max n (cut 0)
    whole n = omega arith
in_turn_arms t [] (Some r) = same_table _ _ (λ side c. alone (t side c) (amount (measure side c) r))
  where
    alone : (n a : ℕ) → max n (cut a) ≡ max n (cut (max a 0))
    alone n a = omega arith
in_turn_arms t (r ∷ rs) last =
    in_turn_arms (adding t r) rs last
    ∙ same_table _ _ (λ side c. both (t side c) (amount (measure side c) r) (amount_of_arms (measure side c) (arms_of rs last)))
  where
    both : (n a b : ℕ) → max (max n (cut a)) (cut b) ≡ max n (cut (max a b))
    both n a b = omega arith

used_by_test : (d : Decision) (arms : Arms) → used_by (test d arms) ≡ by_arms arms
unfolding used_by
used_by_test d arms = same_table _ _ (λ side c. least _ (amount_of_arms (measure side c) arms) (no_reads side c (decision_variables d)))
  where
    least : (a n : ℕ) → a ≡ 0 → cut (max a n) ≡ cut n
    least a n e = omega arith

pub adding_test : (t : Table) (d : Decision) (rs : List Residual) (last : Option Residual)
    → adding t (test d (arms_of rs last)) ≡ last_in_turn (in_turn t rs) last
adding_test t d rs last = ap (join InOneBranch t) (used_by_test d (arms_of rs last)) ∙ sym (in_turn_arms t rs last)

-- arms that wait
in_turn_choose : (t : Table) (arms : List OnChannel) → arms_in_turn t arms ≡ adding t (choose_of arms)
unfolding join used_by uses
in_turn_choose t [] = same_table _ _ (λ side c. whole (t side c))
  where
    whole : (n : ℕ) → n ≡ max n (cut (max (max 0 0) 0))
    whole n = omega arith
in_turn_choose t (a ∷ rest) =
    in_turn_choose (adding (join InOneBranch t (uses a.channel receive)) a.body) rest
    ∙ same_table _ _ (λ side c. opened _ _ _ _ _ _ _ _ ((fields side c).opens a.channel) ((fields side c).closes a.channel))
  where
    both : (x a b : ℕ) → max (max x (cut a)) (cut b) ≡ max x (cut (max a b))
    both x a b = omega arith

    rearranged : (w b o s n p q : ℕ) → p ≡ w → q ≡ w → max (max w b) (max (max o s) n) ≡ max (max (max p o) (max q s)) (max b n)
    rearranged w b o s n p q e f = omega arith

    opened : (x w b o s n p q : ℕ) → p ≡ w → q ≡ w
        → max (max (max x (cut w)) (cut b)) (cut (max (max o s) n)) ≡ max x (cut (max (max (max p o) (max q s)) (max b n)))
    opened x w b o s n p q e f =
        ap (λ m. max m (cut (max (max o s) n))) (both x w b)
        ∙ (both x (max w b) (max (max o s) n) ∙ ap (λ m. max x (cut m)) (rearranged w b o s n p q e f))

pub adding_choose : (t : Table) (arms : List OnChannel) → adding t (choose_of arms) ≡ arms_in_turn t arms
adding_choose t arms = sym (in_turn_choose t arms)

pub adding_input : (t : Table) (c : ℕ) (body : Residual)
    → adding t (choose (c ∷ []) (arm body no_arms)) ≡ adding (join InOneBranch t (uses c receive)) body
adding_input t c body = adding_choose t (record { channel = c; body = body } ∷ [])

-- branches
amount_along : (side : Side) (c n : ℕ) (child rest : Residual)
    → amount (measure side c) child + amount (measure side c) rest ≡ amount (measure side c) (along n child rest)
amount_along side c n done rest = least (amount (measure side c) rest)
  where
    least : (a : ℕ) → 0 + a ≡ a
    least a = omega arith
amount_along side c n child rest = sym ((fields side c).together (amount (measure side c) child) (amount (measure side c) rest))

branches_amount : (side : Side) (c n : ℕ) (rs : List Residual) (t : Table) (a : ℕ) → t side c ≡ cut a
    → side_by_side t rs side c ≡ cut (a + amount (measure side c) (in_parallel n rs))
unfolding join used_by
branches_amount side c n [] t a is = is ∙ alone a
  where
    alone : (a : ℕ) → cut a ≡ cut (a + 0)
    alone a = omega arith
branches_amount side c n (r ∷ rs) t a is =
    branches_amount side c (suc n) rs _ (a + amount (measure side c) r) (more _ _ _ is)
    ∙ summed a _ _ _ (amount_along side c n r (in_parallel (suc n) rs))
  where
    more : (x a b : ℕ) → x ≡ cut a → cut (x + cut b) ≡ cut (a + b)
    more x a b e = omega arith

    summed : (a b m s : ℕ) → b + m ≡ s → cut (a + b + m) ≡ cut (a + s)
    summed a b m s e = omega arith

pub used_by_parallel : (n : ℕ) (rs : List Residual) → used_by (in_parallel n rs) ≡ side_by_side nothing rs
unfolding used_by
used_by_parallel n rs = same_table _ _ (λ side c. begun (amount (measure side c) (in_parallel n rs)) ∙ sym (branches_amount side c n rs nothing 0 refl))
  where
    begun : (a : ℕ) → cut a ≡ cut (0 + a)
    begun a = omega arith
