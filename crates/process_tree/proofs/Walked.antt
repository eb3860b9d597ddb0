-- What is listed of a process is what is left of it offers, whatever was received around it.
use Rattle.std.proofs.Common.{◌≡◌, ℕ, zero, suc, ◌+◌, ◌*◌, List, [], ◌∷◌, ◌++◌, Bool, true, false, ◌&&◌, cond, Option, Some, None, refl, sym, ap, ap₂, ◌∙◌, subst}
use Rattle.address.specs.declared.Entry.TheVariants.{Ordered, Branch}
use Rattle.value.specs.Word.{Word}
use Rattle.system.specs.Expression.{Expression}
use Rattle.system.specs.Residual.{Residual, done, halted, inside, beside, assign, send, receive, sync, held, loop, while, test, choose, closing, drain, within, along, put_residual}
use Rattle.runs.specs.InOrder.{InOrder}
use Rattle.runs.specs.internal.After.{is_done}
use Rattle.process_tree.specs.Code.{Code}
use Rattle.process_tree.specs.Remaining.{Received, with_value, puts, again, residual, residual_arms, residual_once, residual_sender, remaining, remaining_sequence, remaining_parallel}
use Rattle.process_tree.specs.Proc.{waiting, holding, past, Proc, idle, stopped, once, sender, fresh, turn, ended_at_once, ended, untested, skipped, took, unopened, entered, closed, sequence, parallel, drained, Procs, no_procs, proc, finished, all_finished}
use Rattle.process_tree.specs.Offers.{AreOffers, PrecedesOffer}
use Rattle.process_tree.specs.declared.finder.Finder.{Finder}
use Rattle.process_tree.specs.declared.offer.Offer.{Offer}
use Rattle.process_tree.specs.internal.Listed.{behind, again_at, offers_of, Listing, nothing, at_work, one_after, both, listed, listed_sequence, listed_parallel, below, lists}
use Rattle.process_tree.proofs.Exactly.{exactly, in-order}
use Rattle.process_tree.proofs.Finding.{below-root}
use Rattle.process_tree.proofs.public.Formed.{finished-left, left-formed}

-- what is listed, and whether it is over
abbrev listing : List Offer → Bool → Listing
listing rs b = record { offers = rs; over = b }

-- received values change no offer
put-same : (c : ℕ) (v : Word) (r : Residual) → offers_of (put_residual c v r) ≡ offers_of r
put-same c v done = refl
put-same c v halted = refl
put-same c v (inside i child next) = ap (behind (Ordered i)) (put-same c v child)
put-same c v (beside k child rest) = ap₂ (λ (a b : List Offer). behind (Branch k) a ++ b) (put-same c v child) (put-same c v rest)
put-same c v (assign x w e) = refl
put-same c v (send d w e) = refl
put-same c v (receive d x) = refl
put-same c v (sync d) = refl
put-same c v (held d) = refl
put-same c v (loop k body) = refl
put-same c v (while k e body) = refl
put-same c v (test d arms) = refl
put-same c v (choose channels arms) = refl
put-same c v (closing d) = refl
put-same c v (drain d k) = refl

puts-same : (env : Received) (r : Residual) → offers_of (puts env r) ≡ offers_of r
puts-same [] r = refl
puts-same (x ∷ env) r = put-same x.0 x.1 (puts env r) ∙ puts-same env r

-- a loop
again-offers : (n : ℕ) (g : Option Expression) (r : Residual) → offers_of (again n g r) ≡ again_at n g
again-offers n None r = refl
again-offers n (Some e) r = refl

again-left : (env : Received) (n : ℕ) (g : Option Expression) (c : Code) → again_at n g ≡ offers_of (puts env (again n g (residual c)))
again-left env n g c = sym (puts-same env (again n g (residual c)) ∙ again-offers n g (residual c))

-- a sequence offers what its child does, or the rest where that is done
within-offers : (i : ℕ) (r rest : Residual) → offers_of (within i r rest) ≡ cond (is_done r) (offers_of rest) (behind (Ordered i) (offers_of r))
within-offers i done rest = refl
within-offers i r rest = refl

-- a parallel what its branch does, and the rest
along-offers : (k : ℕ) (r rest : Residual) → offers_of (along k r rest) ≡ behind (Branch k) (offers_of r) ++ offers_of rest
along-offers k done rest = refl
along-offers k r rest = refl

-- so they are listed
after-is : (i : ℕ) (r rest : Residual) (b c : Bool) → is_done r ≡ b
    → one_after i (listing (offers_of r) b) (listing (offers_of rest) c) ≡ listing (offers_of (within i r rest)) (b && c)
after-is i r rest true c e = ap (λ l. listing l c) (sym (within-offers i r rest ∙ ap (λ b. cond b (offers_of rest) (behind (Ordered i) (offers_of r))) e))
after-is i r rest false c e = ap (λ l. listing l false) (sym (within-offers i r rest ∙ ap (λ b. cond b (offers_of rest) (behind (Ordered i) (offers_of r))) e))

and-false : (b : Bool) → (b && false) ≡ false
and-false true = refl
and-false false = refl

and-true : (b : Bool) → (b && true) ≡ b
and-true true = refl
and-true false = refl

mutual
  walked : (p : Proc) (env : Received) → listed p ≡ listing (offers_of (remaining env p)) (finished p)
  walked idle env = refl
  walked stopped env = refl
  walked (once o true) env = refl
  walked (once o false) env = ap at_work (sym (puts-same env (residual_once o)))
  walked (sender x waiting) env = ap at_work (sym (puts-same env (residual_sender x)))
  walked (sender x holding) env = refl
  walked (sender x past) env = refl
  walked (fresh g c) env = ap at_work (again-left env 0 g c)
  walked (turn g c n q) env =
      ap₂ (λ (x y : Listing). one_after (2 * n + 1) x y) (walked q env) (ap at_work (again-left env (n + 1) g c))
      ∙ after-is (2 * n + 1) (remaining env q) (puts env (again (n + 1) g (residual c))) (finished q) false (finished-left q env)
      ∙ ap (listing (offers_of (remaining env (turn g c n q)))) (and-false (finished q))
  walked (ended_at_once g c) env = refl
  walked (ended g c n q) env = refl
  walked (untested d cs) env = ap at_work (sym (puts-same env (test d (residual_arms cs))))
  walked (skipped d cs) env = refl
  walked (took d cs j q) env =
      ap (λ (x : Listing). one_after 1 x nothing) (walked q env)
      ∙ after-is 1 (remaining env q) done (finished q) true (finished-left q env)
      ∙ ap (listing (offers_of (remaining env (took d cs j q)))) (and-true (finished q))
  walked (unopened ds cs) env = ap at_work (sym (puts-same env (choose ds (residual_arms cs))))
  walked (entered ds cs c v q) env =
      ap (λ (x : Listing). one_after 1 x (at_work (offers_of (closing c)))) (walked q (with_value c v env))
      ∙ after-is 1 (remaining (with_value c v env) q) (closing c) (finished q) false (finished-left q (with_value c v env))
      ∙ ap (listing (offers_of (remaining env (entered ds cs c v q)))) (and-false (finished q))
  walked (closed ds cs c v q) env = refl
  walked (sequence ps) env = walked-sequence ps env 0
  walked (parallel ps) env = walked-parallel ps env 0
  walked (drained c n) env = refl

  walked-sequence : (ps : Procs) (env : Received) (n : ℕ) → listed_sequence zero n ps ≡ listing (offers_of (remaining_sequence env n ps)) (all_finished ps)
  walked-sequence no_procs env n = refl
  walked-sequence (proc p ps) env n =
      ap₂ (λ (x y : Listing). one_after n x y) (walked p env) (walked-sequence ps env (n + 1))
      ∙ after-is n (remaining env p) (remaining_sequence env (n + 1) ps) (finished p) (all_finished ps) (finished-left p env)

  walked-parallel : (ps : Procs) (env : Received) (n : ℕ) → listed_parallel n ps ≡ listing (offers_of (remaining_parallel env n ps)) (all_finished ps)
  walked-parallel no_procs env n = refl
  walked-parallel (proc p ps) env n =
      ap₂ (λ (x y : Listing). both n x y) (walked p env) (walked-parallel ps env (n + 1))
      ∙ ap (λ l. listing l (finished p && all_finished ps)) (sym (along-offers n (remaining env p) (remaining_parallel env (n + 1) ps)))

-- of a process that stands alone exactly what is left of it offers is found
pub ready-exactly : (p : Proc) (rs : List Offer) → rs ≡ (listed p).offers → AreOffers (remaining [] p) rs
ready-exactly p rs e =
    subst (λ l. AreOffers (remaining [] p) l) (sym (e ∙ ap (λ (x : Listing). x.offers) (walked p []))) (exactly (remaining [] p))

-- in order
pub ready-in-order : (p : Proc) (rs : List Offer) → rs ≡ (listed p).offers → InOrder PrecedesOffer rs
ready-in-order p rs e =
    subst (λ l. InOrder PrecedesOffer l) (sym (e ∙ ap (λ (x : Listing). x.offers) (walked p []))) (in-order (remaining [] p) (left-formed p []))

-- a walk from the root finds what is listed
pub found-is : (p q : Proc) (w v : Finder) (rs : List Offer) → w.entries ≡ [] → w.found ≡ [] → v ≡ lists q w → q ≡ p → rs ≡ v.found
    → rs ≡ (listed p).offers
found-is p q w v rs e f h g is =
    is ∙ ap (λ (x : Finder). x.found) h ∙ (λ i. f i ++ below (e i) (listed (g i)).offers) ∙ below-root (listed p).offers
