-- In what is left of a process an end stands where a walk through the process finds it.
use Rattle.std.proofs.Common.{◌≡◌, ℕ, ◌+◌, ◌*◌, [], ◌∷◌, Bool, true, false, ◌||◌, Option, Some, None, is_none, refl, sym, ap, ap₂, ◌∙◌}
use Rattle.address.specs.declared.Entry.TheVariants.{Ordered, Branch}
use Rattle.value.specs.Word.{Word}
use Rattle.system.specs.Expression.{Expression}
use Rattle.system.specs.Residual.{Residual, done, halted, inside, beside, assign, send, receive, sync, held, loop, while, test, choose, closing, drain, within, along, Arms, no_arms, arm, put_residual, put_arms}
use Rattle.runs.specs.Moves.{Place}
use Rattle.process_tree.specs.Code.{Once, assigning, receiving, Sender, sending, syncing, Code, continues, halts, moves_once, may_be_held, repeats, decides, awaits, in_turn, side_by_side, drains, Codes, no_code, code}
use Rattle.process_tree.specs.Remaining.{Received, with_value, puts, residual_once, residual_sender, again, residual, residual_arms, residual_sequence, residual_parallel, remaining, remaining_sequence, remaining_parallel}
use Rattle.process_tree.specs.Proc.{waiting, holding, past, Proc, idle, stopped, once, sender, fresh, turn, ended_at_once, ended, untested, skipped, took, unopened, entered, closed, sequence, parallel, drained, Procs, no_procs, proc, started, all_started}
use Rattle.rings.specs.Partners.{is_close, is_arm, Standing, over, is_found, below, there, ahead, in_turns, at_arms, after, in_branch, together, stands, in_arms, partner_standing, partner_of, partner_in, sought_by}
use Rattle.local_actions.specs.declared.action.LocalAction.{LocalAction}
use Rattle.rings.specs.declared.partner.Partner.{Partner}
use Rattle.rings.specs.declared.sought.Sought.{Sought}
use Rattle.rings.specs.internal.Seen.{is_once, is_sender, walk_in_turn, walk_abreast, any_found, code_seen, codes_seen, again_seen, seen, procs_seen}

module _ (s : Sought) where
  mutual
    -- a value changes no channel
    put-stands : (c : ℕ) (v : Word) (r : Residual) (own : Option Place) → stands s (put_residual c v r) own ≡ stands s r own
    put-stands c v done own = refl
    put-stands c v halted own = refl
    put-stands c v (inside i child next) own =
        ap₂ (λ (x y : Standing). after (Ordered i) (below own (Ordered i)) x y) (put-stands c v child (below own (Ordered i))) (put-stands c v next own)
    put-stands c v (beside k child rest) own =
        ap₂ (λ (x y : Standing). together (in_branch (Branch k) x) y) (put-stands c v child (below own (Branch k))) (put-stands c v rest own)
    put-stands c v (assign x w e) own = refl
    put-stands c v (send d w e) own = refl
    put-stands c v (receive d x) own = refl
    put-stands c v (sync d) own = refl
    put-stands c v (held d) own = refl
    put-stands c v (loop k body) own = ap (λ (x : Standing). in_turns true (is_found x)) (put-stands c v body None)
    put-stands c v (while k e body) own = ap (λ (x : Standing). in_turns false (is_found x)) (put-stands c v body None)
    put-stands c v (test d arms) own = ap ahead (put-arms c v arms)
    put-stands c v (choose cs arms) own = ap (at_arms own (is_arm s cs)) (put-arms c v arms)
    put-stands c v (closing d) own = refl
    put-stands c v (drain d k) own = refl

    put-arms : (c : ℕ) (v : Word) (rs : Arms) → in_arms s (put_arms c v rs) ≡ in_arms s rs
    put-arms c v no_arms = refl
    put-arms c v (arm r rest) = ap₂ (λ (x : Standing) (b : Bool). is_found x || b) (put-stands c v r None) (put-arms c v rest)

  puts-stands : (env : Received) (r : Residual) (own : Option Place) → stands s (puts env r) own ≡ stands s r own
  puts-stands [] r own = refl
  puts-stands (x ∷ env) r own = put-stands x.0 x.1 (puts env r) own ∙ puts-stands env r own

  -- what is finished is passed
  within-stands : (i : ℕ) (r q : Residual) (own : Option Place) → stands s (within i r q) own ≡ after (Ordered i) (below own (Ordered i)) (stands s r (below own (Ordered i))) (stands s q own)
  within-stands i done q own = refl
  within-stands i r q own = refl

  along-stands : (k : ℕ) (r q : Residual) (own : Option Place) → stands s (along k r q) own ≡ together (in_branch (Branch k) (stands s r (below own (Branch k)))) (stands s q own)
  along-stands k done q own = refl
  along-stands k r q own = refl

  again-stands : (n : ℕ) (g : Option Expression) (r : Residual) (own : Option Place) → stands s (again n g r) own ≡ in_turns (is_none g) (is_found (stands s r None))
  again-stands n None r own = refl
  again-stands n (Some e) r own = refl

  once-stands : (o : Once) (own : Option Place) → stands s (residual_once o) own ≡ there own (is_once s o)
  once-stands (assigning x w e) None = refl
  once-stands (assigning x w e) (Some a) = refl
  once-stands (receiving c x) own = refl

  sender-stands : (x : Sender) (own : Option Place) → stands s (residual_sender x) own ≡ there own (is_sender s x)
  sender-stands (sending c w e) own = refl
  sender-stands (syncing c) own = refl

  -- ---- commands
  mutual
    residual-seen : (c : Code) (own : Option Place) → stands s (residual c) own ≡ code_seen s c own
    residual-seen continues own = refl
    residual-seen halts own = refl
    residual-seen (moves_once o) own = once-stands o own
    residual-seen (may_be_held x) own = sender-stands x own
    residual-seen (repeats g c) own = again-stands 0 g (residual c) own ∙ ap (λ (x : Standing). in_turns (is_none g) (is_found x)) (residual-seen c None)
    residual-seen (decides d cs) own = ap ahead (arms-seen cs)
    residual-seen (awaits ds cs) own = ap (at_arms own (is_arm s ds)) (arms-seen cs)
    residual-seen (in_turn cs) own = sequence-seen cs 0 own
    residual-seen (side_by_side cs) own = parallel-seen cs 0 own
    residual-seen (drains c) own = refl

    arms-seen : (cs : Codes) → in_arms s (residual_arms cs) ≡ any_found (codes_seen s cs)
    arms-seen no_code = refl
    arms-seen (code c cs) = ap₂ (λ (x : Standing) (b : Bool). is_found x || b) (residual-seen c None) (arms-seen cs)

    sequence-seen : (cs : Codes) (n : ℕ) (own : Option Place) → stands s (residual_sequence n cs) own ≡ walk_in_turn n (codes_seen s cs) own
    sequence-seen no_code n own = refl
    sequence-seen (code c cs) n own =
        within-stands n (residual c) (residual_sequence (n + 1) cs) own
        ∙ ap₂ (λ (x y : Standing). after (Ordered n) (below own (Ordered n)) x y) (residual-seen c (below own (Ordered n))) (sequence-seen cs (n + 1) own)

    parallel-seen : (cs : Codes) (n : ℕ) (own : Option Place) → stands s (residual_parallel n cs) own ≡ walk_abreast n (codes_seen s cs) own
    parallel-seen no_code n own = refl
    parallel-seen (code c cs) n own =
        along-stands n (residual c) (residual_parallel (n + 1) cs) own
        ∙ ap₂ (λ (x y : Standing). together (in_branch (Branch n) x) y) (residual-seen c (below own (Branch n))) (parallel-seen cs (n + 1) own)

  -- before its first move a process is its command
  mutual
    pub started-seen : (c : Code) (own : Option Place) → seen s (started c) own ≡ code_seen s c own
    started-seen continues own = refl
    started-seen halts own = refl
    started-seen (moves_once o) own = refl
    started-seen (may_be_held x) own = refl
    started-seen (repeats g c) own = refl
    started-seen (decides d cs) own = refl
    started-seen (awaits ds cs) own = refl
    started-seen (in_turn cs) own = started-in-turn cs 0 own
    started-seen (side_by_side cs) own = started-abreast cs 0 own
    started-seen (drains c) own = refl

    started-in-turn : (cs : Codes) (n : ℕ) (own : Option Place) → walk_in_turn n (procs_seen s (all_started cs)) own ≡ walk_in_turn n (codes_seen s cs) own
    started-in-turn no_code n own = refl
    started-in-turn (code c cs) n own =
        ap₂ (λ (x y : Standing). after (Ordered n) (below own (Ordered n)) x y) (started-seen c (below own (Ordered n))) (started-in-turn cs (n + 1) own)

    started-abreast : (cs : Codes) (n : ℕ) (own : Option Place) → walk_abreast n (procs_seen s (all_started cs)) own ≡ walk_abreast n (codes_seen s cs) own
    started-abreast no_code n own = refl
    started-abreast (code c cs) n own =
        ap₂ (λ (x y : Standing). together (in_branch (Branch n) x) y) (started-seen c (below own (Branch n))) (started-abreast cs (n + 1) own)

  -- a loop in arms that received values
  loop-seen : (env : Received) (n : ℕ) (g : Option Expression) (c : Code) (own : Option Place) → stands s (puts env (again n g (residual c))) own ≡ again_seen s g c
  loop-seen env n g c own =
      puts-stands env (again n g (residual c)) own ∙ again-stands n g (residual c) own ∙ ap (λ (x : Standing). in_turns (is_none g) (is_found x)) (residual-seen c None)

  -- ---- processes
  mutual
    pub left-seen : (p : Proc) (env : Received) (own : Option Place) → stands s (remaining env p) own ≡ seen s p own
    left-seen idle env own = refl
    left-seen stopped env own = refl
    left-seen (once o true) env own = refl
    left-seen (once o false) env own = puts-stands env (residual_once o) own ∙ once-stands o own
    left-seen (sender x waiting) env own = puts-stands env (residual_sender x) own ∙ sender-stands x own
    left-seen (sender x holding) env own = refl
    left-seen (sender x past) env own = refl
    left-seen (fresh g c) env own = loop-seen env 0 g c own
    left-seen (turn g c n q) env own =
        within-stands (2 * n + 1) (remaining env q) (puts env (again (n + 1) g (residual c))) own
        ∙ ap₂ (λ (x y : Standing). after (Ordered (2 * n + 1)) (below own (Ordered (2 * n + 1))) x y) (left-seen q env (below own (Ordered (2 * n + 1)))) (loop-seen env (n + 1) g c own)
    left-seen (ended_at_once g c) env own = refl
    left-seen (ended g c n q) env own = refl
    left-seen (untested d cs) env own = puts-stands env (test d (residual_arms cs)) own ∙ ap ahead (arms-seen cs)
    left-seen (skipped d cs) env own = refl
    left-seen (took d cs j q) env own =
        within-stands 1 (remaining env q) done own ∙ ap (λ (x : Standing). after (Ordered 1) (below own (Ordered 1)) x over) (left-seen q env (below own (Ordered 1)))
    left-seen (unopened ds cs) env own = puts-stands env (choose ds (residual_arms cs)) own ∙ ap (at_arms own (is_arm s ds)) (arms-seen cs)
    left-seen (entered ds cs c v q) env own =
        within-stands 1 (remaining (with_value c v env) q) (closing c) own
        ∙ ap (λ (x : Standing). after (Ordered 1) (below own (Ordered 1)) x (there own (is_close s c))) (left-seen q (with_value c v env) (below own (Ordered 1)))
    left-seen (closed ds cs c v q) env own = refl
    left-seen (sequence ps) env own = left-in-turn ps env 0 own
    left-seen (parallel ps) env own = left-abreast ps env 0 own
    left-seen (drained c n) env own = refl

    left-in-turn : (ps : Procs) (env : Received) (n : ℕ) (own : Option Place) → stands s (remaining_sequence env n ps) own ≡ walk_in_turn n (procs_seen s ps) own
    left-in-turn no_procs env n own = refl
    left-in-turn (proc p ps) env n own =
        within-stands n (remaining env p) (remaining_sequence env (n + 1) ps) own
        ∙ ap₂ (λ (x y : Standing). after (Ordered n) (below own (Ordered n)) x y) (left-seen p env (below own (Ordered n))) (left-in-turn ps env (n + 1) own)

    left-abreast : (ps : Procs) (env : Received) (n : ℕ) (own : Option Place) → stands s (remaining_parallel env n ps) own ≡ walk_abreast n (procs_seen s ps) own
    left-abreast no_procs env n own = refl
    left-abreast (proc p ps) env n own =
        along-stands n (remaining env p) (remaining_parallel env (n + 1) ps) own
        ∙ ap₂ (λ (x y : Standing). together (in_branch (Branch n) x) y) (left-seen p env (below own (Branch n))) (left-abreast ps env (n + 1) own)

-- what is found from the root is the partner of an action
pub partner-is : (tree q : Proc) (x : LocalAction) (o : Option Sought) (s : Sought) (own : Place) (y : Standing) (p : Partner) → o ≡ sought_by x.action → o ≡ Some s → q ≡ tree
    → own ≡ x.place → y ≡ seen s q (Some own) → p ≡ partner_standing y → p ≡ partner_in (remaining [] tree) x
partner-is tree q x o s own y p by named same here found is =
    is ∙ ap partner_standing (found ∙ ap (λ (z : Proc). seen s z (Some own)) same ∙ ap (λ (a : Place). seen s tree (Some a)) here ∙ sym (left-seen s tree [] (Some x.place)))
    ∙ sym (ap (partner_of (remaining [] tree) x.place) (sym by ∙ named))
