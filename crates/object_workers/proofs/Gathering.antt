-- Workers before and after their turns, as lists.
use Rattle.std.proofs.Common.{◌≡◌, ℕ, zero, suc, ◌+◌, ◌*◌, ◌<◌, ◌≤◌, Bool, List, [], ◌∷◌, ◌++◌, map, length, refl, ap, sym, ◌∙◌, subst, arith, mul-le-mul, mul-suc, mul-zero}
use Rattle.std.specs.Prelude.{slice_index_or}
use Rattle.atomic_table.specs.Seated.{TableId}
use Rattle.crossbeam_queue.specs.Passes as queue
use Rattle.std.proofs.lemmas.List.{map-append}
use Rattle.recorded_calls.specs.declared.entry.Entry.{Entry}
use Rattle.locked_object.specs.Passes.{IsPassOf}
use Rattle.locked_object.specs.declared.pass.Pass.{Pass}
use Rattle.object_workers.specs.Dealt.{hand, total}
use Rattle.object_workers.specs.Runs.{steps_in, PassRan, PassesRan, WorkersRan, PassesFit, SawLegal, AllSawLegal}
use Rattle.object_workers.specs.internal.Workers.{WorkerRan, Ready, IsReady, AllReady, AllRan, CountsFew, IsCounted}
use Rattle.object_workers.specs.declared.worker.Worker.{Worker}
use Rattle.object_workers.proofs.Numbers.{total_end}
use Rattle.object_workers.proofs.public.Turns.{steps_few}

module _ {D C R : Type 0} (table : TableId) (opening : D) where
  -- each of the workers is ready
  pub ready_at : (line : TableId) (ws : List (Worker D C R)) (i : ℕ) (d : Worker D C R) → AllReady table opening line ws → i < length ws → IsReady table opening line (slice_index_or ws i d)
  ready_at line [] i d h less = absurd (omega arith)
  ready_at line (w ∷ ws) zero d h less = h.0
  ready_at line (w ∷ ws) (suc i) d h less = ready_at line ws i d h.1 (omega arith)

  -- workers with passes of this table are ready
  pub all_ready : (line : TableId) (from : ℕ) (ps : List (Pass D C R)) (ws : List (Worker D C R)) → PassesFit table opening ps → Ready line from ps ws → AllReady table opening line ws
  all_ready line from [] [] fits h = tt
  all_ready line from [] (w ∷ ws) fits h = absurd h
  all_ready line from (p ∷ ps) [] fits h = absurd h
  all_ready line from (p ∷ ps) (w ∷ ws) fits h =
      let one = h.0 in (
        (
          record { pass = subst (IsPassOf table opening) (sym one.0) fits.0; place = one.3; no_slot = one.4; empty = one.5 },
          one.1,
          one.2,
        ),
        all_ready line (suc from) ps ws fits.1 h.1,
      )

  module _ (performs : D → ℕ → C → R → D → Type 0) (asks : ℕ → C) (steps : R → Bool) (count turns : ℕ) where
    -- what holds at each place holds of the lists
    pub all_ran : (vs ws : List (Worker D C R)) → length vs ≡ length ws
        → ((i : ℕ) (d : Worker D C R) → i < length vs → WorkerRan table opening performs asks steps count turns (slice_index_or vs i d) (slice_index_or ws i d))
        → AllRan table opening performs asks steps count turns vs ws
    all_ran [] [] same each = tt
    all_ran [] (w ∷ ws) same each = absurd (omega arith)
    all_ran (v ∷ vs) [] same each = absurd (omega arith)
    all_ran (v ∷ vs) (w ∷ ws) same each = (each 0 v (omega arith), all_ran vs ws (omega arith) (λ i d less. each (suc i) d (omega arith)))

    -- the same workers
    pub same_ran : (v u w x : Worker D C R) → v ≡ u → w ≡ x → WorkerRan table opening performs asks steps count turns v w → WorkerRan table opening performs asks steps count turns u x
    same_ran v u w x one other ran = subst (WorkerRan table opening performs asks steps count turns u) other (subst (λ (y : Worker D C R). WorkerRan table opening performs asks steps count turns y w) one ran)

module _ {C R : Type 0} (steps : R → Bool) where
  -- there are no more steps than calls
  total_few : (ls : List (List (Entry C R))) → total (steps_in steps) ls ≤ total length ls
  total_few [] = omega arith
  total_few (l ∷ ls) = let a = steps_few steps l in let b = total_few ls in omega arith

module _ {D C R : Type 0} (table : TableId) (opening : D) (performs : D → ℕ → C → R → D → Type 0) (asks : ℕ → C) (steps : R → Bool) (count turns : ℕ) where
  -- what the workers have done, of the passes that they were given
  pub record Gathered (ps : List (Pass D C R)) (ws : List (Worker D C R)) : Type 0 where
    pub added : List (List (Entry C R))
    pub each : PassesRan table opening asks count turns ps (map (λ (w : Worker D C R). w.pass) ws) added
    pub stepped : total (λ (w : Worker D C R). w.stepped) ws ≡ total (steps_in steps) added
    pub legal : AllSawLegal performs opening ps (map (λ (w : Worker D C R). w.pass) ws)
    pub lost : total length added + total (λ (w : Worker D C R). w.lost) ws ≡ turns * length ps

  pub gathered : (line : TableId) (from : ℕ) (ps : List (Pass D C R)) (vs ws : List (Worker D C R)) → Ready line from ps vs → AllRan table opening performs asks steps count turns vs ws → Gathered ps ws
  gathered line from [] [] [] h ran = record { added = []; each = tt; legal = tt; stepped = refl; lost = sym (mul-zero turns) }
  gathered line from [] [] (w ∷ ws) h ran = absurd ran
  gathered line from [] (v ∷ vs) ws h ran = absurd h
  gathered line from (p ∷ ps) [] ws h ran = absurd h
  gathered line from (p ∷ ps) (v ∷ vs) [] h ran = absurd ran
  gathered line from (p ∷ ps) (v ∷ vs) (w ∷ ws) h ran =
      let one = h.0 in
      let did = ran.0 in
      let rest = gathered line (suc from) ps vs ws h.1 ran.1 in
      record {
        added = did.added ∷ rest.added;
        each = (subst (λ (q : Pass D C R). PassRan table opening asks count turns q w.pass did.added) one.0 did.ran, rest.each);
        legal = (subst (λ (q : Pass D C R). SawLegal performs opening q w.pass) one.0 did.legal, rest.legal);
        stepped = let a = did.stepped in let b = one.1 in let d = rest.stepped in omega arith;
        lost = let a = did.rest_lost in let b = one.2 in let d = rest.lost in let m = mul-suc turns (length ps) in omega arith;
      }

  -- a worker a pass, afterwards too
  pub ran_length : (line : TableId) (from : ℕ) (ps : List (Pass D C R)) (vs ws : List (Worker D C R)) → Ready line from ps vs → AllRan table opening performs asks steps count turns vs ws → length ws ≡ length ps
  ran_length line from [] [] [] h ran = refl
  ran_length line from [] [] (w ∷ ws) h ran = absurd ran
  ran_length line from [] (v ∷ vs) ws h ran = absurd h
  ran_length line from (p ∷ ps) [] ws h ran = absurd h
  ran_length line from (p ∷ ps) (v ∷ vs) [] h ran = absurd ran
  ran_length line from (p ∷ ps) (v ∷ vs) (w ∷ ws) h ran = ap suc (ran_length line (suc from) ps vs ws h.1 ran.1)

  -- so many turns of so many workers are counted in 64 bits
  pub counts_fit : (ps : List (Pass D C R)) (ws : List (Worker D C R)) → Gathered ps ws → turns ≤ 144115188075855872 → length ps ≤ 16 → CountsFew ws
  counts_fit ps ws g few short =
      let most = mul-le-mul few short in
      let a = g.stepped in
      let b = g.lost in
      let d = total_few steps g.added in
      (omega arith, omega arith)

  -- the same of the passes that come back
  pub passes_saw : (ps qs : List (Pass D C R)) (ws : List (Worker D C R)) (stepped lost : ℕ) → Gathered ps ws → IsCounted ws qs stepped lost → AllSawLegal performs opening ps qs
  passes_saw ps qs ws stepped lost g is = subst (AllSawLegal performs opening ps) (sym is.0) g.legal

  -- the same of what was counted
  pub workers_ran : (ps qs : List (Pass D C R)) (ws : List (Worker D C R)) (stepped lost : ℕ) → Gathered ps ws → IsCounted ws qs stepped lost
      → WorkersRan table opening asks count turns steps ps qs stepped lost
  workers_ran ps qs ws stepped lost g is =
      record {
        added = g.added;
        each = subst (λ (l : List (Pass D C R)). PassesRan table opening asks count turns ps l g.added) (sym is.0) g.each;
        counted = is.1 ∙ g.stepped;
        rest_lost = ap (λ n. total length g.added + n) is.2 ∙ g.lost;
      }

module _ {D C R : Type 0} where
  -- one worker more, for one pass more
  pub ready_more : (line : TableId) (from : ℕ) (ps : List (Pass D C R)) (ws more : List (Worker D C R)) (p : Pass D C R) (w : Worker D C R) → Ready line from ps ws → more ≡ ws ++ w ∷ []
      → (w.pass ≡ p) × (w.stepped ≡ 0) × (w.lost ≡ 0) × (w.seat.table_id ≡ line) × (w.seat.me.1 ≡ []) × (queue.view w.seat ≡ hand []) × (w.number ≡ from + length ps) → Ready line from (ps ++ p ∷ []) more
  ready_more line from ps ws more p w h is one = subst (Ready line from (ps ++ p ∷ [])) (sym is) (go from ps ws h one.6)
    where
      go : (n : ℕ) (qs : List (Pass D C R)) (vs : List (Worker D C R)) → Ready line n qs vs → w.number ≡ n + length qs → Ready line n (qs ++ p ∷ []) (vs ++ w ∷ [])
      go n [] [] k at = ((one.0, one.1, one.2, one.3, one.4, one.5, (omega arith)), tt)
      go n [] (v ∷ vs) k at = absurd k
      go n (q ∷ qs) [] k at = absurd k
      go n (q ∷ qs) (v ∷ vs) k at = (k.0, go (suc n) qs vs k.1 (omega arith))

  -- a worker a pass
  pub ready_length : (line : TableId) (from : ℕ) (ps : List (Pass D C R)) (ws : List (Worker D C R)) → Ready line from ps ws → length ps ≡ length ws
  ready_length line from [] [] h = refl
  ready_length line from [] (w ∷ ws) h = absurd h
  ready_length line from (p ∷ ps) [] h = absurd h
  ready_length line from (p ∷ ps) (w ∷ ws) h = ap suc (ready_length line (suc from) ps ws h.1)

  -- one worker more is counted
  pub counted_more : (ws : List (Worker D C R)) (ps more : List (Pass D C R)) (w : Worker D C R) (stepped lost : ℕ) → IsCounted ws ps stepped lost → more ≡ ps ++ w.pass ∷ []
      → IsCounted (ws ++ w ∷ []) more (stepped + w.stepped) (lost + w.lost)
  counted_more ws ps more w stepped lost h is = (
    is ∙ ap (λ l. l ++ w.pass ∷ []) h.0 ∙ sym (map-append (λ (v : Worker D C R). v.pass) ws (w ∷ [])),
    (let a = h.1 in let b = total_end (λ (v : Worker D C R). v.stepped) ws w in omega arith),
    (let a = h.2 in let b = total_end (λ (v : Worker D C R). v.lost) ws w in omega arith),
  )

-- what is counted of some of these and of the next is no more than of all
pub counts_within : {X : Type 0} (f : X → ℕ) (xs rest all : List X) (x : X) → xs ++ x ∷ rest ≡ all → total f xs + f x ≤ total f all
counts_within f [] rest all x is = let a = ap (total f) is in omega arith
counts_within f (y ∷ xs) rest all x is = let h = counts_within f xs rest (xs ++ x ∷ rest) x refl in let a = ap (total f) is in omega arith
