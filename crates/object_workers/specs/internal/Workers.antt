-- What one worker is between its turns, and what some turns add to it.
use Rattle.std.specs.Prelude.{◌≡◌, ◌⊎◌, ℕ, suc, ◌+◌, ◌<◌, ◌^◌, Bool, List, [], ◌∷◌, ◌++◌, map, length}
use Rattle.atomic_table.specs.Seated.{TableId}
use Rattle.crossbeam_queue.specs.Passes as queue
use Rattle.recorded_calls.specs.History.{entry_of}
use Rattle.recorded_calls.specs.declared.entry.Entry.{Entry}
use Rattle.locked_object.specs.Passes.{IsPassOf, number, own}
use Rattle.locked_object.specs.declared.pass.Pass.{Pass}
use Rattle.object_workers.specs.Dealt.{hand, total}
use Rattle.object_workers.specs.Runs.{PassRan, SawLegal, steps_in}
use Rattle.object_workers.specs.declared.worker.Worker.{Worker}

-- the branch of a turn: the only number in one's hands, or 0 where they are empty
abbrev pub InHands : List ℕ → ℕ → Type 0
InHands numbers k = (numbers ≡ k ∷ []) ⊎ ((numbers ≡ []) × (k ≡ 0))

module _ {D C R : Type 0} where
  -- the pass has made one call more, which asks for a step of this branch, or none: it was not recorded
  abbrev pub AskedFor : (ℕ → C) → ℕ → Pass D C R → Pass D C R → Type 0
  AskedFor asks k before after =
      (own after ≡ own before)
      ⊎ ((reply : R) × (own after ≡ own before ++ entry_of (number before) (asks k) reply ∷ []))

  -- its pass and its place at the queue fit, and its hands are empty
  pub record WorkerFits (table : TableId) (opening : D) (line : TableId) (w : Worker D C R) : Type 0 where
    pub pass : IsPassOf table opening w.pass
    pub place : w.seat.table_id ≡ line
    pub no_slot : w.seat.me.1 ≡ []
    pub empty : queue.view w.seat ≡ hand []

  -- what so many turns add
  pub record WorkerRan (table : TableId) (opening : D) (performs : D → ℕ → C → R → D → Type 0) (asks : ℕ → C)
      (steps : R → Bool) (count turns : ℕ) (before after : Worker D C R) : Type 0 where
    pub added : List (Entry C R)
    pub ran : PassRan table opening asks count turns before.pass after.pass added
    pub stepped : after.stepped ≡ before.stepped + steps_in steps added
    pub rest_lost : length added + after.lost ≡ before.lost + turns
    pub legal : SawLegal performs opening before.pass after.pass
    pub same : after.number ≡ before.number

  -- workers at the queue, with these passes, numbered from this number, that have taken no turn yet
  abbrev pub Ready : TableId → ℕ → List (Pass D C R) → List (Worker D C R) → Type 0
  Ready line from [] [] = Unit {0}
  Ready line from (p ∷ ps) (w ∷ ws) =
      ((w.pass ≡ p) × (w.stepped ≡ 0) × (w.lost ≡ 0) × (w.seat.table_id ≡ line) × (w.seat.me.1 ≡ [])
      × (queue.view w.seat ≡ hand []) × (w.number ≡ from)) × Ready line (suc from) ps ws
  Ready line from ps ws = ⊥

  abbrev pub IsReady : TableId → D → TableId → Worker D C R → Type 0
  IsReady table opening line w = WorkerFits table opening line w × (w.stepped ≡ 0) × (w.lost ≡ 0)

  abbrev pub AllReady : TableId → D → TableId → List (Worker D C R) → Type 0
  AllReady table opening line [] = Unit {0}
  AllReady table opening line (w ∷ ws) = IsReady table opening line w × AllReady table opening line ws

  -- what so many turns add to each
  abbrev pub AllRan : (table : TableId) (opening : D) (performs : D → ℕ → C → R → D → Type 0) (asks : ℕ →
      C) (steps : R → Bool) (count turns : ℕ) → List (Worker D C R) → List (Worker D C R) → Type 0
  AllRan table opening performs asks steps count turns [] [] = Unit {0}
  AllRan table opening performs asks steps count turns (v ∷ vs) (w ∷ ws) =
      WorkerRan table opening performs asks steps count turns v w
      × AllRan table opening performs asks steps count turns vs ws
  AllRan table opening performs asks steps count turns vs ws = ⊥

  -- what they have counted, all together, is a number of 64 bits
  abbrev pub CountsFew : List (Worker D C R) → Type 0
  CountsFew ws = (total (λ w. w.stepped) ws < 2 ^ 64) × (total (λ w. w.lost) ws < 2 ^ 64)

  -- the passes of the workers, in their order, and what they have counted
  abbrev pub IsCounted : List (Worker D C R) → List (Pass D C R) → ℕ → ℕ → Type 0
  IsCounted ws ps stepped lost =
      (ps ≡ map (λ w. w.pass) ws) × (stepped ≡ total (λ w. w.stepped) ws) × (lost ≡ total (λ w. w.lost) ws)
