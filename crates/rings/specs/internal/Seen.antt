-- Where the other end stands in commands and in processes, for one action at a time.
-- No reader has to believe it: `proofs/Left.antt` ties it to `stands` of what is left of them, `proofs/Summed.antt` to
-- what the code finds.
use Rattle.std.specs.Prelude.{ℕ, ◌+◌, ◌*◌, List, [], ◌∷◌, Bool, true, false, ◌||◌, Option, None, is_none}
use Rattle.address.specs.declared.Entry.TheVariants.{Ordered, Branch}
use Rattle.runs.specs.Moves.{Place}
use Rattle.system.specs.Expression.{Expression}
use Rattle.process_tree.specs.Code.{Once, assigning, receiving, Sender, sending, syncing, Code, continues, halts, moves_once, may_be_held, repeats, decides, awaits, in_turn, side_by_side, drains, Codes, no_code, code}
use Rattle.process_tree.specs.Proc.{waiting, holding, past, Proc, idle, stopped, once, sender, fresh, turn, ended_at_once, ended, untested, skipped, took, unopened, entered, closed, sequence, parallel, drained, Procs, no_procs, proc}
use Rattle.rings.specs.Partners.{is_receive, is_send, is_sync, is_close, is_arm, Standing, over, nowhere, never, is_found, below, there, ahead, in_turns, at_arms, after, in_branch, together}
use Rattle.rings.specs.declared.sought.Sought.{Sought}

-- whether what moves once is what is sought
abbrev pub is_once : Sought → Once → Bool
is_once s (assigning x w e) = false
is_once s (receiving c x) = is_receive s c

-- whether a send or sync is
abbrev pub is_sender : Sought → Sender → Bool
is_sender s (sending c w e) = is_send s c
is_sender s (syncing c) = is_sync s c

-- where it stands, from the way to the action that waits
abbrev pub Walk : Type 0
Walk = Option Place → Standing

-- in children one after another, the first with number n
abbrev pub walk_in_turn : ℕ → List Walk → Walk
walk_in_turn n [] own = over
walk_in_turn n (f ∷ fs) own =
    after (Ordered n) (below own (Ordered n)) (f (below own (Ordered n))) (walk_in_turn (n + 1) fs own)

-- in children side by side, the first in branch n
abbrev pub walk_abreast : ℕ → List Walk → Walk
walk_abreast n [] own = over
walk_abreast n (f ∷ fs) own = together (in_branch (Branch n) (f (below own (Branch n)))) (walk_abreast (n + 1) fs own)

-- whether it comes in one of them
abbrev pub any_found : List Walk → Bool
any_found [] = false
any_found (f ∷ fs) = is_found (f None) || any_found fs

abbrev mutual
  -- in a command
  pub code_seen : Sought → Code → Walk
  code_seen s continues own = over
  code_seen s halts own = never
  code_seen s (moves_once o) own = there own (is_once s o)
  code_seen s (may_be_held x) own = there own (is_sender s x)
  code_seen s (repeats g c) own = in_turns (is_none g) (is_found (code_seen s c None))
  code_seen s (decides d cs) own = ahead (any_found (codes_seen s cs))
  code_seen s (awaits ds cs) own = at_arms own (is_arm s ds) (any_found (codes_seen s cs))
  code_seen s (in_turn cs) own = walk_in_turn 0 (codes_seen s cs) own
  code_seen s (side_by_side cs) own = walk_abreast 0 (codes_seen s cs) own
  code_seen s (drains c) own = there own (is_receive s c)

  -- in each
  pub codes_seen : Sought → Codes → List Walk
  codes_seen s no_code = []
  codes_seen s (code c cs) = code_seen s c ∷ codes_seen s cs

-- in the turns of a loop
abbrev pub again_seen : Sought → Option Expression → Code → Standing
again_seen s g c = in_turns (is_none g) (is_found (code_seen s c None))

abbrev mutual
  -- in a process
  pub seen : Sought → Proc → Walk
  seen s idle own = over
  seen s stopped own = never
  seen s (once o true) own = over
  seen s (once o false) own = there own (is_once s o)
  seen s (sender x waiting) own = there own (is_sender s x)
  seen s (sender x holding) own = nowhere
  seen s (sender x past) own = over
  seen s (fresh g c) own = again_seen s g c
  seen s (turn g c n q) own =
      after (Ordered (2 * n + 1)) (below own (Ordered (2 * n + 1))) (seen s q (below own (Ordered (2 * n + 1))))
      (again_seen s g c)
  seen s (ended_at_once g c) own = over
  seen s (ended g c n q) own = over
  seen s (untested d cs) own = ahead (any_found (codes_seen s cs))
  seen s (skipped d cs) own = over
  seen s (took d cs j q) own = after (Ordered 1) (below own (Ordered 1)) (seen s q (below own (Ordered 1))) over
  seen s (unopened ds cs) own = at_arms own (is_arm s ds) (any_found (codes_seen s cs))
  seen s (entered ds cs c v q) own =
      after (Ordered 1) (below own (Ordered 1)) (seen s q (below own (Ordered 1))) (there own (is_close s c))
  seen s (closed ds cs c v q) own = over
  seen s (sequence ps) own = walk_in_turn 0 (procs_seen s ps) own
  seen s (parallel ps) own = walk_abreast 0 (procs_seen s ps) own
  seen s (drained c n) own = there own (is_receive s c)

  -- in each
  pub procs_seen : Sought → Procs → List Walk
  procs_seen s no_procs = []
  procs_seen s (proc p ps) = seen s p ∷ procs_seen s ps
