-- The actions that a residual offers, and those of a process as the code walks through it.
-- No reader has to believe it: `proofs/public/Exactly.antt` ties the list of a residual to `Offered` of `Actions.antt`,
-- and `proofs/public/Walked.antt` that of a process to what is left of it.
use Rattle.std.specs.Prelude.{ℕ, zero, suc, ◌+◌, ◌*◌, List, [], ◌∷◌, ◌++◌, Bool, true, false, ◌&&◌, cond, Option, Some, None}
use Rattle.address.specs.declared.Entry.{Entry}
use Rattle.address.specs.declared.Entry.TheVariants.{Ordered, Branch}
use Rattle.system.specs.Expression.{Store, Expression, Decision, by_guards, decide}
use Rattle.system.specs.Residual.{Residual, done, halted, inside, beside, assign, send, receive, sync, held, loop, while, test, choose, closing, drain}
use Rattle.runs.specs.Moves.{assigns, tests, turns, sends, receives, syncs, releases, closes}
use Rattle.process_tree.specs.Remaining.{Received, with_value, residual_once, residual_sender, channel_of}
use Rattle.process_tree.specs.Proc.{waiting, holding, past, Proc, idle, stopped, once, sender, fresh, turn, ended_at_once, ended, untested, skipped, took, unopened, entered, closed, sequence, parallel, drained, Procs, no_procs, proc}
use Rattle.process_tree.specs.Tidy.{last_moved}
use Rattle.process_tree.specs.internal.Received.{puts_once, puts_sender, puts_guard, puts_decision}
use Rattle.local_actions.specs.Actions.{action_of}
use Rattle.local_actions.specs.Walk.{action_at}
use Rattle.local_actions.specs.declared.action.LocalAction.{LocalAction}
use Rattle.local_actions.specs.declared.action.ActionKind.TheVariants.{Opens}

-- actions, each at a place behind the entry
abbrev pub behind : Entry → List LocalAction → List LocalAction
behind x [] = []
behind x (r ∷ rs) = action_at (x ∷ r.place) r.action ∷ behind x rs

-- the opens of arms on these channels, the first of them arm k
abbrev pub open_actions : ℕ → List ℕ → List LocalAction
open_actions k [] = []
open_actions k (c ∷ cs) = action_at (Ordered 0 ∷ []) (Opens c k) ∷ open_actions (suc k) cs

-- a test at this act, with the arm that it takes
abbrev pub tested_at : Store → ℕ → Decision → List LocalAction
tested_at s n d = action_at (Ordered n ∷ []) (action_of s (tests d (decide s d))) ∷ []

-- a loop before turn n
abbrev pub again_at : Store → ℕ → Option Expression → List LocalAction
again_at s n None = action_at (Ordered (2 * n) ∷ []) (action_of s turns) ∷ []
again_at s n (Some e) = tested_at s (2 * n) (by_guards (e ∷ []) false)

-- the actions that a residual offers over a store, a test with the arm that it takes
abbrev pub actions_of_residual : Store → Residual → List LocalAction
actions_of_residual s done = []
actions_of_residual s halted = []
actions_of_residual s (inside i child next) = behind (Ordered i) (actions_of_residual s child)
actions_of_residual s (beside k child rest) =
    behind (Branch k) (actions_of_residual s child) ++ actions_of_residual s rest
actions_of_residual s (assign x w e) = action_at [] (action_of s (assigns x w e)) ∷ []
actions_of_residual s (send c w e) = action_at (Ordered 0 ∷ []) (action_of s (sends c w e false)) ∷ []
actions_of_residual s (receive c x) = action_at [] (action_of s (receives c (Some x))) ∷ []
actions_of_residual s (sync c) = action_at (Ordered 0 ∷ []) (action_of s (syncs c false)) ∷ []
actions_of_residual s (held c) = action_at (Ordered 1 ∷ []) (action_of s (releases c)) ∷ []
actions_of_residual s (loop k body) = again_at s k None
actions_of_residual s (while k e body) = again_at s k (Some e)
actions_of_residual s (test d arms) = tested_at s 0 d
actions_of_residual s (choose channels arms) = open_actions 0 channels
actions_of_residual s (closing c) = action_at (Ordered 2 ∷ []) (action_of s (closes c)) ∷ []
actions_of_residual s (drain c k) = action_at (Ordered k ∷ []) (action_of s (receives c None)) ∷ []

-- what a walk through a process lists, and whether it finds it finished
pub record Listing : Type 0 where
  pub actions : List LocalAction
  pub over : Bool

-- what is finished
abbrev pub nothing : Listing
nothing = record { actions = []; over = true }

-- what is at work
abbrev pub at_work : List LocalAction → Listing
at_work rs = record { actions = rs; over = false }

-- child i, or what comes after it where it is finished
abbrev pub one_after : ℕ → Listing → Listing → Listing
one_after i x rest = cond x.over rest (at_work (behind (Ordered i) x.actions))

-- branch k, and the rest beside it
abbrev pub both : ℕ → Listing → Listing → Listing
both k x rest = record { actions = behind (Branch k) x.actions ++ rest.actions; over = x.over && rest.over }

abbrev mutual
  -- what is listed of a process, in arms that received these values
  pub listed : Store → Received → Proc → Listing
  listed s env idle = nothing
  listed s env stopped = at_work []
  listed s env (once o true) = nothing
  listed s env (once o false) = at_work (actions_of_residual s (residual_once (puts_once env o)))
  listed s env (sender x waiting) = at_work (actions_of_residual s (residual_sender (puts_sender env x)))
  listed s env (sender x holding) = at_work (actions_of_residual s (held (channel_of x)))
  listed s env (sender x past) = nothing
  listed s env (fresh g c) = at_work (again_at s 0 (puts_guard env g))
  listed s env (turn g c n q) = one_after (2 * n + 1) (listed s env q) (at_work (again_at s (n + 1) (puts_guard env g)))
  listed s env (ended_at_once g c) = nothing
  listed s env (ended g c n q) = nothing
  listed s env (untested d cs) = at_work (tested_at s 0 (puts_decision env d))
  listed s env (skipped d cs) = nothing
  listed s env (took d cs j q) = one_after 1 (listed s env q) nothing
  listed s env (unopened ds cs) = at_work (open_actions 0 ds)
  listed s env (entered ds cs c v q) =
      one_after 1 (listed s (with_value c v env) q) (at_work (actions_of_residual s (closing c)))
  listed s env (closed ds cs c v q) = nothing
  listed s env (sequence ps) = listed_sequence s env (last_moved ps) 0 ps
  listed s env (parallel ps) = listed_parallel s env 0 ps
  listed s env (drained c n) = at_work (actions_of_residual s (drain c n))

  -- of children one after another without so many of the first, the first with number n
  pub listed_sequence : Store → Received → ℕ → ℕ → Procs → Listing
  listed_sequence s env k n no_procs = nothing
  listed_sequence s env zero n (proc p ps) = one_after n (listed s env p) (listed_sequence s env zero (n + 1) ps)
  listed_sequence s env (suc k) n (proc p ps) = listed_sequence s env k (n + 1) ps

  -- of children side by side, the first in branch n
  pub listed_parallel : Store → Received → ℕ → Procs → Listing
  listed_parallel s env n no_procs = nothing
  listed_parallel s env n (proc p ps) = both n (listed s env p) (listed_parallel s env (n + 1) ps)
