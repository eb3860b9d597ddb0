-- The actions at one place and below it, and where a walk down along a place ends.
-- No reader has to believe it: the clauses of `action_at` and `actions_below` say what is found there.
use Rattle.std.specs.Prelude.{◌≡◌, ◌==◌, ◌&&◌, ℕ, suc, Bool, true, false, cond, List, [], ◌∷◌, Option, Some, None}
use Rattle.std.specs.Borrow.{Bor}
use Rattle.system.specs.Expression.{Store, Expression, Decision, by_guards, decide}
use Rattle.runs.specs.Moves.{Place, assigns, tests, turns, sends, receives, syncs, releases, closes}
use Rattle.runs.specs.Tests.{same_entry, same_place}
use Rattle.process_tree.specs.Code.{Once, assigning, receiving, Sender, sending, syncing}
use Rattle.process_tree.specs.Proc.{Proc, started}
use Rattle.process_tree.specs.Remaining.{Received, channel_of}
use Rattle.process_tree.specs.View.{code_view, once_view, sender_view, proc_view, repeat_view, decide_view, await_view}
use Rattle.process_tree.specs.internal.Received.{puts_once, puts_sender, puts_guard, puts_decision}
use Rattle.process_tree.specs.declared.code.Once as memory
use Rattle.local_actions.specs.Actions.{action_of, opened_arm}
use Rattle.local_actions.specs.Walk.{action_at, below}
use Rattle.local_actions.specs.internal.Listed.{listed}
use Rattle.local_actions.specs.declared.action.LocalAction.{LocalAction}
use Rattle.local_actions.specs.declared.action.ActionKind.{ActionKind}
use Rattle.local_actions.specs.declared.action.ActionKind.TheVariants.{Opens}
use Rattle.local_actions.specs.declared.around.OnWay.{OnWay}
use Rattle.local_actions.specs.declared.site.Only.{Only}
use Rattle.local_actions.specs.declared.site.Only.TheVariants.{Waiting, Holding, Again, Test, Close, Drain}
use Rattle.local_actions.specs.declared.site.Site.{Site}
use Rattle.local_actions.specs.declared.site.Site.TheVariants as site

-- whether the second place is the first or below it
abbrev pub is_under : Place → Place → Bool
is_under [] b = true
is_under (x ∷ a) [] = false
is_under (x ∷ a) (y ∷ b) = same_entry x y && is_under a b

-- those of the actions at this place and below it
abbrev pub under : Place → List LocalAction → List LocalAction
under a [] = []
under a (r ∷ rs) = cond (is_under a r.place) (r ∷ under a rs) (under a rs)

-- the first of the actions that is at this place and opens this arm, 0 where it opens none
abbrev pub chosen : Place → ℕ → List LocalAction → Option ActionKind
chosen a k [] = None
chosen a k (r ∷ rs) = cond (same_place a r.place && (opened_arm r.action == k)) (Some r.action) (chosen a k rs)

-- what an assignment or a receive offers, a send or sync that waits, a test, and a loop before a turn
abbrev pub once_kind : Store → Once → ActionKind
once_kind s (assigning x w e) = action_of s (assigns x w e)
once_kind s (receiving c x) = action_of s (receives c (Some x))

abbrev pub sender_kind : Store → Sender → ActionKind
sender_kind s (sending c w e) = action_of s (sends c w e false)
sender_kind s (syncing c) = action_of s (syncs c false)

abbrev pub test_kind : Store → Decision → ActionKind
test_kind s d = action_of s (tests d (decide s d))

abbrev pub again_kind : Store → Option Expression → ActionKind
again_kind s None = action_of s turns
again_kind s (Some e) = test_kind s (by_guards (e ∷ []) false)

-- what offers one action alone, in arms that received these values
abbrev pub only_kind : Store → Received → Only → ActionKind
only_kind s env (Waiting x) = sender_kind s (puts_sender env (sender_view x.now))
only_kind s env (Holding x) = action_of s (releases (channel_of (sender_view x.now)))
only_kind s env (Again r) = again_kind s (puts_guard env (repeat_view r.now).0)
only_kind s env (Test d) = test_kind s (puts_decision env (decide_view d.now).0)
only_kind s env (Close c) = action_of s (closes c)
only_kind s env (Drain c) = action_of s (receives c None)

-- the opens of arms on these channels, all at one place, the first of them arm k
abbrev pub opens_here : ℕ → List ℕ → List LocalAction
opens_here k [] = []
opens_here k (c ∷ cs) = action_at [] (Opens c k) ∷ opens_here (suc k) cs

-- what is offered where a walk ends, at the place and below it
abbrev pub at_site : Store → Received → Site → List LocalAction
at_site s env (site.Begun p) = (listed s env (proc_view p.now)).actions
at_site s env (site.Fresh c) = (listed s env (started (code_view c.now))).actions
at_site s env (site.Arms w) = opens_here 0 (await_view w.now).0
at_site s env (site.Only x) = action_at [] (only_kind s env x) ∷ []
at_site s env site.Nothing = []

-- the action of what makes one move, if there is one, and it opens this arm, 0 where it opens none
abbrev pub once_chosen : Store → Received → ℕ → Option (Bor memory.Once) → Option ActionKind
once_chosen s env k None = None
once_chosen s env k (Some o) = chosen [] k (action_at [] (once_kind s (puts_once env (once_view o.now))) ∷ [])

-- what was received on a way is this, unless it was lost
abbrev pub IsKept : OnWay → Received → Type 0
IsKept w env = w.is_lost ≡ false → w.around ≡ env

-- a walk down along the place has come from the process to this: there the process offers exactly what that does
abbrev pub Leads : Proc → Place → Received → Received → Site → Type 0
Leads p a old new x = (s : Store) → under a (listed s old p).actions ≡ below a (at_site s new x)

-- the same of a walk that keeps what it receives on its way: where it lost that, it has come there none the less
abbrev pub LeadsOn : Proc → Place → OnWay → OnWay → Site → Type 0
LeadsOn p a old new x = (env : Received) → IsKept old env → (then : Received) × IsKept new then × Leads p a env then x
