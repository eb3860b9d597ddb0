-- From a system to the commands of its tree.
use Rattle.std.specs.Prelude.{ℕ, zero, suc, List, [], ◌∷◌, Option, None, Some, is_some, map}
use Rattle.value.specs.Word.{Word}
use Rattle.system.specs.Expression.{Expression, constant, by_guards, by_labels}
use Rattle.system.specs.Translation.{expression_of}
use Rattle.system.specs.declared.command.Command.{Command}
use Rattle.system.specs.declared.command.Action.TheOpen.{Action-F, Arm-F, Command-F, Guarded-F, Labelled-F}
use Rattle.system.specs.declared.command.Action.TheFolds.{fold-Command}
use Rattle.system.specs.declared.system.System.{System}
use Rattle.system.specs.declared.system.Branch.{Branch}
use Rattle.system.specs.declared.system.Branch.TheVariants.{Feed, Drain, Syncs}
use Rattle.process_tree.specs.Code.{assigning, receiving, sending, syncing, Code, continues, halts, moves_once, may_be_held, repeats, decides, awaits, in_turn, side_by_side, drains, Codes, no_code, code}

-- commands in a row
abbrev pub row_of : List Code → Codes
row_of [] = no_code
row_of (c ∷ cs) = code c (row_of cs)

-- arms in order, the else last
abbrev pub row_with : List Code → Option Code → Codes
row_with [] None = no_code
row_with [] (Some last) = code last no_code
row_with (c ∷ cs) last = code c (row_with cs last)

-- an arm of `select` or `arbitrate`: its channel and what it does
abbrev pub OnChannel : Type 0
OnChannel = ℕ × Code

-- an arm of `if`: its guard and what it does
abbrev pub OnGuard : Type 0
OnGuard = Expression × Code

-- an arm of `case`: its labels and what it does
abbrev pub OnLabels : Type 0
OnLabels = List ℕ × Code

-- a `select` or `arbitrate`
abbrev pub awaits_of : List OnChannel → Code
awaits_of arms = awaits (map (λ a. a.0) arms) (row_with (map (λ a. a.1) arms) None)

-- an `if`
abbrev pub if_of : List OnGuard → Option Code → Code
if_of arms last = decides (by_guards (map (λ a. a.0) arms) (is_some last)) (row_with (map (λ a. a.1) arms) last)

-- a `case`
abbrev pub case_of : Expression → List OnLabels → Option Code → Code
case_of e arms last = decides (by_labels e (map (λ a. a.0) arms) (is_some last)) (row_with (map (λ a. a.1) arms) last)

-- one layer of a command, one line a form
abbrev pub action_code : Action-F Code OnChannel Code OnGuard OnLabels → Code
action_code Action-F.Continue = continues
action_code Action-F.Halt = halts
action_code (Action-F.Assign x w e) = moves_once (assigning x.number w (expression_of e))
action_code (Action-F.Send c w e) = may_be_held (sending c.number w (expression_of e))
action_code (Action-F.Receive c x) = moves_once (receiving c.number x.number)
action_code (Action-F.Sync c) = may_be_held (syncing c.number)
action_code (Action-F.Loop body) = repeats None body
action_code (Action-F.While e body) = repeats (Some (expression_of e)) body
action_code (Action-F.If arms last) = if_of arms last
action_code (Action-F.Case e arms last) = case_of (expression_of e) arms last
action_code (Action-F.Input c body) = awaits (c.number ∷ []) (code body no_code)
action_code (Action-F.Select arms) = awaits_of arms
action_code (Action-F.Arbitrate arms) = awaits_of arms
action_code (Action-F.Sequence children) = in_turn (row_of children)
action_code (Action-F.Parallel children) = side_by_side (row_of children)

-- one layer of an arm of `select` or `arbitrate`
abbrev pub arm_code : Arm-F Code OnChannel Code OnGuard OnLabels → OnChannel
arm_code a = (a.channel.number, a.body)

-- one layer of a command: its action, without its line
abbrev pub command_code : Command-F Code OnChannel Code OnGuard OnLabels → Code
command_code c = c.action

-- one layer of an arm of `if`
abbrev pub guarded_code : Guarded-F Code OnChannel Code OnGuard OnLabels → OnGuard
guarded_code a = (expression_of a.guard, a.body)

-- one layer of an arm of `case`
abbrev pub labelled_code : Labelled-F Code OnChannel Code OnGuard OnLabels → OnLabels
labelled_code a = (a.labels, a.body)

-- the command that the tree holds
abbrev pub code_of : Command → Code
code_of = fold-Command Code OnChannel Code OnGuard OnLabels action_code arm_code command_code guarded_code labelled_code

-- sends of the values, in order
abbrev pub feed_of : ℕ → ℕ → List Word → Codes
feed_of c w [] = no_code
feed_of c w (v ∷ vs) = code (may_be_held (sending c w (constant v))) (feed_of c w vs)

-- so many syncs
abbrev pub syncs_of : ℕ → ℕ → Codes
syncs_of c zero = no_code
syncs_of c (suc n) = code (may_be_held (syncing c)) (syncs_of c n)

-- what the environment does on one port
abbrev pub port_of : Branch → Code
port_of (Feed c w values) = in_turn (feed_of c w values)
port_of (Drain c) = drains c
port_of (Syncs c n) = in_turn (syncs_of c n)

-- the whole system: the root's body in branch 0, the k-th port in branch k
abbrev pub system_code : System → Code
system_code system = side_by_side (code (code_of system.main) (row_of (map port_of system.environment)))
