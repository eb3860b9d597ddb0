-- What an elaborated system is to run: the opening residual and the opening store.
use Rattle.std.specs.Prelude.{ℕ, zero, suc, List, [], ◌∷◌, Option, None, Some, is_some, map}
use Rattle.value.specs.Word.{Word}
use Rattle.system.specs.Expression as model
use Rattle.system.specs.Expression.{word, by_guards, by_labels, Store}
use Rattle.system.specs.Residual.{Residual, done, halted, assign, send, receive, sync, loop, while, test, choose, drain, Arms, no_arms, arm, within, along}
use Rattle.system.specs.declared.expression.Expression.{Expression}
use Rattle.system.specs.declared.expression.Expression.TheOpen.{Expression-F}
use Rattle.system.specs.declared.expression.Expression.TheFolds.{fold-Expression}
use Rattle.system.specs.declared.command.Command.{Command}
use Rattle.system.specs.declared.command.Action.TheOpen.{Action-F, Arm-F, Command-F, Guarded-F, Labelled-F}
use Rattle.system.specs.declared.command.Action.TheFolds.{fold-Command}
use Rattle.system.specs.declared.system.System.{System}
use Rattle.system.specs.declared.system.Branch.{Branch}
use Rattle.system.specs.declared.system.Branch.TheVariants.{Feed, Drain, Syncs}
use Rattle.system.specs.declared.decision.Decision.{Decision}
use Rattle.system.specs.declared.decision.Decision.TheVariants.{Guards, Labels}

-- one layer of an expression
abbrev pub expression_layer : Expression-F model.Expression → model.Expression
expression_layer (Expression-F.Constant v) = model.constant v
expression_layer (Expression-F.Variable x w) = model.variable x.number w
expression_layer (Expression-F.Received c w) = model.received c w
expression_layer (Expression-F.Binary op a b) = model.binary op a b
expression_layer (Expression-F.Not a) = model.complement a
expression_layer (Expression-F.Cast a w) = model.cast a w

-- an expression without the offsets of its names
abbrev pub expression_of : Expression → model.Expression
expression_of = fold-Expression model.Expression expression_layer

-- a test whose guards are without the offsets of their names
abbrev pub decision_of : Decision → model.Decision
decision_of (Guards guards otherwise) = model.by_guards (map expression_of guards) otherwise
decision_of (Labels subject labels otherwise) = model.by_labels (expression_of subject) labels otherwise

-- an arm of `select` or `arbitrate`: its channel and what it does
pub record OnChannel : Type 0 where
  pub channel : ℕ
  pub body : Residual

-- an arm of `if`
pub record OnGuard : Type 0 where
  pub guard : model.Expression
  pub body : Residual

-- an arm of `case`
pub record OnLabels : Type 0 where
  pub labels : List ℕ
  pub body : Residual

-- children of a sequence, the first at position n
abbrev pub in_sequence : ℕ → List Residual → Residual
in_sequence n [] = done
in_sequence n (r ∷ rs) = within n r (in_sequence (suc n) rs)

-- children of a parallel, the first in branch n
abbrev pub in_parallel : ℕ → List Residual → Residual
in_parallel n [] = done
in_parallel n (r ∷ rs) = along n r (in_parallel (suc n) rs)

-- arms in order, the else last
abbrev pub arms_of : List Residual → Option Residual → Arms
arms_of [] None = no_arms
arms_of [] (Some last) = arm last no_arms
arms_of (r ∷ rs) last = arm r (arms_of rs last)

-- an `if` before its test
abbrev pub if_of : List OnGuard → Option Residual → Residual
if_of arms last = test (by_guards (map (λ a. a.guard) arms) (is_some last)) (arms_of (map (λ a. a.body) arms) last)

-- a `case` before its test
abbrev pub case_of : model.Expression → List OnLabels → Option Residual → Residual
case_of e arms last =
    test (by_labels e (map (λ a. a.labels) arms) (is_some last)) (arms_of (map (λ a. a.body) arms) last)

-- a `select` or `arbitrate` before it opens
abbrev pub choose_of : List OnChannel → Residual
choose_of arms = choose (map (λ a. a.channel) arms) (arms_of (map (λ a. a.body) arms) None)

-- one layer of a command, one line a form
abbrev pub action_layer : Action-F Residual OnChannel Residual OnGuard OnLabels → Residual
action_layer Action-F.Continue = done
action_layer Action-F.Halt = halted
action_layer (Action-F.Assign x w e) = assign x.number w (expression_of e)
action_layer (Action-F.Send c w e) = send c.number w (expression_of e)
action_layer (Action-F.Receive c x) = receive c.number x.number
action_layer (Action-F.Sync c) = sync c.number
action_layer (Action-F.Loop body) = loop 0 body
action_layer (Action-F.While e body) = while 0 (expression_of e) body
action_layer (Action-F.If arms last) = if_of arms last
action_layer (Action-F.Case e arms last) = case_of (expression_of e) arms last
action_layer (Action-F.Input c body) = choose (c.number ∷ []) (arm body no_arms)
action_layer (Action-F.Select arms) = choose_of arms
action_layer (Action-F.Arbitrate arms) = choose_of arms
action_layer (Action-F.Sequence children) = in_sequence 0 children
action_layer (Action-F.Parallel children) = in_parallel 0 children

-- one layer of an arm of `select` or `arbitrate`
abbrev pub arm_layer : Arm-F Residual OnChannel Residual OnGuard OnLabels → OnChannel
arm_layer a = record { channel = a.channel.number; body = a.body }

-- one layer of a command: its action, without its line
abbrev pub command_layer : Command-F Residual OnChannel Residual OnGuard OnLabels → Residual
command_layer c = c.action

-- one layer of an arm of `if`
abbrev pub guarded_layer : Guarded-F Residual OnChannel Residual OnGuard OnLabels → OnGuard
guarded_layer a = record { guard = expression_of a.guard; body = a.body }

-- one layer of an arm of `case`
abbrev pub labelled_layer : Labelled-F Residual OnChannel Residual OnGuard OnLabels → OnLabels
labelled_layer a = record { labels = a.labels; body = a.body }

-- what a command is to do
abbrev pub residual_of : Command → Residual
residual_of =
    fold-Command Residual OnChannel Residual OnGuard OnLabels action_layer arm_layer command_layer guarded_layer
    labelled_layer

-- the values of a feed that are still to send, the first in act k
abbrev pub feed_from : ℕ → ℕ → ℕ → List Word → Residual
feed_from k c w [] = done
feed_from k c w (v ∷ vs) = within k (send c w (model.constant v)) (feed_from (suc k) c w vs)

-- so many syncs that are still to make, the first in act k
abbrev pub syncs_from : ℕ → ℕ → ℕ → Residual
syncs_from k c zero = done
syncs_from k c (suc n) = within k (sync c) (syncs_from (suc k) c n)

-- what the environment is to do on one port
abbrev pub branch_of : Branch → Residual
branch_of (Feed c w values) = feed_from 0 c w values
branch_of (Drain c) = drain c 0
branch_of (Syncs c n) = syncs_from 0 c n

-- the system before its first event: the root's body at /0, the branch of the k-th port at /k
abbrev pub opening_residual : System → Residual
opening_residual system = along 0 (residual_of system.main) (in_parallel 1 (map branch_of system.environment))

-- every variable begins at 0
abbrev pub opening_store : System → Store
opening_store system = map (λ v. word 0 v.width) system.variables
