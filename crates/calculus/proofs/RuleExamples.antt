-- The rule on sharing, on small systems.
use Rattle.std.proofs.Common.{◌≡◌, ◌+◌, ◌≤◌, List, [], ◌∷◌, sum_by, refl, subst, sym, arith, ◌∙◌}
use Rattle.system.specs.declared.command.Command.{Command}
use Rattle.system.specs.declared.command.Action as Action
use Rattle.system.specs.Residual.{Residual, receive}
use Rattle.system.specs.Translation.{OnChannel, OnGuard, OnLabels, action_layer, arm_layer, command_layer, guarded_layer, labelled_layer, residual_of}
use Rattle.system.specs.declared.expression.Use.{Use}
use Rattle.system.specs.declared.system.System.{System}
use Rattle.system.specs.declared.system.Branch.{Branch}
use Rattle.system.specs.declared.system.Branch.TheVariants.{Feed}
use Rattle.sharing_rule.specs.Measure.{amount, sending, receiving, syncing}
use Rattle.sharing_rule.specs.Sharing.{OneBranchWrites}
use Rattle.sharing_rule.specs.Rule.{sender_on, receiver_on, user_on, SharesWell}
use Rattle.runs.proofs.public.VariableRule.{only_bound}
use Rattle.system.specs.declared.command.Action.TheOpen.{Action-F}
use Rattle.system.specs.declared.command.Action.TheFolds.{fold-roll-Action, fold-roll-Command}

-- a name in the source
abbrev name : Use
name = record { number = 0; offset = 0 }

-- c -> x
abbrev input : Command
input = record { line = 1; action = Action.Receive name name }

-- what it does
input_is : residual_of input ≡ receive 0 0
unfolding Action.roll-Action denote.Hole.Carrier.roll
input_is =
    fold-roll-Command Residual OnChannel Residual OnGuard OnLabels action_layer arm_layer command_layer guarded_layer labelled_layer
    (record { line = 1; action = Action.Receive name name })
    ∙ fold-roll-Action Residual OnChannel Residual OnGuard OnLabels action_layer arm_layer command_layer guarded_layer labelled_layer
    (Action-F.Receive name name)

-- a channel with so many feeds, and one input from it
abbrev fed : List Branch → System
fed environment = record { main = input; environment = environment; variables = []; channels = [] }

-- one feed and one input
one_feed : SharesWell (fed (Feed 0 8 [] ∷ []))
one_feed = record {
  one_sender = λ c e. subst (λ r. amount (sending c) r + sum_by (sender_on c) (Feed 0 8 [] ∷ []) ≤ 1) (sym input_is) (let k = only_bound 1 c 0 in omega arith);
  one_receiver = λ c e. subst (λ r. amount (receiving c) r + sum_by (receiver_on c) (Feed 0 8 [] ∷ []) ≤ 1) (sym input_is) (let k = only_bound 1 c 0 in omega arith);
  two_users = λ c e. subst (λ r. amount (syncing c) r + sum_by (user_on c) (Feed 0 8 [] ∷ []) ≤ 2) (sym input_is) (let k = only_bound 1 c 0 in omega arith);
  one_branch_writes = λ x e. subst (OneBranchWrites x) (sym input_is) tt;
}

-- two feeds are too many, even without values
two_feeds : SharesWell (fed (Feed 0 8 [] ∷ Feed 0 8 [] ∷ [])) → ⊥
two_feeds rule =
    let h : amount (sending 0) (receive 0 0) + sum_by (sender_on 0) (Feed 0 8 [] ∷ Feed 0 8 [] ∷ []) ≤ 1 =
    subst (λ r. amount (sending 0) r + sum_by (sender_on 0) (Feed 0 8 [] ∷ Feed 0 8 [] ∷ []) ≤ 1) input_is (rule.one_sender 0 refl) in
    absurd (omega (arith, h))
