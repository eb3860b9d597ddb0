-- What the trees in memory stand for: a residual, and the state of the slow replay.
use Rattle.std.specs.Prelude.{None}
use Rattle.system.specs.Residual.{Residual, done, halted, inside, beside, assign, send, receive, sync, held, loop, while, test, choose, closing, drain}
use Rattle.system.specs.Translation.{expression_of, arms_of, decision_of}
use Rattle.calculus.specs.declared.residual_tree.ResidualTree.{ResidualTree}
use Rattle.calculus.specs.declared.residual_tree.ResidualTree.TheOpen.{ResidualTree-F}
use Rattle.calculus.specs.declared.residual_tree.ResidualTree.TheFolds.{fold-ResidualTree}
use Rattle.runs.specs.Steps.{State}
use Rattle.calculus.specs.declared.plain.Plain.{Plain}

-- one layer, with the residuals of the children in their places
abbrev pub residual_layer : ResidualTree-F Residual → Residual
residual_layer ResidualTree-F.Done = done
residual_layer ResidualTree-F.Halted = halted
residual_layer (ResidualTree-F.Inside i child next) = inside i child next
residual_layer (ResidualTree-F.Beside k child rest) = beside k child rest
residual_layer (ResidualTree-F.Assign x w e) = assign x w (expression_of e)
residual_layer (ResidualTree-F.Send c w e) = send c w (expression_of e)
residual_layer (ResidualTree-F.Receive c x) = receive c x
residual_layer (ResidualTree-F.Sync c) = sync c
residual_layer (ResidualTree-F.Held c) = held c
residual_layer (ResidualTree-F.Loop k body) = loop k body
residual_layer (ResidualTree-F.While k e body) = while k (expression_of e) body
residual_layer (ResidualTree-F.Test d arms) = test (decision_of d) (arms_of arms None)
residual_layer (ResidualTree-F.Choose channels arms) = choose channels (arms_of arms None)
residual_layer (ResidualTree-F.Closing c) = closing c
residual_layer (ResidualTree-F.Drain c k) = drain c k

-- what a tree in memory is still to do
abbrev pub residual_of_tree : ResidualTree → Residual
residual_of_tree = fold-ResidualTree Residual residual_layer

-- the residual, and the values of the variables
abbrev pub state_of : Plain → State
state_of p = record { residual = residual_of_tree p.left; store = p.values.items }
