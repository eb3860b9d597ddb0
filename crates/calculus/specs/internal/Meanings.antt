-- What the moves of the code mean.
-- No reader has to believe it: no public contract cites it, and the second clauses of `replay`, `Plain::after` and
-- `Plain::allowed` say by `Steps.antt` what comes of these moves.
use Rattle.std.specs.Prelude.{Option, None, Some}
use Rattle.system.specs.Translation.{expression_of, decision_of}
use Rattle.runs.specs.Moves as model
use Rattle.runs.specs.internal.After as after
use Rattle.calculus.specs.ResidualTree.{residual_of_tree}
use Rattle.calculus.specs.declared.moves.Move.{Move}
use Rattle.calculus.specs.declared.moves.Move.TheVariants.{Assigns, Tests, Turns, Sends, Receives, Syncs, Opens, Releases, Closes}
use Rattle.calculus.specs.declared.moves.Moved.{Moved}

-- a move without the offsets of its names
abbrev pub move_of : Move → model.Move
move_of (Assigns x w e) = model.assigns x w (expression_of e)
move_of (Tests d k) = model.tests (decision_of d) k
move_of Turns = model.turns
move_of (Sends c w e held) = model.sends c w (expression_of e) held
move_of (Receives c x) = model.receives c x
move_of (Syncs c held) = model.syncs c held
move_of (Opens c k v) = model.opens c k v
move_of (Releases c) = model.releases c
move_of (Closes c) = model.closes c

-- an answer
abbrev pub answer_of : Option Moved → after.Answer
answer_of None = None
answer_of (Some x) = Some (move_of x.by, residual_of_tree x.left)
