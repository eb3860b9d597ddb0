use Rattle.std.proofs.Common.{rules, ◌≡◌, true, false, length, ap, refl}
use Rattle.parser.specs.Input.{next, is_one_of}
use Rattle.parser.specs.internal.Reads.{Halts}
use Rattle.parser.specs.internal.Readers.{bind}
use Rattle.parser.specs.internal.Reading.{grouped, operation}
use Rattle.parser.specs.internal.Reads.{place}
use Rattle.parser.proofs.Turns.{behind_first, after_turn, without_turn, after_turns, halted_turn}
use Rattle.parser.proofs.expression.GroupedRule.read.Goals as goal

pub loop-turn-init : goal.loop-turn-init
unfolding grouped bind
loop-turn-init g c = behind_first c.args.self.now.signs.now (operation c.args.self.now.depth c.args.self.now.signs.now (g.R.Rule.reader c.args.self.now.operand.now)) _ _ _ _ refl c.in_ok-left.ensures (ap (λ t. length t) c.rest-turn-end.ensures)

pub loop-turn-preserved : goal.loop-turn-preserved
loop-turn-preserved g c =
    let sees : is_one_of c.args.self.now.signs.now (next (place c.loop-turn.cursor).tokens) ≡ true = search rules in
    after_turn c.args.self.now.signs.now (operation c.args.self.now.depth c.args.self.now.signs.now (g.R.Rule.reader c.args.self.now.operand.now)) _ _ _ _ _ _ c.loop-turn.invariant c.loop-turn-test.true sees c.in_ok-left-2.ensures

pub returns-in_err-left-2 : goal.returns-in_err-left-2
returns-in_err-left-2 g c =
    let sees : is_one_of c.args.self.now.signs.now (next (place c.loop-turn.cursor).tokens) ≡ true = search rules in
    let halts : Halts c.in_err-left-2.field-0.0 c.operation.new.cursor.rest.now _ =
    halted_turn c.args.self.now.signs.now (operation c.args.self.now.depth c.args.self.now.signs.now (g.R.Rule.reader c.args.self.now.operand.now)) _ _ _ _ _ _ c.loop-turn.invariant c.loop-turn-test.true sees c.in_err-left-2.ensures
    in search rules

pub returns-then-not-sees_any : goal.returns-then-not-sees_any
returns-then-not-sees_any g c =
    let sees : is_one_of c.args.self.now.signs.now (next (place c.loop-turn.cursor).tokens) ≡ false = search rules in
    without_turn c.args.self.now.signs.now (operation c.args.self.now.depth c.args.self.now.signs.now (g.R.Rule.reader c.args.self.now.operand.now)) _ _ _ _ c.loop-turn.invariant c.loop-turn-test.true sees

pub returns : goal.returns
returns g c = after_turns c.args.self.now.signs.now (operation c.args.self.now.depth c.args.self.now.signs.now (g.R.Rule.reader c.args.self.now.operand.now)) _ _ _ _ c.loop-turn.invariant c.loop-turn-test.false
