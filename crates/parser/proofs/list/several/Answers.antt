use Rattle.std.proofs.Common.{rules, ◌≡◌, true, false, length, ap}
use Rattle.parser.specs.Input.{next, is_one_of}
use Rattle.parser.specs.internal.Reads.{Halts}
use Rattle.parser.specs.internal.Reading.{several, one_more}
use Rattle.parser.specs.internal.Reads.{place}
use Rattle.parser.proofs.Turns.{before_turns, after_turn, without_turn, after_turns, halted_turn}
use Rattle.parser.proofs.list.several.Goals as goal

pub loop-turn-init : goal.loop-turn-init
unfolding several
loop-turn-init g c = before_turns c.args.kinds.now (one_more (g.R.Rule.reader c.args.rule.now)) _ _ _ (ap (λ t. length t) c.rest-turn-end.ensures)

pub loop-turn-preserved : goal.loop-turn-preserved
loop-turn-preserved g c =
    let sees : is_one_of c.args.kinds.now (next (place c.loop-turn.cursor).tokens) ≡ true = search rules in
    after_turn c.args.kinds.now (one_more (g.R.Rule.reader c.args.rule.now)) _ _ _ _ _ _ c.loop-turn.invariant c.loop-turn-test.true sees c.in_ok-next.ensures

pub returns-in_err-next : goal.returns-in_err-next
returns-in_err-next g c =
    let sees : is_one_of c.args.kinds.now (next (place c.loop-turn.cursor).tokens) ≡ true = search rules in
    let halts : Halts c.in_err-next.field-0.0 c.next.new.cursor.rest.now _ =
    halted_turn c.args.kinds.now (one_more (g.R.Rule.reader c.args.rule.now)) _ _ _ _ _ _ c.loop-turn.invariant c.loop-turn-test.true sees c.in_err-next.ensures
    in search rules

pub returns-then-not-sees_any : goal.returns-then-not-sees_any
returns-then-not-sees_any g c =
    let sees : is_one_of c.args.kinds.now (next (place c.loop-turn.cursor).tokens) ≡ false = search rules in
    without_turn c.args.kinds.now (one_more (g.R.Rule.reader c.args.rule.now)) _ _ _ _ c.loop-turn.invariant c.loop-turn-test.true sees

pub returns : goal.returns
returns g c = after_turns c.args.kinds.now (one_more (g.R.Rule.reader c.args.rule.now)) _ _ _ _ c.loop-turn.invariant c.loop-turn-test.false
