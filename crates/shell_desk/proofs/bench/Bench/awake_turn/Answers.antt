use Rattle.shell_desk.proofs.AwakeLemmas.{turn-first, turn-none, turn-second}
use Rattle.shell_desk.proofs.RestLemmas.{one-turn}
use Rattle.shell_desk.proofs.bench.Bench.awake_turn.Goals as goal

pub returns-in-Some : goal.returns-in-Some
returns-in-Some g c =
    let turned = one-turn c.stays_idle.ensures c.args.ends.now c.args.self.now c.ask_awake.new.self c.args.sleepers.now.asleep
    c.ask_awake.new.sleepers.asleep c.in-Some.reply c.is_sound.ensures.sound c.requires
    (turn-first c.args.ends.now c.args.self.now c.ask_awake.new.self c.args.sleepers.now.asleep
    c.ask_awake.new.sleepers.asleep c.branch_count-count.result c.first-start.result c.in-Some.reply
    c.branch_count-count.ensures c.first-start.ensures.first c.first-start.ensures.range c.in-Some.ensures) in
    record { turn = turned.0; resting = turned.1 }

pub returns-in-Some-ask_awake : goal.returns-in-Some-ask_awake
returns-in-Some-ask_awake g c =
    let turned = one-turn c.stays_idle.ensures c.args.ends.now c.args.self.now c.ask_awake-2.new.self
    c.args.sleepers.now.asleep c.ask_awake-2.new.sleepers.asleep c.in-Some-ask_awake.reply
    c.is_sound.ensures.sound c.requires
    (turn-second c.args.ends.now c.args.self.now c.ask_awake.new.self c.ask_awake-2.new.self c.args.sleepers.now.asleep
    c.ask_awake.new.sleepers.asleep c.ask_awake-2.new.sleepers.asleep c.branch_count-count.result
    c.first-start.result c.in-Some-ask_awake.reply c.branch_count-count.ensures c.first-start.ensures.first
    c.first-start.ensures.range c.in_default.ensures c.in-Some-ask_awake.ensures) in
    record { turn = turned.0; resting = turned.1 }

pub returns : goal.returns
returns g c =
    let turned = one-turn c.stays_idle.ensures c.args.ends.now c.args.self.now c.ask_awake-2.new.self
    c.args.sleepers.now.asleep c.ask_awake-2.new.sleepers.asleep _
    c.is_sound.ensures.sound c.requires
    (turn-none c.args.ends.now c.args.self.now c.ask_awake.new.self c.ask_awake-2.new.self c.args.sleepers.now.asleep
    c.ask_awake.new.sleepers.asleep c.ask_awake-2.new.sleepers.asleep c.branch_count-count.result
    c.first-start.result c.branch_count-count.ensures c.first-start.ensures.first c.first-start.ensures.range
    c.in_default.ensures c.in_default-ask_awake.ensures) in
    record { turn = turned.0; resting = turned.1 }
