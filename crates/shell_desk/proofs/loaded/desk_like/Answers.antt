use Rattle.std.proofs.Common.{◌≤◌, arith}
use Rattle.locked_execution.specs.AtDesk.{new_desk, sessions}
use Rattle.shell_desk.proofs.AgainLemmas.{sessions-begin, sessions-end, sessions-more}
use Rattle.shell_desk.proofs.loaded.desk_like.Goals as goal

pub loop-session-init : goal.loop-session-init
loop-session-init g c =
    sessions-begin c.args.before.now (new_desk c.args.machine) c.new-desk.result c.args.last_line c.new-desk.ensures

pub loop-session-preserved : goal.loop-session-preserved
loop-session-preserved g c =
    sessions-more c.args.before.now (new_desk c.args.machine) c.loop-session.desk c.break_again.new.desk c.loop-session.session
    c.args.last_line c.loop-session.invariant c.break_again.ensures

pub returns : goal.returns
returns g c =
    let past : sessions ≤ c.loop-session.session = omega arith in
    sessions-end c.args.before.now (new_desk c.args.machine) c.loop-session.desk c.args.last_line sessions c.loop-session.session
    past c.loop-session.invariant
