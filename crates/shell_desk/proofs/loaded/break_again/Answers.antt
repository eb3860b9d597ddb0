use Rattle.std.proofs.Common.{◌≤◌, arith, refl}
use Rattle.shell_desk.proofs.AgainLemmas.{lines-begin, lines-end, lines-more}
use Rattle.shell_desk.proofs.loaded.break_again.Goals as goal

pub loop-line-init : goal.loop-line-init
loop-line-init g c = lines-begin c.args.before.now c.args.desk.now c.args.desk.now c.args.session refl

pub loop-line-preserved : goal.loop-line-preserved
loop-line-preserved g c =
    lines-more c.args.before.now c.args.desk.now c.loop-line.desk c.break_on.new.desk c.args.session c.loop-line.line
    c.loop-line.invariant c.break_on.ensures

pub returns : goal.returns
returns g c =
    let past : c.args.last_line ≤ c.loop-line.line = omega arith in
    lines-end c.args.before.now c.args.desk.now c.loop-line.desk c.args.session c.args.last_line c.loop-line.line past
    c.loop-line.invariant
