use Rattle.std.proofs.Common.{◌≡◌, refl, sym}
use Rattle.std.proofs.lemmas.Bool.{MatchBool-at_false, MatchBool-at_true}
use Rattle.locked_execution.specs.AtDesk.{AtDesk}
use Rattle.dap_requests.specs.Forth.{AreSeen, going_of}
use Rattle.dap_requests.proofs.Forward.{runs_by, runs_not}
use Rattle.dap_requests.proofs.moves.run_on.Goals as goal

pub returns-then-not-see_first-clause-goes : goal.returns-then-not-see_first-clause-goes
returns-then-not-see_first-clause-goes c =
    let before = c.args.memo.now.seen.items in
    let seen = c.see_first.new.seen.items in
    runs_not (going_of c.args.program.now c.args.only) c.args.branch c.args.desk.now before seen c.unwrap_or.result c.unwrap_or.ensures
    (MatchBool-at_false ((d : AtDesk) → d.machine ≡ c.machine.result.now → AreSeen d c.args.branch before seen) (seen ≡ before)
    c.if-not-see_first.true c.see_first.ensures)

pub returns-clause-goes : goal.returns-clause-goes
returns-clause-goes c =
    let d = c.args.desk.now in
    let before = c.args.memo.now.seen.items in
    let seen = c.see_first.new.seen.items in
    runs_by (going_of c.args.program.now c.args.only) c.args.branch d c.go_on.new.desk before seen c.go_on.new.seen.items _ c.go_on.result
    (record { first = c.unwrap_or-2.ensures; lines = c.as_slice.ensures.value; watched = c.as_slice-2.ensures.value; most = refl; only = refl })
    (MatchBool-at_true ((e : AtDesk) → e.machine ≡ c.machine.result.now → AreSeen e c.args.branch before seen) (seen ≡ before)
    c.if-not-see_first.false c.see_first.ensures d (sym c.machine.ensures)) c.go_on.ensures.runs
