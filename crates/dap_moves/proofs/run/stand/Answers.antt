use Rattle.std.proofs.Common.{inl, inr, refl}
use Rattle.runs.specs.Choices.{choice_of}
use Rattle.dap_moves.proofs.Passing.{kept_not, kept_when}
use Rattle.dap_moves.proofs.run.stand.Goals as goal

pub returns-then-keep : goal.returns-then-keep
returns-then-keep c =
    inl (refl, kept_when c.keep.result c.args.seen.now.items (choice_of c.args.event.now) c.keep.new.seen.items c.if-keep.true c.keep.ensures)

pub returns-else-keep : goal.returns-else-keep
returns-else-keep c =
    inr (refl, kept_not c.keep.result c.args.seen.now.items (choice_of c.args.event.now) c.keep.new.seen.items c.if-keep.false c.keep.ensures)
