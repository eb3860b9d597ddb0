-- An entry more is noted.
use Rattle.std.proofs.Common.{◌∙◌, sym}
use Rattle.sharing_check.proofs.TableSteps.{noted_step, no_entry}
use Rattle.sharing_check.proofs.touches.Touches.add_all.Goals as goal
use Rattle.sharing_check.proofs.touches.Touches.add_all.Goals.{in-Some+in_ok-add, in_default}

pub loop-place-preserved : goal.loop-place-preserved
loop-place-preserved c =
    elim c.match-entry.branch [
      | in-Some+in_ok-add w ↦
          noted_step c.args.other.now c.loop-place.self c.match-entry.self c.loop-place.place w.in-Some.variable w.in-Some.touched
          (sym c.entry.ensures ∙ w.in-Some.is) (w.self-is ∙ w.in_ok-add.ensures.added)
          ∙ c.loop-place.invariant
      | in_default w ↦
          absurd (no_entry c.args.other.now c.loop-place.place c.len-place-end.result c.entry.result c.loop-place-test.true c.len-place-end.ensures
          c.entry.ensures w.in_default.is)
    ]
