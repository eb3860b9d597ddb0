-- An entry more is noted, and compared.
use Rattle.std.proofs.Common.{◌∙◌, sym}
use Rattle.sharing_check.proofs.TableSteps.{noted_step, least_step, no_entry}
use Rattle.sharing_check.proofs.touches.Touches.add_branch.Goals as goal
use Rattle.sharing_check.proofs.touches.Touches.add_branch.Goals.{in-Some+in_ok-before, in_default}

pub loop-place-preserved : goal.loop-place-preserved
loop-place-preserved c =
    elim c.match-entry.branch [
      | in-Some+in_ok-before w ↦ record {
        added =
            noted_step c.args.other.now c.loop-place.self c.match-entry.self c.loop-place.place w.in-Some.variable w.in-Some.touched
            (sym c.entry.ensures ∙ w.in-Some.is) (w.self-is ∙ w.in_ok-before.ensures.added)
            ∙ c.loop-place.invariant.added;
        least =
            least_step c.args.variables.now c.args.other.now c.loop-place.self c.match-entry.self c.loop-place.place w.in-Some.variable w.in-Some.touched
            w.in_ok-before.before w.clash.result c.loop-place.least c.match-entry.least
            (sym c.entry.ensures ∙ w.in-Some.is) (w.self-is ∙ w.in_ok-before.ensures.added) w.in_ok-before.ensures.before w.clash.ensures
            (w.least-is ∙ w.with_clash-least.ensures)
            ∙ c.loop-place.invariant.least;
      }
      | in_default w ↦
          absurd (no_entry c.args.other.now c.loop-place.place c.len-place-end.result c.entry.result c.loop-place-test.true c.len-place-end.ensures
          c.entry.ensures w.in_default.is)
    ]
