use Rattle.std.proofs.Common.{◌≡◌, ℕ, Option, subst, sym}
use Rattle.runs.specs.Live.{Live}
use Rattle.picture_drawing.specs.Asked.{IsAnswered, IsMissing}
use Rattle.picture_drawing.specs.declared.cones.Asked.{Asked}
use Rattle.picture_drawing.proofs.draw.drawing_text.Goals as goal

missing : (l m : Live) (event : Option ℕ) (asked : Asked) → l ≡ m → asked ≡ Asked.Missing → IsAnswered l event asked → IsMissing m event
missing l m event asked same is answered =
    let told : IsAnswered m event Asked.Missing =
    subst (λ (a : Asked). IsAnswered m event a) is (subst (λ (k : Live). IsAnswered k event asked) same answered) in
    subst (λ (o : Option ℕ). IsMissing m o) (sym told.1) told.2

pub returns-in-Missing : goal.returns-in-Missing
returns-in-Missing c =
    missing c.live_events-2.result.now.live c.args.machine.now.live c.args.event c.in_ok-asked_of.field-0 c.live_events-2.ensures.live
    c.in-Missing.is c.in_ok-asked_of.ensures
