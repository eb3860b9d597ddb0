use Rattle.std.proofs.Common.{◌≡◌, drop, map}
use Rattle.json_text.specs.Values.{with_values}
use Rattle.picture_text.specs.DataText.{race_text}
use Rattle.picture_text.proofs.steps.add_races.Given as goal

-- with those that are left, all are there
abbrev pub invariant-loop-race : goal.invariant-loop-race
invariant-loop-race l =
    with_values l.json (map race_text (drop l.race-index l.races)) ≡ with_values l.initial.json (map race_text l.races)
