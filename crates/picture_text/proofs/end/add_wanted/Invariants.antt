use Rattle.std.proofs.Common.{◌≡◌, drop, map}
use Rattle.json_text.specs.Values.{with_values}
use Rattle.picture_text.specs.DataText.{wanted_text}
use Rattle.picture_text.proofs.end.add_wanted.Given as goal

-- with those that are left, all are there
abbrev pub invariant-loop-one : goal.invariant-loop-one
invariant-loop-one l =
    with_values l.json (map wanted_text (drop l.one-index l.wanted)) ≡ with_values l.initial.json (map wanted_text l.wanted)
