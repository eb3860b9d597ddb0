use Rattle.std.proofs.Common.{◌≡◌, drop, map}
use Rattle.json_text.specs.Values.{with_values}
use Rattle.picture_text.specs.DataText.{place_row}
use Rattle.picture_text.proofs.end.add_places.Given as goal

-- with those that are left, all are there
abbrev pub invariant-loop-place : goal.invariant-loop-place
invariant-loop-place l =
    with_values l.json (map place_row (drop l.place-index l.place-items)) ≡ with_values l.initial.json (map place_row l.place-items)
