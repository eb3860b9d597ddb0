use Rattle.std.proofs.Common.{◌≡◌, drop, map}
use Rattle.json_text.specs.Values.{item_text, with_values}
use Rattle.json_text.proofs.writer.Json.items.Given as goal

-- with those that are left, all are there
abbrev pub invariant-loop-item : goal.invariant-loop-item
invariant-loop-item l =
    with_values l.self (map item_text (drop l.item-index l.items)) ≡ with_values l.initial.self (map item_text l.items)
