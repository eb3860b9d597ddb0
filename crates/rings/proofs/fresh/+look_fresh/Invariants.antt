-- From the last child down to this one all is found.
use Rattle.std.proofs.Common.{◌≡◌, ◌≤◌, ◌++◌, drop, length, map}
use Rattle.process_tree.specs.Translation.{row_of}
use Rattle.process_tree.specs.View.{code_view}
use Rattle.rings.specs.internal.Ends.{codes_sum, gathered, line_sum, line_tail, sum_of}
use Rattle.rings.proofs.Rows.{fresh-in-turn, fresh-tail, fresh-abreast}
use Rattle.rings.proofs.fresh.+look_fresh.Given as goal

abbrev pub invariant-look_in_turn-children : goal.invariant-look_in_turn-children
invariant-look_in_turn-children l =
    (l.number ≤ length l.codes)
    × (line_sum l.line ≡ fresh-in-turn l.wanted l.codes l.number)
    × (line_tail l.line ≡ fresh-tail l.wanted l.codes l.number)

abbrev pub decreases-look_in_turn-children : goal.decreases-look_in_turn-children
decreases-look_in_turn-children l = l.number

abbrev pub invariant-look_abreast-children : goal.invariant-look_abreast-children
invariant-look_abreast-children l = (l.number ≤ length l.codes) × (sum_of l.found ≡ fresh-abreast l.wanted l.codes l.number)

abbrev pub decreases-look_abreast-children : goal.decreases-look_abreast-children
decreases-look_abreast-children l = l.number

abbrev pub invariant-gather-loop-code : goal.invariant-gather-loop-code
invariant-gather-loop-code l =
    l.ends.items ++ gathered l.kind (codes_sum l.wanted (row_of (map code_view (drop l.code-index l.codes))))
    ≡ l.initial.ends.items ++ gathered l.kind (codes_sum l.wanted (row_of (map code_view l.codes)))
