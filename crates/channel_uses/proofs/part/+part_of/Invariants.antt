use Rattle.std.proofs.Common.{map, drop}
use Rattle.process_tree.specs.Translation.{row_of}
use Rattle.process_tree.specs.View.{code_view}
use Rattle.channel_uses.proofs.Parts.{RowSoFar}
use Rattle.channel_uses.proofs.part.+part_of.Given as goal

abbrev pub invariant-part_of_row-loop-code : goal.invariant-part_of_row-loop-code
invariant-part_of_row-loop-code l =
    RowSoFar (row_of (map code_view l.codes)) (row_of (map code_view (drop l.code-index l.codes))) l.initial.uses.items l.uses.items l.parts
