use Rattle.trace_file.proofs.SaveLemmas.{Written}
use Rattle.trace_file.proofs.writer.write_events.Given as goal

-- the lines of the events at the places passed are written
abbrev pub invariant-loop-index : goal.invariant-loop-index
invariant-loop-index l = Written l.out.items l.live.live l.index-items l.index-index
