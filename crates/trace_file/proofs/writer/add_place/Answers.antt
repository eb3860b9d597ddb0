use Rattle.address.specs.declared.Entry.TheVariants.{Ordered}
use Rattle.trace_file.proofs.SaveLemmas.{place-more}
use Rattle.trace_file.proofs.writer.add_place.Goals as goal

pub loop-entry-preserved : goal.loop-entry-preserved
loop-entry-preserved c =
    place-more c.loop-entry.out.items c.add_entry.new.out.items c.args.out.now.items c.args.place.now c.loop-entry.entry-index (Ordered 0)
    (rw c.entries-entry-items.ensures at c.loop-entry-test.true) c.loop-entry.invariant
    (rw c.entries-entry-items.ensures at c.in_ok-add_entry.ensures.text) (rw c.entries-entry-items.ensures at c.in_ok-add_entry.ensures.fits)
