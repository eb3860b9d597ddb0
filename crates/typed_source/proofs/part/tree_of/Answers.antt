use Rattle.typed_source.proofs.PartLemmas.{refuses_end}
use Rattle.typed_source.proofs.part.tree_of.Goals as goal

pub returns-in-Err : goal.returns-in-Err
returns-in-Err c = record {
  read = tt;
  fault = λ old reads.
      rw c.from.ensures (refuses_end c.args.is_last old c.args.lexing c.args.tokens.now.items c.in-Err.fault c.if-is_last.true reads (rw c.as_slice.ensures.value at c.in-Err.ensures.fault));
}
