use Rattle.std.proofs.Common.{◌∙◌, ℕ, List, sym, subst}
use Rattle.std.specs.Io.KnownBytes.{Appends}
use Rattle.trace_file.proofs.writer.save.Goals as goal

pub returns-in-Ok-clause-equal : goal.returns-in-Ok-clause-equal
returns-in-Ok-clause-equal g c k other there back too =
    let given = c.in-Ok.ensures.bytes in
    subst (λ (bytes : List ℕ). Appends (g.W.CountedWrite.contents c.args.writer.now) (g.W.CountedWrite.contents c.write_out.new.writer) bytes)
    (given.2 ∙ (c.as_slice.ensures.value ∙ sym (c.in_ok-text.ensures.equal k other there back too))) given.1
