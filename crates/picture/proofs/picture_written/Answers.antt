use Rattle.std.proofs.Common.{ℕ, List, refl, subst, sym}
use Rattle.picture.specs.internal.Writing.{WritesPictured, WritesText}
use Rattle.picture.specs.declared.Pictured.{Pictured}
use Rattle.picture.proofs.picture_written.Goals as goal

pub returns-in-Text-clause-written : goal.returns-in-Text-clause-written
returns-in-Text-clause-written g c =
    subst
    (λ (p : Pictured). WritesPictured p (g.W.CountedWrite.contents c.args.writer.now) (g.W.CountedWrite.contents c.text_written.new.writer)
    c.text_written.result)
    (sym c.in-Text.is)
    (subst
    (λ (bytes : List ℕ). WritesText bytes (g.W.CountedWrite.contents c.args.writer.now) (g.W.CountedWrite.contents c.text_written.new.writer)
    c.text_written.result)
    c.as_slice.ensures.value c.text_written.ensures.written)
