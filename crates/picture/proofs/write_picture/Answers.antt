use Rattle.std.proofs.Common.{refl, sym}
use Rattle.picture.specs.Pictures.{files_of}
use Rattle.picture.proofs.Written.{picture-written, refusal-written, refused-writes}
use Rattle.picture.proofs.write_picture.Goals as goal

pub returns-in-Ok-clause-written : goal.returns-in-Ok-clause-written
returns-in-Ok-clause-written g c =
    picture-written c.args.checked c.args.trace.now (files_of c.args.source.now c.args.names) c.args.drawing c.in-Ok.pictured
    (g.W.CountedWrite.contents c.args.writer.now) (g.W.CountedWrite.contents c.picture_written.new.writer) c.picture_written.result c.in-Ok.ensures
    c.picture_written.ensures.written

pub returns-in-Err-clause-written : goal.returns-in-Err-clause-written
returns-in-Err-clause-written g c =
    refusal-written c.args.checked c.args.trace.now (files_of c.args.source.now c.args.names) c.args.drawing c.in-Err.fault
    (g.W.CountedWrite.contents c.args.writer.now) (g.W.CountedWrite.contents c.args.writer.now) c.in-Err.ensures refl

pub returns-in-Err-clause-failures : goal.returns-in-Err-clause-failures
returns-in-Err-clause-failures g c =
    sym (refused-writes c.args.checked c.args.trace.now c.in-Err.fault (g.W.CountedWrite.failed c.args.writer.now) c.in-Err.ensures)
