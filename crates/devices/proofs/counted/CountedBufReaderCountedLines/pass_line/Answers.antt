use Rattle.std.proofs.Common.{List, ℕ, ◌∷◌, [], ◌++◌, sym, ap, ◌∙◌, append_assoc}
use Rattle.std.specs.Io.Buffered.{reader_buffer, reader_capacity, reader_inner}
use Rattle.devices.proofs.BufferLemmas.{line-passed, taken-front}
use Rattle.devices.proofs.counted.CountedBufReaderCountedLines.pass_line.Goals as goal

pub returns-clause-bytes : goal.returns-clause-bytes
returns-clause-bytes g c =
    let buffer : List ℕ = reader_buffer c.args.self.now.device in
    let left : List ℕ = reader_buffer c.consume.new.self in
    taken-front (reader_capacity c.args.self.now.device) (reader_capacity c.consume.new.self) buffer left (c.args.line.now ++ 10 ∷ [])
    (g.R.Read.remaining (reader_inner c.args.self.now.device)) (g.R.Read.remaining (reader_inner c.consume.new.self))
    c.consume.ensures.capacity (ap g.R.Read.remaining c.consume.ensures.inner)
    (line-passed buffer left c.args.line.now c.requires.1 c.consume.ensures.buffer ∙ sym (append_assoc c.args.line.now (10 ∷ []) left))

pub returns-clause-buffered : goal.returns-clause-buffered
returns-clause-buffered g c =
    line-passed (reader_buffer c.args.self.now.device) (reader_buffer c.consume.new.self) c.args.line.now c.requires.1 c.consume.ensures.buffer
