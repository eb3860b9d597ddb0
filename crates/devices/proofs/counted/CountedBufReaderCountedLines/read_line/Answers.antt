use Rattle.std.specs.Io.Buffered.{reader_remaining}
use Rattle.devices.proofs.LineLemmas.{takes-ended, takes-last, takes-part}
use Rattle.devices.proofs.counted.CountedBufReaderCountedLines.read_line.Goals as goal

pub returns-then-strip_end-clause-line : goal.returns-then-strip_end-clause-line
returns-then-strip_end-clause-line g c =
    takes-ended (reader_remaining g.R.Read.remaining c.args.self.now.device) (reader_remaining g.R.Read.remaining c.read_through-read.new.self.device) c.clear.new.self.items
    c.read_through-read.new.line.items c.strip_end.new.line.items c.clear.ensures.items c.if-strip_end.ensures.0
    c.read_through-read.ensures.stops c.read_through-read.ensures.none_lost

pub returns-in-Ok-clause-line : goal.returns-in-Ok-clause-line
returns-in-Ok-clause-line g c =
    takes-last (reader_remaining g.R.Read.remaining c.args.self.now.device) (reader_remaining g.R.Read.remaining c.read_through-read.new.self.device) c.clear.new.self.items
    c.read_through-read.new.line.items c.strip_end.new.line.items c.clear.ensures.items c.if-strip_end.ensures
    c.read_through-read.ensures.stops c.read_through-read.ensures.none_lost c.in-Ok.ensures.bytes c.in-Ok.ensures.rest

pub returns-in-Err-clause-line : goal.returns-in-Err-clause-line
returns-in-Err-clause-line g c =
    takes-part (reader_remaining g.R.Read.remaining c.args.self.now.device) (reader_remaining g.R.Read.remaining c.read_through-read.new.self.device) c.clear.new.self.items
    c.read_through-read.new.line.items c.strip_end.new.line.items c.clear.ensures.items c.if-strip_end.ensures
    c.read_through-read.ensures.stops c.read_through-read.ensures.none_lost
