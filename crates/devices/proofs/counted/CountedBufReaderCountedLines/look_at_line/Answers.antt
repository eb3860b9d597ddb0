use Rattle.std.proofs.Common.{ℕ, List, ◌++◌, length, take, subst, ap, ◌∙◌}
use Rattle.std.specs.Io.Buffered.{reader_buffer}
use Rattle.memchr.specs.Find.{is_byte, Passes, NoneBefore}
use Rattle.devices.proofs.BufferLemmas.{line-first}
use Rattle.devices.proofs.counted.CountedBufReaderCountedLines.look_at_line.Goals as goal

pub returns : goal.returns
returns g c =
    let buffer : List ℕ = reader_buffer c.args.self.now.device in
    let end : ℕ = c.in-Some.end in
    let found : NoneBefore (Passes (is_byte 10) buffer) 0 (length buffer) end × Passes (is_byte 10) buffer end =
    subst (λ t. NoneBefore (Passes (is_byte 10) t) 0 (length t) end × Passes (is_byte 10) t end) c.buffer.ensures c.in-Some.ensures in
    line-first buffer c.extend_from_slice.new.self.items end found.0 found.1
    (c.in_ok-extend_from_slice.ensures.items ∙ (ap (λ t. t ++ take end c.buffer-2.result.now) c.clear.ensures.items ∙ ap (take end) c.buffer-2.ensures))
