use Rattle.std.proofs.Common.{[], ◌∷◌}
use Rattle.recorded_calls.specs.History.{entry_of}
use Rattle.recorded_calls.specs.Seats.{number}
use Rattle.recorded_calls.proofs.board.Board.record.Given as goal

-- the entry that is recorded
abbrev pub ghosts-record_named : goal.ghosts-record_named
ghosts-record_named g a = record { entries = entry_of (number a.pass.now) a._command.now a._reply.now ∷ [] }
