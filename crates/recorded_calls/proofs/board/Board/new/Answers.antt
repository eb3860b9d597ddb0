use Rattle.recorded_calls.proofs.StepLaws.{begins}
use Rattle.recorded_calls.proofs.board.Board.new.Goals as goal

pub of_words-requires : goal.of_words-requires
of_words-requires g c = begins _ _
