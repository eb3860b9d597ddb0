-- The line of a place.
use Rattle.system_places.proofs.ActingLines.{lines-are-begun}
use Rattle.system_places.proofs.laws.line_law.Goals as goal

pub returns : goal.returns
returns c = lines-are-begun
