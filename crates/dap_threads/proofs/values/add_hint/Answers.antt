use Rattle.std.proofs.Common.{codes}
use Rattle.serde_json.specs.Data.{string}
use Rattle.dap_messages.proofs.public.Held.{has_stays}
use Rattle.dap_threads.proofs.values.add_hint.Goals as goal

pub returns-in-Variables : goal.returns-in-Variables
returns-in-Variables c = λ name d apart before.
    has_stays c.args.scope.now c.text.new.self name (codes "presentationHint") d (string (codes "locals")) apart c.text.ensures before
