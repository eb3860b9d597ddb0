use Rattle.std.proofs.Common.{◌≡◌, true, false, Option, ap, refl, sym, ◌∙◌}
use Rattle.std.specs.Prelude.{is_some}
use Rattle.serde_json.specs.View.{view}
use Rattle.dap_views.specs.declared.program.Counting.{Counting}
use Rattle.dap.proofs.Opening.{meets_again, meets_first}
use Rattle.dap.proofs.face.Face.initialize.Goals as goal

pub returns-in-Some-clause-client : goal.returns-in-Some-clause-client
returns-in-Some-clause-client c = λ done. meets_again c.args.self.now.client _ (view c.args.request.now.arguments) c.refuse.new.self c.in-Some.is

pub returns-in-None-clause-client : goal.returns-in-None-clause-client
returns-in-None-clause-client c = λ done.
    meets_first c.args.self.now.client c.meet.new.self.client (view c.args.request.now.arguments) c.meet.new.answer c.in-None.is
    (c.meet.ensures.client done)

pub returns-in-Some-clause-again : goal.returns-in-Some-clause-again
returns-in-Some-clause-again c = λ known. (c.refuse.ensures.refused, refl)

pub returns-in-None-clause-again : goal.returns-in-None-clause-again
returns-in-None-clause-again c = λ known.
    let no : true ≡ false = sym known ∙ ap (λ (o : Option Counting). is_some o) c.in-None.is in absurd (cc)
