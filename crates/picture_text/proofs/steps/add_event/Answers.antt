use Rattle.std.proofs.Common.{◌∙◌, List, ℕ, ap}
use Rattle.std.proofs.lemmas.Result.{on_ok_weaker}
use Rattle.json_text.specs.Values.{string_text, with_value}
use Rattle.picture_text.proofs.EventLine.{inner-of-line, long-enough}
use Rattle.picture_text.proofs.steps.add_event.Goals as goal

pub inner-requires : goal.inner-requires
inner-requires c =
    long-enough c.args.system.now c.args.event.now c.as_slice.result.now (c.as_slice.ensures.value ∙ c.in_ok-write_event.ensures)

pub returns : goal.returns
returns c =
    on_ok_weaker c.text.result
    (λ is. is ∙ ap (λ (t : List ℕ). with_value c.args.json.now (string_text t))
    (c.inner.ensures
    ∙ inner-of-line c.args.system.now c.args.event.now c.as_slice.result.now
    (c.as_slice.ensures.value ∙ c.in_ok-write_event.ensures)))
    c.text.ensures
