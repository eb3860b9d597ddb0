use Rattle.std.proofs.Common.{Option, ap}
use Rattle.std.specs.Prelude.{String, string_bytes}
use Rattle.std.specs.Option.{option_map}
use Rattle.std.specs.declared.alloc.Global.{Global}
use Rattle.dap.specs.Asking.{asked_by}
use Rattle.dap.proofs.Reading.{stimulus_named, stimulus_near}
use Rattle.dap.proofs.texts.stimulus.Goals as goal

pub returns-in-Some : goal.returns-in-Some
returns-in-Some g c =
    stimulus_named (g.F.Sources.reads c.args.files.now) (asked_by c.args.asked.now) c.file.result c.as_str.result.now (string_bytes c.in-Some.name)
    c.args.answer.now c.file.new.answer
    (ap (λ (o : Option (String Global)). option_map (λ path. string_bytes path) o) c.in-Some.is) c.as_str.ensures.value c.file.ensures

pub returns-in-None : goal.returns-in-None
returns-in-None g c =
    stimulus_near (g.F.Sources.reads c.args.files.now) (asked_by c.args.asked.now) c.stimulus_beside.result c.as_str-in-None.result.now
    c.args.answer.now c.stimulus_beside.new.answer
    (ap (λ (o : Option (String Global)). option_map (λ path. string_bytes path) o) c.in-None.is) c.as_str-in-None.ensures.value
    c.stimulus_beside.ensures
