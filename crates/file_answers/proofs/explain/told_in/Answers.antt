use Rattle.std.proofs.Common.{ℕ, List, Some, ap, subst, sym, ◌∙◌}
use Rattle.std.specs.Prelude.{Vec}
use Rattle.std.specs.Global.{Global}
use Rattle.diagnosis.specs.Told.{TellsFault}
use Rattle.diagnosis.specs.declared.told.Inputs.{Inputs}
use Rattle.file_answers.specs.Explained.{script_of}
use Rattle.file_answers.specs.Kept.{kept_of}
use Rattle.file_answers.proofs.ExplainingLemmas.{told-of}
use Rattle.file_answers.proofs.explain.told_in.Goals as goal

pub returns : goal.returns
returns c =
    let inputs : Inputs =
    record {
      source = record { name = c.file_of.result; bytes = c.as_slice-2.result };
      stimulus = Some (record { name = c.stimulus_of.result; bytes = c.as_slice-3.result });
      trace = Some (record { name = c.trace_of.result; bytes = c.as_slice-4.result });
      script = Some (record { name = c.script_name.result; bytes = c.as_slice-5.result });
      unread = c.unread_file.result;
    } in
    told-of c.args.request.now (kept_of c.args.texts.now) c.args.fault inputs c.into_bytes.result.items c.number.result
    c.field.result
    (record {
      source = (c.file_of.ensures, c.as_slice-2.ensures.value);
      stimulus = (c.stimulus_of.ensures, c.as_slice-3.ensures.value);
      trace = (c.trace_of.ensures, c.as_slice-4.ensures.value);
      script = (
        c.script_name.ensures,
        c.as_slice-5.ensures.value ∙ c.in_ok-script.ensures
            ∙ ap (λ (line : List ℕ). script_of c.args.fault line) c.as_slice.ensures.value,
      );
    })
    c.number.ensures c.field.ensures
    (subst (λ (v : Vec ℕ Global). TellsFault c.number.result c.field.result inputs v.items) (sym c.into_bytes.ensures.value)
    c.in_ok-words.ensures)
