use Rattle.std.proofs.Common.{◌≡◌, [], ◌⊎◌, inr}
use Rattle.std.proofs.lemmas.Result.{IfErr-weaker}
use Rattle.types.specs.Declarations.{found_description}
use Rattle.types.specs.Findings.{IsRefused}
use Rattle.types.specs.internal.Judged.{Judges}
use Rattle.refusals.specs.declared.types.Fault.TheVariants.{Memory}
use Rattle.types.proofs.public.JudgedLemmas.{judges-all}
use Rattle.types.proofs.check_types.Goals as goal

pub returns : goal.returns
returns c =
    let d = c.args.description.now in
    let is : Judges c.add.new.self d =
    judges-all c.add.new.self d c.as_slice.result.now c.as_slice-2.result.now c.as_slice.ensures c.as_slice-2.ensures
    (c.in_ok-add.ensures.judged (record { types = c.as_slice.result.now; procedures = [] }) c.in_ok-typing.ensures) in
    record {
      typed = c.finish.ensures.typed d is;
      fault = IfErr-weaker c.finish.result (IsRefused (found_description d)) (λ fault. (fault ≡ Memory) ⊎ IsRefused (found_description d) fault) (λ _ found. inr found) (c.finish.ensures.fault d is);
    }
