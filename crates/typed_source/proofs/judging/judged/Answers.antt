use Rattle.std.proofs.Common.{[]}
use Rattle.types.proofs.public.JudgedLemmas.{judges-all}
use Rattle.typed_source.proofs.judging.judged.Goals as goal

pub returns : goal.returns
returns c =
    judges-all c.add.new.self c.args.description.now c.as_slice.result.now c.as_slice-2.result.now c.as_slice.ensures c.as_slice-2.ensures
    (c.in_ok-add.ensures.judged (record { types = c.as_slice.result.now; procedures = [] }) c.in_ok-typing.ensures)
