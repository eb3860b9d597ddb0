use Rattle.std.proofs.Common.{refl}
use Rattle.dap_requests.specs.Back.{stands_behind, stop_behind}
use Rattle.dap_requests.proofs.backward.reverse_in.Goals as goal

pub returns-clause-goes : goal.returns-clause-goes
returns-clause-goes c =
    let ended = c.rewind_in-ended.result in (
      stop_behind ended,
      stands_behind c.args.branch ended,
      c.tell_rewound.ensures,
      (ended, c.rewind_in-ended.ensures.back, refl, refl),
    )
