use Rattle.trace_file.proofs.LongLemmas.{long-refused}
use Rattle.trace_file.proofs.long.refuse_long.Goals as goal

pub returns : goal.returns
returns c = λ text after f.
    long-refused c.args.machine.now text c.args.place.now c.args.arm.now after c.in_ok-ready.ready c.in_ok-ready.ensures.0 c.args.number
    c.long_fault.result f c.if-place-le-LONG_PLACE.false c.in_ok-ready.ensures.1 c.in_ok-ready.ensures.2
    (rw (← c.as_slice.ensures) (c.acts_so_deep.ensures c.if-acts_so_deep.false)) c.long_fault.ensures
