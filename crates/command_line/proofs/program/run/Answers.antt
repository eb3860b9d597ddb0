use Rattle.std.proofs.Common.{map, inl, inr, refl}
use Rattle.file_answers.specs.Used.{used}
use Rattle.command_line.proofs.RunningLemmas.{nothing-has-text, tells-unasked}
use Rattle.command_line.proofs.program.run.Goals as goal

pub returns-in-Ok-clause-run : goal.returns-in-Ok-clause-run
returns-in-Ok-clause-run g c =
    let served = c.serve.ensures.served in
    inl (c.in-Ok.request, c.in-Ok.ensures, served.0, c.serve.result.told, served.1, served.2, served.3, served.4, served.5, served.6)

pub tell_unasked-requires : goal.tell_unasked-requires
tell_unasked-requires g c =
    nothing-has-text (map g.S.AsStr.text c.args.words.now) c.in-Err.unasked c.in-Err.ensures

pub returns-in-Err-clause-run : goal.returns-in-Err-clause-run
returns-in-Err-clause-run g c = inr (
  refl,
  tells-unasked (map g.S.AsStr.text c.args.words.now) c.in-Err.unasked c.tell_unasked.result
      (used g.O.Write.contents c.args.out.now c.tell_unasked.new.out)
      (used g.E.Write.contents c.args.err.now c.tell_unasked.new.err) c.in-Err.ensures c.tell_unasked.ensures.told,
)
