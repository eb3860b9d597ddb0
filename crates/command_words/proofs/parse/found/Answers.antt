use Rattle.std.proofs.Common.{map}
use Rattle.command_words.proofs.Handing.{refused}
use Rattle.command_words.proofs.WordLemmas.{faulty, found_in, passed}
use Rattle.command_words.proofs.parse.found.Goals as goal

pub returns-in_err-matches : goal.returns-in_err-matches
returns-in_err-matches g c =
    refused c.from_residual.result c.in_err-matches.field-0.0 _ _ (
      passed (map g.S.AsStr.text c.args.words.now) c.args.program.now c.in_err-matches.field-0.0 c.requires
          c.in_err-matches.ensures.passes,
      faulty (map g.S.AsStr.text c.args.words.now) c.args.program.now c.in_err-matches.field-0.0 c.requires
          c.in_err-matches.ensures.kinds,
    )
    c.from_residual.ensures.1

pub returns : goal.returns
returns g c =
    found_in (map g.S.AsStr.text c.args.words.now) c.args.program.now c.in_ok-matches.matches c.chosen.result c.requires
    c.in_ok-matches.ensures.ok.2 c.in_ok-matches.ensures.kinds c.chosen.ensures
