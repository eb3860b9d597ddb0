use Rattle.clap.specs.Words.{found_of, rows_of}
use Rattle.command_words.proofs.WordLemmas.{chosen_by, named_in, none_in}
use Rattle.command_words.proofs.asked.chosen.Goals as goal

pub returns-in_err-found : goal.returns-in_err-found
returns-in_err-found c = rw c.from_residual.ensures
    (none_in c.args.matches.now c.subcommand.result c.subcommand.ensures.rows c.in_err-found.was)

pub returns : goal.returns
returns c = chosen_by c.args.matches.now c.in_ok-found.found.0.now (rows_of (found_of c.in_ok-found.found.1.now))
    c.request_of.result
    (named_in c.args.matches.now c.subcommand.result c.in_ok-found.found c.subcommand.ensures.name
    c.subcommand.ensures.rows c.in_ok-found.was)
    c.request_of.ensures
