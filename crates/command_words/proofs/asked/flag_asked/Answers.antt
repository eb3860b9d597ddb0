use Rattle.clap.specs.Words.{found_of}
use Rattle.command_words.proofs.WordLemmas.{flag_of_row}
use Rattle.command_words.proofs.asked.flag_asked.Goals as goal

pub returns : goal.returns
returns c = flag_of_row (found_of c.args.words.now) c.args.name.now c.get_flag.result c.get_flag.ensures.none
    c.get_flag.ensures.value c.get_flag.ensures.other
