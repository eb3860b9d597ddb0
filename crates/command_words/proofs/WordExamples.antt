-- Words that the program takes, words that it does not, and words that ask for help. No proof needs them: they show that there are words of
-- each kind.
use Rattle.std.proofs.Common.{[], ◌∷◌, ◌≡◌, List, Some, codes, true, false, refl}
use Rattle.std.specs.Prelude.{option_map}
use Rattle.clap.specs.Words.{Text, fault_of, first_of, subcommand_of, takes}
use Rattle.clap.specs.declared.error.kind.ErrorKind.TheVariants.{DisplayHelp, DisplayVersion, MissingRequiredArgument}
use Rattle.clap.proofs.OnLiterals.{clap_on_literals}
use Rattle.command_words.specs.Words.{Named, program}

-- `balsadbg check a`
abbrev pub check_of_a : List Text
check_of_a = codes "balsadbg" ∷ codes "check" ∷ codes "a" ∷ []

pub a_check_is_taken : takes program check_of_a ≡ true
unfolding clap_on_literals
a_check_is_taken = refl

pub no_fault_is_in_it : fault_of program check_of_a ≡ []
unfolding clap_on_literals
no_fault_is_in_it = refl

pub its_file_is_a : option_map (λ (p : Named). first_of (codes "FILE") p.1) (subcommand_of program check_of_a) ≡ Some (Some (codes "a"))
unfolding clap_on_literals
its_file_is_a = refl

pub work_with_numbers_is_taken : takes program (codes "balsadbg" ∷ codes "work" ∷ codes "a" ∷ codes "b" ∷ codes "--workers" ∷ codes "4" ∷ codes "--turns" ∷ codes "100" ∷ []) ≡ true
unfolding clap_on_literals
work_with_numbers_is_taken = refl

pub a_check_of_two_files_is_not : takes program (codes "balsadbg" ∷ codes "check" ∷ codes "a" ∷ codes "b" ∷ []) ≡ false
unfolding clap_on_literals
a_check_of_two_files_is_not = refl

pub a_debug_without_stimulus_is_mistaken : fault_of program (codes "balsadbg" ∷ codes "debug" ∷ codes "a" ∷ []) ≡ MissingRequiredArgument ∷ []
unfolding clap_on_literals
a_debug_without_stimulus_is_mistaken = refl

pub seventeen_workers_are_not : takes program (codes "balsadbg" ∷ codes "work" ∷ codes "a" ∷ codes "b" ∷ codes "--workers" ∷ codes "17" ∷ codes "--turns" ∷ codes "100" ∷ []) ≡ false
unfolding clap_on_literals
seventeen_workers_are_not = refl

pub help_of_check_is_asked_for : fault_of program (codes "balsadbg" ∷ codes "check" ∷ codes "--help" ∷ []) ≡ DisplayHelp ∷ []
unfolding clap_on_literals
help_of_check_is_asked_for = refl

pub the_version_is_asked_for : fault_of program (codes "balsadbg" ∷ codes "--version" ∷ []) ≡ DisplayVersion ∷ []
unfolding clap_on_literals
the_version_is_asked_for = refl
