-- What a launch asks for.
use Rattle.std.specs.Prelude.{ℕ, ◌≡◌, ◌-◌, ◌==◌, ◌||◌, Bool, false, true, not, List, [], ◌∷◌, ◌++◌, Option, None, Some, codes, if◌then◌else◌, is_some, length, nat_eq, nat_lt, option_and_then, string_bytes, take, unwrap_or}
use Rattle.std.specs.List.{ends_with}
use Rattle.std.specs.Option.{option_map, option_map_or}
use Rattle.serde_json.specs.Data.{Data}
use Rattle.serde_json.specs.Find.{as_bool, as_number, as_str, as_u64}
use Rattle.dap_messages.specs.Arguments.{flag_named, number_named, part_named, text_named}
use Rattle.dap_views.specs.Paths.{is_rooted, own_name}
use Rattle.dap_views.specs.declared.program.Launch.{Launch}
use Rattle.dap.specs.declared.asked.Wanted.{Wanted}

-- a letter before the rest of a folder; a `/` at the end does not stay
abbrev pub before_rest : ℕ → List ℕ → List ℕ
before_rest letter [] = if letter == 47 then [] else letter ∷ []
before_rest letter (x ∷ xs) = letter ∷ x ∷ xs

-- a folder without each `/` at its end
abbrev pub unslashed : List ℕ → List ℕ
unslashed [] = []
unslashed (letter ∷ folder) = before_rest letter (unslashed folder)

-- the path of the file of this name: one that does not begin at a root counts from the folder
abbrev pub within : List ℕ → List ℕ → List ℕ
within folder name = if is_rooted name then name else (unslashed folder ++ codes "/") ++ own_name name

-- the same, where a folder is named
abbrev pub whole : List ℕ → List ℕ → List ℕ
whole [] name = name
whole (x ∷ xs) name = within (x ∷ xs) name

-- the path of a source, without its ending
abbrev pub stem : List ℕ → List ℕ
stem program = if ends_with nat_eq program (codes ".balsa") then take (length program - 6) program else program

-- the path of the stimulus beside a source
abbrev pub beside : List ℕ → List ℕ
beside program = stem program ++ codes ".stimulus"

-- the text of this name, empty where there is none
abbrev pub text_given : List ℕ → Data → List ℕ
text_given name d = unwrap_or (text_named name d) []

-- the path of a file, where one is named
abbrev pub path_in : List ℕ → List ℕ → Option (List ℕ)
path_in folder [] = None
path_in folder (x ∷ xs) = Some (whole folder (x ∷ xs))

-- the path that the member of this name tells, which counts from the member `cwd`
abbrev pub path_named : List ℕ → Data → Option (List ℕ)
path_named name d = path_in (text_given (codes "cwd") d) (text_given name d)

-- what is asked to launch
pub record Asks : Type 0 where
  pub program : List ℕ
  pub stimulus : Option (List ℕ)
  pub trace : Option (List ℕ)
  pub stops : Bool
  pub most : ℕ
  pub free : Bool

-- the same of a launch, wherever its texts lie in memory
abbrev pub asked_by : Launch → Asks
asked_by l = record {
  program = string_bytes l.program;
  stimulus = option_map (λ path. string_bytes path) l.stimulus;
  trace = option_map (λ path. string_bytes path) l.trace;
  stops = l.stops;
  most = l.most;
  free = l.free;
}

-- whether it is a number from 1 on
abbrev pub is_positive : Option ℕ → Bool
is_positive None = false
is_positive (Some number) = nat_lt 0 number

-- whether a value is what an argument should be
abbrev pub is_wanted : Wanted → Data → Bool
is_wanted Wanted.Text d = is_some (as_str d)
is_wanted Wanted.Flag d = is_some (as_bool d)
is_wanted Wanted.Number d = is_positive (option_and_then as_u64 (as_number d))

-- whether the member of this name is there, and is not what it should be
abbrev pub is_wrong : Wanted → List ℕ → Data → Bool
is_wrong wanted name d = option_map_or (λ v. not (is_wanted wanted v)) (part_named name d) false

-- whether an argument of a launch is not what it should be
abbrev pub has_wrong_text : Data → Bool
has_wrong_text d =
    is_wrong Wanted.Text (codes "program") d || is_wrong Wanted.Text (codes "cwd") d
    || is_wrong Wanted.Text (codes "stimulus") d || is_wrong Wanted.Text (codes "trace") d

abbrev pub has_wrong_option : Data → Bool
has_wrong_option d =
    is_wrong Wanted.Flag (codes "stopOnEntry") d || is_wrong Wanted.Flag (codes "noDebug") d
    || is_wrong Wanted.Number (codes "maxSteps") d

abbrev pub has_wrong : Data → Bool
has_wrong d = has_wrong_text d || has_wrong_option d

-- these arguments ask for it
pub record IsAsked (d : Data) (l : Asks) : Type 0 where
  pub right : has_wrong d ≡ false
  pub program : path_named (codes "program") d ≡ Some l.program
  pub stimulus : l.stimulus ≡ path_named (codes "stimulus") d
  pub trace : l.trace ≡ path_named (codes "trace") d
  pub stops : l.stops ≡ unwrap_or (flag_named (codes "stopOnEntry") d) true
  pub most : l.most ≡ unwrap_or (number_named (codes "maxSteps") d) 10000
  pub free : l.free ≡ unwrap_or (flag_named (codes "noDebug") d) false
