-- The lines on which a breakpoint may stand, as a client asks for them.
use Rattle.std.specs.Prelude.{ℕ, suc, zero, ◌+◌, ◌-◌, ◌==◌, min, Bool, if◌then◌else◌, List, [], ◌∷◌, Option, None, Some, codes, count_by, map, unwrap_or}
use Rattle.serde_json.specs.Data.{Data}
use Rattle.system.specs.declared.command.Command.{Command}
use Rattle.dap_messages.specs.Arguments.{number_named}
use Rattle.dap_messages.specs.Notes.{IsRefusal}
use Rattle.dap_messages.specs.declared.answer.Answer.{Answer}
use Rattle.dap_moves.specs.Stops.{stops}
use Rattle.dap_views.specs.Counted.{at_most_all, meant_line, shown_line}
use Rattle.dap_views.specs.declared.program.Program.{Program}
use Rattle.dap_requests.specs.Lists.{Lists}
use Rattle.dap_requests.specs.Sets.{is_own, path_in}
use Rattle.dap_requests.specs.declared.places.TheConstants.{MOST_LOCATIONS}

-- of so many lines from this one on those on which a command can be an action of an event, in order
abbrev pub stops_from : Command → ℕ → ℕ → List ℕ
stops_from c line zero = []
stops_from c line (suc n) = if stops line c then line ∷ stops_from c (line + 1) n else stops_from c (line + 1) n

-- the line behind the last of a source
abbrev pub behind_last : List ℕ → ℕ
behind_last source = at_most_all (count_by (λ x. x == 10) source) 2

-- the line behind those that are looked at, where they are asked for from `first` up to `last`: there are 10,000 of
-- them at most, and none behind the last of the source
abbrev pub behind_asked : List ℕ → ℕ → ℕ → ℕ
behind_asked source first last = min (min (at_most_all last 1) (at_most_all first MOST_LOCATIONS)) (behind_last source)

-- of those that are looked at those that stop
abbrev pub stops_between : Command → List ℕ → ℕ → ℕ → List ℕ
stops_between c source first last = stops_from c first (behind_asked source first last - first)

-- the lines on which one may stand in the file that is debugged, from a line of the client up to another; in another
-- file there are none
abbrev pub places_on : Bool → Command → Program → ℕ → ℕ → List ℕ
places_on own c p line last =
    if own then stops_between c p.source.items (meant_line p line) (meant_line p last) else []

-- the last line that is asked for: the first, where no other is
abbrev pub last_asked : Data → ℕ → ℕ
last_asked d line = unwrap_or (number_named (codes "endLine") d) line

-- what an item tells of a line, and what is to be told of each, as the client counts
abbrev pub line_told : Data → Option ℕ
line_told d = number_named (codes "line") d

abbrev pub told_lines : Program → List ℕ → List (Option ℕ)
told_lines p lines = map (λ line. Some (shown_line p line)) lines

-- exactly these lines are listed, in order, of the file that is named; it is refused where no line is asked for
abbrev pub LocatesOn : Option ℕ → Command → Data → Program → Answer → Type 0
LocatesOn None c d p b = IsRefusal b.outcome
LocatesOn (Some line) c d p b =
    Lists line_told (told_lines p (places_on (is_own p (path_in d)) c p line (last_asked d line))) b

abbrev pub Locates : Command → Data → Program → Answer → Type 0
Locates c d p b = LocatesOn (number_named (codes "line") d) c d p b
