-- The commands whose places an address may be, and their lines, whichever arms were taken.
--
-- A place at the command p: an assignment and a receive p itself; a send and a sync p.0 and p.1; a loop and a while
-- p.(2k), with the body at p.(2k + 1), for each turn k; an `if` and a `case` p.0, with the chosen arm at p.1; an
-- enclosed input, a
-- `select` and an `arbitrate` p.0 and p.2, with the body of the opened arm at p.1; child i of a sequence stands at p.i,
-- and
-- child i of a parallel at p/i. So the arms of one choice have the same places, and an address may be a place of
-- several commands. Of which one it is once an arm was taken, `TakenArms` says.
use Rattle.std.specs.Prelude.{ℕ, ◌%◌, ◌==◌, ◌&&◌, ◌||◌, not, if◌then◌else◌, List, [], ◌∷◌, Bool, true, false, Option, None, Some, is_some, nat_lt, slice_get}
use Rattle.std.specs.Option.{option_or}
use Rattle.address.specs.declared.Entry.{Entry}
use Rattle.address.specs.declared.Entry.TheVariants.{Ordered, Branch}
use Rattle.system.specs.declared.command.Command.{Command}
use Rattle.system.specs.declared.command.Action.TheOpen.{Action-F, Arm-F, Command-F, Guarded-F, Labelled-F}
use Rattle.system.specs.declared.command.Action.TheFolds.{fold-Command}
use Rattle.system.specs.declared.system.System.{System}
use Rattle.system_places.specs.declared.command_places.Form.{Form}
use Rattle.system_places.specs.declared.command_places.Form.TheVariants.{Held, Turns, Test, Choice}

-- the line of a command that has the place to which this way leads
abbrev pub Found : Type 0
Found = List Entry → Option ℕ

-- whether a command of this form has the place of this number
abbrev pub is_own_number : Form → ℕ → Bool
is_own_number Held n = nat_lt n 2
is_own_number Turns n = n % 2 == 0
is_own_number Test n = n == 0
is_own_number Choice n = (n == 0) || (n == 2)

-- whether a body stands at this number
abbrev pub is_body_number : Form → ℕ → Bool
is_body_number Held n = false
is_body_number Turns n = not (n % 2 == 0)
is_body_number Test n = n == 1
is_body_number Choice n = n == 1

-- whether the way is to a place of a command of this form
abbrev pub is_own : Form → List Entry → Bool
is_own form [] = false
is_own form (Branch n ∷ way) = false
is_own form (Ordered n ∷ []) = is_own_number form n
is_own form (Ordered n ∷ _ ∷ way) = false

-- the way from the body, where it leads into one
abbrev pub below : Form → List Entry → Option (List Entry)
below form [] = None
below form (Branch n ∷ way) = None
below form (Ordered n ∷ way) = if is_body_number form n then Some way else None

-- the line, where it counts, and the way ends here
abbrev pub here : Bool → ℕ → Found
here counts line [] = if counts then Some line else None
here counts line (_ ∷ _) = None

-- the line, where it counts, and the way is to a place of the command itself
abbrev pub own : Bool → Form → ℕ → Found
own counts form line way = if counts && is_own form way then Some line else None

-- what is found behind the way into a body, if there is one
abbrev pub found_below : Found → Option (List Entry) → Option ℕ
found_below body None = None
found_below body (Some way) = body way

-- a place of the command itself, else one in its body
abbrev pub found_around : Bool → Form → ℕ → Found → Found
found_around counts form line body way = option_or (own counts form line way) (found_below body (below form way))

-- what is found before, else the first that is found in one of them, in order
abbrev pub first_onto : Option ℕ → List Found → Found
first_onto found [] way = found
first_onto found (f ∷ fs) way = first_onto (option_or found (f way)) fs way

-- what stands behind an `else`
abbrev pub found_in_last : Option Found → Found
found_in_last None way = None
found_in_last (Some f) way = f way

-- a place of an `if` or `case` itself, else one in an arm, else one behind `else`
abbrev pub tested : Bool → ℕ → List Found → Option Found → Found
tested counts line arms last way =
    option_or (found_around counts Test line (first_onto None arms) way)
    (found_below (found_in_last last) (below Test way))

-- in the child of this number, if there is one
abbrev pub found_in_child : List Found → ℕ → Found
found_in_child fs n way = found_in_last (slice_get fs n) way

-- in a child of a sequence
abbrev pub found_in_sequence : List Found → Found
found_in_sequence fs [] = None
found_in_sequence fs (Ordered n ∷ way) = found_in_child fs n way
found_in_sequence fs (Branch n ∷ way) = None

-- in a child of a parallel
abbrev pub found_in_parallel : List Found → Found
found_in_parallel fs [] = None
found_in_parallel fs (Ordered n ∷ way) = None
found_in_parallel fs (Branch n ∷ way) = found_in_child fs n way

-- what is found in an action, where this is the line of its command
abbrev pub FoundOn : Type 0
FoundOn = ℕ → Found

-- the places of a `select` that count: its opens alone, where no other command counts
abbrev pub select_form : Bool → Form
select_form all = if all then Choice else Test

-- one layer of a command, one line a form; where not `all` of them count, the opens of `select` alone do
abbrev pub found_layer : Bool → Action-F FoundOn Found Found Found Found → FoundOn
found_layer all Action-F.Continue line way = None
found_layer all Action-F.Halt line way = None
found_layer all (Action-F.Assign x w e) line way = here all line way
found_layer all (Action-F.Send c w e) line way = own all Held line way
found_layer all (Action-F.Receive c x) line way = here all line way
found_layer all (Action-F.Sync c) line way = own all Held line way
found_layer all (Action-F.Loop body) line way = found_around all Turns line body way
found_layer all (Action-F.While e body) line way = found_around all Turns line body way
found_layer all (Action-F.If arms last) line way = tested all line arms last way
found_layer all (Action-F.Case e arms last) line way = tested all line arms last way
found_layer all (Action-F.Input c body) line way = found_around all Choice line body way
found_layer all (Action-F.Select arms) line way = found_around true (select_form all) line (first_onto None arms) way
found_layer all (Action-F.Arbitrate arms) line way = found_around all Choice line (first_onto None arms) way
found_layer all (Action-F.Sequence children) line way = found_in_sequence children way
found_layer all (Action-F.Parallel children) line way = found_in_parallel children way

abbrev pub found_arm : Arm-F FoundOn Found Found Found Found → Found
found_arm a = a.body

-- a command gives its line to its action
abbrev pub found_command : Command-F FoundOn Found Found Found Found → Found
found_command c = c.action c.line

abbrev pub found_guarded : Guarded-F FoundOn Found Found Found Found → Found
found_guarded a = a.body

abbrev pub found_labelled : Labelled-F FoundOn Found Found Found Found → Found
found_labelled a = a.body

-- the line of the command, at or within this one, that has the place to which the way leads
abbrev pub found_in : Bool → Command → Found
found_in all =
    fold-Command FoundOn Found Found Found Found (found_layer all) found_arm found_command found_guarded found_labelled

-- the same in a system, whose body stands at /0
abbrev pub found_at : Bool → System → List Entry → Option ℕ
found_at all system [] = None
found_at all system (Ordered n ∷ way) = None
found_at all system (Branch n ∷ way) = if n == 0 then found_in all system.main way else None

-- the line of the command of a place, of the first arm that has one where several do
abbrev pub line_at : System → List Entry → Option ℕ
line_at = found_at true

-- whether the place is one at which a `select` opens
abbrev pub is_open_of_select : System → List Entry → Bool
is_open_of_select system place = is_some (found_at false system place)
