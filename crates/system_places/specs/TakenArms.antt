-- The command of a place, where it is known which arms were taken.
--
-- As in `CommandPlaces`, except that of the arms of one choice, which would all stand at p.1, the one that was taken
-- stands there and the others stand nowhere. So a place is one of one command at most.
use Rattle.std.specs.Prelude.{ℕ, ◌-◌, ◌==◌, ◌&&◌, if◌then◌else◌, List, [], ◌∷◌, ◌++◌, Bool, true, false, Option, None, Some, length, option_map, option_and_then, slice_get}
use Rattle.std.specs.Option.{option_or}
use Rattle.address.specs.declared.Entry.{Entry}
use Rattle.address.specs.declared.Entry.TheVariants.{Ordered, Branch}
use Rattle.system.specs.declared.command.Action.{Action, out-Action}
use Rattle.system.specs.declared.command.Action.TheOpen.{Action-F}
use Rattle.system.specs.declared.command.Arm.{Arm, out-Arm}
use Rattle.system.specs.declared.command.Command.{Command, out-Command}
use Rattle.system.specs.declared.command.Guarded.{Guarded, out-Guarded}
use Rattle.system.specs.declared.command.Labelled.{Labelled, out-Labelled}
use Rattle.system.specs.declared.system.System.{System}
use Rattle.system_places.specs.CommandPlaces.{is_body_number, is_own}
use Rattle.system_places.specs.declared.command_places.Form.TheVariants.{Held, Turns, Test, Choice}

-- for each place of an `if`, a `case`, a `select` or an `arbitrate` the arm that it took, from 0; none where it took
-- none
abbrev pub ArmsByPlace : Type 0
ArmsByPlace = List Entry → Option ℕ

-- what a command does, with its parts
abbrev pub Doing : Type 0
Doing = Action-F Action Arm Command Guarded Labelled

abbrev pub doing : Command → Doing
doing c = out-Action (out-Command c).action

abbrev pub line_of_command : Command → ℕ
line_of_command c = (out-Command c).line

-- whether the way is empty
abbrev pub is_here : List Entry → Bool
is_here [] = true
is_here (_ ∷ _) = false

-- whether the way is to a place of the command itself, one line a form
abbrev pub is_place : Doing → List Entry → Bool
is_place Action-F.Continue way = false
is_place Action-F.Halt way = false
is_place (Action-F.Assign x w e) way = is_here way
is_place (Action-F.Send c w e) way = is_own Held way
is_place (Action-F.Receive c x) way = is_here way
is_place (Action-F.Sync c) way = is_own Held way
is_place (Action-F.Loop body) way = is_own Turns way
is_place (Action-F.While e body) way = is_own Turns way
is_place (Action-F.If arms last) way = is_own Test way
is_place (Action-F.Case e arms last) way = is_own Test way
is_place (Action-F.Input c body) way = is_own Choice way
is_place (Action-F.Select arms) way = is_own Choice way
is_place (Action-F.Arbitrate arms) way = is_own Choice way
is_place (Action-F.Sequence children) way = false
is_place (Action-F.Parallel children) way = false

-- the `else`, which counts as the arm behind the others
abbrev pub else_at : ℕ → Option Command → ℕ → Option Command
else_at arms last k = if k == arms then last else None

-- arm k of an `if`
abbrev pub guarded_at : List Guarded → Option Command → ℕ → Option Command
guarded_at arms last k =
    option_or (option_map (λ a. (out-Guarded a).body) (slice_get arms k)) (else_at (length arms) last k)

-- arm k of a `case`
abbrev pub labelled_at : List Labelled → Option Command → ℕ → Option Command
labelled_at arms last k =
    option_or (option_map (λ a. (out-Labelled a).body) (slice_get arms k)) (else_at (length arms) last k)

-- arm k of a `select` or an `arbitrate`
abbrev pub channel_arm_at : List Arm → ℕ → Option Command
channel_arm_at arms k = option_map (λ a. (out-Arm a).body) (slice_get arms k)

-- what stands where a body stands
abbrev pub body_at : Bool → Option Command → Option Command
body_at is_body body = if is_body then body else None

-- the part of a command that stands at p.n, where the command at p took this arm, if it took one; one line a form
abbrev pub part_at : Option ℕ → Doing → ℕ → Option Command
part_at arm (Action-F.Loop body) n = body_at (is_body_number Turns n) (Some body)
part_at arm (Action-F.While e body) n = body_at (is_body_number Turns n) (Some body)
part_at arm (Action-F.If arms last) n = body_at (is_body_number Test n) (option_and_then (guarded_at arms last) arm)
part_at arm (Action-F.Case e arms last) n =
    body_at (is_body_number Test n) (option_and_then (labelled_at arms last) arm)
part_at arm (Action-F.Input c body) n = body_at (is_body_number Choice n) (Some body)
part_at arm (Action-F.Select arms) n = body_at (is_body_number Choice n) (option_and_then (channel_arm_at arms) arm)
part_at arm (Action-F.Arbitrate arms) n = body_at (is_body_number Choice n) (option_and_then (channel_arm_at arms) arm)
part_at arm (Action-F.Sequence children) n = slice_get children n
part_at arm _ n = None

-- the part of a command that stands at p/n
abbrev pub child_at : Doing → ℕ → Option Command
child_at (Action-F.Parallel children) n = slice_get children n
child_at _ n = None

-- the part that stands at this entry behind the place of the command
abbrev pub part : Option ℕ → Doing → Entry → Option Command
part arm d (Ordered n) = part_at arm d n
part arm d (Branch n) = child_at d n

-- the command, at or within the one at `before`, that has the place to which the way leads on from there
abbrev pub acting_in : ArmsByPlace → List Entry → Command → List Entry → Option Command
acting_in taken before c [] = if is_place (doing c) [] then Some c else None
acting_in taken before c (x ∷ way) =
    if is_place (doing c) (x ∷ way) then Some c
    else option_and_then (λ d. acting_in taken (before ++ x ∷ []) d way) (part (taken before) (doing c) x)

-- the same in a system, whose body stands at /0
abbrev pub acting_command : ArmsByPlace → System → List Entry → Option Command
acting_command taken system [] = None
acting_command taken system (Ordered n ∷ way) = None
acting_command taken system (Branch n ∷ way) = if n == 0 then acting_in taken (Branch n ∷ []) system.main way else None

-- the line of the command of a place
abbrev pub line_under : ArmsByPlace → System → List Entry → Option ℕ
line_under taken system place = option_map line_of_command (acting_command taken system place)

abbrev pub is_select : Doing → Bool
is_select (Action-F.Select arms) = true
is_select _ = false

-- whether there is a command, and it is a `select`
abbrev pub is_some_select : Option Command → Bool
is_some_select None = false
is_some_select (Some c) = is_select (doing c)

-- whether the entry is the number 0
abbrev pub is_zero : Option Entry → Bool
is_zero (Some (Ordered n)) = n == 0
is_zero _ = false

-- whether a `select` opens at the place, which is its p.0
abbrev pub is_open_under : ArmsByPlace → System → List Entry → Bool
is_open_under taken system place =
    is_some_select (acting_command taken system place) && is_zero (slice_get place (length place - 1))
