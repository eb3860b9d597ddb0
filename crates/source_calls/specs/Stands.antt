-- To which call a place belongs.
--
-- A system has the body of a procedure in place of each call of it. So the way to a place is gone in the bodies as they
-- are written: where it comes to a call, it goes on in the body of the procedure that is called, and stands in that
-- call from there.
use Rattle.std.specs.Prelude.{ℕ, zero, suc, ◌==◌, ◌||◌, ◌%◌, not, if◌then◌else◌, List, [], ◌∷◌, ◌++◌, Bool, true, false, Option, None, Some, length, map, take, nat_lt, option_map, option_and_then, slice_get}
use Rattle.std.specs.Option.{option_or}
use Rattle.address.specs.declared.Entry.{Entry}
use Rattle.address.specs.declared.Entry.TheVariants.{Ordered, Branch}
use Rattle.types.specs.declared.tree.Action.{Action, out-Action}
use Rattle.types.specs.declared.tree.Action.TheOpen.{Action-F}
use Rattle.types.specs.declared.tree.Arm.{Arm, out-Arm}
use Rattle.types.specs.declared.tree.Command.{Command, out-Command}
use Rattle.types.specs.declared.tree.Guarded.{Guarded, out-Guarded}
use Rattle.types.specs.declared.tree.Labelled.{Labelled, out-Labelled}
use Rattle.types.specs.declared.tree.Procedure.{Procedure}
use Rattle.source_calls.specs.Counts.{calls_in, together, with_all}
use Rattle.source_calls.specs.internal.Parts.{calls_in_arm, calls_in_guarded, calls_in_labelled}
use Rattle.source_calls.specs.declared.calls.Call.{Call}
use Rattle.source_calls.specs.declared.calls.Calls.{Calls}

-- for each place of an `if`, a `case`, a `select` or an `arbitrate` the arm that it took, from 0; none where it took
-- none
abbrev pub ArmsByPlace : Type 0
ArmsByPlace = List Entry → Option ℕ

-- what a command does, with its parts
abbrev pub Doing : Type 0
Doing = Action-F Action Arm Command Guarded Labelled

abbrev pub doing : Command → Doing
doing c = out-Action (out-Command c).action

-- a command in a call
pub record At : Type 0 where
  -- the index of the call
  pub call : ℕ
  -- how many calls stand before the command in the body of the call
  pub passed : ℕ
  pub command : Command

-- whether the way is one number of which this holds
abbrev pub is_one : (ℕ → Bool) → List Entry → Bool
is_one holds [] = false
is_one holds (Branch n ∷ way) = false
is_one holds (Ordered n ∷ []) = holds n
is_one holds (Ordered n ∷ _ ∷ way) = false

-- whether the way is empty
abbrev pub is_here : List Entry → Bool
is_here [] = true
is_here (_ ∷ _) = false

-- the numbers of the places of a command itself: of a send and a sync, of a loop, of a test, of an input and a choice
abbrev pub is_held : ℕ → Bool
is_held n = nat_lt n 2

abbrev pub is_turn : ℕ → Bool
is_turn n = n % 2 == 0

abbrev pub is_test : ℕ → Bool
is_test n = n == 0

abbrev pub is_end : ℕ → Bool
is_end n = (n == 0) || (n == 2)

-- whether the way is to a place of the command itself, one line a form
abbrev pub is_place : Doing → List Entry → Bool
is_place Action-F.Continue way = false
is_place Action-F.Halt way = false
is_place (Action-F.Assign x w e) way = is_here way
is_place (Action-F.Send c w e) way = is_one is_held way
is_place (Action-F.Receive c x) way = is_here way
is_place (Action-F.Sync c) way = is_one is_held way
is_place (Action-F.Loop body) way = is_one is_turn way
is_place (Action-F.While e body) way = is_one is_turn way
is_place (Action-F.If arms last) way = is_one is_test way
is_place (Action-F.Case e arms last) way = is_one is_test way
is_place (Action-F.Input c body) way = is_one is_end way
is_place (Action-F.Select arms) way = is_one is_end way
is_place (Action-F.Arbitrate arms) way = is_one is_end way
is_place (Action-F.Sequence children) way = false
is_place (Action-F.Parallel children) way = false
is_place (Action-F.Call p arguments) way = false

-- the `else`, which counts as the arm behind the others
abbrev pub else_at : ℕ → Option Command → ℕ → Option Command
else_at arms last k = if k == arms then last else None

-- arm k of an `if`
abbrev pub guarded_at : List Guarded → Option Command → ℕ → Option Command
guarded_at arms last k =
    option_or (option_map (λ a. (out-Guarded a).body) (slice_get arms k)) (else_at (length arms) last k)

-- arm k of a `case`
abbrev pub labelled_at : List Labelled → Option Command → ℕ → Option Command
labelled_at arms last k =
    option_or (option_map (λ a. (out-Labelled a).body) (slice_get arms k)) (else_at (length arms) last k)

-- arm k of a `select` or an `arbitrate`
abbrev pub channel_arm_at : List Arm → ℕ → Option Command
channel_arm_at arms k = option_map (λ a. (out-Arm a).body) (slice_get arms k)

-- what stands where a body stands
abbrev pub body_at : Bool → Option Command → Option Command
body_at is_body body = if is_body then body else None

-- the part of a command that stands at p.n, where the command at p took this arm, if it took one; one line a form
abbrev pub part_at : Option ℕ → Doing → ℕ → Option Command
part_at arm (Action-F.Loop body) n = body_at (not (is_turn n)) (Some body)
part_at arm (Action-F.While e body) n = body_at (not (is_turn n)) (Some body)
part_at arm (Action-F.If arms last) n = body_at (n == 1) (option_and_then (guarded_at arms last) arm)
part_at arm (Action-F.Case e arms last) n = body_at (n == 1) (option_and_then (labelled_at arms last) arm)
part_at arm (Action-F.Input c body) n = body_at (n == 1) (Some body)
part_at arm (Action-F.Select arms) n = body_at (n == 1) (option_and_then (channel_arm_at arms) arm)
part_at arm (Action-F.Arbitrate arms) n = body_at (n == 1) (option_and_then (channel_arm_at arms) arm)
part_at arm (Action-F.Sequence children) n = slice_get children n
part_at arm _ n = None

-- the part of a command that stands at p/n
abbrev pub child_at : Doing → ℕ → Option Command
child_at (Action-F.Parallel children) n = slice_get children n
child_at _ n = None

-- the part that stands at this entry behind the place of the command
abbrev pub part : Option ℕ → Doing → Entry → Option Command
part arm d (Ordered n) = part_at arm d n
part arm d (Branch n) = child_at d n

-- how many calls stand in the first k of these parts, where so many stand in each
abbrev pub in_first : {A : Type 0} → (A → ℕ) → List A → ℕ → ℕ
in_first calls parts k = with_all 0 (map calls (take k parts))

-- the same before the arm of this number; 0 where none is taken
abbrev pub before_arm : {A : Type 0} → (A → ℕ) → List A → Option ℕ → ℕ
before_arm calls arms None = 0
before_arm calls arms (Some k) = in_first calls arms k

-- the number of an entry
abbrev pub number_of : Entry → ℕ
number_of (Ordered n) = n
number_of (Branch n) = n

-- how many calls stand in a command before the part at this entry, one line a form
abbrev pub calls_before : Option ℕ → Doing → Entry → ℕ
calls_before arm (Action-F.If arms last) x = before_arm calls_in_guarded arms arm
calls_before arm (Action-F.Case e arms last) x = before_arm calls_in_labelled arms arm
calls_before arm (Action-F.Select arms) x = before_arm calls_in_arm arms arm
calls_before arm (Action-F.Arbitrate arms) x = before_arm calls_in_arm arms arm
calls_before arm (Action-F.Sequence children) x = in_first calls_in children (number_of x)
calls_before arm (Action-F.Parallel children) x = in_first calls_in children (number_of x)
calls_before arm _ x = 0

-- the index of the call that is the n-th, from 0, of those that the body of a call makes
abbrev pub called : Calls → ℕ → ℕ → Option ℕ
called t call n = option_and_then (λ (c : Call). slice_get c.calls.items n) (slice_get t.list.items call)

-- the procedure of a call
abbrev pub procedure_of : Calls → ℕ → Option Procedure
procedure_of t call = option_and_then (λ (c : Call). slice_get t.typed c.procedure) (slice_get t.list.items call)

-- the body of a call
abbrev pub body_of : Calls → ℕ → Option At
body_of t call =
    option_map (λ (p : Procedure). record { call = call; passed = 0; command = p.body }) (procedure_of t call)

abbrev pub is_call : Doing → Bool
is_call (Action-F.Call p arguments) = true
is_call _ = false

-- where the command is a call: the body of that
abbrev pub inner : Calls → At → Option At
inner t s = if is_call (doing s.command) then option_and_then (body_of t) (called t s.call s.passed) else None

-- from there on, where something stands there
abbrev pub onwards : (At → At) → At → Option At → At
onwards f s None = s
onwards f s (Some u) = f u

-- what stands for a command after at most so many calls of calls
abbrev pub entered : ℕ → Calls → At → At
entered zero t s = s
entered (suc n) t s = onwards (entered n t) s (inner t s)

-- what stands for a command: calls that call one another are no more than all calls
abbrev pub standing : Calls → At → At
standing t s = entered (length t.list.items) t s

-- the part at this entry, in its call
abbrev pub part_in : Calls → Option ℕ → At → Entry → Option At
part_in t arm s x =
    option_map
    (λ c. standing t
    (record { call = s.call; passed = together s.passed (calls_before arm (doing s.command) x); command = c }))
    (part arm (doing s.command) x)

-- the call of the command, at or within the one at `before`, that has the place to which the way leads on from there
abbrev pub call_in : Calls → ArmsByPlace → List Entry → At → List Entry → Option ℕ
call_in t taken before s [] = if is_place (doing s.command) [] then Some s.call else None
call_in t taken before s (x ∷ way) =
    if is_place (doing s.command) (x ∷ way) then Some s.call
    else option_and_then (λ u. call_in t taken (before ++ x ∷ []) u way) (part_in t (taken before) s x)

-- the body of the root, which is the call 0
abbrev pub root_body : Calls → Option At
root_body t = option_map (standing t) (body_of t 0)

-- the index of the call to which a place belongs: the body of the root stands at /0
abbrev pub call_at : Calls → ArmsByPlace → List Entry → Option ℕ
call_at t taken [] = None
call_at t taken (Ordered n ∷ way) = None
call_at t taken (Branch n ∷ way) =
    if n == 0 then option_and_then (λ s. call_in t taken (Branch n ∷ []) s way) (root_body t) else None
