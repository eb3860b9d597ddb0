-- What a name has to be at each place where a name can stand, a table for each place.
use Rattle.std.specs.Prelude.{ℕ, Option, Some, None, Ok, Err}
use Rattle.value.specs.Word.{Word}
use Rattle.types.specs.Findings.{Verdict, if_right}
use Rattle.refusals.specs.declared.types.Fault.TheVariants.{UnknownName, WrongKind, EnclosedTwice}
use Rattle.types.specs.declared.scope.Meaning.{Meaning}
use Rattle.types.specs.declared.scope.Meaning.TheVariants.{TypeName, Element, Procedure, Input, Output, SyncPort, Variable, Channel, Sync}
use Rattle.types.specs.declared.scope.Found.{Found}
use Rattle.types.specs.declared.scope.Found.TheVariants.{Nothing, Opened, Means}
use Rattle.types.specs.declared.tree.Binding.{Binding}
use Rattle.types.specs.declared.tree.Binding.TheVariants.{Port, Local}
use Rattle.types.specs.declared.tree.ChannelUse.{ChannelUse}
use Rattle.types.specs.declared.tree.VariableUse.{VariableUse}
use Rattle.types.specs.declared.uses.Named.{Named}
use Rattle.types.specs.declared.uses.Named.TheVariants as named

-- what a name means; one that is not visible has no meaning, nor has here a channel that is open around it (as a value,
-- `value_use` says what it is)
abbrev pub meaning_of : Found → ℕ → Verdict Meaning
meaning_of Nothing offset = Err (UnknownName offset)
meaning_of (Opened c) offset = Err (EnclosedTwice offset)
meaning_of (Means m) offset = Ok m

abbrev pub at : Binding → ℕ → ChannelUse
at binding offset = record { channel = binding; offset = offset }

abbrev pub type_by : ℕ → Meaning → Verdict ℕ
type_by offset (TypeName w) = Ok w
type_by offset _ = Err (WrongKind offset)

-- a type, by its width
unfoldable pub type_use : Found → ℕ → Verdict ℕ
type_use found offset = if_right (meaning_of found offset) (type_by offset)

abbrev pub target_by : ℕ → Meaning → Verdict (VariableUse × ℕ)
target_by offset (Variable l w) = Ok (record { variable = l; offset = offset }, w)
target_by offset _ = Err (WrongKind offset)

-- a variable to write, and its width
unfoldable pub target_use : Found → ℕ → Verdict (VariableUse × ℕ)
target_use found offset = if_right (meaning_of found offset) (target_by offset)

abbrev pub sending_by : ℕ → Meaning → Verdict (ChannelUse × ℕ)
sending_by offset (Output p w) = Ok (at (Port p) offset, w)
sending_by offset (Channel l w) = Ok (at (Local l) offset, w)
sending_by offset _ = Err (WrongKind offset)

-- a channel to send on, and its width
unfoldable pub sending_use : Found → ℕ → Verdict (ChannelUse × ℕ)
sending_use found offset = if_right (meaning_of found offset) (sending_by offset)

abbrev pub receiving_by : ℕ → Meaning → Verdict (ChannelUse × ℕ)
receiving_by offset (Input p w) = Ok (at (Port p) offset, w)
receiving_by offset (Channel l w) = Ok (at (Local l) offset, w)
receiving_by offset _ = Err (WrongKind offset)

-- a channel to receive from, and its width
unfoldable pub receiving_use : Found → ℕ → Verdict (ChannelUse × ℕ)
receiving_use found offset = if_right (meaning_of found offset) (receiving_by offset)

abbrev pub sync_by : ℕ → Meaning → Verdict ChannelUse
sync_by offset (SyncPort p) = Ok (at (Port p) offset)
sync_by offset (Sync l) = Ok (at (Local l) offset)
sync_by offset _ = Err (WrongKind offset)

-- a channel without data
unfoldable pub sync_use : Found → ℕ → Verdict ChannelUse
sync_use found offset = if_right (meaning_of found offset) (sync_by offset)

abbrev pub arm_by : ℕ → Meaning → Verdict ChannelUse
arm_by offset (Input p w) = Ok (at (Port p) offset)
arm_by offset (SyncPort p) = Ok (at (Port p) offset)
arm_by offset (Channel l w) = Ok (at (Local l) offset)
arm_by offset (Sync l) = Ok (at (Local l) offset)
arm_by offset _ = Err (WrongKind offset)

-- a channel for an arm of `select` or `arbitrate`: one to receive from, or one without data
unfoldable pub arm_use : Found → ℕ → Verdict ChannelUse
arm_use found offset = if_right (meaning_of found offset) (arm_by offset)

abbrev pub procedure_by : ℕ → Meaning → Verdict ℕ
procedure_by offset (Procedure p) = Ok p
procedure_by offset _ = Err (WrongKind offset)

-- a procedure, by its place in the description
unfoldable pub procedure_use : Found → ℕ → Verdict ℕ
procedure_use found offset = if_right (meaning_of found offset) (procedure_by offset)

abbrev pub label_by : ℕ → Meaning → Verdict Word
label_by offset (Element v) = Ok v
label_by offset _ = Err (WrongKind offset)

-- a label that is a name: an element of an enumeration
unfoldable pub label_use : Found → ℕ → Verdict Word
label_use found offset = if_right (meaning_of found offset) (label_by offset)

abbrev pub argument_by : ℕ → Meaning → Verdict ChannelUse
argument_by offset (Input p w) = Ok (at (Port p) offset)
argument_by offset (Output p w) = Ok (at (Port p) offset)
argument_by offset (SyncPort p) = Ok (at (Port p) offset)
argument_by offset (Channel l w) = Ok (at (Local l) offset)
argument_by offset (Sync l) = Ok (at (Local l) offset)
argument_by offset _ = Err (WrongKind offset)

-- an argument of a call: a channel or a port
unfoldable pub argument_use : Found → ℕ → Verdict ChannelUse
argument_use found offset = if_right (meaning_of found offset) (argument_by offset)

abbrev pub received_by : ℕ → Binding → Option ℕ → Verdict Named
received_by offset binding (Some w) = Ok (named.Received binding w)
received_by offset binding None = Err (EnclosedTwice offset)

abbrev pub value_by : ℕ → Meaning → Verdict Named
value_by offset (Element v) = Ok (named.Element v)
value_by offset (Variable l w) = Ok (named.Variable (record { variable = l; offset = offset }) w)
value_by offset _ = Err (WrongKind offset)

-- a name that has a value: an element, a variable, or a channel with data that is open
unfoldable pub value_use : Found → ℕ → Verdict Named
value_use Nothing offset = Err (UnknownName offset)
value_use (Opened c) offset = received_by offset c.binding c.width
value_use (Means m) offset = value_by offset m
