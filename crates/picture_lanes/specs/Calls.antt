-- Calls, and the blocks of a circuit: one for the root, and one for each call.
use Rattle.std.specs.Prelude.{◌≡◌, ℕ, zero, suc, ◌+◌, ◌-◌, ◌≤◌, ◌==◌, List, [], ◌∷◌, ◌++◌, length, codes, Bool, false, cond, Option, None, Some, slice_get}
use Rattle.std.specs.Option.{option_map}
use Rattle.system.specs.Named.{prefix_of_call}
use Rattle.types.specs.declared.tree.Action.{Action, out-Action}
use Rattle.types.specs.declared.tree.Action.TheOpen.{Action-F}
use Rattle.types.specs.declared.tree.Arm.{Arm}
use Rattle.types.specs.declared.tree.Binding.{Binding}
use Rattle.types.specs.declared.tree.ChannelUse.{ChannelUse}
use Rattle.types.specs.declared.tree.Command.{Command, out-Command}
use Rattle.types.specs.declared.tree.Guarded.{Guarded}
use Rattle.types.specs.declared.tree.Labelled.{Labelled}
use Rattle.types.specs.declared.tree.Local.{Local}
use Rattle.types.specs.declared.tree.Port.{Port}
use Rattle.types.specs.declared.tree.Procedure.{Procedure}
use Rattle.picture_lanes.specs.declared.lane.Instance.{Instance}

-- ---- names

abbrev pub name_or_unknown : Option (List ℕ) → List ℕ
name_or_unknown None = codes "?"
name_or_unknown (Some name) = name

-- the name of a port or a local of the procedure
abbrev pub bound_name : Procedure → Binding → List ℕ
bound_name p (Binding.Port k) = name_or_unknown (option_map (λ (x : Port). x.name) (slice_get p.ports k))
bound_name p (Binding.Local k) = name_or_unknown (option_map (λ (x : Local). x.name) (slice_get p.locals k))

-- one more name, with a comma before it if it is not the first
abbrev pub with_name : List ℕ → List ℕ → List ℕ
with_name [] name = name
with_name (b ∷ names) name = ((b ∷ names) ++ codes ", ") ++ name

abbrev pub names_onto : Procedure → List ℕ → List ChannelUse → List ℕ
names_onto p names [] = names
names_onto p names (u ∷ us) = names_onto p (with_name names (bound_name p u.channel)) us

-- the names of the arguments as the procedure that calls has them
abbrev pub names_by : Option Procedure → List ChannelUse → List ℕ
names_by None us = []
names_by (Some p) us = names_onto p [] us

abbrev pub argument_names : List Procedure → Option Instance → List ChannelUse → List ℕ
argument_names procedures None us = []
argument_names procedures (Some around) us = names_by (slice_get procedures around.number) us

-- ---- the number of a call among those of its block

abbrev pub is_in : ℕ → Option ℕ → Bool
is_in block None = false
is_in block (Some parent) = parent == block

abbrev pub calls_of : ℕ → List Instance → ℕ
calls_of block [] = 0
calls_of block (i ∷ is) = cond (is_in block i.parent) (calls_of block is + 1) (calls_of block is)

-- there are no more than so many
abbrev pub IsAtMost : ℕ → List Instance → Type 0
IsAtMost calls instances = calls ≤ length instances

abbrev pub prefix_in : List Instance → ℕ → Option Instance → List ℕ
prefix_in instances block None = []
prefix_in instances block (Some around) = prefix_of_call around.prefix (calls_of block instances + 1)

-- what stands before the names that the next call of the block makes
abbrev pub next_prefix : List Instance → ℕ → List ℕ
next_prefix instances block = prefix_in instances block (slice_get instances block)

-- ---- the blocks

-- the block that a call on a line of a block makes, of the procedure of this number
abbrev pub instance_of : List Procedure → List Instance → ℕ → ℕ → ℕ → Procedure → List ChannelUse → Instance
instance_of procedures instances block line number p arguments = record {
  procedure = p.name;
  number = number;
  prefix = next_prefix instances block;
  parent = Some block;
  call_line = line;
  line = (out-Command p.body).line;
  arguments = argument_names procedures (slice_get instances block) arguments;
}

-- a command as it is written, the block in which it is, and the blocks so far
pub record At : Type 0 where
  pub written : Command
  pub block : ℕ
  pub instances : List Instance

-- the body of the procedure of this number, in a block of its own, if there is one
abbrev pub called_at : List Procedure → At → ℕ → List ChannelUse → Option Procedure → Option At
called_at procedures at number arguments None = None
called_at procedures at number arguments (Some p) =
    Some (record {
      written = p.body;
      block = length at.instances;
      instances =
          at.instances
          ++ instance_of procedures at.instances at.block (out-Command at.written).line number p arguments ∷ [];
    })

abbrev pub call_at : List Procedure → At → Action-F Action Arm Command Guarded Labelled → Option At
call_at procedures at (Action-F.Call number arguments) =
    called_at procedures at number arguments (slice_get procedures number)
call_at procedures at _ = None

-- what is called, if the command is a call
abbrev pub entered : List Procedure → At → Option At
entered procedures at = call_at procedures at (out-Action (out-Command at.written).action)

-- the same of what is called, if there is one
abbrev pub onward : At → (At → At) → Option At → At
onward at further None = at
onward at further (Some next) = further next

-- what it stands for behind so many calls at most
abbrev pub behind_calls : ℕ → List Procedure → At → At
behind_calls zero procedures at = at
behind_calls (suc n) procedures at = onward at (behind_calls n procedures) (entered procedures at)

-- a call has this body and these blocks, or it is no call, and they are as before
abbrev pub IsEntered : List Procedure → Command → ℕ → List Instance → List Instance → Option Command → Type 0
IsEntered procedures written block old new None =
    (entered procedures (record { written = written; block = block; instances = old }) ≡ None) × (new ≡ old)
IsEntered procedures written block old new (Some body) =
    entered procedures (record { written = written; block = block; instances = old })
    ≡ Some (record { written = body; block = length new - 1; instances = new })
