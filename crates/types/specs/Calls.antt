-- Calls: the arguments against the ports of the procedure.
use Rattle.std.specs.Prelude.{ℕ, List, [], ◌∷◌, map, Option, Some, None, Bool, true, false, ◌&&◌, nat_eq, is_ok, slice_get, if◌then◌else◌, Ok, Err}
use Rattle.std.specs.List.{list_all}
use Rattle.types.specs.Arms.{new_channels}
use Rattle.types.specs.Findings.{Verdict, Keeping, Findings, if_right, both, all}
use Rattle.types.specs.Names.{VisibleNames, look_up, find}
use Rattle.types.specs.Uses.{procedure_use, argument_use}
use Rattle.refusals.specs.declared.types.Fault.TheVariants.{PortMismatch}
use Rattle.types.specs.declared.scope.Meaning.{Meaning}
use Rattle.types.specs.declared.scope.Meaning.TheVariants as meaning
use Rattle.types.specs.declared.tree.Action.{Action}
use Rattle.types.specs.declared.tree.Action.TheVariants as action
use Rattle.types.specs.declared.tree.ChannelUse.{ChannelUse}
use Rattle.types.specs.declared.tree.Binding.{Binding}
use Rattle.types.specs.declared.tree.PortKind.{PortKind}
use Rattle.types.specs.declared.tree.PortKind.TheVariants as port
use Rattle.syntax.specs.declared.name.Identifier.{Identifier}

-- an input port takes an input port or a channel of its width
abbrev pub fits_input : ℕ → Meaning → Bool
fits_input width (meaning.Input p given) = nat_eq width given
fits_input width (meaning.Channel l given) = nat_eq width given
fits_input width _ = false

-- an output port takes an output port or a channel of its width
abbrev pub fits_output : ℕ → Meaning → Bool
fits_output width (meaning.Output p given) = nat_eq width given
fits_output width (meaning.Channel l given) = nat_eq width given
fits_output width _ = false

-- a port without data takes a port or a channel without data
abbrev pub fits_sync : Meaning → Bool
fits_sync (meaning.SyncPort p) = true
fits_sync (meaning.Sync l) = true
fits_sync _ = false

abbrev pub is_fit : PortKind → Meaning → Bool
is_fit (port.Input width) m = fits_input width m
is_fit (port.Output width) m = fits_output width m
is_fit port.Sync m = fits_sync m

abbrev pub fits_port : PortKind → Option Meaning → Bool
fits_port kind (Some m) = is_fit kind m
fits_port kind None = false

-- as many arguments as ports, each fit for its port
abbrev pub all_fit : VisibleNames → List PortKind → List Identifier → Bool
all_fit names [] [] = true
all_fit names [] (argument ∷ arguments) = false
all_fit names (kind ∷ kinds) [] = false
all_fit names (kind ∷ kinds) (argument ∷ arguments) =
    fits_port kind (look_up names argument.name) && all_fit names kinds arguments

-- the call fits the procedure, if there is one, and no channel stands twice
abbrev pub call_fits : VisibleNames → Option (List PortKind) → List Identifier → List ChannelUse → Bool
call_fits names None arguments channels = false
call_fits names (Some kinds) arguments channels =
    all_fit names kinds arguments && list_all is_ok (new_channels [] channels)

-- an argument of a call
abbrev pub judged_argument : VisibleNames → List Binding → Identifier → Verdict ChannelUse
judged_argument names opened argument = argument_use (find names opened argument.name) argument.span.start

module _ (k : Keeping) where
  abbrev pub judged_arguments : VisibleNames → List Binding → List Identifier → Findings k (List ChannelUse)
  judged_arguments names opened arguments = all k (map (λ a. k.alone (judged_argument names opened a)) arguments)

  -- a call of a procedure, where these are the ports of the visible procedures
  unfoldable pub called : VisibleNames → List (List PortKind) → List Binding → Identifier → List Identifier →
      Findings k Action
  called names procedures opened procedure arguments =
      if_right
      (both k (k.alone (procedure_use (find names opened procedure.name) procedure.span.start))
      (judged_arguments names opened arguments))
      (λ p.
      k.alone (if call_fits names (slice_get procedures p.0) arguments p.1 then Ok (action.Call p.0 p.1) else Err
      (PortMismatch procedure.span.start)))
