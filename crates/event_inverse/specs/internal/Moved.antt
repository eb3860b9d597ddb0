-- The moves of an event on a process, made and taken back, as the code walks.
-- No reader has to believe it: `proofs/Moved.antt` ties it to `applied` and `reverted`.
use Rattle.std.specs.Prelude.{ℕ, List, Option, Some}
use Rattle.value.specs.Word.{Word}
use Rattle.std.specs.Option.{option_and_then}
use Rattle.runs.specs.Moves.{Place}
use Rattle.runs.specs.declared.ask.Ask.{Ask}
use Rattle.runs.specs.declared.ask.Ask.TheVariants as ask
use Rattle.runs.specs.declared.event.Kind.{Kind}
use Rattle.runs.specs.declared.event.Kind.TheVariants.{Assign, Test, Meet, Open, Close}
use Rattle.runs.specs.Asking.{asked}
use Rattle.runs.specs.declared.event.Event.{Event}
use Rattle.process_tree.specs.Proc.{Proc}
use Rattle.process_tree.specs.Retreated.{retreated}
use Rattle.event_inverse.specs.Grown.{all_advanced}
use Rattle.event_inverse.specs.internal.Reverted.{all_retreated}

-- what an event of a kind with one place asks for
abbrev pub ask_alone : Kind → Option ℕ → Ask
ask_alone Assign arm = ask.Assign
ask_alone Test arm = ask.Test arm
ask_alone _ arm = ask.Turn

-- what an event of a kind with two places asks for at the first
abbrev pub ask_first : Kind → Ask
ask_first Meet = ask.Send
ask_first Open = ask.Hold
ask_first Close = ask.Release
ask_first _ = ask.Sync

-- and at the second; an opening names an arm
abbrev pub ask_second : Kind → Option ℕ → Option Word → Ask
ask_second Meet arm v = ask.Receive
ask_second Open (Some k) v = ask.Open k v
ask_second Close arm v = ask.Close
ask_second _ arm v = ask.Sync

-- the process after the moves that an event asks for, and what they took out
abbrev pub moved : Proc → Event → Option (Proc × List (Option Proc))
moved p e = option_and_then (all_advanced p) (asked e)

-- the process before them, which took these out
abbrev pub moved_back : Proc → Event → List (Option Proc) → Option Proc
moved_back p e removed = option_and_then (λ ks. all_retreated p ks removed) (asked e)

-- the process before two moves at these places, which took these out: the second is taken back first
abbrev pub both_back : Proc → Place → Option Proc → Place → Option Proc → Option Proc
both_back p a out b other = option_and_then (λ q. retreated q a out) (retreated p b other)
