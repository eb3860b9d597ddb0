-- The calls around a place.
use Rattle.std.specs.Prelude.{ℕ, zero, suc, ◌==◌, if◌then◌else◌, List, [], ◌∷◌, Option, None, Some, length, option_map, slice_get, unwrap_or}
use Rattle.dependence.specs.EventPlaces.{taken_by}
use Rattle.machine.specs.AtMachine.{AtMachine}
use Rattle.runs.specs.Live.{events}
use Rattle.runs.specs.Moves.{Place}
use Rattle.source_calls.specs.Stands.{call_at}
use Rattle.source_calls.specs.declared.calls.Call.{Call}
use Rattle.dap_views.specs.declared.index.Index.{Index}

-- the call in whose body this one is made; none for the root
abbrev pub around : Index → ℕ → Option ℕ
around index call =
    if call == 0 then None else option_map (λ (c : Call). c.parent) (slice_get index.calls.list.items call)

-- a call, if there is one, and what comes behind it
abbrev pub onwards : (ℕ → List ℕ) → Option ℕ → List ℕ
onwards f None = []
onwards f (Some call) = call ∷ f call

-- the calls around one, from the inner to the outermost, so many at most
abbrev pub outwards : ℕ → Index → ℕ → List ℕ
outwards zero index call = []
outwards (suc n) index call = onwards (outwards n index) (around index call)

-- all of them: they are no more than all calls
abbrev pub calls_around : Index → ℕ → List ℕ
calls_around index call = outwards (length index.calls.list.items) index call

-- the call in whose body this branch begins; the root for a branch of the environment
abbrev pub call_of_branch : Index → ℕ → ℕ
call_of_branch index branch = unwrap_or (slice_get index.begins.items branch) 0

-- the call to which a place belongs as the machine stands; the root for a place of the environment
abbrev pub call_of_place : AtMachine → Index → Place → ℕ
call_of_place m index place = unwrap_or (call_at index.calls (taken_by (events m.live)) place) 0
