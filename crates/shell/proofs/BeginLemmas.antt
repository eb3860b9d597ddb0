-- The machines with which sessions begin, and that are loaded; and that no refusal of texts is a fault of a device.
use Rattle.std.proofs.Common.{◌≡◌, ◌⊎◌, inl, inr, ℕ, List, [], Option, Some, None, Result, Ok, Err, MatchResult, refl, sym, subst}
use Rattle.std.specs.Result.{IfOk}
use Rattle.system.specs.declared.system.System.{System}
use Rattle.machine.specs.AtMachine.{AtMachine}
use Rattle.trace_file.specs.Loading.{IsLoaded, IsRefused as NotLoaded}
use Rattle.trace_file.specs.declared.fault.Fault as trace
use Rattle.debug_session.specs.Accepting.{AcceptedAs, IsRefused}
use Rattle.debug_session.specs.Counting.{fault_reads, fault_writes}
use Rattle.debug_session.specs.Replaying.{RefusesTrace}
use Rattle.debug_session.specs.Wrapping.{of_trace}
use Rattle.debug_session.specs.declared.fault.Fault.{Fault}
use Rattle.debug_session.proofs.public.ReplayLemmas.{refuses}
use Rattle.shell.specs.Beginning.{RefusesTexts, RefusesToBegin}

-- a machine of a trace
pub machine-of : (source stimulus text : List ℕ) (system : System) (loaded : Result AtMachine trace.Fault) (r : Result AtMachine Fault)
    → AcceptedAs source stimulus system → MatchResult loaded (λ m. r ≡ Ok m) (λ fault. r ≡ Err (of_trace fault))
    → MatchResult loaded (IsLoaded system text) (NotLoaded system text)
    → MatchResult r (λ m. (s : System) × AcceptedAs source stimulus s × IsLoaded s text m) (RefusesTexts source stimulus text)
machine-of source stimulus text system (Ok m) r accepted e h =
    subst (λ (x : Result AtMachine Fault). MatchResult x (λ m. (s : System) × AcceptedAs source stimulus s × IsLoaded s text m) (RefusesTexts source stimulus text))
    (sym e) (system, accepted, h)
machine-of source stimulus text system (Err fault) r accepted e h =
    subst (λ (x : Result AtMachine Fault). MatchResult x (λ m. (s : System) × AcceptedAs source stimulus s × IsLoaded s text m) (RefusesTexts source stimulus text))
    (sym e) (inr (system, accepted, refuses system text fault h))

-- a machine before its first step
pub new-machine : {E : Type 0} (source stimulus : List ℕ) (system : System) (made : Result AtMachine E) (r : Result AtMachine Fault)
    → AcceptedAs source stimulus system → MatchResult made (λ m. r ≡ Ok m) (λ _. r ≡ Err Fault.Memory)
    → IfOk made (λ m. m ≡ record { checked = system; live = []; next = 1; marked = [] })
    → MatchResult r (λ m. (s : System) × AcceptedAs source stimulus s × (m ≡ record { checked = s; live = []; next = 1; marked = [] })) (IsRefused source stimulus)
new-machine source stimulus system (Ok m) r accepted e h =
    subst (λ (x : Result AtMachine Fault). MatchResult x (λ m. (s : System) × AcceptedAs source stimulus s × (m ≡ record { checked = s; live = []; next = 1; marked = [] })) (IsRefused source stimulus))
    (sym e) (system, accepted, h)
new-machine source stimulus system (Err fault) r accepted e h =
    subst (λ (x : Result AtMachine Fault). MatchResult x (λ m. (s : System) × AcceptedAs source stimulus s × (m ≡ record { checked = s; live = []; next = 1; marked = [] })) (IsRefused source stimulus))
    (sym e) tt

-- a refusal of source and stimulus is no fault of reading
refused-reads : (source stimulus : List ℕ) (fault : Fault) (n : ℕ) → IsRefused source stimulus fault → fault_reads fault n ≡ n
refused-reads source stimulus Fault.Memory n h = refl
refused-reads source stimulus (Fault.NoSystem f) n h = refl
refused-reads source stimulus (Fault.Trace f) n h = refl
refused-reads source stimulus (Fault.Refused why) n h = refl
refused-reads source stimulus Fault.ReadFailed n h = absurd h
refused-reads source stimulus Fault.WriteFailed n h = refl
refused-reads source stimulus (Fault.BadCommand k) n h = refl

-- nor of writing
refused-writes : (source stimulus : List ℕ) (fault : Fault) (n : ℕ) → IsRefused source stimulus fault → fault_writes fault n ≡ n
refused-writes source stimulus Fault.Memory n h = refl
refused-writes source stimulus (Fault.NoSystem f) n h = refl
refused-writes source stimulus (Fault.Trace f) n h = refl
refused-writes source stimulus (Fault.Refused why) n h = refl
refused-writes source stimulus Fault.ReadFailed n h = refl
refused-writes source stimulus Fault.WriteFailed n h = absurd h
refused-writes source stimulus (Fault.BadCommand k) n h = refl

-- nor is one of a trace a fault of reading
trace-reads : (system : System) (text : List ℕ) (fault : Fault) (n : ℕ) → RefusesTrace system text fault → fault_reads fault n ≡ n
trace-reads system text Fault.Memory n h = refl
trace-reads system text (Fault.NoSystem f) n h = refl
trace-reads system text (Fault.Trace f) n h = refl
trace-reads system text (Fault.Refused why) n h = refl
trace-reads system text Fault.ReadFailed n h = absurd h
trace-reads system text Fault.WriteFailed n h = refl
trace-reads system text (Fault.BadCommand k) n h = refl

-- nor of writing
trace-writes : (system : System) (text : List ℕ) (fault : Fault) (n : ℕ) → RefusesTrace system text fault → fault_writes fault n ≡ n
trace-writes system text Fault.Memory n h = refl
trace-writes system text (Fault.NoSystem f) n h = refl
trace-writes system text (Fault.Trace f) n h = refl
trace-writes system text (Fault.Refused why) n h = refl
trace-writes system text Fault.ReadFailed n h = refl
trace-writes system text Fault.WriteFailed n h = absurd h
trace-writes system text (Fault.BadCommand k) n h = refl

-- nothing that refuses to begin is a fault of reading
pub begin-reads : (source stimulus : List ℕ) (trace : Option (List ℕ)) (fault : Fault) (n : ℕ)
    → RefusesToBegin source stimulus trace fault → fault_reads fault n ≡ n
begin-reads source stimulus None fault n h = refused-reads source stimulus fault n h
begin-reads source stimulus (Some trace) fault n (inl h) = refused-reads source stimulus fault n h
begin-reads source stimulus (Some trace) fault n (inr (system, accepted, h)) = trace-reads system trace fault n h

-- nor of writing
pub begin-writes : (source stimulus : List ℕ) (trace : Option (List ℕ)) (fault : Fault) (n : ℕ)
    → RefusesToBegin source stimulus trace fault → fault_writes fault n ≡ n
begin-writes source stimulus None fault n h = refused-writes source stimulus fault n h
begin-writes source stimulus (Some trace) fault n (inl h) = refused-writes source stimulus fault n h
begin-writes source stimulus (Some trace) fault n (inr (system, accepted, h)) = trace-writes system trace fault n h
