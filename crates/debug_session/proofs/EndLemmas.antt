-- How a session ends: what is pending is written out, or it is not.
use Rattle.std.proofs.Common.{◌≡◌, ℕ, List, [], ◌∷◌, ◌++◌, append-nil, Option, Result, Ok, Err, refl, sym, ap, ◌∙◌, subst, inl, inr}
use Rattle.std.specs.Option.{IfSome}
use Rattle.std.specs.List.{flat_map}
use Rattle.std.specs.Io.KnownBytes.{Appends, IsAtEnd}
use Rattle.devices.specs.Counting.{IsBeginning}
use Rattle.system.specs.declared.system.System.{System}
use Rattle.debug_session.specs.AtLine.{AtLine}
use Rattle.debug_session.specs.declared.fault.Fault.{Fault}
use Rattle.debug_session.specs.Counting.{after_reading, after_writing, WritingStops}
use Rattle.debug_session.specs.Script.{with_end}
use Rattle.debug_session.specs.Transcript.{Transcript, Answered, BeginsToAnswer, Completed, StoppedByFault, Ends}
use Rattle.debug_session.specs.internal.OneLine.{IsNoDevice, EndsByDevice, EndsByNoDevice, StopsHolding, EndsHolding}
use Rattle.debug_session.proofs.HeldLemmas.{IsPut}
use Rattle.debug_session.proofs.SessionLemmas.{rejoin-none}
use Rattle.devices.proofs.public.KnownLemmas.{Appends-then}

-- a beginning of the answers is out where a beginning of what was pending came out
begins : (s : System) (o : AtLine) (lines : List (List ℕ)) (given pending more : List ℕ) → IsBeginning pending more → Answered s o lines (given ++ pending)
    → BeginsToAnswer s o lines (given ++ more)
begins s o lines given pending more (missing, e) (m, t) =
    (missing, (m, subst (λ x. Transcript s o lines x m) (rejoin-none given pending more missing (sym e)) t))

-- what was pending could not be written at the end
completed-unwritten : (s : System) (o : AtLine) (at_end : Type 0) (taken given pending more : List ℕ) → at_end → IsBeginning pending more
    → Completed s o taken (given ++ pending) → StoppedByFault s o at_end taken (given ++ more) Fault.WriteFailed
completed-unwritten s o at_end taken given pending more ended b (lines, last, are, answered) = (
  lines,
  inr (
    last,
    record {
      tail = [];
      joined = are.joined ∙ ap (λ t. flat_map with_end lines ++ t) (sym (append-nil last));
      each = are.each;
      unended = are.unended;
      ending = inr (refl, ended);
    },
    begins s o (lines ++ last ∷ []) given pending more b answered,
  ),
)

-- nor where the session was stopped
stopped-unwritten : (s : System) (o : AtLine) (at_end : Type 0) (taken given pending more : List ℕ) (fault : Fault) → IsNoDevice fault → (pending ≡ [] → ⊥)
    → IsBeginning pending more → StopsHolding s o at_end taken given pending fault → StoppedByFault s o at_end taken (given ++ more) Fault.WriteFailed
stopped-unwritten s o at_end taken given pending more Fault.Memory not some b (inl (none, stops)) = absurd (some none)
stopped-unwritten s o at_end taken given pending more Fault.Memory not some b (inr (lines, answered, are)) =
    (lines, inl (are, begins s o lines given pending more b answered))
stopped-unwritten s o at_end taken given pending more (Fault.BadCommand n) not some b stops = absurd (some stops.0)
stopped-unwritten s o at_end taken given pending more Fault.ReadFailed not some b stops = absurd (not.0 refl)
stopped-unwritten s o at_end taken given pending more Fault.WriteFailed not some b stops = absurd (not.1 refl)
stopped-unwritten s o at_end taken given pending more (Fault.NoSystem fault) not some b stops = absurd stops.1
stopped-unwritten s o at_end taken given pending more (Fault.Trace fault) not some b stops = absurd stops.1
stopped-unwritten s o at_end taken given pending more (Fault.Refused why) not some b stops = absurd stops.1

-- what was pending is out
stopped-written : (s : System) (o : AtLine) (at_end : Type 0) (taken given pending more : List ℕ) (fault : Fault) → IsNoDevice fault → more ≡ pending
    → StopsHolding s o at_end taken given pending fault → StoppedByFault s o at_end taken (given ++ more) fault
stopped-written s o at_end taken given pending more Fault.Memory not e (inl (none, stops)) =
    subst (λ t. StoppedByFault s o at_end taken t Fault.Memory) (sym (ap (λ t. given ++ t) (e ∙ none) ∙ append-nil given)) stops
stopped-written s o at_end taken given pending more Fault.Memory not e (inr (lines, (m, t), are)) =
    (lines, [], (m, subst (λ x. Transcript s o lines (given ++ x) m) (sym e) t), inl are)
stopped-written s o at_end taken given pending more (Fault.BadCommand n) not e (none, stops) =
    subst (λ t. StoppedByFault s o at_end taken t (Fault.BadCommand n)) (sym (ap (λ t. given ++ t) (e ∙ none) ∙ append-nil given)) stops
stopped-written s o at_end taken given pending more Fault.ReadFailed not e stops = absurd (not.0 refl)
stopped-written s o at_end taken given pending more Fault.WriteFailed not e stops = absurd (not.1 refl)
stopped-written s o at_end taken given pending more (Fault.NoSystem fault) not e stops = absurd stops.1
stopped-written s o at_end taken given pending more (Fault.Trace fault) not e stops = absurd stops.1
stopped-written s o at_end taken given pending more (Fault.Refused why) not e stops = absurd stops.1

-- the end, where what was pending is out
ended-written : (s : System) (o : AtLine) (read left wrote contents after : Option (List ℕ)) (pending more : List ℕ) (r : Result (Unit {0}) Fault)
    → EndsHolding s o read left wrote contents pending r → EndsByNoDevice r → Appends contents after more → more ≡ pending
    → Ends s o read left wrote after r
ended-written s o read left wrote contents after pending more (Ok x) (taken, given, takes, gives, (ended, (lines, last, are, (m, t)))) not writes e = (
  taken,
  given ++ more,
  takes,
  Appends-then wrote contents after given more gives writes,
  (ended, (lines, last, are, (m, subst (λ x. Transcript s o (lines ++ last ∷ []) (given ++ x) m) (sym e) t))),
)
ended-written s o read left wrote contents after pending more (Err fault) (taken, given, takes, gives, stops) not writes e = (
  taken,
  given ++ more,
  takes,
  Appends-then wrote contents after given more gives writes,
  stopped-written s o (IfSome read (λ _. IsAtEnd left)) taken given pending more fault not e stops,
)

-- the end, where it could not be written
ended-unwritten : (s : System) (o : AtLine) (read left wrote contents after : Option (List ℕ)) (pending : List ℕ) (r : Result (Unit {0}) Fault)
    → EndsHolding s o read left wrote contents pending r → EndsByNoDevice r → (pending ≡ [] → ⊥)
    → (more : List ℕ) × Appends contents after more × IsBeginning pending more
    → Ends s o read left wrote after (Err Fault.WriteFailed)
ended-unwritten s o read left wrote contents after pending (Ok x) (taken, given, takes, gives, (ended, all)) not some (more, writes, b) = (
  taken,
  given ++ more,
  takes,
  Appends-then wrote contents after given more gives writes,
  completed-unwritten s o (IfSome read (λ _. IsAtEnd left)) taken given pending more ended b all,
)
ended-unwritten s o read left wrote contents after pending (Err fault) (taken, given, takes, gives, stops) not some (more, writes, b) = (
  taken,
  given ++ more,
  takes,
  Appends-then wrote contents after given more gives writes,
  stopped-unwritten s o (IfSome read (λ _. IsAtEnd left)) taken given pending more fault not some b stops,
)

-- the end, where a device failed
pub ended-by-device : (s : System) (o : AtLine) (read left wrote contents : Option (List ℕ)) (pending : List ℕ) (r : Result (Unit {0}) Fault)
    → EndsByDevice r → EndsHolding s o read left wrote contents pending r → Ends s o read left wrote contents r
ended-by-device s o read left wrote contents pending (Ok x) device h = absurd device
ended-by-device s o read left wrote contents pending (Err Fault.ReadFailed) device (taken, given, takes, gives, (none, stops)) = (taken, given, takes, gives, stops)
ended-by-device s o read left wrote contents pending (Err Fault.WriteFailed) device (taken, given, takes, gives, stops) = (taken, given, takes, gives, stops)
ended-by-device s o read left wrote contents pending (Err Fault.Memory) device h = absurd device
ended-by-device s o read left wrote contents pending (Err (Fault.NoSystem f)) device h = absurd device
ended-by-device s o read left wrote contents pending (Err (Fault.Trace f)) device h = absurd device
ended-by-device s o read left wrote contents pending (Err (Fault.Refused why)) device h = absurd device
ended-by-device s o read left wrote contents pending (Err (Fault.BadCommand k)) device h = absurd device

-- the end, where what was pending could not be written, and the result is that
pub ended-unput : (s : System) (o : AtLine) (read left wrote contents after : Option (List ℕ)) (pending : List ℕ) (r q : Result (Unit {0}) Fault) (fault : Fault)
    → EndsHolding s o read left wrote contents pending r → EndsByNoDevice r → (pending ≡ [] → ⊥)
    → (more : List ℕ) × Appends contents after more × WritingStops pending more fault → q ≡ Err fault → Ends s o read left wrote after q
ended-unput s o read left wrote contents after pending r q fault h not some (more, writes, (failed, b)) is =
    subst (Ends s o read left wrote after) (sym (is ∙ ap Err failed))
    (ended-unwritten s o read left wrote contents after pending r h not some (more, writes, b))

-- the end, where it was written
pub ended-put : (s : System) (o : AtLine) (read left wrote contents after : Option (List ℕ)) (pending pending' : List ℕ) (r : Result (Unit {0}) Fault)
    → EndsHolding s o read left wrote contents pending r → EndsByNoDevice r → (more : List ℕ) × Appends contents after more × IsPut pending pending' more
    → Ends s o read left wrote after r
ended-put s o read left wrote contents after pending pending' r h not (more, writes, (all, none)) =
    ended-written s o read left wrote contents after pending more r h not writes all

-- no device failed at the end
pub quiet-reads : (r : Result (Unit {0}) Fault) (n : ℕ) → EndsByNoDevice r → after_reading r n ≡ n
quiet-reads (Ok x) n h = refl
quiet-reads (Err Fault.Memory) n h = refl
quiet-reads (Err (Fault.NoSystem f)) n h = refl
quiet-reads (Err (Fault.Trace f)) n h = refl
quiet-reads (Err (Fault.Refused why)) n h = refl
quiet-reads (Err Fault.ReadFailed) n h = absurd (h.0 refl)
quiet-reads (Err Fault.WriteFailed) n h = refl
quiet-reads (Err (Fault.BadCommand k)) n h = refl

pub quiet-writes : (r : Result (Unit {0}) Fault) (n : ℕ) → EndsByNoDevice r → after_writing r n ≡ n
quiet-writes (Ok x) n h = refl
quiet-writes (Err Fault.Memory) n h = refl
quiet-writes (Err (Fault.NoSystem f)) n h = refl
quiet-writes (Err (Fault.Trace f)) n h = refl
quiet-writes (Err (Fault.Refused why)) n h = refl
quiet-writes (Err Fault.ReadFailed) n h = refl
quiet-writes (Err Fault.WriteFailed) n h = absurd (h.1 refl)
quiet-writes (Err (Fault.BadCommand k)) n h = refl

-- a failed write says nothing of the reader
pub unput-reads : (fault : Fault) (q : Result (Unit {0}) Fault) (n : ℕ) → fault ≡ Fault.WriteFailed → q ≡ Err fault → after_reading q n ≡ n
unput-reads fault q n failed is = ap (λ (x : Result (Unit {0}) Fault). after_reading x n) (is ∙ ap Err failed)

-- so writing did not fail
pub quiet-unwritten : (r : Result (Unit {0}) Fault) → EndsByNoDevice r → r ≡ Err Fault.WriteFailed → ⊥
quiet-unwritten r h e = (subst EndsByNoDevice e h).1 refl
