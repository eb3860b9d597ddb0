-- How far a session has come with what it holds, and how it ends where that cannot be written.
use Rattle.std.proofs.Common.{◌≡◌, ◌⊎◌, ℕ, ◌≤◌, List, [], ◌∷◌, ◌++◌, Bool, true, false, Option, Result, Ok, Err, length, refl, sym, ap, ◌∙◌, subst, inl, inr, arith, append_assoc, append-nil}
use Rattle.std.proofs.lemmas.Bool.{false≢true}
use Rattle.std.specs.List.{flat_map}
use Rattle.std.specs.Io.KnownBytes.{Appends, Consumes}
use Rattle.syntax.specs.Lists.{Every}
use Rattle.syntax.specs.Texts.{line_end}
use Rattle.devices.proofs.public.KnownLemmas.{Appends-none, Consumes-none, Appends-then, Consumes-then, end-known}
use Rattle.system.specs.declared.system.System.{System}
use Rattle.debug_session.specs.Accepting.{IsRefused}
use Rattle.debug_session.specs.AtLine.{AtLine, first_line}
use Rattle.debug_session.specs.Counting.{WritesShort}
use Rattle.debug_session.specs.Holding.{most_held, TookLines, AreDue, RestWasAtHand, EndsWriting}
use Rattle.debug_session.specs.Script.{IsLine, with_end}
use Rattle.debug_session.specs.Transcript.{LineAnswered, Transcript}
use Rattle.debug_session.specs.declared.fault.Fault.{Fault}
use Rattle.debug_session.specs.internal.OneLine.{TakesLine, LineStops, EndsByNoDevice}
use Rattle.debug_session.specs.internal.Owing.{WritesAll, LineDone, LineLacks, LineFails, Owes, EndsOwing}
use Rattle.debug_session.proofs.SessionLemmas.{transcript-push, every-push, joined-push}

-- one transcript and then another
transcript-append : (s : System) (a m e : AtLine) (lines more : List (List ℕ)) (out rest : List ℕ) → Transcript s a lines out m
    → Transcript s m more rest e → Transcript s a (lines ++ more) (out ++ rest) e
transcript-append s a m e [] more out rest (none, same) t =
    subst (λ x. Transcript s a more (x ++ rest) e) (sym none) (subst (λ x. Transcript s x more rest e) same t)
transcript-append s a m e (l ∷ lines) more out rest (first, last, mid, answered, so, is) t = (
  first,
  last ++ rest,
  mid,
  answered,
  transcript-append s mid m e lines more last rest so t,
  ap (λ x. x ++ rest) is ∙ append_assoc first last rest,
)

-- one more line that stood in the buffer
one-more : {R A : Type 0} (buffered : R → List ℕ) (asked : R → A) (now now' : R) (since : List (List ℕ)) (line : List ℕ)
    → RestWasAtHand buffered asked now since → buffered now ≡ line ++ line_end ∷ buffered now' → asked now' ≡ asked now
    → RestWasAtHand buffered asked now' (since ++ line ∷ [])
one-more buffered asked now now' [] line h b a = (now', (refl, refl))
one-more buffered asked now now' (l ∷ rest) line (was, (e, k)) b a = (
  was,
  (
    e ∙ (ap (λ t. flat_map with_end rest ++ t) (b ∙ sym (append_assoc line (line_end ∷ []) (buffered now')))
        ∙ (sym (append_assoc (flat_map with_end rest) (with_end line) (buffered now')) ∙ ap (λ t. t ++ buffered now') (joined-push rest line))),
    a ∙ k,
  ),
)

-- lines with their ends were taken
took-whole : (read left : Option (List ℕ)) (lines : List (List ℕ)) → Every IsLine lines → Consumes read left (flat_map with_end lines) → TookLines read left lines
took-whole read left lines each took = record { text = flat_map with_end lines; taken = took; each = each; joined = inl refl }

-- the lines with the last one were taken
took-line : (read was left : Option (List ℕ)) (lines : List (List ℕ)) (line : List ℕ) (complete : Bool) → Every IsLine lines
    → Consumes read was (flat_map with_end lines) → TakesLine was left line complete → TookLines read left (lines ++ line ∷ [])
took-line read was left lines line true each took takes = record {
  text = flat_map with_end lines ++ with_end line;
  taken = Consumes-then read was left (flat_map with_end lines) (with_end line) took takes.1;
  each = every-push lines line each takes.0;
  joined = inl (joined-push lines line);
}
took-line read was left lines line false each took takes = record {
  text = flat_map with_end lines ++ line;
  taken = Consumes-then read was left (flat_map with_end lines) line took takes.1.0;
  each = every-push lines line each takes.0;
  joined = inr (lines, line, refl, refl, end-known read was left (flat_map with_end lines) took takes.1.1);
}

-- all lines with one more, where it had its end
took-more : (read was left : Option (List ℕ)) (lines : List (List ℕ)) (line : List ℕ) → Consumes read was (flat_map with_end lines)
    → Consumes was left (with_end line) → Consumes read left (flat_map with_end (lines ++ line ∷ []))
took-more read was left lines line took takes =
    subst (Consumes read left) (joined-push lines line) (Consumes-then read was left (flat_map with_end lines) (with_end line) took takes)

-- the answer to one line
transcript-one : (s : System) (m m' : AtLine) (line answer : List ℕ) → LineAnswered s m line answer m' → Transcript s m (line ∷ []) answer m'
transcript-one s m m' line answer a = (answer, [], m', a, (refl, refl), sym (append-nil answer))

-- a fault is that of writing
abbrev IsWriting : Fault → Type 0
IsWriting Fault.WriteFailed = Unit {0}
IsWriting _ = ⊥

-- a result that is no fault
abbrev IsDone : Result (Unit {0}) Fault → Type 0
IsDone (Ok done) = Unit {0}
IsDone (Err fault) = ⊥

-- the fault of a result
abbrev fault-in : Result (Unit {0}) Fault → Fault
fault-in (Ok done) = Fault.Memory
fault-in (Err fault) = fault

-- two faults of one result are one
pub one-fault : (r : Result (Unit {0}) Fault) (fault other : Fault) → r ≡ Err fault → r ≡ Err other → fault ≡ other
one-fault r fault other e k = ap fault-in (sym e ∙ k)

-- a result that is another fault than that of writing
not-writing : (r : Result (Unit {0}) Fault) (fault : Fault) → r ≡ Err fault → r ≡ Err Fault.WriteFailed → IsWriting fault
not-writing r fault e k = subst IsWriting (sym (one-fault r fault Fault.WriteFailed e k)) tt

-- where writing failed a device failed
device-failed : (r : Result (Unit {0}) Fault) (fault : Fault) → r ≡ Err fault → fault ≡ Fault.WriteFailed → EndsByNoDevice r → ⊥
device-failed r fault e k h = (subst EndsByNoDevice (e ∙ ap Err k) h).1 refl

-- it is none of writing
stops-unwriting : (s : System) (line : List ℕ) (number : ℕ) (fault : Fault) → LineStops s line number fault → IsWriting fault → ⊥
stops-unwriting s line number Fault.WriteFailed h k = h
stops-unwriting s line number Fault.Memory h k = k
stops-unwriting s line number (Fault.BadCommand n) h k = k
stops-unwriting s line number Fault.ReadFailed h k = k
stops-unwriting s line number (Fault.NoSystem fault) h k = k
stops-unwriting s line number (Fault.Trace fault) h k = k
stops-unwriting s line number (Fault.Refused why) h k = k

-- a refusal of source and stimulus is none of writing
pub refused-unwritten : (source stimulus : List ℕ) (fault : Fault) → IsRefused source stimulus fault → fault ≡ Fault.WriteFailed → ⊥
refused-unwritten source stimulus fault h e = subst (IsRefused source stimulus) e h

-- a failure to read is none of writing
unread-unwritten : (fault : Fault) → (fault ≡ Fault.Memory) ⊎ (fault ≡ Fault.ReadFailed) → fault ≡ Fault.WriteFailed → ⊥
unread-unwritten fault (inl h) k = subst IsWriting (sym k ∙ h) tt
unread-unwritten fault (inr h) k = subst IsWriting (sym k ∙ h) tt

-- nor is a line that is lacking
lacks-unwritten : (s : System) (old new : Option (List ℕ)) (line : List ℕ) (number : ℕ) (fault : Fault) → LineLacks s old new line number fault
    → fault ≡ Fault.WriteFailed → ⊥
lacks-unwritten s old new line number fault (inl (one, takes, which)) k = unread-unwritten fault which k
lacks-unwritten s old new line number fault (inr (complete, takes, stops)) k = stops-unwriting s line number fault stops (subst IsWriting (sym k) tt)

module _ {R A W : Type 0} (buffered : R → List ℕ) (asked : R → A) (written : W → Option (List ℕ)) (unsent wanted : W → ℕ) where
  -- so a session ends where writing failed
  abbrev Breaks : System → AtLine → R → Option (List ℕ) → Option (List ℕ) → W → W → Type 0
  Breaks = EndsWriting buffered asked written unsent wanted

  -- the lines so far are answered: the answers to those before are out, and those to the last lines are pending
  pub record Holding (s : System) (o : AtLine) (now : R) (read left : Option (List ℕ)) (first here : W) (pending : List ℕ) (m : AtLine) : Type 0 where
    pub before : List (List ℕ)
    pub since : List (List ℕ)
    pub out : List ℕ
    pub mid : AtLine
    pub answered : Transcript s o before out mid
    pub held_since : Transcript s mid since pending m
    pub few : length pending ≤ most_held
    pub each : Every IsLine (before ++ since)
    pub took : Consumes read left (flat_map with_end (before ++ since))
    pub writes : Appends (written first) (written here) out
    pub at_hand : RestWasAtHand buffered asked now since
    pub sent : unsent here ≤ unsent first

  -- the beginning
  pub holding-start : (s : System) (o : AtLine) (now : R) (read : Option (List ℕ)) (first : W) (pending : List ℕ) → pending ≡ []
      → Holding s o now read read first first pending o
  holding-start s o now read first pending none = record {
    before = [];
    since = [];
    out = [];
    mid = o;
    answered = (refl, refl);
    held_since = (none, refl);
    few = subst (λ t. length t ≤ most_held) (sym none) (omega arith);
    each = tt;
    took = Consumes-none read;
    writes = Appends-none (written first);
    at_hand = tt;
    sent = omega arith;
  }

  -- writing failed behind these lines
  breaks-with : (s : System) (o mid : AtLine) (now : R) (read left : Option (List ℕ)) (first here after : W) (before since : List (List ℕ)) (out due : List ℕ)
      → Transcript s o before out mid → RestWasAtHand buffered asked now since → TookLines read left (before ++ since)
      → Appends (written first) (written here) out → unsent here ≤ unsent first → AreDue s mid since due → WritesShort written unsent wanted here after due
      → Breaks s o now read left first after
  breaks-with s o mid now read left first here after before since out due answered at_hand took writes less are (given, gives, short, more) = record {
    lines = before ++ since;
    took = took;
    output = out ++ given;
    writes = Appends-then (written first) (written here) (written after) out given writes gives;
    breaks = record {
      before = before;
      since = since;
      all = refl;
      out = out;
      mid = mid;
      answered = answered;
      at_hand = at_hand;
      due = due;
      are_due = are;
      given = given;
      short = short;
      put = refl;
      sent = omega (arith, less, more);
    };
  }

  -- what is pending could not be written
  breaks-holding : (s : System) (o m : AtLine) (now : R) (read left : Option (List ℕ)) (first here after : W) (pending : List ℕ)
      → Holding s o now read left first here pending m → WritesShort written unsent wanted here after pending → Breaks s o now read left first after
  breaks-holding s o m now read left first here after pending p short =
      breaks-with s o p.mid now read left first here after p.before p.since p.out pending p.answered p.at_hand
      (took-whole read left (p.before ++ p.since) p.each p.took) p.writes p.sent (m, p.held_since, inl p.few) short

  -- what was pending is out, and the answer to one line more could not be written
  breaks-line : (s : System) (o m m' : AtLine) (now now' : R) (read left left' : Option (List ℕ)) (first here mid after : W) (pending line answer : List ℕ)
      (complete : Bool) → Holding s o now read left first here pending m → WritesAll written unsent here mid pending → TakesLine left left' line complete
      → LineAnswered s m line answer m' → WritesShort written unsent wanted mid after answer → Breaks s o now' read left' first after
  breaks-line s o m m' now now' read left left' first here mid after pending line answer complete p (gives, less) takes a short =
      breaks-with s o m now' read left' first mid after (p.before ++ p.since) (line ∷ []) (p.out ++ pending) answer
      (transcript-append s o p.mid m p.before p.since p.out pending p.answered p.held_since) (now', (refl, refl))
      (took-line read left left' (p.before ++ p.since) line complete p.each p.took takes)
      (Appends-then (written first) (written here) (written mid) p.out pending p.writes gives) (omega (arith, p.sent, less))
      (m', transcript-one s m m' line answer a, inr (line, refl)) short

  -- a line that stood in the buffer is answered, and the answer is pending behind what was
  holding-behind : (s : System) (o m m' : AtLine) (now now' : R) (read left left' : Option (List ℕ)) (first here : W) (pending pending' line answer : List ℕ)
      → Holding s o now read left first here pending m → TakesLine left left' line true → LineAnswered s m line answer m'
      → buffered now ≡ line ++ line_end ∷ buffered now' → asked now' ≡ asked now → pending' ≡ pending ++ answer → length pending' ≤ most_held
      → Holding s o now' read left' first here pending' m'
  holding-behind s o m m' now now' read left left' first here pending pending' line answer p takes a b k e few = record {
    before = p.before;
    since = p.since ++ line ∷ [];
    out = p.out;
    mid = p.mid;
    answered = p.answered;
    held_since = subst (λ t. Transcript s p.mid (p.since ++ line ∷ []) t m') (sym e) (transcript-push s p.mid m m' p.since pending line answer p.held_since a);
    few = few;
    each = subst (Every IsLine) (append_assoc p.before p.since (line ∷ [])) (every-push (p.before ++ p.since) line p.each takes.0);
    took = subst (λ t. Consumes read left' (flat_map with_end t)) (append_assoc p.before p.since (line ∷ []))
        (took-more read left left' (p.before ++ p.since) line p.took takes.1);
    writes = p.writes;
    at_hand = one-more buffered asked now now' p.since line p.at_hand b k;
    sent = p.sent;
  }

  -- what was pending is out, and the answer to the line is pending
  holding-alone : (s : System) (o m m' : AtLine) (now now' : R) (read left left' : Option (List ℕ)) (first here here' : W) (pending pending' line answer : List ℕ)
      → Holding s o now read left first here pending m → WritesAll written unsent here here' pending → TakesLine left left' line true
      → LineAnswered s m line answer m' → pending' ≡ answer → length answer ≤ most_held → Holding s o now' read left' first here' pending' m'
  holding-alone s o m m' now now' read left left' first here here' pending pending' line answer p (gives, less) takes a e few = record {
    before = p.before ++ p.since;
    since = line ∷ [];
    out = p.out ++ pending;
    mid = m;
    answered = transcript-append s o p.mid m p.before p.since p.out pending p.answered p.held_since;
    held_since = subst (λ t. Transcript s m (line ∷ []) t m') (sym e) (transcript-one s m m' line answer a);
    few = subst (λ t. length t ≤ most_held) (sym e) few;
    each = every-push (p.before ++ p.since) line p.each takes.0;
    took = took-more read left left' (p.before ++ p.since) line p.took takes.1;
    writes = Appends-then (written first) (written here) (written here') p.out pending p.writes gives;
    at_hand = (now', (refl, refl));
    sent = omega (arith, p.sent, less);
  }

  -- all is out, with the answer to the line
  holding-none : (s : System) (o m m' : AtLine) (now now' : R) (read left left' : Option (List ℕ)) (first here here' : W) (pending pending' line answer : List ℕ)
      → Holding s o now read left first here pending m → WritesAll written unsent here here' (pending ++ answer) → TakesLine left left' line true
      → LineAnswered s m line answer m' → pending' ≡ [] → Holding s o now' read left' first here' pending' m'
  holding-none s o m m' now now' read left left' first here here' pending pending' line answer p (gives, less) takes a none =
      let every : List (List ℕ) = (p.before ++ p.since) ++ line ∷ [] in record {
        before = every;
        since = [];
        out = p.out ++ (pending ++ answer);
        mid = m';
        answered = subst (λ t. Transcript s o every t m') (append_assoc p.out pending answer)
            (transcript-push s o m m' (p.before ++ p.since) (p.out ++ pending) line answer
            (transcript-append s o p.mid m p.before p.since p.out pending p.answered p.held_since) a);
        held_since = (none, refl);
        few = subst (λ t. length t ≤ most_held) (sym none) (omega arith);
        each = subst (Every IsLine) (sym (append-nil every)) (every-push (p.before ++ p.since) line p.each takes.0);
        took = subst (λ t. Consumes read left' (flat_map with_end t)) (sym (append-nil every))
            (took-more read left left' (p.before ++ p.since) line p.took takes.1);
        writes = Appends-then (written first) (written here) (written here') p.out (pending ++ answer) p.writes gives;
        at_hand = tt;
        sent = omega (arith, p.sent, less);
      }

  -- what is owed where no line lacks its answer
  owes-holding : (s : System) (o m : AtLine) (now : R) (read left : Option (List ℕ)) (first here : W) (pending : List ℕ)
      → Holding s o now read left first here pending m → Owes buffered asked written unsent wanted s o now read left first here pending
  owes-holding s o m now read left first here pending p after short some = breaks-holding s o m now read left first here after pending p short

  -- nothing is owed where nothing is pending
  owes-nothing : (s : System) (o : AtLine) (now : R) (read left : Option (List ℕ)) (first here : W) (pending : List ℕ) → pending ≡ []
      → Owes buffered asked written unsent wanted s o now read left first here pending
  owes-nothing s o now read left first here pending none after short some = absurd (some none)

  -- no line is left to count
  pub owing-endless : (s : System) (o m : AtLine) (now : R) (read left : Option (List ℕ)) (first here : W) (pending : List ℕ)
      → Holding s o now read left first here pending m
      → EndsOwing buffered asked written unsent wanted s o now read left first here pending (Err Fault.Memory)
  owing-endless s o m now read left first here pending p = (
    (λ h. absurd (not-writing (Err Fault.Memory) Fault.Memory refl h)),
    (λ _. owes-holding s o m now read left first here pending p),
    (λ _. p.sent),
  )

  -- the session on a new desk
  pub begun-holding : (o : AtLine) (system : System) (source : List ℕ) (now : R) (read left : Option (List ℕ)) (first after : W) → o ≡ first_line system source
      → Breaks o.desk.machine.checked o now read left first after → Breaks system (first_line system source) now read left first after
  begun-holding o system source now read left first after e ends = subst (λ x. Breaks x.desk.machine.checked x now read left first after) e ends

  -- what is pending could not be written at the end
  pub owing-unput : (s : System) (o : AtLine) (now : R) (read left : Option (List ℕ)) (first here after : W) (pending : List ℕ) (r : Result (Unit {0}) Fault)
      → EndsOwing buffered asked written unsent wanted s o now read left first here pending r → EndsByNoDevice r
      → WritesShort written unsent wanted here after pending → (pending ≡ [] → ⊥) → Breaks s o now read left first after
  owing-unput s o now read left first here after pending r owes quiet short some = owes.1 quiet after short some

  -- a line with its end is answered
  holding-on : (remaining : R → Option (List ℕ)) (s : System) (o m m' : AtLine) (now now' : R) (read : Option (List ℕ)) (first here here' : W)
      (pending pending' line : List ℕ) (complete : Bool) → complete ≡ true → Holding s o now read (remaining now) first here pending m
      → LineDone remaining buffered asked written unsent s m m' now now' here here' pending pending' line complete
      → Holding s o now' read (remaining now') first here' pending' m'
  holding-on remaining s o m m' now now' read first here here' pending pending' line complete ended p done =
      let whole : TakesLine (remaining now) (remaining now') line true = subst (TakesLine (remaining now) (remaining now') line) ended done.takes in
      elim done.held [
        | inl (same, at_hand, kept) ↦ subst (λ w. Holding s o now' read (remaining now') first w pending' m') (sym kept.0)
            (holding-behind s o m m' now now' read (remaining now) (remaining now') first here pending pending' line done.answer p whole done.answered
            at_hand.0 at_hand.1 kept.1 kept.2)
        | inr (inl alone) ↦ holding-alone s o m m' now now' read (remaining now) (remaining now') first here here' pending pending' line done.answer p
            alone.0 whole done.answered alone.1 alone.2
        | inr (inr out) ↦ holding-none s o m m' now now' read (remaining now) (remaining now') first here here' pending pending' line done.answer p
            out.0 whole done.answered out.1
      ]

  -- the same on the system that the session began with
  pub holding-more : (remaining : R → Option (List ℕ)) (s t : System) (o m m' : AtLine) (now now' : R) (read : Option (List ℕ)) (first here here' : W)
      (pending pending' line : List ℕ) (complete : Bool) → t ≡ s → complete ≡ true → Holding s o now read (remaining now) first here pending m
      → LineDone remaining buffered asked written unsent t m m' now now' here here' pending pending' line complete
      → Holding s o now' read (remaining now') first here' pending' m'
  holding-more remaining s t o m m' now now' read first here here' pending pending' line complete same ended p done =
      holding-on remaining s o m m' now now' read first here here' pending pending' line complete ended p
      (subst (λ x. LineDone remaining buffered asked written unsent x m m' now now' here here' pending pending' line complete) same done)

  -- what is owed where the last line is answered, which has no end
  owes-last : (remaining : R → Option (List ℕ)) (s : System) (o m m' : AtLine) (now now' : R) (read : Option (List ℕ)) (first here here' : W)
      (pending pending' line : List ℕ) (complete : Bool) → complete ≡ false → Holding s o now read (remaining now) first here pending m
      → LineDone remaining buffered asked written unsent s m m' now now' here here' pending pending' line complete
      → Owes buffered asked written unsent wanted s o now' read (remaining now') first here' pending'
  owes-last remaining s o m m' now now' read first here here' pending pending' line complete ended p done after short some =
      elim done.held [
        | inl (same, at_hand, kept) ↦ absurd (false≢true (sym ended ∙ same))
        | inr (inl alone) ↦ breaks-line s o m m' now now' read (remaining now) (remaining now') first here here' after pending line done.answer complete p
            alone.0 done.takes done.answered (subst (WritesShort written unsent wanted here' after) alone.1 short)
        | inr (inr out) ↦ absurd (some out.1)
      ]

  -- what was written behind a line is sent on
  done-sent : (remaining : R → Option (List ℕ)) (s : System) (m m' : AtLine) (now now' : R) (here here' : W) (pending pending' line : List ℕ) (complete : Bool)
      → LineDone remaining buffered asked written unsent s m m' now now' here here' pending pending' line complete → unsent here' ≤ unsent here
  done-sent remaining s m m' now now' here here' pending pending' line complete done =
      elim done.held [
        | inl (same, at_hand, kept) ↦ subst (λ w. unsent w ≤ unsent here) (sym kept.0) (omega arith)
        | inr (inl alone) ↦ alone.0.1
        | inr (inr out) ↦ out.0.1
      ]

  -- the last line is answered
  pub owing-done : (remaining : R → Option (List ℕ)) (s t : System) (o m m' : AtLine) (now now' : R) (read : Option (List ℕ)) (first here here' : W)
      (pending pending' line : List ℕ) (complete : Bool) → t ≡ s → complete ≡ false → Holding s o now read (remaining now) first here pending m
      → LineDone remaining buffered asked written unsent t m m' now now' here here' pending pending' line complete
      → EndsOwing buffered asked written unsent wanted s o now' read (remaining now') first here' pending' (Ok tt)
  owing-done remaining s t o m m' now now' read first here here' pending pending' line complete same ended p done = (
    (λ h. absurd (subst IsDone h tt)),
    (λ _. owes-last remaining s o m m' now now' read first here here' pending pending' line complete ended p
        (subst (λ x. LineDone remaining buffered asked written unsent x m m' now now' here here' pending pending' line complete) same done)),
    (λ _. omega (arith, p.sent, done-sent remaining t m m' now now' here here' pending pending' line complete done)),
  )

  -- the session ends at a line, and the result is its fault
  owing-fails : (remaining : R → Option (List ℕ)) (s : System) (o m : AtLine) (now now' : R) (read : Option (List ℕ)) (first here here' : W)
      (pending pending' line : List ℕ) (number : ℕ) (fault : Fault) (r : Result (Unit {0}) Fault) → Holding s o now read (remaining now) first here pending m
      → LineFails remaining written unsent wanted s m now now' here here' pending pending' line number fault → r ≡ Err fault
      → EndsOwing buffered asked written unsent wanted s o now' read (remaining now') first here' pending' r
  owing-fails remaining s o m now now' read first here here' pending pending' line number fault r p (inl (failed, same, short)) is = (
    (λ _. subst (λ x. Breaks s o x read (remaining x) first here') (sym same)
        (breaks-holding s o m now read (remaining now) first here here' pending p short)),
    (λ h. absurd (device-failed r fault is failed h)),
    (λ not. absurd (not (is ∙ ap Err failed))),
  )
  owing-fails remaining s o m now now' read first here here' pending pending' line number fault r p (inr (inl (memory, same, kept, still))) is = (
    (λ h. absurd (subst IsWriting memory (not-writing r fault is h))),
    subst (λ x. EndsByNoDevice r → Owes buffered asked written unsent wanted s o x read (remaining x) first here' pending') (sym same)
        (subst (λ x. EndsByNoDevice r → Owes buffered asked written unsent wanted s o now read (remaining now) first x pending') (sym kept)
        (subst (λ x. EndsByNoDevice r → Owes buffered asked written unsent wanted s o now read (remaining now) first here x) (sym still)
        (λ _. owes-holding s o m now read (remaining now) first here pending p))),
    (λ _. subst (λ x. unsent x ≤ unsent first) (sym kept) p.sent),
  )
  owing-fails remaining s o m now now' read first here here' pending pending' line number fault r p (inr (inr (inl (none, gives, lacks)))) is = (
    (λ h. absurd (lacks-unwritten s (remaining now) (remaining now') line number fault lacks (one-fault r fault Fault.WriteFailed is h))),
    (λ _. owes-nothing s o now' read (remaining now') first here' pending' none),
    (λ _. omega (arith, p.sent, gives.1)),
  )
  owing-fails remaining s o m now now' read first here here' pending pending' line number fault r p
      (inr (inr (inr (complete, answer, m', takes, a, (failed, (mid, gives, short)))))) is = (
        (λ _. breaks-line s o m m' now now' read (remaining now) (remaining now') first here mid here' pending line answer complete p gives takes a short),
        (λ h. absurd (device-failed r fault is failed h)),
        (λ not. absurd (not (is ∙ ap Err failed))),
      )

  -- the same on the system that the session began with
  pub owing-line : (remaining : R → Option (List ℕ)) (s t : System) (o m : AtLine) (now now' : R) (read : Option (List ℕ)) (first here here' : W)
      (pending pending' line : List ℕ) (number : ℕ) (fault : Fault) (r : Result (Unit {0}) Fault) → t ≡ s → Holding s o now read (remaining now) first here pending m
      → LineFails remaining written unsent wanted t m now now' here here' pending pending' line number fault → r ≡ Err fault
      → EndsOwing buffered asked written unsent wanted s o now' read (remaining now') first here' pending' r
  owing-line remaining s t o m now now' read first here here' pending pending' line number fault r same p fails is =
      owing-fails remaining s o m now now' read first here here' pending pending' line number fault r p
      (subst (λ x. LineFails remaining written unsent wanted x m now now' here here' pending pending' line number fault) same fails) is
