-- How far a session has come, and how it goes on.
use Rattle.std.proofs.Common.{◌≡◌, ◌⊎◌, ℕ, suc, ◌+◌, List, [], ◌∷◌, ◌++◌, Bool, true, false, Option, Result, Ok, Err, length, add-one, refl, sym, ap, ◌∙◌, subst, inl, inr, append_assoc, append-nil}
use Rattle.std.specs.Option.{IfSome}
use Rattle.std.specs.List.{flat_map}
use Rattle.std.specs.Io.KnownBytes.{Appends, Consumes, IsAtEnd}
use Rattle.std.proofs.lemmas.List.Concat.{flat_map-append}
use Rattle.std.proofs.lemmas.List.Elements.{All-nil}
use Rattle.syntax.specs.Lists.{Every}
use Rattle.system.specs.declared.system.System.{System}
use Rattle.debug_session.specs.AtLine.{AtLine, first_line}
use Rattle.debug_session.specs.declared.fault.Fault.{Fault}
use Rattle.debug_session.specs.Script.{with_end, IsLine, IsEnding, AreLines, EndWith}
use Rattle.debug_session.specs.Transcript.{LineAnswered, Transcript, Ends}
use Rattle.debug_session.specs.internal.OneLine.{TakesLine, ReadingStops, LineStops, StopsHolding, EndsHolding}
use Rattle.debug_session.specs.internal.Owing.{WasAtHand, IsHeld, IsHeldAnew, LineDone, LineLacks, LineFails}
use Rattle.devices.specs.Counting.{IsNoEnd}
use Rattle.devices.proofs.public.KnownLemmas.{Appends-none, Consumes-none, Appends-then, Consumes-then, end-known}

-- a transcript goes on with one more line
pub transcript-push : (s : System) (o m o' : AtLine) (lines : List (List ℕ)) (output line answer : List ℕ)
    → Transcript s o lines output m → LineAnswered s m line answer o' → Transcript s o (lines ++ line ∷ []) (output ++ answer) o'
transcript-push s o m o' [] output line answer (e, k) h =
    (answer, [], o', subst (λ x. LineAnswered s x line answer o') k h, (refl, refl), ap (λ t. t ++ answer) e ∙ sym (append-nil answer))
transcript-push s o m o' (l ∷ lines) output line answer (first, rest, mid, a, t, e) h = (
  first,
  rest ++ answer,
  mid,
  a,
  transcript-push s mid m o' lines rest line answer t h,
  ap (λ t. t ++ answer) e ∙ append_assoc first rest answer,
)

-- each line of a longer list
pub every-push : (lines : List (List ℕ)) (line : List ℕ) → Every IsLine lines → IsLine line → Every IsLine (lines ++ line ∷ [])
every-push [] line h k = (k, tt)
every-push (l ∷ lines) line h k = (h.0, every-push lines line h.1 k)

-- the bytes of a longer list
pub joined-push : (lines : List (List ℕ)) (line : List ℕ) → flat_map with_end lines ++ with_end line ≡ flat_map with_end (lines ++ line ∷ [])
joined-push lines line =
    sym (flat_map-append with_end lines (line ∷ []) ∙ ap (λ t. flat_map with_end lines ++ t) (append-nil (with_end line)))

-- a longer list has one line more
length-push : (lines : List (List ℕ)) (line : List ℕ) → length (lines ++ line ∷ []) ≡ suc (length lines)
length-push [] line = refl
length-push (l ∷ lines) line = ap suc (length-push lines line)

-- what is out and what is pending, when some of what was pending came out and an answer came in
rejoin : (out pending answer given pending' : List ℕ) → given ++ pending' ≡ pending ++ answer → (out ++ pending) ++ answer ≡ (out ++ given) ++ pending'
rejoin out pending answer given pending' e =
    append_assoc out pending answer ∙ (ap (λ t. out ++ t) (sym e) ∙ sym (append_assoc out given pending'))

-- the same without an answer
pub rejoin-none : (out pending given pending' : List ℕ) → given ++ pending' ≡ pending → out ++ pending ≡ (out ++ given) ++ pending'
rejoin-none out pending given pending' e = ap (λ t. out ++ t) (sym e) ∙ sym (append_assoc out given pending')

-- the lines that were taken from the reader are answered; the answers are out or pending
pub record Progress (s : System) (o : AtLine) (read left wrote contents : Option (List ℕ)) (pending : List ℕ) (m : AtLine) (number : ℕ) : Type 0 where
  pub lines : List (List ℕ)
  pub out : List ℕ
  pub each : Every IsLine lines
  pub taken : Consumes read left (flat_map with_end lines)
  pub given : Appends wrote contents out
  pub answered : Transcript s o lines (out ++ pending) m
  pub counted : number ≡ suc (length lines)

-- the beginning
pub progress-start : (s : System) (o : AtLine) (read wrote : Option (List ℕ)) (pending : List ℕ) → pending ≡ [] → Progress s o read read wrote wrote pending o 1
progress-start s o read wrote pending none = record {
  lines = [];
  out = [];
  each = tt;
  taken = Consumes-none read;
  given = Appends-none wrote;
  answered = (none, refl);
  counted = refl;
}

-- some of what was pending is out
put-on : (s : System) (o m : AtLine) (read left wrote contents contents' : Option (List ℕ)) (pending pending' given : List ℕ) (number : ℕ)
    → Progress s o read left wrote contents pending m number → Appends contents contents' given → given ++ pending' ≡ pending
    → Progress s o read left wrote contents' pending' m number
put-on s o m read left wrote contents contents' pending pending' given number p gives e = record {
  lines = p.lines;
  out = p.out ++ given;
  each = p.each;
  taken = p.taken;
  given = Appends-then wrote contents contents' p.out given p.given gives;
  answered = subst (λ t. Transcript s o p.lines t m) (rejoin-none p.out pending given pending' e) p.answered;
  counted = p.counted;
}

-- one more line was taken and answered
line-on : (s : System) (o m o' : AtLine) (read left left' wrote contents contents' : Option (List ℕ)) (pending pending' given : List ℕ) (number next : ℕ)
    (line answer : List ℕ) → Progress s o read left wrote contents pending m number → IsLine line → Consumes left left' (with_end line)
    → Appends contents contents' given → given ++ pending' ≡ pending ++ answer → LineAnswered s m line answer o' → next ≡ suc number
    → Progress s o read left' wrote contents' pending' o' next
line-on s o m o' read left left' wrote contents contents' pending pending' given number next line answer p one takes gives join a e = record {
  lines = p.lines ++ line ∷ [];
  out = p.out ++ given;
  each = every-push p.lines line p.each one;
  taken = subst (Consumes read left') (joined-push p.lines line) (Consumes-then read left left' (flat_map with_end p.lines) (with_end line) p.taken takes);
  given = Appends-then wrote contents contents' p.out given p.given gives;
  answered = subst (λ t. Transcript s o (p.lines ++ line ∷ []) t o') (rejoin p.out pending answer given pending' join)
      (transcript-push s o m o' p.lines (p.out ++ pending) line answer p.answered a);
  counted = e ∙ ap suc (p.counted ∙ sym (length-push p.lines line));
}

-- the last line, which has no end, was answered
last-answered : (s : System) (o m o' : AtLine) (read left left' wrote contents contents' : Option (List ℕ)) (pending pending' given : List ℕ) (number : ℕ)
    (line answer : List ℕ) → Progress s o read left wrote contents pending m number → IsLine line → Consumes left left' line → IfSome left (λ _. IsAtEnd left')
    → Appends contents contents' given → given ++ pending' ≡ pending ++ answer → LineAnswered s m line answer o'
    → EndsHolding s o read left' wrote contents' pending' (Ok tt)
last-answered s o m o' read left left' wrote contents contents' pending pending' given number line answer p one takes ended gives join a = (
  flat_map with_end p.lines ++ line,
  p.out ++ given,
  Consumes-then read left left' (flat_map with_end p.lines) line p.taken takes,
  Appends-then wrote contents contents' p.out given p.given gives,
  (
    end-known read left left' (flat_map with_end p.lines) p.taken ended,
    (
      p.lines,
      line,
      record { joined = refl; each = p.each; unended = one },
      (
        o',
        subst (λ t. Transcript s o (p.lines ++ line ∷ []) t o') (rejoin p.out pending answer given pending' join)
            (transcript-push s o m o' p.lines (p.out ++ pending) line answer p.answered a),
      ),
    ),
  ),
)

-- the lines, and behind them a part of one
lines-and-part : (lines : List (List ℕ)) (part : List ℕ) → Every IsLine lines → IsLine part → AreLines (flat_map with_end lines ++ part) lines part
lines-and-part lines part each one = record { joined = refl; each = each; unended = one }

-- the empty line
no-bytes : IsLine []
no-bytes = All-nil IsNoEnd

-- a line with its end, or without where the reader, whose bytes were known from `read` on, is at its end
line-taken : (read left left' : Option (List ℕ)) (taken line : List ℕ) (complete : Bool) → Consumes read left taken
    → TakesLine left left' line complete
    → (tail : List ℕ) × IsEnding (IfSome read (λ _. IsAtEnd left')) tail × Consumes left left' (line ++ tail)
line-taken read left left' taken line true k h = (10 ∷ [], inl refl, h.1)
line-taken read left left' taken line false k h =
    ([], inr (refl, end-known read left left' taken k h.1.1), subst (Consumes left left') (sym (append-nil line)) h.1.0)

-- the lines so far and the next, with its end or without
lines-and-line : (at_end : Type 0) (lines : List (List ℕ)) (line tail : List ℕ) → Every IsLine lines → IsLine line → IsEnding at_end tail
    → EndWith at_end (flat_map with_end lines ++ (line ++ tail)) lines line
lines-and-line at_end lines line tail h k e = record { tail = tail; joined = refl; each = h; unended = k; ending = e }

-- what was pending is out
all-out : (s : System) (o m : AtLine) (read left wrote contents contents' : Option (List ℕ)) (pending : List ℕ) (number : ℕ)
    → Progress s o read left wrote contents pending m number → Appends contents contents' pending → Progress s o read left wrote contents' [] m number
all-out s o m read left wrote contents contents' pending number p gives =
    put-on s o m read left wrote contents contents' pending [] pending number p gives (append-nil pending)

-- all answers are out
answers-out : (s : System) (o m : AtLine) (read left wrote contents : Option (List ℕ)) (number : ℕ) (p : Progress s o read left wrote contents [] m number)
    → Transcript s o p.lines p.out m
answers-out s o m read left wrote contents number p = subst (λ t. Transcript s o p.lines t m) (append-nil p.out) p.answered

-- reading stopped, and nothing is pending
unread : (s : System) (o m : AtLine) (read left left' wrote contents : Option (List ℕ)) (number : ℕ) (part : List ℕ) (fault : Fault)
    → Progress s o read left wrote contents [] m number → ReadingStops left left' part fault → EndsHolding s o read left' wrote contents [] (Err fault)
unread s o m read left left' wrote contents number part fault p (one, takes, inl e) =
    subst (λ f. EndsHolding s o read left' wrote contents [] (Err f)) (sym e) (
      flat_map with_end p.lines ++ part,
      p.out,
      Consumes-then read left left' (flat_map with_end p.lines) part p.taken takes,
      p.given,
      inl (
        refl,
        (
          p.lines,
          part,
          (m, answers-out s o m read left wrote contents number p),
          inl (lines-and-part p.lines part p.each one),
        ),
      ),
    )
unread s o m read left left' wrote contents number part fault p (one, takes, inr e) =
    subst (λ f. EndsHolding s o read left' wrote contents [] (Err f)) (sym e) (
      flat_map with_end p.lines ++ part,
      p.out,
      Consumes-then read left left' (flat_map with_end p.lines) part p.taken takes,
      p.given,
      (
        refl,
        (
          p.lines,
          part,
          lines-and-part p.lines part p.each one,
          (m, answers-out s o m read left wrote contents number p),
        ),
      ),
    )

-- why the line that was taken is not answered
stops-at : (s : System) (o m : AtLine) (at_end : Type 0) (lines : List (List ℕ)) (out line tail : List ℕ) (number : ℕ) (fault : Fault)
    → Every IsLine lines → IsLine line → IsEnding at_end tail → Transcript s o lines out m → number ≡ suc (length lines)
    → LineStops s line number fault
    → StopsHolding s o at_end (flat_map with_end lines ++ (line ++ tail)) out [] fault
stops-at s o m at_end lines out line tail number Fault.Memory h one e t c stops =
    inl (refl, (lines, line, (m, t), inr (lines-and-line at_end lines line tail h one e, stops)))
stops-at s o m at_end lines out line tail number (Fault.BadCommand n) h one e t c stops =
    (refl, (lines, line, lines-and-line at_end lines line tail h one e, (m, t), stops.0 ∙ c, stops.1, stops.2))
stops-at s o m at_end lines out line tail number Fault.WriteFailed h one e t c stops = absurd stops
stops-at s o m at_end lines out line tail number Fault.ReadFailed h one e t c stops = absurd stops
stops-at s o m at_end lines out line tail number (Fault.NoSystem fault) h one e t c stops = absurd stops
stops-at s o m at_end lines out line tail number (Fault.Trace fault) h one e t c stops = absurd stops
stops-at s o m at_end lines out line tail number (Fault.Refused why) h one e t c stops = absurd stops

-- the line that was taken is not answered, and nothing is pending
unanswered : (s : System) (o m : AtLine) (read left left' wrote contents : Option (List ℕ)) (number : ℕ) (line : List ℕ)
    (complete : Bool) (fault : Fault) → Progress s o read left wrote contents [] m number → TakesLine left left' line complete
    → LineStops s line number fault → EndsHolding s o read left' wrote contents [] (Err fault)
unanswered s o m read left left' wrote contents number line complete fault p takes stops =
    let piece : (tail : List ℕ) × IsEnding (IfSome read (λ _. IsAtEnd left')) tail × Consumes left left' (line ++ tail) =
    line-taken read left left' (flat_map with_end p.lines) line complete p.taken takes in (
      flat_map with_end p.lines ++ (line ++ piece.0),
      p.out,
      Consumes-then read left left' (flat_map with_end p.lines) (line ++ piece.0) p.taken piece.2,
      p.given,
      stops-at s o m (IfSome read (λ _. IsAtEnd left')) p.lines p.out line piece.0 number fault p.each takes.0 piece.1
          (answers-out s o m read left wrote contents number p) p.counted stops,
    )

-- what was pending could not be written, and nothing was taken
untaken : (s : System) (o m : AtLine) (read left wrote contents contents' : Option (List ℕ)) (pending pending' given : List ℕ) (number : ℕ)
    → Progress s o read left wrote contents pending m number → Appends contents contents' given → (missing : List ℕ) × (pending ≡ given ++ missing)
    → EndsHolding s o read left wrote contents' pending' (Err Fault.WriteFailed)
untaken s o m read left wrote contents contents' pending pending' given number p gives (missing, e) = (
  flat_map with_end p.lines,
  p.out ++ given,
  p.taken,
  Appends-then wrote contents contents' p.out given p.given gives,
  (
    p.lines,
    inl (
      record { joined = sym (append-nil (flat_map with_end p.lines)); each = p.each; unended = no-bytes },
      (missing, (m, subst (λ t. Transcript s o p.lines t m) (rejoin-none p.out pending given missing (sym e)) p.answered)),
    ),
  ),
)

-- the answer to the line could not be written
unwritten : (s : System) (o m o' : AtLine) (read left left' wrote contents contents' : Option (List ℕ)) (pending given : List ℕ) (number : ℕ)
    (line answer : List ℕ) (complete : Bool) → Progress s o read left wrote contents [] m number → TakesLine left left' line complete
    → LineAnswered s m line answer o' → Appends contents contents' given → (missing : List ℕ) × (answer ≡ given ++ missing)
    → EndsHolding s o read left' wrote contents' pending (Err Fault.WriteFailed)
unwritten s o m o' read left left' wrote contents contents' pending given number line answer complete p takes a gives (missing, e) =
    let piece : (tail : List ℕ) × IsEnding (IfSome read (λ _. IsAtEnd left')) tail × Consumes left left' (line ++ tail) =
    line-taken read left left' (flat_map with_end p.lines) line complete p.taken takes in (
      flat_map with_end p.lines ++ (line ++ piece.0),
      p.out ++ given,
      Consumes-then read left left' (flat_map with_end p.lines) (line ++ piece.0) p.taken piece.2,
      Appends-then wrote contents contents' p.out given p.given gives,
      (
        p.lines,
        inr (
          line,
          lines-and-line (IfSome read (λ _. IsAtEnd left')) p.lines line piece.0 p.each takes.0 piece.1,
          (
            missing,
            (
              o',
              subst (λ t. Transcript s o (p.lines ++ line ∷ []) t o') (rejoin p.out [] answer given missing (sym e))
                  (transcript-push s o m o' p.lines (p.out ++ []) line answer p.answered a),
            ),
          ),
        ),
      ),
    )

-- no line is left to count, or no memory for the next, which was not taken
pub session-endless : (s : System) (o m : AtLine) (read left wrote contents : Option (List ℕ)) (pending : List ℕ) (number : ℕ)
    → Progress s o read left wrote contents pending m number → EndsHolding s o read left wrote contents pending (Err Fault.Memory)
session-endless s o m read left wrote contents pending number p = (
  flat_map with_end p.lines,
  p.out,
  p.taken,
  p.given,
  inr (p.lines, (m, p.answered), record { joined = sym (append-nil (flat_map with_end p.lines)); each = p.each; unended = no-bytes }),
)

-- no line was had, or one that has no answer; nothing is pending
lacking : (s : System) (o m : AtLine) (read left left' wrote contents : Option (List ℕ)) (number : ℕ) (line : List ℕ) (fault : Fault)
    → Progress s o read left wrote contents [] m number → LineLacks s left left' line number fault → EndsHolding s o read left' wrote contents [] (Err fault)
lacking s o m read left left' wrote contents number line fault p (inl stops) = unread s o m read left left' wrote contents number line fault p stops
lacking s o m read left left' wrote contents number line fault p (inr (complete, takes, stops)) =
    unanswered s o m read left left' wrote contents number line complete fault p takes stops

-- the session on a new desk
pub begun : (o : AtLine) (system : System) (source : List ℕ) (read left wrote contents : Option (List ℕ)) (r : Result (Unit {0}) Fault)
    → o ≡ first_line system source → Ends o.desk.machine.checked o read left wrote contents r
    → Ends system (first_line system source) read left wrote contents r
begun o system source read left wrote contents r e ends = subst (λ x. Ends x.desk.machine.checked x read left wrote contents r) e ends

module _ {R A W : Type 0} (remaining : R → Option (List ℕ)) (buffered : R → List ℕ) (asked : R → A) (written : W → Option (List ℕ)) (unsent wanted : W → ℕ) where
  -- what is given and what is pending are what was pending and the answer
  held-joins : (now now' : R) (here here' : W) (pending pending' line answer : List ℕ) (complete : Bool)
      → ((complete ≡ true) × WasAtHand buffered asked now now' line × IsHeld here here' pending pending' answer) ⊎ IsHeldAnew written unsent here here' pending pending' answer
      → (given : List ℕ) × Appends (written here) (written here') given × (given ++ pending' ≡ pending ++ answer)
  held-joins now now' here here' pending pending' line answer complete (inl (ended, at_hand, (same, e, few))) =
      ([], subst (λ w. Appends (written here) (written w) []) (sym same) (Appends-none (written here)), e)
  held-joins now now' here here' pending pending' line answer complete (inr (inl (gives, e, few))) =
      (pending, gives.0, ap (λ t. pending ++ t) e)
  held-joins now now' here here' pending pending' line answer complete (inr (inr (gives, none))) =
      (pending ++ answer, gives.0, ap (λ t. (pending ++ answer) ++ t) none ∙ append-nil (pending ++ answer))

  -- a line with its end was answered
  pub more-by-line : (s t : System) (o m m' : AtLine) (now now' : R) (read wrote : Option (List ℕ)) (here here' : W) (pending pending' line : List ℕ)
      (number : ℕ) (complete : Bool) → t ≡ s → complete ≡ true → Progress s o read (remaining now) wrote (written here) pending m number
      → LineDone remaining buffered asked written unsent t m m' now now' here here' pending pending' line complete
      → Progress s o read (remaining now') wrote (written here') pending' m' (number + 1)
  more-by-line s t o m m' now now' read wrote here here' pending pending' line number complete same ended p done =
      let whole : TakesLine (remaining now) (remaining now') line true = subst (TakesLine (remaining now) (remaining now') line) ended done.takes in
      let joins : (given : List ℕ) × Appends (written here) (written here') given × (given ++ pending' ≡ pending ++ done.answer) =
      held-joins now now' here here' pending pending' line done.answer complete done.held in
      line-on s o m m' read (remaining now) (remaining now') wrote (written here) (written here') pending pending' joins.0 number (number + 1) line done.answer p
      whole.0 whole.1 joins.1 joins.2 (subst (λ x. LineAnswered x m line done.answer m') same done.answered) (add-one number)

  -- the last line without an end was answered
  pub done-by-line : (s t : System) (o m m' : AtLine) (now now' : R) (read wrote : Option (List ℕ)) (here here' : W) (pending pending' line : List ℕ)
      (number : ℕ) (complete : Bool) → t ≡ s → complete ≡ false → Progress s o read (remaining now) wrote (written here) pending m number
      → LineDone remaining buffered asked written unsent t m m' now now' here here' pending pending' line complete
      → EndsHolding s o read (remaining now') wrote (written here') pending' (Ok tt)
  done-by-line s t o m m' now now' read wrote here here' pending pending' line number complete same ended p done =
      let last : TakesLine (remaining now) (remaining now') line false = subst (TakesLine (remaining now) (remaining now') line) ended done.takes in
      let joins : (given : List ℕ) × Appends (written here) (written here') given × (given ++ pending' ≡ pending ++ done.answer) =
      held-joins now now' here here' pending pending' line done.answer complete done.held in
      last-answered s o m m' read (remaining now) (remaining now') wrote (written here) (written here') pending pending' joins.0 number line done.answer p
      last.0 last.1.0 last.1.1 joins.1 joins.2 (subst (λ x. LineAnswered x m line done.answer m') same done.answered)

  -- the session ends at this line
  failing : (s : System) (o m : AtLine) (now now' : R) (read wrote : Option (List ℕ)) (here here' : W) (pending pending' line : List ℕ) (number : ℕ) (fault : Fault)
      → Progress s o read (remaining now) wrote (written here) pending m number
      → LineFails remaining written unsent wanted s m now now' here here' pending pending' line number fault
      → EndsHolding s o read (remaining now') wrote (written here') pending' (Err fault)
  failing s o m now now' read wrote here here' pending pending' line number fault p (inl (failed, same, (given, gives, (missing, e, long), sent))) =
      subst (λ f. EndsHolding s o read (remaining now') wrote (written here') pending' (Err f)) (sym failed)
      (subst (λ x. EndsHolding s o read (remaining x) wrote (written here') pending' (Err Fault.WriteFailed)) (sym same)
      (untaken s o m read (remaining now) wrote (written here) (written here') pending pending' given number p gives (missing, e)))
  failing s o m now now' read wrote here here' pending pending' line number fault p (inr (inl (memory, same, kept, still))) =
      subst (λ f. EndsHolding s o read (remaining now') wrote (written here') pending' (Err f)) (sym memory)
      (subst (λ x. EndsHolding s o read (remaining x) wrote (written here') pending' (Err Fault.Memory)) (sym same)
      (subst (λ w. EndsHolding s o read (remaining now) wrote (written w) pending' (Err Fault.Memory)) (sym kept)
      (subst (λ t. EndsHolding s o read (remaining now) wrote (written here) t (Err Fault.Memory)) (sym still)
      (session-endless s o m read (remaining now) wrote (written here) pending number p))))
  failing s o m now now' read wrote here here' pending pending' line number fault p (inr (inr (inl (none, gives, lacks)))) =
      subst (λ t. EndsHolding s o read (remaining now') wrote (written here') t (Err fault)) (sym none)
      (lacking s o m read (remaining now) (remaining now') wrote (written here') number line fault
      (all-out s o m read (remaining now) wrote (written here) (written here') pending number p gives.0) lacks)
  failing s o m now now' read wrote here here' pending pending' line number fault p
      (inr (inr (inr (complete, answer, m', takes, a, (failed, (mid, gives, (given, more, (missing, e, long), sent))))))) =
      subst (λ f. EndsHolding s o read (remaining now') wrote (written here') pending' (Err f)) (sym failed)
      (unwritten s o m m' read (remaining now) (remaining now') wrote (written mid) (written here') pending' given number line answer complete
      (all-out s o m read (remaining now) wrote (written here) (written mid) pending number p gives.0) takes a more (missing, e))

  -- and the result is its fault
  pub stopped-by-line : (s t : System) (o m : AtLine) (now now' : R) (read wrote : Option (List ℕ)) (here here' : W) (pending pending' line : List ℕ) (number : ℕ)
      (fault : Fault) (r : Result (Unit {0}) Fault) → t ≡ s → Progress s o read (remaining now) wrote (written here) pending m number
      → LineFails remaining written unsent wanted t m now now' here here' pending pending' line number fault → r ≡ Err fault
      → EndsHolding s o read (remaining now') wrote (written here') pending' r
  stopped-by-line s t o m now now' read wrote here here' pending pending' line number fault r same p fails is =
      subst (EndsHolding s o read (remaining now') wrote (written here') pending') (sym is)
      (failing s o m now now' read wrote here here' pending pending' line number fault p
      (subst (λ x. LineFails remaining written unsent wanted x m now now' here here' pending pending' line number fault) same fails))
