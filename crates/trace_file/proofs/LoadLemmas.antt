-- A trace that is taken line by line.
use Rattle.std.proofs.Common.{◌≡◌, inl, inr, ℕ, suc, ◌+◌, ◌≤◌, ◌<◌, List, [], ◌∷◌, ◌++◌, length, refl, sym, ap, ◌∙◌, subst, arith, append_assoc, Result, Ok, Err, MatchResult}
use Rattle.std.specs.List.{flat_map}
use Rattle.system.specs.declared.system.System.{System}
use Rattle.runs.specs.Choices.{choice_of}
use Rattle.runs.specs.Does.{Answers}
use Rattle.runs.specs.Live.{Live, events}
use Rattle.runs.specs.Object.{Object, most_live, last_ticket}
use Rattle.runs.specs.Ready.{Chosen}
use Rattle.runs.specs.Steps.{State, Run, opening}
use Rattle.runs.specs.Commands.{Command}
use Rattle.runs.specs.declared.command.Refusal.{Refusal}
use Rattle.runs.specs.declared.command.Refusal.TheVariants.{NotReady, HistoryFull, Spent}
use Rattle.runs.specs.declared.event.Choice.{Choice}
use Rattle.runs.specs.declared.event.Event.{Event}
use Rattle.runs.proofs.public.Orders.{run-join}
use Rattle.runs.proofs.public.Tickets.{events-join}
use Rattle.machine.specs.AtMachine.{AtMachine, object}
use Rattle.machine.specs.Results.{step_reply}
use Rattle.trace_file.specs.declared.fault.Fault.{Fault}
use Rattle.trace_file.specs.declared.version.Version.{Version}
use Rattle.trace_file.specs.TraceText.{header_of, choice_line, event_line, IsWritable, HasSteps, Begins, KeepsOrder}
use Rattle.trace_file.specs.Loading.{ticketed, IsLoaded, IsStep, CannotStep, StepsStop, IsRefused}
use Rattle.trace_file.specs.internal.OneStep.{Loading, Taken, NotTaken, LineTaken, LineStops, StepStops, HeaderStops, OrderStops, outcome_of}
use Rattle.trace_file.specs.internal.Fields.{HasNone, IsCut}
use Rattle.trace_file.proofs.EventLemmas.{every-more, events-length, ticketed-more, length-more, lines-more}

-- a machine has its parts
same-machine : (m n : AtMachine) → m.checked ≡ n.checked → m.live ≡ n.live → m.next ≡ n.next → m.marked ≡ n.marked → m ≡ n
same-machine m n a b c d = λ i. record { checked = a i; live = b i; next = c i; marked = d i }

-- before the first line
pub loading-start : (system : System) (steps : List ℕ) (m : AtMachine) → m ≡ record { checked = system; live = []; next = 1; marked = [] }
    → Loading system steps m steps
loading-start system steps m e = subst (λ (n : AtMachine). Loading system steps n steps) (sym e) (record {
  checked = refl;
  begins = record {
    written = refl;
    lines = tt;
    runs = (opening system, refl);
    room = omega arith;
  };
  tickets = refl;
  next = refl;
  unmarked = refl;
})

-- one line more of the text
begins-more : (system : System) (text : List ℕ) (h : List Event) (c : Choice) (e : Event) (rest after : List ℕ) (T : State)
    → Begins system text h rest → IsStep c rest after → Run (opening system) h T → Chosen T c e → length h < most_live
    → Begins system text (h ++ e ∷ []) after
begins-more system text h c e rest after T b s r chosen room = record {
  written = b.written
      ∙ (ap (λ (t : List ℕ). flat_map event_line h ++ t) (s.0 ∙ ap (λ (d : Choice). choice_line d ++ after) (sym chosen.choice))
      ∙ (sym (append_assoc (flat_map event_line h) (event_line e) after) ∙ ap (λ (t : List ℕ). t ++ after) (sym (lines-more h e))));
  lines = every-more (λ f. IsWritable (choice_of f)) h e b.lines (subst IsWritable (sym chosen.choice) s.1);
  runs = (chosen.allowed.0, run-join (opening system) T chosen.allowed.0 h (e ∷ []) r (chosen.allowed.0, chosen.allowed.1, refl));
  room = omega (arith, length-more h e, room);
}

-- the events of a machine with one more
events-more : (l k : Live) (n : ℕ) (e : Event) → k ≡ l ++ (n, e) ∷ [] → events k ≡ events l ++ e ∷ []
events-more l k n e is = ap events is ∙ events-join l ((n, e) ∷ [])

-- a line more
pub loading-more : (system : System) (text : List ℕ) (m m' : AtMachine) (rest after : List ℕ) → Loading system text m rest
    → LineTaken m rest after m' → m'.checked ≡ m.checked → m'.marked ≡ m.marked → Loading system text m' after
loading-more system text m m' rest after loading (c, step, (t, e, taken)) same marks =
    let live : m'.live ≡ m.live ++ (m.next, e) ∷ [] = ap (λ (o : Object). o.live) taken.4 in
    let more : events m'.live ≡ events m.live ++ e ∷ [] = events-more m.live m'.live m.next e live in
    let room : length (events m.live) < most_live = omega (arith, taken.1, events-length m.live) in
    let ticket : suc (length (events m.live)) ≡ 1 + length (events m.live) = omega arith in
    let next : m'.next ≡ suc m.next = ap (λ (o : Object). o.next) taken.4 in
    let run : Run (opening system) (events m.live) taken.3.0 = subst (λ (s : System). Run (opening s) (events m.live) taken.3.0) loading.checked taken.3.1 in
    record {
      checked = same ∙ loading.checked;
      begins = subst (λ (h : List Event). Begins system text h after) (sym more)
          (begins-more system text (events m.live) c e rest after taken.3.0 loading.begins step run taken.3.2 room);
      tickets = live
          ∙ (ap (λ (l : Live). l ++ (m.next, e) ∷ []) loading.tickets
          ∙ (ap (λ (n : ℕ). ticketed 1 (events m.live) ++ (n, e) ∷ []) (loading.next ∙ ticket)
          ∙ (sym (ticketed-more 1 (events m.live) e) ∙ ap (ticketed 1) (sym more))));
      next = next ∙ ap suc (loading.next ∙ (sym (length-more (events m.live) e) ∙ ap (λ (h : List Event). length h) (sym more)));
      unmarked = marks ∙ loading.unmarked;
    }

-- the number of the next line
pub number-more : (system : System) (text : List ℕ) (m m' : AtMachine) (rest after : List ℕ) (number : ℕ) → Loading system text m rest
    → Loading system text m' after → LineTaken m rest after m' → number ≡ 2 + length (events m.live) → number + 1 ≡ 2 + length (events m'.live)
number-more system text m m' rest after number loading then (c, step, (t, e, taken)) is =
    let live : m'.live ≡ m.live ++ (m.next, e) ∷ [] = ap (λ (o : Object). o.live) taken.4 in
    let more : length (events m'.live) ≡ suc (length (events m.live)) =
    ap (λ (h : List Event). length h) (events-more m.live m'.live m.next e live) ∙ length-more (events m.live) e in
    omega (arith, is, more)

-- behind the last line
pub all-taken : (system : System) (steps : List ℕ) (m : AtMachine) (rest : List ℕ) → Loading system steps m rest → rest ≡ [] → Loading system steps m []
all-taken system steps m rest loading end = subst (λ (r : List ℕ). Loading system steps m r) end loading

-- all steps of a text are taken, and its events stand as they have to
pub loaded : (system : System) (v : Version) (text steps : List ℕ) (m : AtMachine) → HasSteps v text steps → Loading system steps m []
    → KeepsOrder v (events m.live) → IsLoaded system text m
loaded system v text steps m has loading order = (
  events m.live,
  (v, steps, has, loading.begins, order),
  same-machine m (record { checked = system; live = ticketed 1 (events m.live); next = suc (length (events m.live)); marked = [] })
      loading.checked loading.tickets loading.next loading.unmarked,
)

-- its events do not
pub order-refused : (system : System) (v : Version) (text steps : List ℕ) (m : AtMachine) (fault : Fault) → HasSteps v text steps
    → Loading system steps m [] → OrderStops v (events m.live) fault → IsRefused system text fault
order-refused system v text steps m Fault.Memory has loading stops = tt
order-refused system v text steps m Fault.BadHeader has loading stops = absurd stops
order-refused system v text steps m (Fault.BadLine n) has loading stops = absurd stops
order-refused system v text steps m (Fault.NotAStep n) has loading stops = absurd stops
order-refused system v text steps m (Fault.NotCanonical n) has loading (second, other) =
    (steps, events m.live, subst (λ (w : Version). HasSteps w text steps) second has, loading.begins, other)
order-refused system v text steps m Fault.ReadFailed has loading stops = absurd stops
order-refused system v text steps m Fault.WriteFailed has loading stops = absurd stops

-- why the step of a line is refused
cannot : (system : System) (steps : List ℕ) (m m' : AtMachine) (rest : List ℕ) (c : Choice) → Loading system steps m rest → NotTaken m c m'
    → CannotStep system (events m.live) c
cannot system steps m m' rest c loading (NotReady, none) =
    inl (none.0.0, subst (λ (s : System). Run (opening s) (events m.live) none.0.0) loading.checked none.0.1, none.0.2)
cannot system steps m m' rest c loading (HistoryFull, full) =
    let room : length (events m.live) ≤ most_live = loading.begins.room in
    let many : most_live ≤ length m.live = full.0.1 in
    inr (omega (arith, room, many, events-length m.live))
cannot system steps m m' rest c loading (Spent, spent) =
    let room : length (events m.live) ≤ most_live = loading.begins.room in
    let past : last_ticket < m.next = spent.0.2 in
    absurd (omega (arith, room, past, loading.next))
cannot system steps m m' rest c loading (_, other) = absurd other.0

-- a line that is not taken refuses the text
pub line-refused : (system : System) (steps : List ℕ) (m : AtMachine) (rest : List ℕ) (number : ℕ) (fault : Fault) → Loading system steps m rest
    → number ≡ 2 + length (events m.live) → (rest ≡ [] → ⊥) → LineStops m rest number fault → StepsStop system steps fault
line-refused system steps m rest number Fault.Memory loading is some stops = tt
line-refused system steps m rest number Fault.BadHeader loading is some stops = absurd stops
line-refused system steps m rest number (Fault.BadLine n) loading is some stops =
    (events m.live, rest, loading.begins, stops.0 ∙ is, some, stops.1)
line-refused system steps m rest number (Fault.NotAStep n) loading is some (same, (c, after, m', step, none)) =
    (events m.live, rest, loading.begins, same ∙ is, (c, after, step, cannot system steps m m' rest c loading none))
line-refused system steps m rest number (Fault.NotCanonical n) loading is some stops = absurd stops
line-refused system steps m rest number Fault.ReadFailed loading is some stops = absurd stops
line-refused system steps m rest number Fault.WriteFailed loading is some stops = absurd stops

-- a line whose step is not taken
pub line-stops : (m : AtMachine) (c : Choice) (rest after : List ℕ) (number : ℕ) (fault : Fault) → IsStep c rest after → StepStops m c number fault
    → LineStops m rest number fault
line-stops m c rest after number Fault.Memory step stops = tt
line-stops m c rest after number Fault.BadHeader step stops = absurd stops
line-stops m c rest after number (Fault.BadLine n) step stops = absurd stops
line-stops m c rest after number (Fault.NotAStep n) step stops = (stops.0, (c, after, stops.1.0, step, stops.1.1))
line-stops m c rest after number (Fault.NotCanonical n) step stops = absurd stops
line-stops m c rest after number Fault.ReadFailed step stops = absurd stops
line-stops m c rest after number Fault.WriteFailed step stops = absurd stops

-- what becomes of a step
pub stepped : (m m' : AtMachine) (c : Choice) (number : ℕ) (told : Result (ℕ × Event) Refusal) →
    Answers (object m) (Command.Step c) (step_reply told) (object m')
    → MatchResult (outcome_of number told) (λ _. Taken m c m') (λ fault. StepStops m c number fault)
stepped m m' c number (Ok entry) (inl d) = (entry.0, entry.1, d)
stepped m m' c number (Ok entry) (inr (_, is, _)) = cc
stepped m m' c number (Err Refusal.Memory) h = tt
stepped m m' c number (Err why) (inl d) = (refl, (m', (why, d)))
stepped m m' c number (Err why) (inr (_, is, _)) = cc

-- what became of it, by what is answered
pub stepped-as : (m m' : AtMachine) (c : Choice) (number : ℕ) (told : Result (ℕ × Event) Refusal) (r : Result (Unit {0}) Fault) → r ≡ outcome_of number told
    → Answers (object m) (Command.Step c) (step_reply told) (object m') → MatchResult r (λ _. Taken m c m') (λ fault. StepStops m c number fault)
stepped-as m m' c number told r is h =
    subst (λ (x : Result (Unit {0}) Fault). MatchResult x (λ _. Taken m c m') (λ fault. StepStops m c number fault)) (sym is) (stepped m m' c number told h)

-- the whole text has no end of a line, and is no header
pub no-header : (text : List ℕ) → HasNone 10 text → ((v : Version) → text ≡ header_of v → ⊥) → HeaderStops text Fault.BadHeader
no-header text clear other = (text, (clear, inl refl), other)

-- the first line is no header
pub other-line : (text line steps : List ℕ) → IsCut 10 text line steps → ((v : Version) → line ≡ header_of v → ⊥) → HeaderStops text Fault.BadHeader
other-line text line steps cut other = (line, (cut.1, inr (steps, cut.0)), other)

-- the first line is a header
pub has-steps : (text line steps : List ℕ) (v : Version) → IsCut 10 text line steps → line ≡ header_of v → HasSteps v text steps
has-steps text line steps v cut is = cut.0 ∙ ap (λ (l : List ℕ). l ++ 10 ∷ steps) is

-- what is told of a fault
pub fails : {A : Type 0} (r : Result A Fault) (fault : Fault) (Q : A → Type 0) (P : Fault → Type 0) → r ≡ Err fault → P fault → MatchResult r Q P
fails {A} r fault Q P is p = subst (λ (x : Result A Fault). MatchResult x Q P) (sym is) p

-- why a text is refused, at its header
pub header-refused : (system : System) (text : List ℕ) (fault : Fault) → HeaderStops text fault → IsRefused system text fault
header-refused system text Fault.Memory stops = absurd stops
header-refused system text Fault.BadHeader stops = stops
header-refused system text (Fault.BadLine n) stops = inl stops
header-refused system text (Fault.NotAStep n) stops = absurd stops
header-refused system text (Fault.NotCanonical n) stops = absurd stops
header-refused system text Fault.ReadFailed stops = absurd stops
header-refused system text Fault.WriteFailed stops = absurd stops

-- behind its header
pub steps-refused : (system : System) (v : Version) (text steps : List ℕ) (fault : Fault) → HasSteps v text steps → StepsStop system steps fault
    → IsRefused system text fault
steps-refused system v text steps Fault.Memory has stops = tt
steps-refused system v text steps Fault.BadHeader has stops = absurd stops
steps-refused system v text steps (Fault.BadLine n) has stops = inr (v, steps, has, stops)
steps-refused system v text steps (Fault.NotAStep n) has stops = (v, steps, has, stops)
steps-refused system v text steps (Fault.NotCanonical n) has stops = absurd stops
steps-refused system v text steps Fault.ReadFailed has stops = absurd stops
steps-refused system v text steps Fault.WriteFailed has stops = absurd stops

-- the system of a new machine
pub new-system : (system : System) (m : AtMachine) → m ≡ record { checked = system; live = []; next = 1; marked = [] } → m.checked ≡ system
new-system system m new = ap (λ (n : AtMachine). n.checked) new

-- a new machine is one by its own system
pub is-new : (system : System) (m : AtMachine) → m ≡ record { checked = system; live = []; next = 1; marked = [] } → m ≡ record { checked = m.checked; live = []; next = 1; marked = [] }
is-new system m new = new ∙ ap (λ (s : System). record { checked = s; live = []; next = 1; marked = [] }) (sym (new-system system m new))

-- the number of the first line behind the header
pub number-start : (system : System) (m : AtMachine) → m ≡ record { checked = system; live = []; next = 1; marked = [] } → 2 ≡ 2 + length (events m.live)
number-start system m new = sym (ap (λ (n : AtMachine). 2 + length (events n.live)) new)
