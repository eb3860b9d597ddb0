-- Marks that are told in two ways.
use Rattle.std.proofs.Common.{◌≡◌, ℕ, zero, suc, ◌+◌, ◌-◌, ◌<◌, ◌≤◌, Bool, true, false, ◌&&◌, ◌||◌, Option, Result, Ok, Err, IfOk, List, [], ◌∷◌, ◌++◌, length, take, drop, get_or, refl, sym, ap, ◌∙◌, arith}
use Rattle.std.proofs.Math.Seq.{take-length}
use Rattle.system.specs.Expression.{is_in}
use Rattle.runs.specs.Events.{acting}
use Rattle.runs.specs.Live.{events}
use Rattle.runs.specs.InOrder.{InOrder}
use Rattle.runs.specs.Object.{Reaches}
use Rattle.runs.specs.Ready.{ReadyList, Sooner}
use Rattle.runs.specs.Steps.{State}
use Rattle.runs.specs.declared.event.Event.{Event}
use Rattle.dependence.specs.EventPlaces.{line_after}
use Rattle.machine.specs.AtMachine.{AtMachine, object}
use Rattle.syntax.specs.Texts.{lines}
use Rattle.source_view.specs.View.{is_line, acts_on, is_ready_on, marks_on, line_text, lines_text, view_text}
use Rattle.source_view.specs.internal.Marking.{no_marks, marks_at, AreMarks, break_mark, conflicts_with_next, neighbours_on, with_event, with_events}
use Rattle.source_view.specs.declared.marks.Marks.{Marks}
use Rattle.source_view.proofs.Neighbours.{neighbours-are-all}

-- lines with the same marks have the same text
pub same-lines : (f g : ℕ → Marks) (n : ℕ) (ls : List (List ℕ)) → ((m : ℕ) → n ≤ m → m < n + length ls → f m ≡ g m) → lines_text f n ls ≡ lines_text g n ls
same-lines f g n [] same = refl
same-lines f g n (line ∷ ls) same =
    ap (λ (marks : Marks). line_text n marks line ++ lines_text f (suc n) ls) (same n (omega arith) (omega arith))
    ∙ ap (λ (text : List ℕ). line_text n (g n) line ++ text) (same-lines f g (suc n) ls (λ m low high. same m (omega arith) (omega arith)))

or-joins : (a b c : Bool) → (a || (b || c)) ≡ ((a || b) || c)
or-joins true b c = refl
or-joins false b c = refl

-- the marks of an event, and then those of the events behind it
pub one-more : (h : AtMachine) (e : Event) (es : List Event) (n : ℕ) (marks : Marks) →
    with_events h (e ∷ es) n marks ≡ with_events h es n (with_event (acts_on h n e) (conflicts_with_next h e es) marks)
one-more h e es n marks =
    ap (λ (b : Bool). record { is_ready = b; has_break = marks.has_break; in_conflict = marks.in_conflict || neighbours_on h (e ∷ es) n })
    (or-joins marks.is_ready (acts_on h n e) (is_ready_on h es n))
    ∙ ap (λ (b : Bool). record { is_ready = (marks.is_ready || acts_on h n e) || is_ready_on h es n; has_break = marks.has_break; in_conflict = b })
    (or-joins marks.in_conflict (acts_on h n e && conflicts_with_next h e es) (neighbours_on h es n))

-- a list of one element or more, taken apart
pub first-and-rest : (xs : List Event) (x : Event) → 1 ≤ length xs → x ≡ get_or xs 0 x → x ∷ take (length xs - 1) (drop 1 xs) ≡ xs
first-and-rest [] x some is = absurd (omega arith)
first-and-rest (y ∷ ys) x some is =
    let less : suc (length ys) - 1 ≡ length ys = omega arith in
    ap (λ (e : Event). e ∷ take (suc (length ys) - 1) ys) is
    ∙ (ap (λ (n : ℕ). y ∷ take n ys) less ∙ ap (λ (es : List Event). y ∷ es) (take-length ys))

-- what is left to add, when the marks of the first event were
pub after-one : (h : AtMachine) (rest after : List Event) (e : Event) (n : ℕ) (old new all : Marks) (line : Option ℕ) (conflicts : Bool) →
    e ∷ after ≡ rest → line ≡ line_after (events h.live) h.checked (acting e) → conflicts ≡ conflicts_with_next h e after → new ≡ with_event (is_line line n) conflicts old →
    with_events h rest n old ≡ all → with_events h after n new ≡ all
after-one h rest after e n old new all line conflicts parts line-is conflicts-is added before =
    ap (λ (marks : Marks). with_events h after n marks)
    (added ∙ (ap (λ (l : Option ℕ). with_event (is_line l n) conflicts old) line-is
    ∙ ap (λ (b : Bool). with_event (acts_on h n e) b old) conflicts-is))
    ∙ (sym (one-more h e after n old) ∙ (ap (λ (es : List Event). with_events h es n old) parts ∙ before))

-- the marks of a line, where events in order were added to its breakpoint
marks-are : (h : AtMachine) (es : List Event) (breaks : List ℕ) (n : ℕ) → InOrder Sooner es → with_events h es n (break_mark breaks n) ≡ marks_on h es breaks n
marks-are h es breaks n order =
    ap (λ (b : Bool). record { is_ready = is_ready_on h es n; has_break = is_in n breaks; in_conflict = b }) (neighbours-are-all h es n order)

-- the marks of each line, as they were gathered
pub gathered : (h : AtMachine) (es : List Event) (breaks : List ℕ) (count : ℕ) (old new : List Marks) → InOrder Sooner es → AreMarks old count (break_mark breaks) →
    length new ≡ length old → ((k : ℕ) → k < length old → get_or new k no_marks ≡ with_events h es (suc k) (get_or old k no_marks)) →
    AreMarks new count (marks_on h es breaks)
gathered h es breaks count old new order begun long added = (
  long ∙ begun.0,
  λ k less.
      let there : k < length old = omega (arith, begun.0) in
      added k there
      ∙ (ap (λ (marks : Marks). with_events h es (suc k) marks) (begun.1 k less)
      ∙ marks-are h es breaks (suc k) order),
)

-- the marks of a line by its number
by-number : (marks : List Marks) (count : ℕ) (of_line : ℕ → Marks) → AreMarks marks count of_line →
    (n : ℕ) → 1 ≤ n → n < 1 + count → marks_at marks n ≡ of_line n
by-number marks count of_line are zero low high = absurd (omega arith)
by-number marks count of_line are (suc k) low high = are.1 k (omega arith)

-- the bytes that are written are the view
pub shown : {X E : Type 0} (h : AtMachine) (breaks source : List ℕ) (ready : List Event) (marks : List Marks) (count : ℕ)
    (bytes_of : X → List ℕ) (r : Result X E) → ((T : State) × Reaches (object h) T × ReadyList T ready) →
    length (lines source) ≤ count → AreMarks marks count (marks_on h ready breaks) →
    IfOk r (λ bytes. bytes_of bytes ≡ lines_text (marks_at marks) 1 (lines source)) →
    IfOk r (λ bytes. (T : State) × (es : List Event) × Reaches (object h) T × ReadyList T es × (bytes_of bytes ≡ view_text h es breaks source))
shown h breaks source ready marks count bytes_of (Ok bytes) state room are written = (
  state.0,
  ready,
  state.1,
  state.2,
  written ∙ same-lines (marks_at marks) (marks_on h ready breaks) 1 (lines source)
      (λ n low high. by-number marks count (marks_on h ready breaks) are n low (omega (arith, room, high))),
)
shown h breaks source ready marks count bytes_of (Err e) state room are written = tt
