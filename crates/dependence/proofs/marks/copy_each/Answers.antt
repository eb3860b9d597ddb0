use Rattle.std.proofs.Common.{◌≡◌, ◌∙◌, ◌+◌, ◌++◌, ◌∷◌, ◌<◌, ◌≤◌, [], ℕ, List, Bool, true, false, Some, length, drop, sym, ap, arith, append_assoc}
use Rattle.std.specs.Prelude.{slice_get}
use Rattle.std.proofs.lemmas.List.{append-nil}
use Rattle.std.proofs.lemmas.Option.{slice_get-get_or}
use Rattle.runs.specs.Live.{Live}
use Rattle.runs.specs.declared.event.Event.{Event}
use Rattle.dependence.specs.Shown.{tickets_marked}
use Rattle.dependence.proofs.FromIndex.{get-drop}
use Rattle.dependence.proofs.public.ListPlaces.{drop-all}
use Rattle.dependence.proofs.ListedLaws.{tickets-on, tickets-off, tickets-none}
use Rattle.dependence.proofs.marks.copy_each.Goals as goal
use Rattle.dependence.proofs.marks.copy_each.Goals.{then-marks-index+in_ok-push, else-marks-index}

pub overflow_add-base : goal.overflow_add-base
overflow_add-base c =
    let all = c.requires in
    let test = c.loop-index-test.true in
    let len = c.len-len.ensures.events in
    let fits = c.len-len.type_inv in
    omega arith

pub loop-index-preserved : goal.loop-index-preserved
loop-index-preserved c =
    let d : Live = drop c.args.base c.args.list.now.live in
    let marks : List Bool = c.args.marks.now in
    let i : ℕ = c.loop-index.index in
    let less : i < length marks = c.loop-index-test.true in
    let read = slice_get-get_or marks i false less in
    let was = c.loop-index.invariant in
    elim c.if-marks-index.branch [
      | then-marks-index+in_ok-push w ↦
          let x : ℕ × Event = (w.ticket_at.result, w.ticket_at.ensures.0) in
          let at : slice_get d i ≡ Some x = get-drop c.args.list.now.live c.args.base i ∙ w.ticket_at.ensures.1 in
          let on : slice_get marks i ≡ Some true = read ∙ ap (λ (b : Bool). Some b) w.if-marks-index.true in
          let rest : List ℕ = tickets_marked (drop (i + 1) d) (drop (i + 1) marks) in
          ap (λ (v : _). v.items ++ rest) w.tickets-is ∙ ap (λ (ts : List ℕ). ts ++ rest) w.in_ok-push.ensures.items
          ∙ append_assoc c.loop-index.tickets.items (x.0 ∷ []) rest ∙ ap (λ (ts : List ℕ). c.loop-index.tickets.items ++ ts) (sym (tickets-on d marks i x at on)) ∙ was
      | else-marks-index w ↦
          let off : slice_get marks i ≡ Some false = read ∙ ap (λ (b : Bool). Some b) w.if-marks-index.false in
          ap (λ (v : _). v.items ++ tickets_marked (drop (i + 1) d) (drop (i + 1) marks)) w.tickets-is
          ∙ ap (λ (ts : List ℕ). c.loop-index.tickets.items ++ ts) (sym (tickets-off d marks i off)) ∙ was
    ]

pub returns : goal.returns
returns c =
    let d : Live = drop c.args.base c.args.list.now.live in
    let past : length c.args.marks.now ≤ c.loop-index.index = c.loop-index-test.false in
    let none = tickets-none (drop c.loop-index.index d) (drop c.loop-index.index c.args.marks.now) (drop-all c.args.marks.now c.loop-index.index past) in
    sym (append-nil c.loop-index.tickets.items) ∙ ap (λ (ts : List ℕ). c.loop-index.tickets.items ++ ts) (sym none) ∙ c.loop-index.invariant
