-- What is seen of processes.
use Rattle.std.proofs.Common.{◌≡◌, ◌+◌, ◌*◌, Bool, List, ℕ, min, map, length, sym, ap, ◌∙◌, subst, arith, rules}
use Rattle.process_tree.specs.Proc.{Proc, all_started, unopened}
use Rattle.process_tree.specs.Remaining.{with_value}
use Rattle.process_tree.specs.Translation.{row_of}
use Rattle.process_tree.specs.View.{await_view, code_view, opened_of, proc_view, turn_of}
use Rattle.process_tree.specs.declared.code.Code.{Code}
use Rattle.local_actions.specs.internal.Listed.{Listing, listed, listed_sequence}
use Rattle.local_actions.proofs.public.Begun.{begun-row, row-at, row-past}
use Rattle.local_actions.proofs.public.Endings.{begun-has, came-more}
use Rattle.idle_branches.specs.internal.Sights.{AreSeen, Sees}
use Rattle.idle_branches.proofs.SightLemmas.{await-channels, seen-child, seen-here, took-seen, unopened-view}
use Rattle.idle_branches.proofs.sight.+sight_of.Goals as goal

pub sight_of_arms-returns-in-Unopened : goal.sight_of_arms-returns-in-Unopened
sight_of_arms-returns-in-Unopened t c =
    let ds = (await_view c.args.waiting.now).0 in
    let cs = (await_view c.args.waiting.now).1 in
    subst (λ (p : Proc). Sees c.sight_of_channels.result p) (sym (unopened-view c.args.gate.now ds cs c.in-Unopened.is))
    (subst (λ (xs : List ℕ). Sees c.sight_of_channels.result (unopened xs cs))
    (c.as_slice.ensures ∙ sym (await-channels c.args.waiting.now)) (c.sight_of_channels.ensures cs))

pub sight_of_opened-returns : goal.sight_of_opened-returns
sight_of_opened-returns t c = λ ds cs v.
    subst (λ (b : Bool). Sees c.sight_of.result (opened_of b ds cs c.args.channel v (proc_view c.args.body.now))) (sym c.if-over.false)
    (λ s env.
    let inner = with_value c.args.channel v env in
    seen-child c.sight_of.result 1 (listed s inner (proc_view c.args.body.now)) _
    (sym (c.is_over.ensures.walked s inner) ∙ c.if-is_over.false) (c.sight_of.ensures s inner))

pub sight_of_sequence-returns-then-not-is_over : goal.sight_of_sequence-returns-then-not-is_over
sight_of_sequence-returns-then-not-is_over t c =
    let e : c.min-end.result ≡ min (length c.args.begun.now) (length c.args.row.now.codes) = first_of (omega arith, cc, search rules) in
    let child = c.index-begun-number.result in
    seen-here c.sight_of.result c.children.number (begun-row c.args.begun.now c.args.row.now) (proc_view child)
    (row-at c.args.begun.now c.args.row.now c.children.number child (omega (arith, e)) (omega (arith, e)) c.index-begun-number.is)
    (λ s env. sym (c.is_over.ensures.walked s env) ∙ c.if-not-is_over.true) c.children.invariant c.sight_of.ensures

pub sight_of_sequence-children-preserved : goal.sight_of_sequence-children-preserved
sight_of_sequence-children-preserved t c =
    let e : c.min-end.result ≡ min (length c.args.begun.now) (length c.args.row.now.codes) = first_of (omega arith, cc, search rules) in
    came-more c.children.number (c.children.number + 1) (begun-row c.args.begun.now c.args.row.now) (omega arith)
    (begun-has c.args.begun.now c.args.row.now c.children.number c.index-begun-number.result c.is_over.result (omega (arith, e))
    (omega (arith, e)) c.index-begun-number.is c.is_over.ensures.walked c.if-not-is_over.false)
    c.children.invariant

pub sight_of_sequence-returns : goal.sight_of_sequence-returns
sight_of_sequence-returns t c s env =
    let e : c.min-end.result ≡ min (length c.args.begun.now) (length c.args.row.now.codes) = first_of (omega arith, cc, search rules) in
    subst (λ (l : Listing). AreSeen c.sight_of_row.result l.actions)
    (ap (λ (cs : List Code). listed_sequence s env c.children.number 0 (all_started (row_of (map code_view cs)))) c.as_slice.ensures
    ∙ sym (row-past s env c.args.begun.now c.args.row.now c.children.number (omega (arith, e)))
    ∙ c.children.invariant s env)
    (c.sight_of_row.ensures s env)

pub sight_of_test-returns-in-Took : goal.sight_of_test-returns-in-Took
sight_of_test-returns-in-Took t c = λ d cs.
    took-seen c.sight_of.result d cs c.args.tested.now _ c.in-Took.body c.deref.result.now c.in-Took.is c.deref.ensures
    c.sight_of.ensures

pub sight_of_turn-returns : goal.sight_of_turn-returns
sight_of_turn-returns t c = λ g code n.
    subst (λ (b : Bool). Sees c.sight_of.result (turn_of b g code n (proc_view c.args.body.now))) (sym c.if-over.false)
    (λ s env.
    seen-child c.sight_of.result (2 * n + 1) (listed s env (proc_view c.args.body.now)) _
    (sym (c.is_over.ensures.walked s env) ∙ c.if-is_over.false) (c.sight_of.ensures s env))
