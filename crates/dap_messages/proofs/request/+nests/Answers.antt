use Rattle.std.proofs.Common.{◌≡◌, ◌≤◌, ◌<◌, ◌∙◌, ℕ, suc, ◌+◌, List, [], ◌∷◌, ◌++◌, take, append-nil, append_assoc, ap, sym, subst, arith}
use Rattle.serde_json.specs.Data.{items_depth, members_depth}
use Rattle.serde_json.specs.View.{items_view, members_view}
use Rattle.serde_json.proofs.Views.{Entry}
use Rattle.dap_messages.proofs.Reading.{item_deeper, items_more, member_deeper, members_more}
use Rattle.dap_messages.proofs.request.+nests.Goals as goal

pub all_within-returns-then-not-nests_within-clause-deeper :
    goal.all_within-returns-then-not-nests_within-clause-deeper
all_within-returns-then-not-nests_within-clause-deeper t c = λ off.
    item_deeper c.args.values.now c.loop-value.value-index c.value-item.result c.args.levels c.loop-value-test.true c.value-item.is
    (c.nests_within.ensures.deeper c.if-not-nests_within.true)

pub all_within-loop-value-preserved : goal.all_within-loop-value-preserved
all_within-loop-value-preserved t c =
    let next : suc c.loop-value.value-index ≡ c.loop-value.value-index + 1 = omega arith in
    subst (λ (j : ℕ). items_depth (items_view (take j c.args.values.now)) ≤ c.args.levels) next
    (items_more c.args.values.now c.loop-value.value-index c.value-item.result c.args.levels c.loop-value-test.true c.value-item.is
    c.loop-value.invariant (c.nests_within.ensures.within c.if-not-nests_within.false))

pub members_within-returns-then-not-nests_within-clause-deeper :
    goal.members_within-returns-then-not-nests_within-clause-deeper
members_within-returns-then-not-nests_within-clause-deeper t c = λ off.
    let done = c.loop-name.invariant.0 in
    let e : Entry = (c.in-Some._name.now, c.in-Some.value.now) in
    let all : c.args.members.now.entries ≡ done ++ e ∷ c.next.new.self =
    c.loop-name.invariant.1 ∙ ap (λ (es : List Entry). done ++ es) c.in-Some.ensures.steps in
    subst (λ (es : List Entry). c.args.levels < members_depth (members_view es)) (sym all)
    (member_deeper done e c.next.new.self c.args.levels (c.nests_within.ensures.deeper c.if-not-nests_within.true))

pub members_within-loop-name-preserved : goal.members_within-loop-name-preserved
members_within-loop-name-preserved t c =
    let done = c.loop-name.invariant.0 in
    let e : Entry = (c.in-Some._name.now, c.in-Some.value.now) in
    let all : c.args.members.now.entries ≡ done ++ e ∷ c.next.new.self =
    c.loop-name.invariant.1 ∙ ap (λ (es : List Entry). done ++ es) c.in-Some.ensures.steps in (
      done ++ e ∷ [],
      all ∙ sym (append_assoc done (e ∷ []) c.next.new.self),
      members_more done e c.args.levels c.loop-name.invariant.2 (c.nests_within.ensures.within c.if-not-nests_within.false),
    )
