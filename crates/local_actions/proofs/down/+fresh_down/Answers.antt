-- Where a walk down along a place ends in commands that have made no move.
use Rattle.std.proofs.Common.{◌≡◌, ◌∷◌, ◌∙◌, map, true, ap, rules, arith}
use Rattle.address.specs.declared.Entry.TheVariants.{Ordered}
use Rattle.process_tree.specs.Proc.{started, all_started}
use Rattle.process_tree.specs.Translation.{row_of}
use Rattle.process_tree.specs.View.{code_view}
use Rattle.local_actions.specs.internal.At.{under}
use Rattle.local_actions.specs.internal.Listed.{listed, listed_sequence}
use Rattle.local_actions.proofs.public.OneByOne.{none-last, fresh-at}
use Rattle.local_actions.proofs.public.Endings.{fresh-end}
use Rattle.local_actions.proofs.public.GoingDown.{sequence-into, sequence-elsewhere, sequence-beside, past-end, parallel-into, parallel-nowhere, parallel-beside}
use Rattle.local_actions.proofs.public.Sites.{whole-here, code-once-below}
use Rattle.local_actions.proofs.down.+fresh_down.Goals as goal

pub fresh_down-returns-then-is_empty : goal.fresh_down-returns-then-is_empty
fresh_down-returns-then-is_empty t c = λ env s. whole-here c.args.place.now (listed s env (started (code_view c.args.code.now))).actions c.is_empty.result c.is_empty.ensures c.if-is_empty.true

pub fresh_down-returns-in-Once : goal.fresh_down-returns-in-Once
fresh_down-returns-in-Once t c = λ env s. code-once-below c.args.place.now s env c.args.code.now _ c.in-Once.is (first_of (omega arith, search rules))

pub fresh_in_turn_down-returns-in_default : goal.fresh_in_turn_down-returns-in_default
fresh_in_turn_down-returns-in_default t c = λ env. sequence-beside (all_started (row_of (map code_view c.args.codes.now))) c.args.place.now env c.requires c.in_default.ensures

pub fresh_in_turn_down-returns-then-child-codes : goal.fresh_in_turn_down-returns-then-child-codes
fresh_in_turn_down-returns-then-child-codes t c = λ env.
    let ps = all_started (row_of (map code_view c.args.codes.now)) in
    sequence-elsewhere ps c.in-Some.number c.args.place.now c.in-Some.below.now env
    (λ s v d. ap (λ k. under (Ordered c.in-Some.number ∷ d) (listed_sequence s v k 0 ps).actions) (none-last (row_of (map code_view c.args.codes.now)))
    ∙ past-end s v ps c.in-Some.number d (fresh-end c.args.codes.now c.in-Some.number (omega arith))) c.in-Some.ensures

pub fresh_in_turn_down-returns : goal.fresh_in_turn_down-returns
fresh_in_turn_down-returns t c = λ env.
    let is : c.first_start_over.result ≡ true = first_of (cc, search rules) in
    sequence-into (all_started (row_of (map code_view c.args.codes.now))) c.in-Some.number (started (code_view c.index-codes-child.result)) c.args.place.now c.in-Some.below.now env env c.fresh_down.result
    (c.first_start_over.ensures.reached is) (fresh-at c.args.codes.now c.in-Some.number c.index-codes-child.result (omega arith) c.index-codes-child.is) c.in-Some.ensures (c.fresh_down.ensures env)

pub fresh_side_by_side_down-returns-in_default : goal.fresh_side_by_side_down-returns-in_default
fresh_side_by_side_down-returns-in_default t c = λ env. parallel-beside (all_started (row_of (map code_view c.args.codes.now))) c.args.place.now env c.requires c.in_default.ensures

pub fresh_side_by_side_down-returns-then-branch-codes : goal.fresh_side_by_side_down-returns-then-branch-codes
fresh_side_by_side_down-returns-then-branch-codes t c = λ env.
    parallel-nowhere (all_started (row_of (map code_view c.args.codes.now))) c.in-Some.number c.args.place.now c.in-Some.below.now env (fresh-end c.args.codes.now c.in-Some.number (omega arith)) c.in-Some.ensures

pub fresh_side_by_side_down-returns : goal.fresh_side_by_side_down-returns
fresh_side_by_side_down-returns t c = λ env.
    parallel-into (all_started (row_of (map code_view c.args.codes.now))) c.in-Some.number (started (code_view c.index-codes-branch.result)) c.args.place.now c.in-Some.below.now env env c.fresh_down.result
    (fresh-at c.args.codes.now c.in-Some.number c.index-codes-branch.result (omega arith) c.index-codes-branch.is) c.in-Some.ensures (c.fresh_down.ensures env)
