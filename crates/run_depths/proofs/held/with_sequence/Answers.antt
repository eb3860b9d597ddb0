use Rattle.std.proofs.Common.{List, ◌+◌, take, subst}
use Rattle.runs.specs.Moves.{Place}
use Rattle.run_depths.specs.internal.Held.{CountsLess, CountsTo}
use Rattle.run_depths.specs.declared.held.HeldPlace.{HeldPlace}
use Rattle.run_depths.proofs.HeldLaws.{fork-ordered, ordered-at}
use Rattle.run_depths.proofs.held.with_sequence.Goals as goal

pub returns : goal.returns
returns c =
    let ps = c.args.held.now.places.items in
    let at = ordered-at c.args.entries.now c.args.index c.requires.ordered in
    let to : CountsTo ps (take c.args.index c.args.entries.now) c.count_to-low.result =
    subst (λ (xs : List HeldPlace). CountsTo xs (take c.args.index c.args.entries.now) c.count_to-low.result) c.as_slice.ensures.value
    (subst (λ (a : Place). CountsTo c.as_slice.result.now a c.count_to-low.result) c.split_at.ensures.front c.count_to-low.ensures) in
    let less : CountsLess ps (take (c.args.index + 1) c.args.entries.now) c.count_less-high.result =
    subst (λ (xs : List HeldPlace). CountsLess xs (take (c.args.index + 1) c.args.entries.now) c.count_less-high.result) c.as_slice-2.ensures.value
    (subst (λ (a : Place). CountsLess c.as_slice-2.result.now a c.count_less-high.result) c.split_at-2.ensures.front c.count_less-high.ensures) in
    fork-ordered ps c.args.entries.now c.args.index at.0 c.args.since c.count_to-low.result c.count_less-high.result c.greatest_between.result c.larger.result
    at.1 c.requires.known to less c.greatest_between.ensures c.larger.ensures
