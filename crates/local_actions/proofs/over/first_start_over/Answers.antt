use Rattle.std.proofs.Common.{◌≡◌, ◌+◌, false, true, map, refl, sym, ap, rules, arith}
use Rattle.process_tree.specs.Proc.{all_started}
use Rattle.process_tree.specs.Translation.{row_of}
use Rattle.process_tree.specs.View.{code_view}
use Rattle.local_actions.specs.internal.Listed.{listed_sequence}
use Rattle.local_actions.proofs.public.OneByOne.{none-last}
use Rattle.local_actions.proofs.public.Endings.{came-more, not-come, is-come, is-elsewhere}
use Rattle.local_actions.proofs.over.first_start_over.Goals as goal

pub children-init : goal.children-init
children-init c = (
  omega arith,
  λ s env. ap (λ k. listed_sequence s env k 0 (all_started (row_of (map code_view c.args.codes.now)))) (sym (none-last (row_of (map code_view c.args.codes.now)))),
)

pub returns-then-not-command_over : goal.returns-then-not-command_over
returns-then-not-command_over c =
    let is : c.command_over.result ≡ false = first_of (cc, search rules) in
    is-elsewhere c.args.count (all_started (row_of (map code_view c.args.codes.now))) false refl
    (not-come c.children.number c.args.count (all_started (row_of (map code_view c.args.codes.now))) c.children-test.true (c.command_over.ensures.open_ is) c.children.invariant.1)

pub children-preserved : goal.children-preserved
children-preserved c =
    let is : c.command_over.result ≡ true = first_of (cc, search rules) in (
      omega arith,
      came-more c.children.number (c.children.number + 1) (all_started (row_of (map code_view c.args.codes.now))) (omega arith) (c.command_over.ensures.over is) c.children.invariant.1,
    )

pub returns : goal.returns
returns c = is-come c.children.number c.args.count (all_started (row_of (map code_view c.args.codes.now))) true refl (omega (arith, c.children.invariant.0)) c.children.invariant.1
