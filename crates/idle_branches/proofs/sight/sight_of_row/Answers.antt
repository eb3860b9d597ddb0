use Rattle.std.proofs.Common.{◌≡◌, ◌+◌, suc, map, refl, sym, ◌∙◌, subst, arith}
use Rattle.address.specs.declared.Entry.TheVariants.{Ordered}
use Rattle.process_tree.specs.Proc.{all_started, started}
use Rattle.process_tree.specs.Translation.{row_of}
use Rattle.process_tree.specs.View.{code_view}
use Rattle.local_actions.specs.internal.Listed.{Listing, listed}
use Rattle.local_actions.proofs.public.OneByOne.{fresh-at, fresh-past, step-here, step-over}
use Rattle.idle_branches.specs.declared.sight.Sight.{Sight}
use Rattle.idle_branches.specs.internal.Sights.{AreSeen}
use Rattle.idle_branches.proofs.SightLemmas.{seen-behind}
use Rattle.idle_branches.proofs.sight.sight_of_row.Goals as goal

pub children-init : goal.children-init
children-init c s env = refl

pub children-preserved : goal.children-preserved
children-preserved c s env =
    let next : c.children.number + 1 ≡ suc c.children.number = omega arith in
    step-over s env (all_started (row_of (map code_view c.args.codes.now))) c.children.number (c.children.number + 1)
    (started (code_view c.index-codes-number.result))
    (fresh-at c.args.codes.now c.children.number c.index-codes-number.result c.children-test.true c.index-codes-number.is) next
    (sym (c.starts_over.ensures s env) ∙ c.if-not-starts_over.false)
    ∙ c.children.invariant s env

pub returns-then-not-starts_over : goal.returns-then-not-starts_over
returns-then-not-starts_over c s env =
    let p = started (code_view c.index-codes-number.result) in
    subst (λ (l : Listing). AreSeen c.sight_of_code.result l.actions)
    (sym (step-here s env (all_started (row_of (map code_view c.args.codes.now))) c.children.number p
    (fresh-at c.args.codes.now c.children.number c.index-codes-number.result c.children-test.true c.index-codes-number.is)
    (sym (c.starts_over.ensures s env) ∙ c.if-not-starts_over.true))
    ∙ c.children.invariant s env)
    (seen-behind c.sight_of_code.result (Ordered c.children.number) (listed s env p).actions (c.sight_of_code.ensures s env))

pub returns : goal.returns
returns c s env =
    subst (λ (l : Listing). AreSeen Sight.Nothing l.actions)
    (sym (fresh-past s env c.args.codes.now c.children.number 0 c.children-test.false) ∙ c.children.invariant s env) tt
