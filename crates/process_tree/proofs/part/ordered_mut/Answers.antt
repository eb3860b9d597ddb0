-- The process as its part is seen.
use Rattle.std.proofs.Common.{refl}
use Rattle.address.specs.declared.Entry.TheVariants.{Ordered}
use Rattle.process_tree.proofs.Lent.{lent-as}
use Rattle.process_tree.proofs.public.Forms.{loop-seen, test-seen, arms-seen}
use Rattle.process_tree.proofs.part.ordered_mut.Goals as goal

pub returns-in-Loop : goal.returns-in-Loop
returns-in-Loop c = lent-as (Ordered c.args.number) _ _ _ (loop-seen c.args.proc.now _ _ _ _ c.in-Loop.is refl c.in-Loop.turns-is) (c.body_mut.ensures _ _)

pub returns-in-Test : goal.returns-in-Test
returns-in-Test c = lent-as (Ordered c.args.number) _ _ _ (test-seen c.args.proc.now _ _ _ _ c.in-Test.is refl c.in-Test.tested-is) (c.taken_mut.ensures _ _)

pub returns-in-Arms : goal.returns-in-Arms
returns-in-Arms c = lent-as (Ordered c.args.number) _ _ _ (arms-seen c.args.proc.now _ _ _ _ c.in-Arms.is refl c.in-Arms.gate-is) (c.opened_mut.ensures _ _)
