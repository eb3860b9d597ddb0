use Rattle.std.proofs.Common.{◌∙◌, List, sym, subst, rules}
use Rattle.rings.specs.declared.ring.Seen.{Seen}
use Rattle.rings.specs.internal.Trails.{Fewer, NextIn}
use Rattle.rings.proofs.Trailing.{next-no-row, next-told, opens-fewer}
use Rattle.rings.proofs.ring.next_open.Goals as goal

pub returns-in-Some-clause-next : goal.returns-in-Some-clause-next
returns-in-Some-clause-next c = λ xs sound has opens size.
    next-told c.args.waiters.now xs c.args.partners.now c.args.marks.now c.args.trail.now.seen.items c.args.top c.in-Some.row sound (sym c.group_of.ensures ∙ c.in-Some.is)
    c.args.trail.now.left c.next_in.result opens (first_of (cc, search rules))
    (subst (λ (l : List Seen). NextIn l c.args.trail.now.left c.in-Some.row c.next_in.result) c.as_slice.ensures.value c.next_in.ensures.next)

pub returns-in-Some-clause-left : goal.returns-in-Some-clause-left
returns-in-Some-clause-left c = λ xs opens.
    opens-fewer c.args.waiters.now xs c.args.trail.now.seen.items c.args.trail.now.left c.next_in.new.left opens
    (subst (λ (l : List Seen). Fewer l c.args.trail.now.left c.next_in.new.left) c.as_slice.ensures.value c.next_in.ensures.left)

pub returns-in-None-clause-next : goal.returns-in-None-clause-next
returns-in-None-clause-next c = λ xs sound has opens size.
    next-no-row c.args.waiters.now xs c.args.partners.now c.args.marks.now c.args.trail.now.seen.items c.args.top has (sym c.group_of.ensures ∙ c.in-None.is)
