use Rattle.std.proofs.Common.{◌≡◌, ◌<◌, ℕ, Option, None, MatchOption, subst, rules}
use Rattle.dependence.specs.LastEvents.{LastUse, Uses}
use Rattle.rings.proofs.Tallied.{adds-all, adds-more, adds-none}
use Rattle.rings.proofs.counts.add_waiters.Goals as goal

pub waiters-init : goal.waiters-init
waiters-init c = adds-none c.args.waiters.now c.args.limit c.args.number c.args.todo.now.items

pub waiters-preserved : goal.waiters-preserved
waiters-preserved c =
    adds-more c.args.waiters.now c.args.limit c.args.number c.in_ok-row.row c.waiters.below c.in-Some.waiter c.args.todo.now.items c.waiters.todo.items c.push.new.self.items
    c.in_ok-row.ensures c.in-Some.ensures c.in_ok-push.ensures.items c.waiters.invariant

pub returns : goal.returns
returns c =
    let no : c.last.result ≡ None = first_of (cc, search rules) in
    let none : (t : ℕ) → Uses c.args.waiters.now c.in_ok-row.row t → t < c.waiters.below → ⊥ =
    subst (λ (o : Option ℕ). MatchOption o ((t : ℕ) → Uses c.args.waiters.now c.in_ok-row.row t → t < c.waiters.below → ⊥) (λ t. LastUse c.args.waiters.now c.in_ok-row.row c.waiters.below t)) no
    c.last.ensures in
    adds-all c.args.waiters.now c.args.limit c.args.number c.in_ok-row.row c.waiters.below c.args.todo.now.items c.waiters.todo.items c.in_ok-row.ensures none c.waiters.invariant
