use Rattle.std.proofs.Common.{ℕ, List, [], take, subst}
use Rattle.syntax.specs.Lists.{In}
use Rattle.dependence.specs.LastEvents.{Uses}
use Rattle.dependence.specs.internal.Tabled.{MoreUses}
use Rattle.dependence.proofs.public.ListPlaces.{in-take, take-all}
use Rattle.dependence.proofs.public.Tabling.{uses-kept, uses-in, uses-same, uses-next, has-next, read-next}
use Rattle.dependence.proofs.puts.put_reads.Goals as goal

pub loop-variable-init : goal.loop-variable-init
loop-variable-init c = record { more = uses-kept c.args.table.now c.args.ticket []; all = λ x i. absurd i }

pub loop-variable-preserved : goal.loop-variable-preserved
loop-variable-preserved c =
    let next = read-next c.args.variables.now c.loop-variable.variable-index c.loop-variable-test.true in
    record {
      more = uses-next c.args.table.now c.loop-variable.table c.put.new.self c.args.ticket _ _ _ next c.in_ok-put.ensures.put c.loop-variable.invariant.more;
      all = has-next c.args.table.now c.loop-variable.table c.put.new.self c.args.ticket _ _ _ next c.in_ok-put.ensures.put c.loop-variable.invariant.all;
    }

pub returns-in_err-put-clause-more : goal.returns-in_err-put-clause-more
returns-in_err-put-clause-more c =
    uses-in c.args.table.now c.put.new.self c.args.ticket (take c.loop-variable.variable-index c.args.variables.now) c.args.variables.now
    (λ x i. in-take c.args.variables.now c.loop-variable.variable-index x i)
    (uses-same c.args.table.now c.loop-variable.table c.put.new.self c.args.ticket _ c.in_err-put.ensures.refused c.loop-variable.invariant.more)

pub returns : goal.returns
returns c =
    let whole = take-all c.args.variables.now c.loop-variable.variable-index c.loop-variable-test.false in
    record {
      more = subst (λ (xs : List ℕ). MoreUses c.args.table.now c.args.ticket xs c.loop-variable.table) whole c.loop-variable.invariant.more;
      all = subst (λ (xs : List ℕ). (x : ℕ) → In x xs → Uses c.loop-variable.table x c.args.ticket) whole c.loop-variable.invariant.all;
    }
