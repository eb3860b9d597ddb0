use Rattle.std.proofs.Common.{List, ℕ, map, subst}
use Rattle.system.specs.Translation.{branch_of}
use Rattle.system.specs.declared.system.Branch.{Branch}
use Rattle.system.specs.declared.system.System.{System}
use Rattle.idle_branches.specs.Idle.{AreEnds}
use Rattle.idle_branches.specs.declared.ends.Ends.{Ends}
use Rattle.idle_branches.specs.internal.Gathered.{AddsParts}
use Rattle.idle_branches.specs.internal.Known.{KnowsGivers}
use Rattle.idle_branches.proofs.GatherLemmas.{all-fit}
use Rattle.idle_branches.proofs.ends.Ends.of.Goals as goal

pub returns : goal.returns
returns c =
    let made = c.add_ports.new.self in
    let ends : Ends = record { count = made.count; used = made.used; givers = c.in_ok-ends-2.field-0 } in
    subst (λ (s : System). AreEnds s ends) c.system-system.ensures
    (record {
      fit = all-fit c.system-system.result.now c.in_ok-ends.ends c.add_body.new.self made c.in_ok-ends.ensures
          c.in_ok-add_body.ensures
          (subst (λ (bs : List Branch). AddsParts c.add_body.new.self (map branch_of bs) made) c.as_slice.ensures
          c.in_ok-add_ports.ensures);
      givers = subst (λ (xs : List (List ℕ)). KnowsGivers c.in_ok-ends-2.field-0.items xs) c.as_slice-2.ensures.value
          c.in_ok-ends-2.ensures;
    })
