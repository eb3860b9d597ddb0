use Rattle.std.proofs.Common.{◌≡◌, ◌<◌, ◌≤◌, ◌∙◌, ℕ, Option, None, MatchOption, length, subst, arith, rules}
use Rattle.dependence.specs.LastEvents.{LastUse, Uses}
use Rattle.rings.proofs.Tallied.{moved-all, moved-none, raised}
use Rattle.rings.proofs.counts.raise.Goals as goal

pub groups-init : goal.groups-init
groups-init c = (omega arith, moved-none c.args.edges.now c.args.number c.len-below.result c.args.counts.now.items (c.len-below.ensures ∙ c.args.counts.now.ok.0) c.requires)

pub groups-preserved : goal.groups-preserved
groups-preserved c =
    let last : LastUse c.args.edges.now c.in_ok-row.row c.groups.below c.in-Some.found = c.in-Some.ensures in
    let less : c.in-Some.found < c.groups.below = last.less in
    let upto : c.groups.below ≤ length c.args.counts.now.items = c.groups.invariant.0 in (
      omega (arith, less, upto),
      raised c.args.edges.now c.args.number c.in_ok-row.row c.groups.below c.in-Some.found c.in_ok-row.ensures last c.args.counts.now.items c.groups.counts.items
          c.add_one.new.counts.items c.groups.invariant.1 c.in_ok-add_one.ensures.more,
    )

pub returns : goal.returns
returns c =
    let no : c.last.result ≡ None = first_of (cc, search rules) in
    let none : (t : ℕ) → Uses c.args.edges.now c.in_ok-row.row t → t < c.groups.below → ⊥ =
    subst (λ (o : Option ℕ). MatchOption o ((t : ℕ) → Uses c.args.edges.now c.in_ok-row.row t → t < c.groups.below → ⊥) (λ t. LastUse c.args.edges.now c.in_ok-row.row c.groups.below t)) no
    c.last.ensures in
    record {
      size = c.groups.invariant.1.size;
      raised = moved-all c.args.edges.now c.args.number c.in_ok-row.row c.groups.below c.groups.counts.items c.args.counts.now.items c.in_ok-row.ensures none c.groups.invariant.1;
    }
