use Rattle.std.proofs.Common.{◌≡◌, ◌<◌, ◌≤◌, ℕ, Option, None, MatchOption, subst, arith, rules}
use Rattle.dependence.specs.LastEvents.{LastUse, Uses}
use Rattle.rings.proofs.Edging.{turned-all, turned-more, turned-none}
use Rattle.rings.proofs.tables.turn_row.Goals as goal

pub rows-init : goal.rows-init
rows-init c = (omega arith, turned-none c.args.edges.now c.args.nexts.now c.args.number c.args.limit)

pub rows-preserved : goal.rows-preserved
rows-preserved c =
    let last : LastUse c.args.edges.now c.in_ok-row.row c.rows.below c.in-Some.found = c.in-Some.ensures in
    let less : c.in-Some.found < c.rows.below = last.less in
    let upto : c.rows.below ≤ c.args.limit = c.rows.invariant.0 in (
      omega (arith, less, upto),
      turned-more c.args.edges.now c.args.nexts.now c.rows.nexts c.put.new.self c.args.limit c.rows.below c.in-Some.found c.in_ok-row.row c.in_ok-small.field-0 c.args.number last upto
          c.in_ok-row.ensures c.in_ok-small.ensures c.rows.invariant.1 c.in_ok-put.ensures.put,
    )

pub returns : goal.returns
returns c =
    let no : c.last.result ≡ None = first_of (cc, search rules) in
    let none : (t : ℕ) → Uses c.args.edges.now c.in_ok-row.row t → t < c.rows.below → ⊥ =
    subst (λ (o : Option ℕ). MatchOption o ((t : ℕ) → Uses c.args.edges.now c.in_ok-row.row t → t < c.rows.below → ⊥) (λ t. LastUse c.args.edges.now c.in_ok-row.row c.rows.below t)) no
    c.last.ensures in
    turned-all c.args.edges.now c.args.nexts.now c.rows.nexts c.args.limit c.rows.below c.in_ok-row.row c.args.number c.in_ok-row.ensures none c.rows.invariant.1
