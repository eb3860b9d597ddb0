use Rattle.std.proofs.Common.{◌≡◌, ◌<◌, ◌≤◌, ℕ, length, Option, None, MatchOption, sym, subst, arith, rules}
use Rattle.dependence.specs.LastEvents.{Uses, LastUse}
use Rattle.rings.specs.internal.Ends.{channel_of}
use Rattle.rings.proofs.Chosen.{next-end, no-more-ends, open-ends}
use Rattle.rings.proofs.among.among.Goals as goal

pub ends-preserved : goal.ends-preserved
ends-preserved c =
    let last : LastUse c.args.uses.now (channel_of c.args.sought) c.ends.below c.in-Some.number =
    subst (λ (k : ℕ). LastUse c.args.uses.now k c.ends.below c.in-Some.number) c.channel.ensures c.in-Some.ensures in
    let less : c.in-Some.number < c.ends.below = last.less in
    let upto : c.ends.below ≤ length c.args.ends.now = c.ends.invariant.0 in (
      omega (arith, less, upto),
      next-end c.args.uses.now c.args.ends.now c.args.sought c.args.own.now c.ends.below c.in-Some.number c.index-ends-below.result c.ends.partner c.in_ok-partner.partner
          c.requires last (omega (arith, less, upto)) c.index-ends-below.is c.ends.invariant.1 c.in_ok-partner.ensures,
    )

pub returns-then-is_open : goal.returns-then-is_open
returns-then-is_open c =
    let last : LastUse c.args.uses.now (channel_of c.args.sought) c.ends.below c.in-Some.number =
    subst (λ (k : ℕ). LastUse c.args.uses.now k c.ends.below c.in-Some.number) c.channel.ensures c.in-Some.ensures in
    let less : c.in-Some.number < c.ends.below = last.less in
    let upto : c.ends.below ≤ length c.args.ends.now = c.ends.invariant.0 in
    open-ends c.args.sought c.args.own.now c.args.ends.now c.in-Some.number c.in_ok-partner.partner c.is_open.result c.is_open.ensures c.if-is_open.true
    (next-end c.args.uses.now c.args.ends.now c.args.sought c.args.own.now c.ends.below c.in-Some.number c.index-ends-below.result c.ends.partner c.in_ok-partner.partner
    c.requires last (omega (arith, less, upto)) c.index-ends-below.is c.ends.invariant.1 c.in_ok-partner.ensures)

pub returns : goal.returns
returns c =
    let no : c.last.result ≡ None = first_of (cc, search rules) in
    let none : (t : ℕ) → Uses c.args.uses.now c.channel.result t → t < c.ends.below → ⊥ =
    subst (λ (o : Option ℕ). MatchOption o ((t : ℕ) → Uses c.args.uses.now c.channel.result t → t < c.ends.below → ⊥) (λ t. LastUse c.args.uses.now c.channel.result c.ends.below t)) no c.last.ensures in
    no-more-ends c.args.uses.now c.args.ends.now c.args.sought c.args.own.now c.ends.below c.ends.partner c.requires
    (λ t u. none t (subst (λ (k : ℕ). Uses c.args.uses.now k t) (sym c.channel.ensures) u)) c.ends.invariant.1
