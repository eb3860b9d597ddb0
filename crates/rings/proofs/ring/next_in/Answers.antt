use Rattle.std.proofs.Common.{◌≡◌, ◌<◌, ◌∙◌, ℕ, Option, None, MatchOption, refl, sym, subst, rules}
use Rattle.dependence.specs.LastEvents.{LastUse, Uses}
use Rattle.rings.proofs.Trailing.{nexts-all, nexts-more, nexts-none, nexts-some}
use Rattle.rings.proofs.ring.next_in.Goals as goal

pub nexts-init : goal.nexts-init
nexts-init c = nexts-none c.args.seen.now c.args.left.now c.args.row _ refl

pub nexts-preserved : goal.nexts-preserved
nexts-preserved c =
    nexts-more c.args.seen.now c.args.left.now c.nexts.left c.remove.new.self c.args.row c.nexts.below c.in-Some.next c.in-Some.ensures (sym c.is_open.ensures ∙ c.if-is_open.false)
    c.remove.ensures c.nexts.invariant

pub returns-then-is_open : goal.returns-then-is_open
returns-then-is_open c = record {
  next = nexts-some c.args.seen.now c.args.left.now c.nexts.left c.args.row c.nexts.below c.in-Some.next c.in-Some.ensures (sym c.is_open.ensures ∙ c.if-is_open.true) c.nexts.invariant;
  left = c.nexts.invariant.fewer;
}

pub returns : goal.returns
returns c =
    let no : c.last.result ≡ None = first_of (cc, search rules) in
    let none : (t : ℕ) → Uses c.nexts.left c.args.row t → t < c.nexts.below → ⊥ =
    subst (λ (o : Option ℕ). MatchOption o ((t : ℕ) → Uses c.nexts.left c.args.row t → t < c.nexts.below → ⊥) (λ t. LastUse c.nexts.left c.args.row c.nexts.below t)) no c.last.ensures in
    record {
      next = nexts-all c.args.seen.now c.args.left.now c.nexts.left c.args.row c.nexts.below none c.nexts.invariant;
      left = c.nexts.invariant.fewer;
    }
