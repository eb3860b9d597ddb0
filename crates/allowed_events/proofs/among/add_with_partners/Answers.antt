use Rattle.std.proofs.Common.{◌≡◌, ◌<◌, ◌≤◌, ℕ, length, Option, None, MatchOption, refl, subst, arith, rules}
use Rattle.dependence.specs.LastEvents.{Uses, LastUse}
use Rattle.allowed_events.proofs.ByChannel.{made-all, made-more, made-none}
use Rattle.allowed_events.proofs.among.add_with_partners.Goals as goal

pub partners-init : goal.partners-init
partners-init c = (omega arith, made-none c.args.events.now c.args.one.now c.args.channel (length c.args.actions.now) c.args.actions.now refl)

pub partners-preserved : goal.partners-preserved
partners-preserved c =
    let last : LastUse c.args.partners.now c.args.channel c.partners.below c.in-Some.number = c.in-Some.ensures in
    let less : c.in-Some.number < c.partners.below = last.less in
    let upto : c.partners.below ≤ length c.args.actions.now = c.partners.invariant.0 in (
      omega (arith, less, upto),
      made-more c.args.partners.now c.args.actions.now c.args.events.now c.partners.events c.add.new.events c.args.one.now c.index-actions-below.result c.args.channel c.partners.below
          c.in-Some.number c.in_ok-event.event c.requires last (omega (arith, less, upto)) c.index-actions-below.is c.partners.invariant.1 c.in_ok-event.ensures c.in_ok-add.ensures,
    )

pub returns : goal.returns
returns c =
    let no : c.last.result ≡ None = first_of (cc, search rules) in
    let none : (t : ℕ) → Uses c.args.partners.now c.args.channel t → t < c.partners.below → ⊥ =
    subst (λ (o : Option ℕ). MatchOption o ((t : ℕ) → Uses c.args.partners.now c.args.channel t → t < c.partners.below → ⊥) (λ t. LastUse c.args.partners.now c.args.channel c.partners.below t)) no c.last.ensures in
    made-all c.args.partners.now c.args.actions.now c.args.events.now c.partners.events c.args.one.now c.args.channel c.partners.below c.requires none c.partners.invariant.1
