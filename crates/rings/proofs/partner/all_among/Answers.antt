use Rattle.std.proofs.Common.{[], ◌∷◌, map, refl, sym, ap}
use Rattle.rings.specs.declared.partner.Partner.{Partner}
use Rattle.rings.specs.internal.Ends.{partner_from}
use Rattle.rings.proofs.Added.{some-added, all-added}
use Rattle.rings.proofs.partner.all_among.Goals as goal

pub loop-action-preserved : goal.loop-action-preserved
loop-action-preserved c =
    some-added (map (partner_from c.args.ends.now)) c.loop-action.partners.items c.push.new.self.items (c.in_ok-partner_of.field-0 ∷ []) _ c.args.actions.now c.loop-action.action-index
    c.action-item.result c.action-item.result c.loop-action-test.true c.action-item.is c.in_ok-push.ensures.items
    (λ rest. ap (λ (p : Partner). p ∷ map (partner_from c.args.ends.now) rest) (sym c.in_ok-partner_of.ensures)) c.loop-action.invariant

pub returns : goal.returns
returns c =
    all-added (map (partner_from c.args.ends.now)) c.loop-action.partners.items _ c.args.actions.now c.loop-action.action-index c.loop-action-test.false refl c.loop-action.invariant
