use Rattle.std.proofs.Common.{◌∙◌, sym, ap}
use Rattle.std.proofs.lemmas.Result.{on_ok_weaker}
use Rattle.rings.specs.declared.partner.Partner.TheVariants as partner
use Rattle.rings.proofs.Edging.{behind-put}
use Rattle.rings.proofs.tables.put_waiter.Goals as goal

pub returns-in-Behind : goal.returns-in-Behind
returns-in-Behind c = record {
  sound = c.put.ensures.sound;
  put = on_ok_weaker c.put.result (λ h. behind-put c.args.partner.now c.entries.result.now c.args.number c.args.waiters.now c.put.new.self (c.in-Behind.is ∙ ap (λ a. partner.Behind a) (sym c.entries.ensures)) h) c.put.ensures.put;
}
