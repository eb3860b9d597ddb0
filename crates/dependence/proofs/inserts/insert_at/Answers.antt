use Rattle.std.proofs.Common.{◌≡◌, ◌≤◌, length, ◌∙◌, arith}
use Rattle.dependence.proofs.ListLaws.{on-ok}
use Rattle.dependence.proofs.TicketLaws.{insert-last}
use Rattle.dependence.proofs.inserts.insert_at.Goals as goal

pub returns-clause-put : goal.returns-clause-put
returns-clause-put t c =
    let within : c.args.index ≤ length c.args.items.now.items = c.requires in
    let all : c.args.index ≡ length c.args.items.now.items = omega (arith, within, c.if-index-len.false) in
    on-ok c.push_last.result (λ put. put ∙ insert-last c.args.items.now.items c.args.index c.args.item all) c.push_last.ensures.put
