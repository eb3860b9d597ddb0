use Rattle.std.proofs.Common.{List, ℕ, sym, subst}
use Rattle.dependence.specs.Followers.{ListsLeads}
use Rattle.dependence.proofs.whole.leads_at.Goals as goal

pub returns : goal.returns
returns c =
    let of = c.links_of.ensures in
    subst (λ (k : List ℕ). ListsLeads c.args.list.now.live c.args.ticket k) (sym c.as_slice.ensures)
    (record {
      exactly = c.requires.linked.leads of.0 c.args.ticket of.1.0 c.links_of.result.now of.1.1 of.2;
      falling = c.requires.linked.falling of.0 c.links_of.result.now of.2;
    })
