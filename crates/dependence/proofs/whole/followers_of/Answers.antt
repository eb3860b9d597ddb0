use Rattle.std.proofs.Common.{List, ℕ, sym, subst}
use Rattle.dependence.specs.Followers.{ListsFollowers}
use Rattle.dependence.proofs.whole.followers_of.Goals as goal

pub returns : goal.returns
returns c =
    let of = c.links_of.ensures in
    subst (λ (k : List ℕ). ListsFollowers c.args.list.now.live c.args.ticket k) (sym c.as_slice.ensures)
    (c.requires.linked.followers of.0 c.args.ticket of.1.0 c.links_of.result.now of.1.1 of.2)
