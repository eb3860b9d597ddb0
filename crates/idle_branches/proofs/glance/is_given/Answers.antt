use Rattle.std.proofs.Common.{◌≡◌, ℕ, Bool, true, false, not, Some, refl, sym, ap, ◌∙◌}
use Rattle.local_actions.specs.View.{state_of}
use Rattle.idle_branches.proofs.GlanceLemmas.{none-gives}
use Rattle.idle_branches.proofs.glance.is_given.Goals as goal

pub returns-in-Nobody : goal.returns-in-Nobody
returns-in-Nobody c off tidy h values are run =
    none-gives c.args.system.now c.args.ends.now h (state_of c.args.tree.now values) c.args.channel are run
    (λ g gives x offer at given. c.in-Nobody.ensures g (are.givers g c.args.channel gives))

is-on : (b : Bool) → not b ≡ false → b ≡ true
is-on true off = refl
is-on false off = cc

pub returns-in-One : goal.returns-in-One
returns-in-One c off tidy h values are run =
    none-gives c.args.system.now c.args.ends.now h (state_of c.args.tree.now values) c.args.channel are run
    (λ g gives x offer at given.
    let same = c.in-One.ensures g (are.givers g c.args.channel gives) in
    c.gives_none_on.ensures (is-on c.gives_none_on.result off) x.action
    (c.sight_of_branch.ensures tidy values x offer (at ∙ ap (λ (k : ℕ). Some k) (sym same))) given)
