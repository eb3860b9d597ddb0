use Rattle.std.proofs.Common.{◌≡◌, ◌∙◌, List, Bool, false, slice_get, sym, ap, rules}
use Rattle.rings.specs.internal.Standing.{row_of}
use Rattle.rings.specs.internal.Trails.{holds}
use Rattle.rings.proofs.Trailing.{met-none}
use Rattle.rings.proofs.ring.met_on.Goals as goal

pub returns-then-not-is_held : goal.returns-then-not-is_held
returns-then-not-is_held c =
    let off : c.is_held.result ≡ false = first_of (cc, search rules) in
    met-none c.args.tables.now.standing c.args.actions.now c.args.trail.now.held.items c.args.way.now c.args.action c.requires
    (ap (λ (l : List Bool). holds l (row_of c.args.tables.now.standing (slice_get c.args.actions.now c.args.action))) (sym c.as_slice.ensures.value) ∙ sym c.is_held.ensures ∙ off)
