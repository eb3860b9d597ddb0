use Rattle.std.proofs.Common.{◌-◌, ◌≡◌, ◌∙◌, ◌++◌, ◌∷◌, [], List, suc, length, ap, arith}
use Rattle.std.specs.Prelude.{slice_get}
use Rattle.std.specs.List.{remove}
use Rattle.event_inverse.specs.declared.record.Inverse.{Inverse}
use Rattle.machine.proofs.public.Entries.{newest-out, one-here}
use Rattle.machine.proofs.step.take_newest.Goals as goal

pub returns : goal.returns
returns c = λ older newest is.
    let last : suc (c.len-last.result - 1) ≡ length c.args.inverses.now = omega (arith, c.len-last.ensures, c.requires) in
    let whole : suc (c.len-last.result - 1) ≡ length (older ++ newest ∷ []) = last ∙ ap length is in
    let out = newest-out older newest (c.len-last.result - 1) whole in (
      c.remove.ensures.taken ∙ ap (λ (k : List Inverse). remove k (c.len-last.result - 1)) is ∙ out.0,
      one-here c.args.inverses.now (c.len-last.result - 1) c.remove.result newest c.remove.ensures.item (ap (λ (k : List Inverse). slice_get k (c.len-last.result - 1)) is ∙ out.1),
    )
