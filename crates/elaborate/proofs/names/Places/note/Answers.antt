use Rattle.std.proofs.Common.{◌≡◌, ◌∙◌, sym, false, is_some}
use Rattle.elaborate.specs.internal.NamePositions.{position_at}
use Rattle.elaborate.proofs.PlaceLemmas.{noted-insert}
use Rattle.elaborate.proofs.names.Places.note.Goals as goal

pub returns : goal.returns
returns c =
    let absent : is_some (position_at c.args.self.now c.args.name.now) ≡ false =
    rw (← c.text.ensures, ← c.find.ensures) (sym c.if-is_some.ensures) in
    noted-insert (λ k. k.items) c.in_ok-key.key c.args.position c.self.inside.index.entries c.insert.new.self.entries
    c.args.self.now c.args.name.now c.self.view_is
    (c.in_ok-key.ensures.items ∙ c.text-2.ensures) absent c.in_ok-insert.ensures.entries
