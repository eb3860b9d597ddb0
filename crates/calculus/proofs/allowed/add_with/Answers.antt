use Rattle.std.proofs.Common.{◌≡◌, ◌++◌, map, false, sym, ap, ◌∙◌}
use Rattle.std.proofs.lemmas.List.{append-nil}
use Rattle.calculus.specs.internal.Meanings.{move_of}
use Rattle.calculus.specs.internal.Meets.{is_first}
use Rattle.calculus.specs.internal.Walk.{located_of}
use Rattle.calculus.proofs.Firsts.{no_first}
use Rattle.calculus.proofs.allowed.add_with.Goals as goal

pub returns-else-is_first : goal.returns-else-is_first
returns-else-is_first c =
    let h : is_first (move_of c.args.one.now.by) ≡ false = cc in
    sym (ap (λ es. c.args.events.now ++ es) (no_first c.args.values.now (located_of c.args.one.now) (map located_of c.args.others.now) h) ∙ append-nil c.args.events.now)
