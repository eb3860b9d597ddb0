use Rattle.std.proofs.Common.{◌≡◌, ◌∙◌, ℕ, sym, subst, OnOk}
use Rattle.runs.proofs.public.Options.{none-some, some-injective}
use Rattle.rings.specs.internal.Tally.{Loosens}
use Rattle.rings.proofs.deadlock.loosen_at.Goals as goal

pub loosen-requires-clause-row : goal.loosen-requires-clause-row
loosen-requires-clause-row c = λ i u. c.requires.standing c.in-Some.row i (sym c.row_of.ensures ∙ c.in-Some.is) u

pub returns-in-Some : goal.returns-in-Some
returns-in-Some c = λ r at.
    let is : c.in-Some.row ≡ r = some-injective c.in-Some.row r (sym c.in-Some.is ∙ c.row_of.ensures ∙ at) in
    subst (λ (k : ℕ). OnOk c.loosen.result (Loosens c.args.tables.now.above c.args.tables.now.standing.uses c.args.tables.now.waiters.uses k c.args.marks.now.items c.loosen.new.marks.items
    c.args.counts.now.items c.loosen.new.counts.items c.args.todo.now.items c.loosen.new.todo.items)) is c.loosen.ensures

pub returns-in-None : goal.returns-in-None
returns-in-None c = λ r at. none-some r (sym c.in-None.is ∙ c.row_of.ensures ∙ at)
