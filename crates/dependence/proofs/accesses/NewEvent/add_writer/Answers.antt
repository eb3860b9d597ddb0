use Rattle.std.proofs.Common.{◌≡◌, ℕ, List, Bool, IsTrue, sym, subst}
use Rattle.std.proofs.lemmas.Result.{IfOk-weaker}
use Rattle.syntax.specs.Lists.{In}
use Rattle.runs.specs.Live.{LastWriter}
use Rattle.dependence.specs.internal.Found.{LeadsBefore}
use Rattle.dependence.proofs.Candidacy.{found-none, found-there, found-one, found-some, leads-itself, leads-reader, last-write, writer-is, writer-direct, no-writer}
use Rattle.dependence.proofs.accesses.NewEvent.add_writer.Goals as goal
use Rattle.dependence.proofs.accesses.NewEvent.add_writer.Goals.{then-is_before, else-is_before}

pub returns-then-is_found : goal.returns-then-is_found
returns-then-is_found c =
    let new = c.args.self.now in
    found-there new.list.now.live new.event.now (LastWriter new.list.now.live c.args.variable) c.args.found.now.items
    (λ t e i last. subst (λ (v : ℕ). In v c.args.found.now.items) (sym (writer-is new c.requires.new c.args.variable c.in-Some.writer t c.in-Some.ensures last))
    (subst (λ (k : List ℕ). In c.in-Some.writer k) c.as_slice.ensures.value (c.is_found.ensures c.if-is_found.true)))

pub returns-after-is_before : goal.returns-after-is_before
returns-after-is_before c =
    let new = c.args.self.now in
    let x = c.args.variable in
    let w = c.in-Some.writer in
    let leads : IsTrue c.if-is_before.by_place → LeadsBefore new.list.now.live new.event.now w =
    elim c.if-is_before.branch [
      | then-is_before p ↦ (λ on. leads-itself new.list.now.live new.event.now w (c.is_before.ensures.0 p.if-is_before.true))
      | else-is_before p ↦ (λ on. leads-reader new.list.now.live new.event.now x w c.behind_all-below.result (last-write new c.requires.new x w c.in-Some.ensures)
          (p.is_read_before-by_place.ensures.0 (subst (λ (b : Bool). IsTrue b) p.by_place-is on)))
    ] in
    IfOk-weaker c.add_if.result _ _ (λ _ found.
    found-some new.list.now.live new.event.now (λ t. t ≡ w) (LastWriter new.list.now.live x) c.args.found.now.items c.add_if.new.found.items
    (λ t e i last. writer-is new c.requires.new x w t c.in-Some.ensures last)
    (found-one new.list.now.live new.event.now w c.if-is_before.by_place c.args.found.now.items c.add_if.new.found.items leads
    (writer-direct new c.requires.new x w c.in-Some.ensures c.requires.uses) found)) c.add_if.ensures

pub returns-in-None : goal.returns-in-None
returns-in-None c =
    let new = c.args.self.now in
    found-none new.list.now.live new.event.now (LastWriter new.list.now.live c.args.variable) c.args.found.now.items
    (λ t e i w. no-writer new c.requires.new c.args.variable c.in-None.ensures t w)
