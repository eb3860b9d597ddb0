use Rattle.std.proofs.Common.{◌≡◌, ◌+◌, sym, ◌∙◌, subst, take}
use Rattle.std.proofs.lemmas.List.{take_more}
use Rattle.viable_tokens.specs.Viable.{AreViable}
use Rattle.viable_tokens.proofs.trial.viable_among.Goals as goal

pub loop-kind-preserved : goal.loop-kind-preserved
loop-kind-preserved c =
    let before : c.loop-kind.tokens.items ≡ c.args.tokens.now.items = c.loop-kind.invariant.same in
    record {
      same = c.in_ok-add_viable.ensures.same ∙ before;
      viable = subst (λ items. AreViable items (take (c.loop-kind.kind-index + 1) c.args.kinds.now) c.add_viable.new.viable.items)
          before
          (c.in_ok-add_viable.ensures.viable (take c.loop-kind.kind-index c.args.kinds.now) _
          (take_more c.args.kinds.now c.loop-kind.kind-index _ c.loop-kind-test.true)
          (subst (λ items. AreViable items (take c.loop-kind.kind-index c.args.kinds.now) c.loop-kind.viable.items)
          (sym before) c.loop-kind.invariant.viable));
    }
