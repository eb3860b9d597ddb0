use Rattle.std.proofs.Common.{subst, take}
use Rattle.std.proofs.lemmas.Result.{IfOk-weaker}
use Rattle.viable_tokens.specs.Viable.{all_kinds, AreAllViable, AreViable}
use Rattle.viable_tokens.proofs.EveryKind.{all_viable}
use Rattle.viable_tokens.proofs.trial.viable_kinds.Goals as goal

pub returns : goal.returns
returns c = IfOk-weaker c.viable_among.result (λ viable. AreViable c.truncate.new.self.items all_kinds viable.items)
    (λ viable. AreAllViable (take c.args.place c.args.tokens.now.items) viable.items)
    (λ viable sifted. subst (λ front. AreAllViable front viable.items) c.truncate.ensures.items
    (all_viable c.truncate.new.self.items viable.items sifted)) c.viable_among.ensures
