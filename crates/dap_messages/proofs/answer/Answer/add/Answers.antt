use Rattle.std.proofs.Common.{◌≡◌, ◌∙◌, ◌++◌, ◌∷◌, [], not, is_ok, true, false, inl, inr, refl, ap}
use Rattle.dap_messages.specs.declared.answer.Note.{Note}
use Rattle.dap_messages.proofs.answer.Answer.add.Goals as goal

pub returns-else-is_err : goal.returns-else-is_err
returns-else-is_err c =
    let ok : is_ok c.push.result ≡ true = c.is_err.ensures.negation ∙ ap not c.if-is_err.false in
    let note : Note = record { told = c.args.told; body = c.args.body } in
    let after : c.push.new.self.items ≡ c.args.self.now.notes.items ++ note ∷ [] = rw ok at c.push.ensures.items in
    record {
      events = inl ((note, refl, refl, after), refl);
      outcome = refl;
      effect = c.with_event-self.ensures;
    }

pub returns-then-is_err : goal.returns-then-is_err
returns-then-is_err c =
    let bad : is_ok c.push.result ≡ false = c.is_err.ensures.negation ∙ ap not c.if-is_err.true in
    let after : c.push.new.self.items ≡ c.args.self.now.notes.items = rw bad at c.push.ensures.items in
    record { events = inr (after, refl); outcome = refl; effect = c.with_event-self.ensures }
