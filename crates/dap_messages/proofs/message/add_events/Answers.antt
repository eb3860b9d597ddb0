use Rattle.std.proofs.Common.{◌≡◌, ◌+◌, ◌∙◌, ◌++◌, ◌∷◌, [], List, length, None, ap, refl, sym, subst, arith, append_assoc, append-nil, length-append}
use Rattle.std.specs.Vec.Iter.{into_iter_items}
use Rattle.dap_messages.specs.Messages.{AreEvents}
use Rattle.dap_messages.specs.declared.answer.Note.{Note}
use Rattle.dap_messages.specs.declared.message.Message.{Message}
use Rattle.dap_messages.proofs.Numbered.{events-more, none_left}
use Rattle.dap_messages.proofs.message.add_events.Goals as goal

pub loop-note-preserved : goal.loop-note-preserved
loop-note-preserved c =
    let at = c.loop-note in
    let steps : into_iter_items at.note-iterator ≡ c.in-Some.note ∷ into_iter_items c.next.new.self = c.in-Some.ensures.steps.0 in
    let before = at.invariant.made in
    let more = before.0 in
    let message : Message = record { seq = c.in_ok-seq.seq; answers = None; members = c.event.result } in
    let next : c.in_ok-seq.seq ≡ at.seq + 1 = c.in_ok-seq.ensures in
    let last : at.seq ≡ c.args.first + length more = before.3 in
    let longer : length (more ++ message ∷ []) ≡ length more + 1 = length-append more (message ∷ []) in
    let after : c.push.new.self.items ≡ at.messages.items ++ message ∷ [] = c.in_ok-push.ensures.items in
    record {
      rest = append_assoc at.yielded (c.in-Some.note ∷ []) _ ∙ rw (← steps) at.invariant.rest;
      left = (let was = at.invariant.left in let gone = c.in-Some.ensures.steps.1 in let short = ap length steps in omega arith);
      made = (
        more ++ message ∷ [],
        after ∙ ap (λ (ms : List Message). ms ++ message ∷ []) before.1 ∙ append_assoc c.args.messages.now.items more (message ∷ []),
        events-more (c.args.first + 1) at.yielded more c.in-Some.note message before.2 (omega arith)
            (record { answers = refl; type = c.event.ensures.type_is; event = c.event.ensures.event; body = c.event.ensures.body }),
        omega arith,
      );
    }

pub returns : goal.returns
returns c =
    let at = c.loop-note in
    let gone : into_iter_items at.note-iterator ≡ [] = none_left (into_iter_items at.note-iterator) (sym at.invariant.left ∙ c.in-None.ensures.steps.0) in
    let done : at.yielded ≡ c.args.notes.items = sym (append-nil at.yielded) ∙ ap (λ l. at.yielded ++ l) (sym gone) ∙ at.invariant.rest in
    let made = at.invariant.made in
    (made.0, made.1, subst (λ (notes : List Note). AreEvents (c.args.first + 1) notes made.0) done made.2)
