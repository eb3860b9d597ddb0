use Rattle.std.proofs.Common.{◌≡◌, ℕ, List, ◌++◌, ◌∷◌, [], length, sym, ap, ◌∙◌, subst, append_assoc, append-nil, arith}
use Rattle.std.specs.Vec.Iter.{into_iter_items}
use Rattle.dap_frames.specs.Frames.{framed}
use Rattle.dap_messages.specs.declared.message.Message.{Message}
use Rattle.dap_server.specs.Sent.{AreJson, frames}
use Rattle.dap_server.proofs.Sending.{frames_more, json_more, none_left}
use Rattle.dap_server.proofs.batch.add_frames.Goals as goal

pub loop-message-preserved : goal.loop-message-preserved
loop-message-preserved c =
    let at = c.loop-message in
    let steps : into_iter_items at.message-iterator ≡ c.in-Some.message ∷ into_iter_items c.next.new.self = c.in-Some.ensures.steps.0 in
    let made = at.invariant.made in
    let added = c.in_ok-add_frame.ensures in
    let bytes : c.add_frame.new.bytes.items ≡ at.bytes.items ++ framed added.0 = added.2 in
    record {
      rest = append_assoc at.yielded (c.in-Some.message ∷ []) _ ∙ rw (← steps) at.invariant.rest;
      left = (let was = at.invariant.left in let gone = c.in-Some.ensures.steps.1 in let short = ap length steps in omega arith);
      made = (
        made.0 ++ added.0 ∷ [],
        json_more at.yielded made.0 c.in-Some.message added.0 made.1 added.1,
        bytes ∙ ap (λ (t : List ℕ). t ++ framed added.0) made.2 ∙ append_assoc c.args.bytes.now.items (frames made.0) (framed added.0)
            ∙ ap (λ (t : List ℕ). c.args.bytes.now.items ++ t) (sym (frames_more made.0 added.0)),
      );
    }

pub returns : goal.returns
returns c =
    let at = c.loop-message in
    let gone : into_iter_items at.message-iterator ≡ [] = none_left (into_iter_items at.message-iterator) (sym at.invariant.left ∙ c.in-None.ensures.steps.0) in
    let done : at.yielded ≡ c.args.messages.items = sym (append-nil at.yielded) ∙ ap (λ l. at.yielded ++ l) (sym gone) ∙ at.invariant.rest in
    let made = at.invariant.made in
    (made.0, subst (λ (ms : List Message). AreJson ms made.0) done made.1, made.2)
