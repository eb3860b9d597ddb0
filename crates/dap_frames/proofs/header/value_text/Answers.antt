use Rattle.std.proofs.Common.{ap, sym, ◌∙◌, Bool, List, ℕ, Some, drop, ◌+◌}
use Rattle.std.proofs.lemmas.List.{take_rest}
use Rattle.dap_frames.specs.Header as model
use Rattle.dap_frames.proofs.Headers.{key-here}
use Rattle.dap_frames.proofs.header.value_text.Goals as goal

pub returns-then-has_key : goal.returns-then-has_key
returns-then-has_key c =
    ap (λ (xs : List ℕ). Some xs) (take_rest c.args.header.now (c.loop-i.i + 15))
    ∙ sym (c.loop-i.invariant ∙ ap (λ (b : Bool). model.value_text b (drop c.loop-i.i c.args.header.now)) c.if-begins.true
    ∙ key-here c.args.header.now c.loop-i.i c.loop-i-test.true
    (ap model.has_key (sym (take_rest c.args.header.now c.loop-i.i)) ∙ sym c.has_key.ensures.value ∙ c.if-has_key.true))
