use Rattle.std.proofs.Common.{◌≡◌, ◌≤◌, ℕ, Some, Vec, Global}
use Rattle.std.proofs.lemmas.Result.{IfOk-weaker}
use Rattle.serde_json.specs.Data.{depth}
use Rattle.serde_json.specs.Read.{max_depth, read}
use Rattle.serde_json.specs.View.{view}
use Rattle.dap_messages.proofs.message.written.Goals as goal

pub returns-then-nests_within : goal.returns-then-nests_within
returns-then-nests_within c =
    let value = c.args.value.now in
    IfOk-weaker c.to_vec.result (λ (bytes : Vec ℕ Global). depth (view value) ≤ max_depth → read bytes.items ≡ Some (view value))
    (λ (bytes : Vec ℕ Global). read bytes.items ≡ Some (view value)) (λ (bytes : Vec ℕ Global) reads. reads (c.nests_within.ensures.within c.if-nests_within.true))
    c.to_vec.ensures.reads_back
