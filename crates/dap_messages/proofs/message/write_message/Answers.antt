use Rattle.std.proofs.Common.{◌≡◌, ℕ, Some, Vec, Global}
use Rattle.std.proofs.lemmas.Result.{IfOk-weaker}
use Rattle.serde_json.specs.Read.{read}
use Rattle.serde_json.specs.View.{view}
use Rattle.dap_messages.specs.Json.{IsJsonOf}
use Rattle.dap_messages.proofs.Heading.{json_of}
use Rattle.dap_messages.proofs.message.write_message.Goals as goal

pub returns-in-Some : goal.returns-in-Some
returns-in-Some c =
    let value = c.in-Some.value in
    IfOk-weaker c.written.result (λ (bytes : Vec ℕ Global). read bytes.items ≡ Some (view value))
    (λ (bytes : Vec ℕ Global). IsJsonOf c.args.message bytes.items)
    (λ (bytes : Vec ℕ Global) reads. json_of c.args.message c.number.new.self value bytes.items c.number.ensures c.in-Some.ensures reads)
    c.written.ensures
