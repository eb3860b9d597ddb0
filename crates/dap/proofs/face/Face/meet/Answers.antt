use Rattle.std.proofs.Common.{Some, ap, sym, ◌∙◌, true, false}
use Rattle.serde_json.specs.View.{view}
use Rattle.dap_views.specs.declared.program.Counting.{Counting}
use Rattle.dap.specs.Meeting.{names_paths}
use Rattle.dap.proofs.Opening.{meets_by}
use Rattle.dap.proofs.face.Face.meet.Goals as goal

pub returns-then-names_paths-clause-client : goal.returns-then-names_paths-clause-client
returns-then-names_paths-clause-client c = λ done.
    meets_by (names_paths (view c.args.request.now.arguments)) true (view c.args.request.now.arguments) c.body.new.self
    (Some c.counting_of.result) (sym c.names_paths.ensures ∙ c.if-names_paths.true)
    (c.body.ensures.done (c.did.ensures.done done), ap (λ (k : Counting). Some k) c.counting_of.ensures)

pub returns-else-names_paths-clause-client : goal.returns-else-names_paths-clause-client
returns-else-names_paths-clause-client c = λ done.
    meets_by (names_paths (view c.args.request.now.arguments)) false (view c.args.request.now.arguments) c.refuse.new.self
    c.args.self.now.client (sym c.names_paths.ensures ∙ c.if-names_paths.false) (c.refuse.ensures.refused, c.requires)
