use Rattle.std.proofs.Common.{ap, ◌∙◌}
use Rattle.dap_messages.specs.declared.kind.Kind.{Kind}
use Rattle.dap.specs.Kinds.{ends}
use Rattle.dap.proofs.Opening.{closed_on, moves_closed}
use Rattle.dap.proofs.Stopping.{moves_stop, stays_over}
use Rattle.dap.proofs.face.Face.respond.Goals as goal

pub returns : goal.returns
returns g c = record {
  empty = c.new-answer.result;
  begins = (c.new-answer.ensures.done, c.new-answer.ensures.notes, c.new-answer.ensures.full);
  goes = c.hear.ensures.goes;
  sound = c.is_sound.ensures;
  stops = λ is.
      moves_stop (g.F.Sources.reads c.args.files.now) c.args.self.now.launched c.hear.new.self.launched c.args.request.now c.new-answer.result c.hear.new.answer
      c.new-answer.ensures.notes c.new-answer.ensures.done is c.hear.ensures.goes
      (λ none. let early = c.hear.ensures.early none (moves_closed c.args.request.now.kind is) in (early.0, early.1));
  early = λ none closed. let early = c.hear.ensures.early none closed in (
    early.0,
    ap (λ notes. notes.items) early.1 ∙ c.new-answer.ensures.notes,
    stays_over c.args.self.now c.hear.new.self c.is_over_behind-over.result c.args.request.now.kind early.2 c.is_over_behind-over.ensures
        (closed_on c.args.request.now.kind closed),
  );
  again = λ same known. let again = c.hear.ensures.again same known in (
    again.0,
    ap (λ notes. notes.items) again.1 ∙ c.new-answer.ensures.notes,
    stays_over c.args.self.now c.hear.new.self c.is_over_behind-over.result c.args.request.now.kind again.2 c.is_over_behind-over.ensures
        (ap (λ (k : Kind). ends k) same),
  );
  first = c.hear.ensures.first;
  answers = c.hear.ensures.answers;
  client = c.hear.ensures.client c.new-answer.ensures.done;
  excepts = c.hear.ensures.excepts;
  over = c.is_over_behind-over.ensures;
}
