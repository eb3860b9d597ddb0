use Rattle.std.proofs.Common.{IfOk, IfErr, subst, refl, inr}
use Rattle.debug_session.specs.Lines.{AsksBy}
use Rattle.debug_session.proofs.AskLemmas.{UnsaidBy, no-keyword, behind-says, behind-session, behind-unsaid}
use Rattle.line_text.proofs.public.CutLemmas.{not-nil}
use Rattle.debug_session.proofs.read.read_command.Goals as goal

pub returns-in_default-clause-fault : goal.returns-in_default-clause-fault
returns-in_default-clause-fault c =
    inr (
      refl,
      not-nil c.args.line.now c.is_empty.result c.is_empty.ensures c.if-is_empty.false,
      no-keyword c.args.checked.now c.args.line.now c.cut_at_space.result.0.now c.cut_at_space.result.1.now c.cut_at_space.ensures c.in_default.ensures,
    )

pub returns-clause-line : goal.returns-clause-line
returns-clause-line c =
    behind-says c.args.checked.now c.args.line.now c.cut_at_space.result.0.now c.cut_at_space.result.1.now c.in-Some.keyword c.read_behind.result
    c.cut_at_space.ensures c.in-Some.ensures
    (subst (λ system. IfOk c.read_behind.result (λ said. AsksBy system c.in-Some.keyword c.cut_at_space.result.1.now said)) c.system.ensures c.read_behind.ensures.line)

pub returns-clause-session : goal.returns-clause-session
returns-clause-session c =
    behind-session c.system.result.now c.in-Some.keyword c.cut_at_space.result.1.now c.read_behind.result c.read_behind.ensures.line

pub returns-clause-fault : goal.returns-clause-fault
returns-clause-fault c =
    behind-unsaid c.args.checked.now c.args.line.now c.cut_at_space.result.0.now c.cut_at_space.result.1.now c.in-Some.keyword c.args.number c.read_behind.result
    c.cut_at_space.ensures c.in-Some.ensures (not-nil c.args.line.now c.is_empty.result c.is_empty.ensures c.if-is_empty.false)
    (subst (λ system. IfErr c.read_behind.result (UnsaidBy system c.in-Some.keyword c.cut_at_space.result.1.now c.args.number)) c.system.ensures c.read_behind.ensures.fault)
