use Rattle.std.proofs.Common.{◌≡◌, Bool, [], false, inr}
use Rattle.std.specs.Io.KnownBytes.{IsAtEnd}
use Rattle.std.proofs.lemmas.Result.{IfOk-at_ok}
use Rattle.dap_server.specs.internal.Reading.{held}
use Rattle.dap_server.specs.internal.Serving.{ServesFrom}
use Rattle.dap_server.proofs.Sessions.{serves_nothing, serves_then, stops_then}
use Rattle.dap_server.proofs.server.Server.serve_all.Goals as goal

pub loop-turn-init : goal.loop-turn-init
loop-turn-init g c =
    serves_nothing (g.A.Adapter.answers c.args.context.now) g.A.Adapter.over c.args.adapter.now c.args.self.now.next (held c.args.self.now.input)
    (g.R.Read.remaining c.args.reader.now) (g.W.Write.contents c.args.writer.now)

pub loop-turn-preserved : goal.loop-turn-preserved
loop-turn-preserved g c =
    let at = c.loop-turn in
    serves_then (g.A.Adapter.answers c.args.context.now) g.A.Adapter.over c.args.adapter.now at.adapter c.serve_next.new.adapter c.args.self.now.next at.self.next
    c.serve_next.new.self.next (held c.args.self.now.input) (held at.self.input) (held c.serve_next.new.self.input)
    (g.R.Read.remaining c.args.reader.now) (g.R.Read.remaining at.reader) (g.R.Read.remaining c.serve_next.new.reader)
    (g.W.Write.contents c.args.writer.now) (g.W.Write.contents at.writer) (g.W.Write.contents c.serve_next.new.writer) at.invariant
    (IfOk-at_ok
    (λ (more : Bool). ServesFrom (g.A.Adapter.answers c.args.context.now) g.A.Adapter.over at.adapter at.self.next c.serve_next.new.adapter c.serve_next.new.self.next
    (held at.self.input) (held c.serve_next.new.self.input) (g.R.Read.remaining at.reader) (g.R.Read.remaining c.serve_next.new.reader)
    (g.W.Write.contents at.writer) (g.W.Write.contents c.serve_next.new.writer)) c.in-Ok-true.is c.serve_next.ensures.serves)

pub returns-in-Ok-false-clause-serves : goal.returns-in-Ok-false-clause-serves
returns-in-Ok-false-clause-serves g c =
    let at = c.loop-turn in
    serves_then (g.A.Adapter.answers c.args.context.now) g.A.Adapter.over c.args.adapter.now at.adapter c.serve_next.new.adapter c.args.self.now.next at.self.next
    c.serve_next.new.self.next (held c.args.self.now.input) (held at.self.input) (held c.serve_next.new.self.input)
    (g.R.Read.remaining c.args.reader.now) (g.R.Read.remaining at.reader) (g.R.Read.remaining c.serve_next.new.reader)
    (g.W.Write.contents c.args.writer.now) (g.W.Write.contents at.writer) (g.W.Write.contents c.serve_next.new.writer) at.invariant
    (IfOk-at_ok
    (λ (more : Bool). ServesFrom (g.A.Adapter.answers c.args.context.now) g.A.Adapter.over at.adapter at.self.next c.serve_next.new.adapter c.serve_next.new.self.next
    (held at.self.input) (held c.serve_next.new.self.input) (g.R.Read.remaining at.reader) (g.R.Read.remaining c.serve_next.new.reader)
    (g.W.Write.contents at.writer) (g.W.Write.contents c.serve_next.new.writer)) c.in-Ok-false.is c.serve_next.ensures.serves)

pub returns-in-Ok-false-clause-ends : goal.returns-in-Ok-false-clause-ends
returns-in-Ok-false-clause-ends g c =
    inr
    (IfOk-at_ok
    (λ (more : Bool). more ≡ false → IsAtEnd (g.R.Read.remaining c.serve_next.new.reader) × (held c.serve_next.new.self.input ≡ []))
    c.in-Ok-false.is c.serve_next.ensures.ends c.in-Ok-false.field-0-test)

pub returns-in-Err-clause-fails : goal.returns-in-Err-clause-fails
returns-in-Err-clause-fails g c =
    let at = c.loop-turn in
    stops_then (g.A.Adapter.answers c.args.context.now) g.A.Adapter.over c.args.adapter.now at.adapter c.serve_next.new.adapter c.args.self.now.next at.self.next
    c.in-Err.fault (held c.args.self.now.input) (held at.self.input) (g.R.Read.remaining c.args.reader.now) (g.R.Read.remaining at.reader)
    (g.R.Read.remaining c.serve_next.new.reader) (g.W.Write.contents c.args.writer.now) (g.W.Write.contents at.writer)
    (g.W.Write.contents c.serve_next.new.writer) at.invariant c.in-Err.ensures.fails
