use Rattle.dap_server.specs.internal.Reading.{held}
use Rattle.dap_server.specs.internal.Serving.{ServesFrom}
use Rattle.dap_server.proofs.server.Server.serve_all.Given as goal

-- what came so far is served
abbrev pub invariant-loop-turn : goal.invariant-loop-turn
invariant-loop-turn g l =
    ServesFrom (g.A.Adapter.answers l.context) g.A.Adapter.over l.initial.adapter l.initial.self.next l.adapter l.self.next
    (held l.initial.self.input) (held l.self.input) (g.R.Read.remaining l.initial.reader) (g.R.Read.remaining l.reader)
    (g.W.Write.contents l.initial.writer) (g.W.Write.contents l.writer)
