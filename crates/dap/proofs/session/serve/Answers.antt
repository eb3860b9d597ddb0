use Rattle.std.proofs.lemmas.Result.{IfErr-weaker}
use Rattle.dap.proofs.Lawful.{served}
use Rattle.dap.proofs.session.serve.Goals as goal

pub returns-clause-serves : goal.returns-clause-serves
returns-clause-serves g c =
    served (g.F.Sources.reads c.args.files.now) c.serve.result c.new-face.result c.serve.new.adapter (g.R.Read.remaining c.args.reader.now)
    (g.R.Read.remaining c.serve.new.reader) (g.W.Write.contents c.args.writer.now) (g.W.Write.contents c.serve.new.writer)
    c.new-face.ensures c.serve.ensures.serves c.serve.ensures.ends

pub returns-clause-fails : goal.returns-clause-fails
returns-clause-fails g c =
    IfErr-weaker c.serve.result _ _ (λ why up. (c.new-face.result, c.serve.new.adapter, c.new-face.ensures, up))
    c.serve.ensures.fails
