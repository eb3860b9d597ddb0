use Rattle.std.proofs.Common.{refl}
use Rattle.dap.proofs.Refusing.{refused_by}
use Rattle.dap.proofs.face.attach.Goals as goal

pub returns-clause-number : goal.returns-clause-number
returns-clause-number c = refused_by c.args.answer.now c.refuse.new.self c.refuse.new.self 113 113 _ refl c.refuse.ensures.says refl
