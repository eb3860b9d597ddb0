use Rattle.std.proofs.Common.{sym}
use Rattle.system.proofs.HashLemmas.{hash_onto-append}
use Rattle.system.proofs.qualified_name.QualifiedName.hash.Goals as goal

pub returns : goal.returns
returns c =
    rw (c.hash_onto.ensures, c.hash.ensures, c.text.ensures, ← c.self.view_is)
    (sym (hash_onto-append c.self.inside.prefix c.self.inside.own 0))
