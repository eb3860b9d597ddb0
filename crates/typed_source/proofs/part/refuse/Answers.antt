use Rattle.std.proofs.Common.{◌≡◌, false, true}
use Rattle.typed_source.proofs.PartLemmas.{refuses_some, refuses_all}
use Rattle.typed_source.proofs.part.refuse.Goals as goal
use Rattle.typed_source.proofs.part.refuse.Goals.{then-not-is_last+in_ok-finish, else-not-is_last}

pub returns : goal.returns
returns c = λ old reads.
    rw c.from.ensures (elim c.if-not-is_last.branch [
      | then-not-is_last+in_ok-finish w ↦
          let no : c.args.is_last ≡ false = let b = w.if-not-is_last.true in cc in
          refuses_some c.args.is_last old c.args.lexing c.args.tokens.now c.in-Some.fault no reads w.in_ok-finish.ensures.read c.in-Some.ensures
      | else-not-is_last w ↦
          let yes : c.args.is_last ≡ true = let b = w.if-not-is_last.false in cc in
          refuses_all c.args.is_last old c.args.lexing c.args.tokens.now c.in-Some.fault yes reads c.in-Some.ensures
    ])
