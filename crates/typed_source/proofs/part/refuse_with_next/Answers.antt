use Rattle.std.proofs.Common.{◌≡◌, ◌++◌, ◌∙◌, List, ap, refl}
use Rattle.lexer.specs.declared.token.Token.{Token}
use Rattle.typed_source.specs.internal.InParts.{is_end}
use Rattle.typed_source.proofs.PartLemmas.{not_end, refuses_ahead}
use Rattle.typed_source.proofs.part.refuse_with_next.Goals as goal
use Rattle.typed_source.proofs.part.refuse_with_next.Goals.{in-EndOfSource, in_default}

pub returns : goal.returns
returns c = λ old reads.
    let part = c.in_ok-stop.ensures.part in
    let before = c.args.tokens.now.items in
    let which : c.match-matches.matches ≡ is_end c.in_ok-stop.stop = elim c.match-matches.branch [
      | in-EndOfSource w ↦ w.matches-is ∙ rw w.in-EndOfSource.is refl
      | in_default w ↦ w.matches-is ∙ not_end c.in_ok-stop.stop w.in_default.not-EndOfSource
    ] in
    let same : c.append.new.self.items ≡ before ++ part.0 =
    c.in_ok-append.ensures.items ∙ ap (λ (more : List Token). before ++ more) (rw c.new-next.ensures.items at part.1) in
    refuses_ahead c.match-matches.matches c.in_ok-stop.stop 1 old c.args.lexing c.add_part.new.self before part.0 c.append.new.self.items which reads same part.2
    c.refuse.result (rw c.as_slice.ensures.value at (c.refuse.ensures old))
