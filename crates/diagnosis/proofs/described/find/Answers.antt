use Rattle.std.proofs.Common.{List, ap, subst, sym}
use Rattle.findings.specs.declared.finding.Finding.{Finding}
use Rattle.lexer.specs.Tokens.{AreTokens}
use Rattle.lexer.specs.declared.token.Token.{Token}
use Rattle.diagnosis.proofs.Marked.{adds_none, always, is_uncut, is_unparsed}
use Rattle.diagnosis.proofs.described.find.Goals as goal

pub returns-in-Err : goal.returns-in-Err
returns-in-Err c number =
    always c.say.result _
    (adds_none c.args.source.now c.args.finding.now c.say.new.self
    (is_uncut c.args.source.now c.in-Err.fault c.in_ok-not_lexer_memory-in-Err.ensures c.in-Err.ensures.fault)
    (ap (λ (z : Finding). z.beside.items) c.say.ensures))

pub returns-in-Err-parse : goal.returns-in-Err-parse
returns-in-Err-parse c number =
    let cut : AreTokens c.args.source.now c.as_slice.result.now =
    subst (λ (ts : List Token). AreTokens c.args.source.now ts) (sym c.as_slice.ensures.value) c.in-Ok.ensures.tokens in
    always c.say-in-Err-parse.result _
    (adds_none c.args.source.now c.args.finding.now c.say-in-Err-parse.new.self
    (is_unparsed c.args.source.now c.as_slice.result.now c.in-Err-parse.fault cut
    c.in_ok-not_parser_memory-in-Err-parse.ensures c.in-Err-parse.ensures.fault)
    (ap (λ (z : Finding). z.beside.items) c.say-in-Err-parse.ensures))
