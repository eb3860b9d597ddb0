use Rattle.std.proofs.Common.{◌≡◌, Err, inl, inr, List, ◌⊎◌, rules}
use Rattle.syntax.specs.Texts.{Text}
use Rattle.lexer.specs.Refusal.{IsRefused}
use Rattle.lexer.specs.Tokens.{AreTokens}
use Rattle.lexer.specs.internal.Fronts.{IsPieceFault}
use Rattle.lexer.specs.internal.Parts.{IsCutOff}
use Rattle.lexer.specs.declared.token.Token.{Token}
use Rattle.refusals.specs.declared.lexer.Fault.{Fault}
use Rattle.refusals.specs.declared.lexer.Fault.TheVariants.{Memory}
use Rattle.lexer.proofs.public.PartLemmas.{at_end, bad_piece, less_left, over_piece}
use Rattle.lexer.proofs.UniqueLemmas.{tokens_unique, refused_unique, never_both}
use Rattle.lexer.proofs.lex.Goals as goal
use Rattle.lexer.proofs.lex.Goals.{In-Some, In_ok-push}

-- the piece is cut off
cut_off : (c : In-Some) → IsCutOff c.loop-tokens.lexing c.in-Some.found c.cut.new.self
cut_off c = rw c.in-Some.is at c.in_ok-found.ensures.ok

pub loop-tokens-smaller : goal.loop-tokens-smaller
loop-tokens-smaller c =
    less_left c.loop-tokens.lexing c.cut.new.self c.in-Some.found (cut_off (goal.at.loop-tokens-smaller c).In-Some)

pub loop-tokens-preserved : goal.loop-tokens-preserved
loop-tokens-preserved c =
    let over = over_piece c.loop-tokens.lexing c.cut.new.self c.in-Some.found (cut_off (goal.at.loop-tokens-preserved c).In-Some) c.in_ok-push_token.ensures.readable in
    rw c.in_ok-push_token.ensures.tokens (over c.args.source.now c.loop-tokens.tokens.items c.loop-tokens.invariant)

-- a fault that is told is memory's where the source has tokens
no_other : (source : Text) (fault : Fault) → (fault ≡ Memory) ⊎ IsRefused source fault → (tokens : List Token) → AreTokens source tokens → fault ≡ Memory
no_other source fault told tokens read = elim told [
  | inl memory ↦ memory
  | inr refused ↦ absurd (never_both source tokens fault read refused)
]

-- and the one that is due where it has none
the_due : (source : Text) (fault : Fault) → (fault ≡ Memory) ⊎ IsRefused source fault → (due : Fault) → IsRefused source due → (fault ≡ Memory) ⊎ (fault ≡ due)
the_due source fault told due refused = elim told [
  | inl memory ↦ inl memory
  | inr here ↦ inr (refused_unique source fault due here refused)
]

pub returns-in_err-found-clause-fault : goal.returns-in_err-found-clause-fault
returns-in_err-found-clause-fault c =
    let is : c.from_residual.result ≡ Err c.in_err-found.field-0.0 = search rules in
    rw is (inr (c.in_err-found.ensures.err c.args.source.now c.loop-tokens.tokens.items c.loop-tokens.invariant))

pub returns-in_err-found-clause-every_source : goal.returns-in_err-found-clause-every_source
returns-in_err-found-clause-every_source c tokens read =
    let is : c.from_residual.result ≡ Err c.in_err-found.field-0.0 = search rules in
    rw is (no_other c.args.source.now c.in_err-found.field-0.0 (inr (c.in_err-found.ensures.err c.args.source.now c.loop-tokens.tokens.items c.loop-tokens.invariant)) tokens read)

pub returns-in_err-found-clause-every_fault : goal.returns-in_err-found-clause-every_fault
returns-in_err-found-clause-every_fault c due refused =
    let is : c.from_residual.result ≡ Err c.in_err-found.field-0.0 = search rules in
    rw is (the_due c.args.source.now c.in_err-found.field-0.0 (inr (c.in_err-found.ensures.err c.args.source.now c.loop-tokens.tokens.items c.loop-tokens.invariant)) due refused)

-- a piece that is a fault is refused, unless memory is out
piece_refused : (c : In-Some) (fault : Fault) → (fault ≡ Memory) ⊎ IsPieceFault c.in-Some.found.position.offset c.in-Some.found.class c.in-Some.found.text.now fault → (fault ≡ Memory) ⊎ IsRefused c.args.source.now fault
piece_refused c fault told = elim told [
  | inl memory ↦ inl memory
  | inr bad ↦ inr (bad_piece c.loop-tokens.lexing c.cut.new.self c.in-Some.found fault (cut_off c) bad c.args.source.now c.loop-tokens.tokens.items c.loop-tokens.invariant)
]

pub returns-in_err-push_token-clause-fault : goal.returns-in_err-push_token-clause-fault
returns-in_err-push_token-clause-fault c =
    let fault = c.in_err-push_token.field-0.0 in
    let is : c.from_residual-in_err-push_token.result ≡ Err fault = search rules in
    rw is (piece_refused (goal.at.returns-in_err-push_token-clause-fault c).In-Some fault c.in_err-push_token.ensures.err)

pub returns-in_err-push_token-clause-every_source : goal.returns-in_err-push_token-clause-every_source
returns-in_err-push_token-clause-every_source c tokens read =
    let fault = c.in_err-push_token.field-0.0 in
    let is : c.from_residual-in_err-push_token.result ≡ Err fault = search rules in
    rw is (no_other c.args.source.now fault (piece_refused (goal.at.returns-in_err-push_token-clause-every_source c).In-Some fault c.in_err-push_token.ensures.err) tokens read)

pub returns-in_err-push_token-clause-every_fault : goal.returns-in_err-push_token-clause-every_fault
returns-in_err-push_token-clause-every_fault c due refused =
    let fault = c.in_err-push_token.field-0.0 in
    let is : c.from_residual-in_err-push_token.result ≡ Err fault = search rules in
    rw is (the_due c.args.source.now fault (piece_refused (goal.at.returns-in_err-push_token-clause-every_fault c).In-Some fault c.in_err-push_token.ensures.err) due refused)

-- at the end of the source the tokens are its own
all_read : (c : In_ok-push) → AreTokens c.args.source.now c.push.new.self.items
all_read c =
    let here = c.loop-tokens.lexing in
    let stands = rw c.in_default.is at c.in_ok-found.ensures.ok in
    rw (c.in_ok-push.ensures.items, c.end.ensures, stands.1) (at_end here stands.0 c.args.source.now c.loop-tokens.tokens.items c.loop-tokens.invariant)

pub returns-clause-tokens : goal.returns-clause-tokens
returns-clause-tokens c = all_read c

pub returns-clause-every_source : goal.returns-clause-every_source
returns-clause-every_source c tokens read = tokens_unique c.args.source.now c.push.new.self.items tokens (all_read c) read

pub returns-clause-every_fault : goal.returns-clause-every_fault
returns-clause-every_fault c due refused = never_both c.args.source.now c.push.new.self.items due (all_read c) refused
