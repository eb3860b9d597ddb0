use Rattle.std.proofs.Common.{◌≡◌, ◌++◌, [], ◌∷◌, Err, rules}
use Rattle.std.specs.Option.{option_to_list}
use Rattle.lexer.specs.Tokens.{token_at, token_of}
use Rattle.lexer.specs.internal.Parts.{IsCutOff}
use Rattle.lexer.specs.declared.token.Kind.TheVariants.{End}
use Rattle.lexer.proofs.public.PartLemmas.{at_end, bad_piece, goes_on, goes_to_end, goes_to_fault, less_left, over_piece}
use Rattle.lexer.proofs.lexing.Lexing.finish.Goals as goal
use Rattle.lexer.proofs.lexing.Lexing.finish.Goals.{In-Some}

-- the piece is cut off
cut_off : (c : In-Some) → IsCutOff c.loop-found.self c.in-Some.found c.cut.new.self
cut_off c = rw c.in-Some.is at c.in_ok-found.ensures.ok

pub loop-found-smaller : goal.loop-found-smaller
loop-found-smaller c =
    less_left c.loop-found.self c.cut.new.self c.in-Some.found (cut_off (goal.at.loop-found-smaller c).In-Some)

pub loop-found-preserved : goal.loop-found-preserved
loop-found-preserved c =
    let found = c.in-Some.found in
    let tokens = option_to_list (token_of found.position found.class found.text.now) in
    let over = over_piece c.loop-found.self c.cut.new.self found (cut_off (goal.at.loop-found-preserved c).In-Some) c.in_ok-refuse_piece.ensures.ok in
    (c.loop-found.invariant.0 ++ tokens, goes_on c.args.self c.loop-found.self c.cut.new.self c.loop-found.invariant.0 tokens c.loop-found.invariant.1 over)

pub returns-in_err-refuse_piece-clause-fault : goal.returns-in_err-refuse_piece-clause-fault
returns-in_err-refuse_piece-clause-fault c =
    let fault = c.in_err-refuse_piece.field-0.0 in
    let is : c.from_residual-in_err-refuse_piece.result ≡ Err fault = search rules in
    let bad = bad_piece c.loop-found.self c.cut.new.self c.in-Some.found fault (cut_off (goal.at.returns-in_err-refuse_piece-clause-fault c).In-Some) c.in_err-refuse_piece.ensures.err in
    rw is (goes_to_fault c.args.self c.loop-found.self c.loop-found.invariant.0 fault c.loop-found.invariant.1 bad)

pub returns-clause-read : goal.returns-clause-read
returns-clause-read c source before read =
    let here = c.loop-found.self in
    let stands = rw c.in_default.is at c.in_ok-found.ensures.ok in
    let last = token_at here.position End [] 0 ∷ [] in
    (c.loop-found.invariant.0 ++ last, goes_to_end c.args.self here c.loop-found.invariant.0 last c.loop-found.invariant.1 (at_end here stands.0) source before read)
