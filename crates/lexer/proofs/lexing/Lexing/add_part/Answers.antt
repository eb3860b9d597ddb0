use Rattle.std.proofs.Common.{◌≡◌, ℕ, List, refl, ◌++◌, [], ◌∷◌, Err, Some, None, inr, length, sym, ◌∙◌, ap, length-append, arith, rules}
use Rattle.std.proofs.lemmas.Bool.{false≢true}
use Rattle.lexer.specs.Tokens.{IsReadable, token_at, token_of}
use Rattle.lexer.specs.internal.Parts.{IsAtProcedure, IsCutOff, IsKept}
use Rattle.lexer.specs.declared.lexing.Lexing.{Lexing}
use Rattle.lexer.specs.declared.token.Token.{Token}
use Rattle.refusals.specs.declared.lexer.Fault.TheVariants.{Memory}
use Rattle.lexer.specs.declared.token.Kind.TheVariants.{End, ProcedureWord}
use Rattle.lexer.proofs.public.PartLemmas.{IsPartSoFar, at_procedure, bad_piece, end_begins, goes_to_fault, less_left, part_at_end, part_at_procedure, part_on_blank, part_on_token, part_skips, skips_no_more}
use Rattle.lexer.proofs.lexing.Lexing.add_part.Goals as goal
use Rattle.lexer.proofs.lexing.Lexing.add_part.Goals.{In-Some, In-Some-2, in-ProcedureWord, in_default-matches}

-- the piece is cut off
cut_off : (c : In-Some) → IsCutOff c.skip_blanks.new.self c.in-Some.found c.cut.new.self
cut_off c = rw c.in-Some.is at c.in_ok-found.ensures.ok

pub returns-in_default-clause-part : goal.returns-in_default-clause-part
returns-in_default-clause-part c =
    let here = c.skip_blanks.new.self in
    let part = c.loop-left.part.items in
    let stands = rw c.in_default.is at c.in_ok-found.ensures.ok in
    let more : c.push.new.self.items ≡ part ++ token_at here.position End [] 0 ∷ [] = rw c.end.ensures at c.in_ok-push.ensures.items in
    part_at_end c.args.self.now c.args.part.now.items c.args.most here here part c.push.new.self.items c.loop-left.left (part_skips c.args.self.now c.args.part.now.items c.args.most c.loop-left.self c.skip_blanks.new.self c.loop-left.part.items c.loop-left.left c.loop-left.invariant.so c.skip_blanks.ensures) stands.0 more (omega arith)

pub returns-in_err-found-clause-fault : goal.returns-in_err-found-clause-fault
returns-in_err-found-clause-fault c =
    let fault = c.in_err-found.field-0.0 in
    let is : c.from_residual.result ≡ Err fault = search rules in
    let so = (part_skips c.args.self.now c.args.part.now.items c.args.most c.loop-left.self c.skip_blanks.new.self c.loop-left.part.items c.loop-left.left c.loop-left.invariant.so c.skip_blanks.ensures) in
    rw is (inr (goes_to_fault c.args.self.now c.skip_blanks.new.self so.added fault so.goes c.in_err-found.ensures.err))

pub returns-in_err-token-clause-fault : goal.returns-in_err-token-clause-fault
returns-in_err-token-clause-fault c =
    let fault = c.in_err-token.field-0.0 in
    let is : c.from_residual-in_err-token.result ≡ Err fault = search rules in
    let here = c.skip_blanks.new.self in
    let refused = bad_piece here c.cut.new.self c.in-Some.found fault (cut_off (goal.at.returns-in_err-token-clause-fault c).In-Some) c.in_err-token.ensures.err in
    rw is (inr (goes_to_fault c.args.self.now here (part_skips c.args.self.now c.args.part.now.items c.args.most c.loop-left.self c.skip_blanks.new.self c.loop-left.part.items c.loop-left.left c.loop-left.invariant.so c.skip_blanks.ensures).added fault (part_skips c.args.self.now c.args.part.now.items c.args.most c.loop-left.self c.skip_blanks.new.self c.loop-left.part.items c.loop-left.left c.loop-left.invariant.so c.skip_blanks.ensures).goes refused))

pub loop-left-smaller-in_ok-add_token : goal.loop-left-smaller-in_ok-add_token
loop-left-smaller-in_ok-add_token c =
    let less = less_left c.skip_blanks.new.self c.cut.new.self c.in-Some.found (cut_off (goal.at.loop-left-smaller-in_ok-add_token c).In-Some) in
    omega (arith, less, skips_no_more c.loop-left.self c.skip_blanks.new.self c.skip_blanks.ensures)

pub loop-left-preserved-in_ok-add_token : goal.loop-left-preserved-in_ok-add_token
loop-left-preserved-in_ok-add_token c =
    let found = c.in-Some.found in
    let readable : IsReadable found.class found.text.now = c.in_ok-token.ensures.ok.0 in
    let some : token_of found.position found.class found.text.now ≡ Some c.in-Some-2.token = sym c.in_ok-token.ensures.ok.1 ∙ c.in-Some-2.is in
    let part = c.loop-left.part.items in
    let items : c.add_token.new.tokens.items ≡ part ++ c.in-Some-2.token ∷ [] = search rules in
    record {
      so = part_on_token c.args.self.now c.args.part.now.items c.args.most c.skip_blanks.new.self c.cut.new.self part c.add_token.new.tokens.items c.in-Some-2.token c.loop-left.left found (part_skips c.args.self.now c.args.part.now.items c.args.most c.loop-left.self c.skip_blanks.new.self c.loop-left.part.items c.loop-left.left c.loop-left.invariant.so c.skip_blanks.ensures)
          (cut_off (goal.at.loop-left-preserved-in_ok-add_token c).In-Some) readable some items (omega arith);
      some = λ _. omega (arith, ap length items, length-append part (c.in-Some-2.token ∷ []));
    }

pub loop-left-preserved : goal.loop-left-preserved
loop-left-preserved c =
    let found = c.in-Some.found in
    let readable : IsReadable found.class found.text.now = c.in_ok-token.ensures.ok.0 in
    let none : token_of found.position found.class found.text.now ≡ None = sym c.in_ok-token.ensures.ok.1 ∙ c.in_default-2.is in
    record {
      so = part_on_blank c.args.self.now c.args.part.now.items c.args.most c.skip_blanks.new.self c.cut.new.self c.loop-left.part.items c.loop-left.left found (part_skips c.args.self.now c.args.part.now.items c.args.most c.loop-left.self c.skip_blanks.new.self c.loop-left.part.items c.loop-left.left c.loop-left.invariant.so c.skip_blanks.ensures)
          (cut_off (goal.at.loop-left-preserved c).In-Some) readable none;
      some = c.loop-left.invariant.some;
    }

pub returns-in_default-clause-begins : goal.returns-in_default-clause-begins
returns-in_default-clause-begins c word none room =
    let here = c.skip_blanks.new.self in
    let stands = rw c.in_default.is at c.in_ok-found.ensures.ok in
    end_begins c.args.self.now c.args.part.now.items c.args.most here c.loop-left.part.items c.push.new.self.items (c.end.result ∷ []) c.loop-left.left (part_skips c.args.self.now c.args.part.now.items c.args.most c.loop-left.self c.skip_blanks.new.self c.loop-left.part.items c.loop-left.left c.loop-left.invariant.so c.skip_blanks.ensures) stands.0 c.in_ok-push.ensures.items word none

-- the word at which the part ends
at_word : (c : In-Some-2) → c.in-Some-2.token.kind ≡ ProcedureWord → IsAtProcedure c.skip_blanks.new.self
at_word c is =
    let found = c.in-Some.found in
    let some : token_of found.position found.class found.text.now ≡ Some c.in-Some-2.token = sym c.in_ok-token.ensures.ok.1 ∙ c.in-Some-2.is in
    at_procedure c.skip_blanks.new.self c.cut.new.self found c.in-Some-2.token (rw c.in-Some.is at c.in_ok-found.ensures.ok) some is

pub returns-then-has_procedure-clause-part : goal.returns-then-has_procedure-clause-part
returns-then-has_procedure-clause-part c =
    let is : c.in-Some-2.token.kind ≡ ProcedureWord = elim c.match-matches.branch [
      | in-ProcedureWord w ↦ w.in-ProcedureWord.is
      | in_default-matches w ↦ absurd (false≢true (sym w.matches-is ∙ c.if-matches.true))
    ] in
    part_at_procedure c.args.self.now c.args.part.now.items c.args.most c.skip_blanks.new.self c.loop-left.part.items c.loop-left.left (part_skips c.args.self.now c.args.part.now.items c.args.most c.loop-left.self c.skip_blanks.new.self c.loop-left.part.items c.loop-left.left c.loop-left.invariant.so c.skip_blanks.ensures)
    (at_word (goal.at.returns-then-has_procedure-clause-part c).In-Some-2 is)

-- what was read so far is kept
kept : (old here : Lexing) (before part onward : List Token) (most left : ℕ) → IsPartSoFar old before most here part left → onward ≡ part → IsKept old before here onward
kept old here before part onward most left so same = (so.added, same ∙ so.same, so.goes)

pub returns-in_err-found-clause-kept : goal.returns-in_err-found-clause-kept
returns-in_err-found-clause-kept c =
    let is : c.from_residual.result ≡ Err c.in_err-found.field-0.0 = search rules in
    rw is (kept c.args.self.now c.skip_blanks.new.self c.args.part.now.items c.loop-left.part.items c.loop-left.part.items c.args.most c.loop-left.left (part_skips c.args.self.now c.args.part.now.items c.args.most c.loop-left.self c.skip_blanks.new.self c.loop-left.part.items c.loop-left.left c.loop-left.invariant.so c.skip_blanks.ensures) refl)

pub returns-in_err-token-clause-kept : goal.returns-in_err-token-clause-kept
returns-in_err-token-clause-kept c =
    let is : c.from_residual-in_err-token.result ≡ Err c.in_err-token.field-0.0 = search rules in
    rw is (kept c.args.self.now c.skip_blanks.new.self c.args.part.now.items c.loop-left.part.items c.loop-left.part.items c.args.most c.loop-left.left (part_skips c.args.self.now c.args.part.now.items c.args.most c.loop-left.self c.skip_blanks.new.self c.loop-left.part.items c.loop-left.left c.loop-left.invariant.so c.skip_blanks.ensures) refl)

pub returns-in_err-push-clause-kept : goal.returns-in_err-push-clause-kept
returns-in_err-push-clause-kept c =
    let is : c.from_residual-in_err-push.result ≡ Err Memory = search rules in
    let same : c.push.new.self.items ≡ c.loop-left.part.items = search rules in
    rw is (kept c.args.self.now c.skip_blanks.new.self c.args.part.now.items c.loop-left.part.items c.push.new.self.items c.args.most c.loop-left.left (part_skips c.args.self.now c.args.part.now.items c.args.most c.loop-left.self c.skip_blanks.new.self c.loop-left.part.items c.loop-left.left c.loop-left.invariant.so c.skip_blanks.ensures) same)

pub returns-in_err-add_token-clause-kept : goal.returns-in_err-add_token-clause-kept
returns-in_err-add_token-clause-kept c =
    let is : c.from_residual-in_err-add_token.result ≡ Err Memory = search rules in
    let same : c.add_token.new.tokens.items ≡ c.loop-left.part.items = search rules in
    rw is (kept c.args.self.now c.skip_blanks.new.self c.args.part.now.items c.loop-left.part.items c.add_token.new.tokens.items c.args.most c.loop-left.left (part_skips c.args.self.now c.args.part.now.items c.args.most c.loop-left.self c.skip_blanks.new.self c.loop-left.part.items c.loop-left.left c.loop-left.invariant.so c.skip_blanks.ensures) same)
