use Rattle.std.proofs.Common.{◌≡◌, Err, Bool, sym, subst, rules}
use Rattle.typed_source.specs.internal.InParts.{ReadsOn, is_end}
use Rattle.typed_source.proofs.PartLemmas.{not_end, reads_on}
use Rattle.typed_source.proofs.part.read_on.Goals as goal

pub returns-in_err-refuse-clause-fault : goal.returns-in_err-refuse-clause-fault
returns-in_err-refuse-clause-fault c =
    let is : c.from_residual.result ≡ Err c.in_err-refuse.field-0.0 = search rules in
    λ old reads. rw is (rw c.as_slice.ensures.value at (c.in_err-refuse.ensures old (rw c.as_slice.ensures.value reads)))

pub returns-in-EndOfSource : goal.returns-in-EndOfSource
returns-in-EndOfSource c =
    let part = c.in_ok-stop.ensures.part in
    let before = c.args.tokens.now.items in
    let after = c.add_part.new.part.items in
    record {
      read = λ old reads.
          subst (λ stop. ReadsOn (is_end stop) old before after c.add_part.new.self) c.in-EndOfSource.is
          (reads_on old c.args.lexing.now c.add_part.new.self before part.0 after c.in_ok-stop.stop _ reads part.1 part.2);
      fault = λ old reads. tt;
    }

pub returns-in_default : goal.returns-in_default
returns-in_default c =
    let part = c.in_ok-stop.ensures.part in
    let before = c.args.tokens.now.items in
    let after = c.add_part.new.part.items in
    record {
      read = λ old reads.
          subst (λ (last : Bool). ReadsOn last old before after c.add_part.new.self) (sym (not_end c.in_ok-stop.stop c.in_default.not-EndOfSource))
          (reads_on old c.args.lexing.now c.add_part.new.self before part.0 after c.in_ok-stop.stop _ reads part.1 part.2);
      fault = λ old reads. tt;
    }
