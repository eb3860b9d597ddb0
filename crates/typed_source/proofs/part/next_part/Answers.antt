use Rattle.std.proofs.Common.{◌≡◌, false, Err, rules}
use Rattle.lexer.specs.internal.Parts.{BeginsProcedure}
use Rattle.typed_source.specs.internal.InParts.{ReadsPart, is_end}
use Rattle.typed_source.proofs.PartLemmas.{next_read, next_refused, reads_first, refuses_next}
use Rattle.typed_source.proofs.part.next_part.Goals as goal
use Rattle.typed_source.proofs.part.next_part.Goals.{else-not-is_first-via-then-not-is_first+else-not-begins_procedure, else-not-is_first-via-else-not-is_first}

pub returns-in_err-is_last-clause-fault : goal.returns-in_err-is_last-clause-fault
returns-in_err-is_last-clause-fault c =
    let is : c.from_residual-in_err-is_last.result ≡ Err c.in_err-is_last.field-0.0 = search rules in
    let front = c.add_part.new.part.items in
    let begins : c.args.is_first ≡ false → BeginsProcedure front = elim c.else-not-is_first.branch [
      | else-not-is_first-via-then-not-is_first+else-not-begins_procedure w ↦
          λ e. rw w.as_slice.ensures.value at (w.begins_procedure.ensures (let b = w.if-not-begins_procedure.false in cc))
      | else-not-is_first-via-else-not-is_first w ↦ λ e. absurd (let b = w.if-not-is_first.false in cc)
    ] in
    let part = c.in_ok-stop.ensures.part in
    let reads : ReadsPart (is_end c.in_ok-stop.stop) c.args.lexing.now front c.add_part.new.self =
    reads_first c.args.lexing.now c.add_part.new.self part.0 front c.in_ok-stop.stop _ (rw c.clear.ensures.items at part.1) part.2 in
    rw is (refuses_next c.args.is_first c.args.lexing.now front c.in_err-is_last.field-0.0 begins (c.in_err-is_last.ensures.fault c.args.lexing.now reads))

pub returns-clause-read : goal.returns-clause-read
returns-clause-read c =
    let front = c.add_part.new.part.items in
    let begins : c.args.is_first ≡ false → BeginsProcedure front = elim c.else-not-is_first.branch [
      | else-not-is_first-via-then-not-is_first+else-not-begins_procedure w ↦
          λ e. rw w.as_slice.ensures.value at (w.begins_procedure.ensures (let b = w.if-not-begins_procedure.false in cc))
      | else-not-is_first-via-else-not-is_first w ↦ λ e. absurd (let b = w.if-not-is_first.false in cc)
    ] in
    let part = c.in_ok-stop.ensures.part in
    let reads : ReadsPart (is_end c.in_ok-stop.stop) c.args.lexing.now front c.add_part.new.self =
    reads_first c.args.lexing.now c.add_part.new.self part.0 front c.in_ok-stop.stop _ (rw c.clear.ensures.items at part.1) part.2 in
    next_read c.args.is_first c.in_ok-is_last.is_last c.args.lexing.now c.read_whole.new.lexing front c.read_whole.new.tokens.items begins
    (c.in_ok-is_last.ensures.read c.args.lexing.now reads) c.tree_of.result c.tree_of.ensures.read

pub returns-clause-fault : goal.returns-clause-fault
returns-clause-fault c =
    let front = c.add_part.new.part.items in
    let begins : c.args.is_first ≡ false → BeginsProcedure front = elim c.else-not-is_first.branch [
      | else-not-is_first-via-then-not-is_first+else-not-begins_procedure w ↦
          λ e. rw w.as_slice.ensures.value at (w.begins_procedure.ensures (let b = w.if-not-begins_procedure.false in cc))
      | else-not-is_first-via-else-not-is_first w ↦ λ e. absurd (let b = w.if-not-is_first.false in cc)
    ] in
    let part = c.in_ok-stop.ensures.part in
    let reads : ReadsPart (is_end c.in_ok-stop.stop) c.args.lexing.now front c.add_part.new.self =
    reads_first c.args.lexing.now c.add_part.new.self part.0 front c.in_ok-stop.stop _ (rw c.clear.ensures.items at part.1) part.2 in
    let on = c.in_ok-is_last.ensures.read c.args.lexing.now reads in
    next_refused c.args.is_first c.in_ok-is_last.is_last c.args.lexing.now c.read_whole.new.lexing front c.read_whole.new.tokens.items begins on c.tree_of.result
    (c.tree_of.ensures.fault c.args.lexing.now on.1)
