-- How a session on the texts of files ends.
use Rattle.std.proofs.Common.{◌≡◌, inr, List, ℕ, subst}
use Rattle.debug_session.specs.Transcript.{Debugged}
use Rattle.file_answers.specs.Answering.{Holding, TextsHad}
use Rattle.file_answers.specs.Kept.{Kept}
use Rattle.file_answers.specs.Used.{Outcome, Used, IsUntouched, ReaderBlamed, WriterBlamed}
use Rattle.file_answers.specs.Used.{bytes_before, bytes_behind}
use Rattle.command_line.specs.Serving.{DebugsFiles}

-- a session on the texts
pub debug-session : {I O : Type 0} (holds : Holding) (file stimulus : List ℕ) (kept : Kept) (slice text : List ℕ)
    (reader : Used I) (out : Used O) (done : Outcome) → TextsHad holds file stimulus kept.source kept.values
    → slice ≡ kept.source → text ≡ kept.values
    → Debugged slice text (IsUntouched reader × IsUntouched out) (bytes_before reader) (bytes_behind reader)
    (bytes_before out) (bytes_behind out) done
    → ReaderBlamed reader done → WriterBlamed out done → DebugsFiles holds file stimulus reader out kept done
debug-session holds file stimulus kept slice text reader out done had same alike h read wrote =
    inr (
      had,
      subst (λ (t : List ℕ). Debugged kept.source t (IsUntouched reader × IsUntouched out) (bytes_before reader) (bytes_behind reader)
          (bytes_before out) (bytes_behind out) done) alike
          (subst (λ (t : List ℕ). Debugged t text (IsUntouched reader × IsUntouched out) (bytes_before reader)
          (bytes_behind reader) (bytes_before out) (bytes_behind out) done) same h),
      read,
      wrote,
    )
