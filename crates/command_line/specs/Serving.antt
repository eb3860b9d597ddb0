-- What a run does for a request: what the libraries give for the bytes of the files that it names.
use Rattle.std.specs.Prelude.{◌≡◌, ◌⊎◌, ℕ, List, ◌++◌, [], Ok, Err}
use Rattle.std.specs.Option.{option_copied}
use Rattle.debug_session.specs.Transcript.{Debugged}
use Rattle.debug_session.specs.declared.fault.Fault.{Fault}
use Rattle.std.specs.Prelude.{IfErr}
use Rattle.command_line.specs.Adapter.{IsOfStreams}
use Rattle.file_answers.specs.Answering.{Holding, TextsHad, TextsNotHad, CheckGives, CheckRefuses}
use Rattle.file_answers.specs.Answering.{ReplayGives, ReplayRefuses, WorkGives, WorkRefuses}
use Rattle.file_answers.specs.Answering.{OutlineGives, PageGives, PageRefuses, WaitingGives, WhyGives, WhyRefuses}
use Rattle.file_answers.specs.Drawing.{PictureGives, PictureRefuses}
use Rattle.file_answers.specs.FaultLine.{fault_line}
use Rattle.file_answers.specs.Kept.{Kept}
use Rattle.command_line.specs.Shells.{ShellsFiles}
use Rattle.file_answers.specs.Used.{Answers, Outcome, Used, IsUntouched, ReaderBlamed, WriterBlamed}
use Rattle.file_answers.specs.Used.{bytes_before, bytes_behind}
use Rattle.command_words.specs.declared.request.Request.{Request}

-- the status of a run that ended so
abbrev pub status_of : Outcome → ℕ
status_of (Ok done) = 0
status_of (Err fault) = 1

-- what a run that ended so tells on standard error
abbrev pub told_text : Outcome → List ℕ
told_text (Ok done) = []
told_text (Err fault) = fault_line fault

-- the same with these words behind the line of a refusal
abbrev pub told_with : Outcome → List ℕ → List ℕ
told_with (Ok done) words = []
told_with (Err fault) words = fault_line fault ++ words

-- `debug` on the files of these names, of which the stimulus is read behind the source
abbrev pub DebugsFiles : {I O : Type 0} → Holding → List ℕ → List ℕ → Used I → Used O → Kept → Outcome → Type 0
DebugsFiles holds file stimulus reader out kept done =
    ((fault : Fault) × TextsNotHad holds file stimulus fault × (done ≡ Err fault)
    × IsUntouched reader × IsUntouched out)
    ⊎ (TextsHad holds file stimulus kept.source kept.values
    × Debugged kept.source kept.values (IsUntouched reader × IsUntouched out)
    (bytes_before reader) (bytes_behind reader) (bytes_before out) (bytes_behind out) done
    × ReaderBlamed reader done × WriterBlamed out done)

-- what the run does for the request, and what it keeps for the words behind a refusal
abbrev pub Serves : {I O : Type 0} → Holding → Request → Used I → Used O → Kept → Outcome → Type 0
Serves holds (Request.Check file explain) reader out kept done =
    IsUntouched reader × Answers (CheckGives holds file.now) (CheckRefuses holds file.now kept) out done
Serves holds (Request.Debug file stimulus explain) reader out kept done =
    DebugsFiles holds file.now stimulus.now reader out kept done
Serves holds (Request.Shell file stimulus trace) reader out kept done =
    ShellsFiles holds file.now stimulus.now (option_copied trace) reader out done
Serves holds (Request.Replay file stimulus trace explain) reader out kept done =
    IsUntouched reader
    × Answers (ReplayGives holds file.now stimulus.now trace.now)
    (ReplayRefuses holds file.now stimulus.now trace.now kept) out done
Serves holds (Request.Work file stimulus crew explain) reader out kept done =
    IsUntouched reader
    × Answers (WorkGives holds file.now stimulus.now crew.workers crew.turns)
    (WorkRefuses holds file.now stimulus.now kept) out done
Serves holds (Request.Explain page) reader out kept done =
    IsUntouched reader × Answers (PageGives page.now) PageRefuses out done
Serves holds Request.Dap reader out kept done = IsUntouched reader × IfErr done IsOfStreams
Serves holds (Request.Outline file) reader out kept done =
    IsUntouched reader × Answers (OutlineGives holds file.now) (CheckRefuses holds file.now kept) out done
Serves holds (Request.Waiting file stimulus trace) reader out kept done =
    IsUntouched reader
    × Answers (WaitingGives holds file.now stimulus.now trace.now)
    (ReplayRefuses holds file.now stimulus.now trace.now kept) out done
Serves holds (Request.Why file stimulus trace subject all) reader out kept done =
    IsUntouched reader
    × Answers (WhyGives holds file.now stimulus.now trace.now subject.now all)
    (WhyRefuses holds file.now stimulus.now trace.now subject.now all kept) out done
Serves holds (Request.Picture file stimulus trace drawing) reader out kept done =
    IsUntouched reader
    × Answers (PictureGives holds file.now stimulus.now trace.now drawing)
    (PictureRefuses holds file.now stimulus.now trace.now drawing kept) out done
