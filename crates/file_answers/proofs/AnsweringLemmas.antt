-- How what the libraries give becomes the answer to a request, or the reason why there is none.
use Rattle.std.proofs.Common.{◌≡◌, inl, inr, ℕ, Bool, List, [], Option, Some, Result, Ok, Err, refl, subst, sym}
use Rattle.std.specs.Prelude.{IfOk, IfErr, MatchResult}
use Rattle.system.specs.declared.system.System.{System}
use Rattle.runs.specs.declared.command.Refusal.TheVariants.{NoSuchEvent}
use Rattle.trace_file.specs.Loading as trace_text
use Rattle.trace_file.specs.declared.fault.Fault.{Fault as TraceFault}
use Rattle.trace_file.specs.declared.fault.Fault.TheVariants as not_loaded
use Rattle.questions.specs.Asking.{IsAnswered}
use Rattle.questions.specs.WhyText.{IsWhyText}
use Rattle.questions.specs.declared.why.Why.{Why}
use Rattle.picture.specs.Pictures.{IsMissingBehind, IsPictureBehind, IsTextBehind}
use Rattle.picture.specs.declared.Drawing.{Drawing as Form}
use Rattle.picture.specs.declared.Pictured.{Pictured}
use Rattle.command_words.specs.declared.form.Drawing.{Drawing}
use Rattle.debug_session.specs.Replaying.{RefusesTrace}
use Rattle.debug_session.specs.Wrapping.{of_trace}
use Rattle.debug_session.specs.Accepting.{AcceptedAs, IsRefused}
use Rattle.debug_session.specs.declared.fault.Fault.{Fault}
use Rattle.debug_session.specs.declared.fault.Fault.TheVariants.{Refused}
use Rattle.file_answers.specs.Answering.{Holding, TextsHad, FilesDescribe, FilesRefuse, CheckRefuses, ReplayRefuses}
use Rattle.file_answers.specs.Answering.{WhyGives, WhyRefuses}
use Rattle.file_answers.specs.Drawing.{PictureGives, PictureRefuses, files_of, form_of}
use Rattle.file_answers.specs.Kept.{Kept}
use Rattle.file_answers.specs.Used.{Answers, Outcome, Used}
use Rattle.file_answers.specs.internal.Answers.{RunHad, RunNotHad, SourceGives, TellsPicture, TellsWhy}

-- both texts were had, and make a system or are refused
pub texts-accepted : (holds : Holding) (file stimulus : List ℕ) (kept : Kept) (slice text : List ℕ) (r : Result System Fault)
    → TextsHad holds file stimulus kept.source kept.values → slice ≡ kept.source → text ≡ kept.values
    → IfOk r (λ system. AcceptedAs slice text system) → IfErr r (λ fault. IsRefused slice text fault)
    → MatchResult r (FilesDescribe holds file stimulus kept.source) (FilesRefuse holds file stimulus kept)
texts-accepted holds file stimulus kept slice text (Ok system) had same alike accepted fault = (
  kept.values,
  had,
  subst (λ (t : List ℕ). AcceptedAs kept.source t system) alike
      (subst (λ (t : List ℕ). AcceptedAs t text system) same accepted),
)
texts-accepted holds file stimulus kept slice text (Err given) had same alike accepted fault =
    inr (
      had,
      subst (λ (t : List ℕ). IsRefused kept.source t given) alike
          (subst (λ (t : List ℕ). IsRefused t text given) same fault),
    )

-- the text of a description was had, and makes a system or is refused
pub source-accepted : (holds : Holding) (file : List ℕ) (kept : Kept) (slice : List ℕ) (r : Result System Fault)
    → holds file (Some kept.source) → slice ≡ kept.source
    → IfOk r (λ system. AcceptedAs slice [] system) → IfErr r (λ fault. IsRefused slice [] fault)
    → MatchResult r (SourceGives holds file kept.source) (CheckRefuses holds file kept)
source-accepted holds file kept slice (Ok system) had same accepted fault =
    (had, subst (λ (t : List ℕ). AcceptedAs t [] system) same accepted)
source-accepted holds file kept slice (Err given) had same accepted fault =
    inr (had, subst (λ (t : List ℕ). IsRefused t [] given) same fault)

-- where there is no run there is no answer
pub run-not-had : (holds : Holding) (file stimulus trace : List ℕ) (kept : Kept) (fault : Fault)
    → RunNotHad holds file stimulus trace kept fault → ReplayRefuses holds file stimulus trace kept fault
run-not-had holds file stimulus trace kept fault (inl none) = inl none
run-not-had holds file stimulus trace kept fault (inr (system, files, none)) = inr (system, files, inl none)

-- nor where the trace is refused
pub run-refused : (holds : Holding) (file stimulus trace : List ℕ) (kept : Kept) (system : System) (slice : List ℕ)
    (fault : Fault) → RunHad holds file stimulus trace kept.source system kept.trace → slice ≡ kept.trace
    → RefusesTrace system slice fault → ReplayRefuses holds file stimulus trace kept fault
run-refused holds file stimulus trace kept system slice fault had same none =
    inr (system, (kept.source, had.0), inr (had.1, subst (λ (t : List ℕ). RefusesTrace system t fault) same none))

-- a trace that is refused is so for the fault that its fault becomes
pub trace-refused : (system : System) (text : List ℕ) (fault : TraceFault) → trace_text.IsRefused system text fault
    → RefusesTrace system text (of_trace fault)
trace-refused system text not_loaded.Memory h = tt
trace-refused system text other h = ((λ e. cc), h)

-- the answer to the question why, or the reason why there is none
pub why-answered : {O : Type 0} (holds : Holding) (file stimulus trace subject : List ℕ) (all : Bool) (kept : Kept)
    (system : System) (slice : List ℕ) (why : Why) (out : Used O) (done : Outcome)
    → RunHad holds file stimulus trace kept.source system kept.trace → slice ≡ kept.trace
    → IsAnswered system slice subject why → IsWhyText system slice subject all why → TellsWhy why out kept.said done
    → Answers (WhyGives holds file stimulus trace subject all) (WhyRefuses holds file stimulus trace subject all kept) out done
why-answered holds file stimulus trace subject all kept system slice (Why.Told lines) out done had same answered is told =
    let of = subst (λ (t : List ℕ). IsWhyText system t subject all (Why.Told lines)) same is in
    inr (lines.items, (system, kept.trace, lines, (kept.source, had.0), had.1, of, refl), told)
why-answered holds file stimulus trace subject all kept system slice (Why.Refused reason words) out done had same answered is told =
    let of = subst (λ (t : List ℕ). IsAnswered system t subject (Why.Refused reason words)) same answered in
    let says = subst (λ (t : List ℕ). IsWhyText system t subject all (Why.Refused reason words)) same is in
    inl (
      Refused reason,
      inr (system, kept.trace, of.0, reason, (kept.source, had.0), had.1, of.1, of.2, (words, says, told.2), refl),
      told.0,
      told.1,
    )

-- a picture, or the reason why there is none
pub picture-answered : {O : Type 0} (holds : Holding) (file stimulus trace : List ℕ) (drawing : Drawing) (form : Form)
    (kept : Kept) (bytes : List ℕ) (system : System) (slice : List ℕ) (pictured : Pictured) (out : Used O) (done : Outcome)
    → RunHad holds file stimulus trace kept.source system kept.trace → bytes ≡ kept.source → slice ≡ kept.trace
    → form ≡ form_of drawing
    → IsPictureBehind system slice (files_of bytes file stimulus trace) form pictured
    → TellsPicture pictured out kept.said done
    → Answers (PictureGives holds file stimulus trace drawing) (PictureRefuses holds file stimulus trace drawing kept) out done
picture-answered holds file stimulus trace drawing form kept bytes system slice (Pictured.Text lines) out done had alike same is drawn told =
    let on = subst (λ (t : List ℕ). IsTextBehind system t (files_of bytes file stimulus trace) form lines.items) same drawn in
    let of = subst (λ (s : List ℕ). IsTextBehind system kept.trace (files_of s file stimulus trace) form lines.items) alike on in
    let asked = subst (λ (f : Form). IsTextBehind system kept.trace (files_of kept.source file stimulus trace) f lines.items) is of in
    inr (lines.items, (system, kept.source, kept.trace, had.0, had.1, asked), told)
picture-answered holds file stimulus trace drawing form kept bytes system slice (Pictured.NoSuchStep words) out done had alike same is drawn told =
    let on = subst (λ (t : List ℕ). IsMissingBehind system t form words.items) same drawn in
    let asked = subst (λ (f : Form). IsMissingBehind system kept.trace f words.items) is on in
    let says = subst (λ (w : List ℕ). IsMissingBehind system kept.trace (form_of drawing) w) (sym told.2) asked in
    inl (Refused NoSuchEvent, inr (system, kept.trace, (kept.source, had.0), had.1, says, refl), told.0, told.1)
