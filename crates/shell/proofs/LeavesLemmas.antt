-- What lines leave, part by part.
use Rattle.std.proofs.Common.{◌≡◌, ◌≢◌, ◌⊎◌, inl, inr, ℕ, List, [], ◌∷◌, Bool, true, false, Option, Some, None, length, refl, sym, ap, ◌∙◌, subst}
use Rattle.std.proofs.lemmas.Bool.{false≢true}
use Rattle.std.specs.Option.{IfSome}
use Rattle.decimal.specs.Reading.{IsNoNumber, Reads}
use Rattle.decimal.proofs.public.DigitLemmas.{no-number-empty}
use Rattle.system.specs.declared.system.System.{System}
use Rattle.locked_execution.specs.declared.command.Command.{Command}
use Rattle.line_text.specs.Fields.{CutAtSpace}
use Rattle.machine.specs.AtMachine.{AtMachine}
use Rattle.debug_session.specs.Lines.{Says, AsksNothing, MayBeStep}
use Rattle.debug_session.specs.OneThing.{SaysOneThing}
use Rattle.debug_session.specs.declared.line.Line.{Line}
use Rattle.debug_session.specs.declared.fault.Fault.{Fault}
use Rattle.runs.specs.Live.{events}
use Rattle.trace_file.specs.TraceText.{IsTrace}
use Rattle.shell_desk.specs.AtBench.{AtBench}
use Rattle.shell_desk.specs.Does.{AsksIfAny, Does, NamesSession, TurnsTo, numbered_as}
use Rattle.shell_desk.specs.Tidied.{tidied}
use Rattle.shell_desk.specs.Words.{spelling, AsksDeed, AsksNoDeed, SpellsNothing}
use Rattle.shell_desk.specs.declared.deed.Deed.{Deed}
use Rattle.shell_desk.specs.declared.deed.Done.{Done}
use Rattle.shell_desk.specs.declared.word.Word.{Word}
use Rattle.shell_desk.specs.declared.word.Word.TheVariants.{R, N, Run, Next, Undo, Back, Why, Waiting, Outline, Vars, List as ListWord, Show, Save, SaveOver, Load, Script, ScriptOver, Help, Quit}
use Rattle.shell.specs.Asking.{IsToldAlone, IsWordWith, LineAsks, ShellAsks, TextAsks, deed_of}
use Rattle.shell.specs.Beginning.{BeginsAt}
use Rattle.shell_files.specs.Files.{Files}
use Rattle.shell.specs.Lines.{AnsweredAsNumber, AnsweredAsScript, AnsweredAsStep, AnsweredAsTidied, AnsweredAsTyped, IsNewOrOver, Leaves, LineLeaves, SaidAsScript, line_count}
use Rattle.shell.specs.internal.Parts.{AsksNoDeedAtAll, Begun, IsNewUnless, LoadsTrace, Quits, RestsWith, SavesTrace, TakesNumber, WordMeans, WordsAsk, WritesFile, is_want}
use Rattle.shell.specs.declared.answer.Outcome.{Outcome}
use Rattle.shell.proofs.OwnLemmas.{if-some, if-some-by}

-- what asks or is worded in one way does so in another
pub leaves-by : (A A' : Deed → Type 0) (B B' : Word → List ℕ → Type 0) (files : Files) (source stimulus : List ℕ) (b b' : AtBench)
    (outcome : Outcome) → ((deed : Deed) → A deed → A' deed) → ((w : Word) (rest : List ℕ) → B w rest → B' w rest)
    → Leaves A B files source stimulus b outcome b' → Leaves A' B' files source stimulus b outcome b'
leaves-by A A' B B' files source stimulus b b' Outcome.Done f g h = (h.0, h.1, f h.0 h.2, h.3)
leaves-by A A' B B' files source stimulus b b' Outcome.Unread f g h = h
leaves-by A A' B B' files source stimulus b b' Outcome.Saved f g (e, (rest, inl (is, new), saved)) =
    (e, (rest, inl (g Save rest is, new), saved))
leaves-by A A' B B' files source stimulus b b' Outcome.Saved f g (e, (rest, inr is, saved)) =
    (e, (rest, inr (g SaveOver rest is), saved))
leaves-by A A' B B' files source stimulus b b' Outcome.Scripted f g (e, (rest, inl (is, new), written)) =
    (e, (rest, inl (g Script rest is, new), written))
leaves-by A A' B B' files source stimulus b b' Outcome.Scripted f g (e, (rest, inr is, written)) =
    (e, (rest, inr (g ScriptOver rest is), written))
leaves-by A A' B B' files source stimulus b b' Outcome.NotSaved f g (e, (rest, inl is)) = (e, (rest, inl (g Save rest is)))
leaves-by A A' B B' files source stimulus b b' Outcome.NotSaved f g (e, (rest, inr is)) =
    (e, (rest, inr (g SaveOver rest is)))
leaves-by A A' B B' files source stimulus b b' Outcome.NotScripted f g (e, (rest, inl is)) =
    (e, (rest, inl (g Script rest is)))
leaves-by A A' B B' files source stimulus b b' Outcome.NotScripted f g (e, (rest, inr is)) =
    (e, (rest, inr (g ScriptOver rest is)))
leaves-by A A' B B' files source stimulus b b' Outcome.Loaded f g (name, text, is, held, of) =
    (name, text, g Load (32 ∷ name) is, held, of)
leaves-by A A' B B' files source stimulus b b' Outcome.NotLoaded f g (e, (rest, is)) = (e, (rest, g Load rest is))
leaves-by A A' B B' files source stimulus b b' Outcome.Over f g (e, is) = (e, g Quit [] is)

-- the deed that was asked is done
pub done-leaves : (A : Deed → Type 0) (B : Word → List ℕ → Type 0) (files : Files) (source stimulus : List ℕ) (b b' : AtBench)
    (outcome : Outcome) (deed : Deed) → outcome ≡ Outcome.Done → A deed → ((done : Done) × Does b deed done b')
    → Leaves A B files source stimulus b outcome b'
done-leaves A B files source stimulus b b' outcome deed e asks h =
    subst (λ (o : Outcome). Leaves A B files source stimulus b o b') (sym e) (deed, h.0, asks, h.1)

-- nothing was asked
pub rest-leaves : (A : Deed → Type 0) (B : Word → List ℕ → Type 0) (files : Files) (source stimulus : List ℕ) (b : AtBench)
    (outcome : Outcome) → outcome ≡ Outcome.Done → A Deed.Rest → Leaves A B files source stimulus b outcome b
rest-leaves A B files source stimulus b outcome e asks =
    subst (λ (o : Outcome). Leaves A B files source stimulus b o b) (sym e) (Deed.Rest, Done.Rested, asks, (refl, refl))

-- there was no memory to read it
pub unread-leaves : (A : Deed → Type 0) (B : Word → List ℕ → Type 0) (files : Files) (source stimulus : List ℕ) (b : AtBench)
    (outcome : Outcome) → outcome ≡ Outcome.Unread → Leaves A B files source stimulus b outcome b
unread-leaves A B files source stimulus b outcome e =
    subst (λ (o : Outcome). Leaves A B files source stimulus b o b) (sym e) refl

-- the trace was saved, or was not
pub saves-leave : (A : Deed → Type 0) (B : Word → List ℕ → Type 0) (files : Files) (source stimulus : List ℕ) (b : AtBench)
    (rest : List ℕ) (over : Bool) (outcome : Outcome) → B Save rest ⊎ B SaveOver rest
    → (IsNewUnless files over rest → IsNewOrOver files (B Save rest) (B SaveOver rest) rest)
    → SavesTrace files b rest over outcome → Leaves A B files source stimulus b outcome b
saves-leave A B files source stimulus b rest over outcome word is (inl e) =
    subst (λ (o : Outcome). Leaves A B files source stimulus b o b) (sym e) (refl, (rest, word))
saves-leave A B files source stimulus b rest over outcome word is (inr (e, saved, new)) =
    subst (λ (o : Outcome). Leaves A B files source stimulus b o b) (sym e) (refl, (rest, is new, saved))

-- the lines so far were written, or were not
pub scripts-leave : (A : Deed → Type 0) (B : Word → List ℕ → Type 0) (files : Files) (source stimulus : List ℕ) (b : AtBench)
    (bytes rest : List ℕ) (over : Bool) (outcome : Outcome) → B Script rest ⊎ B ScriptOver rest
    → (IsNewUnless files over rest → IsNewOrOver files (B Script rest) (B ScriptOver rest) rest)
    → WritesFile files bytes rest over Outcome.Scripted Outcome.NotScripted outcome
    → Leaves A B files source stimulus b outcome b
scripts-leave A B files source stimulus b bytes rest over outcome word is (inl e) =
    subst (λ (o : Outcome). Leaves A B files source stimulus b o b) (sym e) (refl, (rest, word))
scripts-leave A B files source stimulus b bytes rest over outcome word is (inr (e, (name, named, held), new)) =
    subst (λ (o : Outcome). Leaves A B files source stimulus b o b) (sym e)
    (refl, (rest, is new, (name, bytes, named, held)))

-- a file was written, or was not
abbrev pub WroteFile : Files → List ℕ → List ℕ → Bool → Outcome → Outcome → Outcome → Type 0
WroteFile files name bytes over done not_done outcome =
    (outcome ≡ not_done)
    ⊎ ((outcome ≡ done) × files.holds name bytes × (over ≡ false → files.free name))

-- the trace of the machine at the bench was written to the file of this name, or was not
pub saves-trace : (files : Files) (b : AtBench) (m : AtMachine) (rest name text bytes : List ℕ) (over : Bool) (outcome : Outcome)
    → m ≡ b.desk.machine → rest ≡ 32 ∷ name → IsTrace (events m.live) text → bytes ≡ text
    → WroteFile files name bytes over Outcome.Saved Outcome.NotSaved outcome → SavesTrace files b rest over outcome
saves-trace files b m rest name text bytes over outcome same named is alike (inl e) = inl e
saves-trace files b m rest name text bytes over outcome same named is alike (inr (e, held, new)) =
    inr (
      e,
      (
        name,
        bytes,
        named,
        subst (λ (t : List ℕ). IsTrace (events b.desk.machine.live) t) (sym alike)
            (subst (λ (x : AtMachine). IsTrace (events x.live) text) same is),
        held,
      ),
      λ f. (name, named, new f),
    )

-- the lines so far were written to the file of this name, or were not
pub writes-file : (files : Files) (rest name bytes lines : List ℕ) (over : Bool) (done not_done outcome : Outcome)
    → rest ≡ 32 ∷ name → bytes ≡ lines → WroteFile files name bytes over done not_done outcome
    → WritesFile files lines rest over done not_done outcome
writes-file files rest name bytes lines over done not_done outcome named alike (inl e) = inl e
writes-file files rest name bytes lines over done not_done outcome named alike (inr (e, held, new)) =
    inr (
      e,
      (name, named, subst (λ (t : List ℕ). files.holds name t) alike held),
      λ f. (name, named, new f),
    )

-- none was loaded
pub not-loaded-leaves : (A : Deed → Type 0) (B : Word → List ℕ → Type 0) (files : Files) (source stimulus : List ℕ) (b : AtBench)
    (rest : List ℕ) (outcome : Outcome) → outcome ≡ Outcome.NotLoaded → B Load rest → Leaves A B files source stimulus b outcome b
not-loaded-leaves A B files source stimulus b rest outcome e is =
    subst (λ (o : Outcome). Leaves A B files source stimulus b o b) (sym e) (refl, (rest, is))

-- what the file of this name had was loaded, or was not
pub loads-leave : (A : Deed → Type 0) (B : Word → List ℕ → Type 0) (files : Files) (source stimulus : List ℕ) (b b' : AtBench)
    (name text : List ℕ) (outcome : Outcome) → B Load (32 ∷ name) → files.holds name text
    → LoadsTrace source stimulus text b outcome b' → Leaves A B files source stimulus b outcome b'
loads-leave A B files source stimulus b b' name text Outcome.Done is held h = absurd h
loads-leave A B files source stimulus b b' name text Outcome.Unread is held h = absurd h
loads-leave A B files source stimulus b b' name text Outcome.Saved is held h = absurd h
loads-leave A B files source stimulus b b' name text Outcome.NotSaved is held h = absurd h
loads-leave A B files source stimulus b b' name text Outcome.Scripted is held h = absurd h
loads-leave A B files source stimulus b b' name text Outcome.NotScripted is held h = absurd h
loads-leave A B files source stimulus b b' name text Outcome.Loaded is held h = (name, text, is, held, h)
loads-leave A B files source stimulus b b' name text Outcome.NotLoaded is held h = (h, ((32 ∷ name), is))
loads-leave A B files source stimulus b b' name text Outcome.Over is held h = absurd h

-- a machine stands in place
pub loaded-trace : (source stimulus text : List ℕ) (b b' : AtBench) (m : AtMachine) (outcome : Outcome) → outcome ≡ Outcome.Loaded
    → BeginsAt source stimulus (Some text) m → TurnsTo b (line_count source) m b' → LoadsTrace source stimulus text b outcome b'
loaded-trace source stimulus text b b' m outcome e of turns =
    subst (λ (o : Outcome). LoadsTrace source stimulus text b o b') (sym e) (m, of, turns)

-- none does
pub not-loaded-trace : (source stimulus text : List ℕ) (b : AtBench) (outcome : Outcome) → outcome ≡ Outcome.NotLoaded
    → LoadsTrace source stimulus text b outcome b
not-loaded-trace source stimulus text b outcome e =
    subst (λ (o : Outcome). LoadsTrace source stimulus text b o b) (sym e) refl

-- it was the last line, or a word that does not fit
pub quit-leaves : (A : Deed → Type 0) (B : Word → List ℕ → Type 0) (files : Files) (source stimulus : List ℕ) (b : AtBench)
    (rest : List ℕ) (outcome : Outcome) → Quits rest outcome → (rest ≢ [] → A Deed.Rest) → B Quit rest
    → Leaves A B files source stimulus b outcome b
quit-leaves A B files source stimulus b rest outcome (inl h) asks is =
    subst (λ (o : Outcome). Leaves A B files source stimulus b o b) (sym h.1) (refl, subst (λ (t : List ℕ). B Quit t) h.0 is)
quit-leaves A B files source stimulus b rest outcome (inr h) asks is =
    rest-leaves A B files source stimulus b outcome h.1 (asks h.0)

-- each other word is answered in words alone
pub told-alone : (word : Word) (rest : List ℕ) → word ≢ Save → word ≢ SaveOver → word ≢ Load → word ≢ Script
    → word ≢ ScriptOver → word ≢ Quit → IsToldAlone word rest
told-alone R rest save save_over load script script_over quit = tt
told-alone N rest save save_over load script script_over quit = tt
told-alone Run rest save save_over load script script_over quit = tt
told-alone Next rest save save_over load script script_over quit = tt
told-alone Undo rest save save_over load script script_over quit = tt
told-alone Back rest save save_over load script script_over quit = tt
told-alone Why rest save save_over load script script_over quit = tt
told-alone Waiting rest save save_over load script script_over quit = tt
told-alone Outline rest save save_over load script script_over quit = tt
told-alone Vars rest save save_over load script script_over quit = tt
told-alone ListWord rest save save_over load script script_over quit = tt
told-alone Show rest save save_over load script script_over quit = tt
told-alone Save rest save save_over load script script_over quit = absurd (save refl)
told-alone SaveOver rest save save_over load script script_over quit = absurd (save_over refl)
told-alone Load rest save save_over load script script_over quit = absurd (load refl)
told-alone Script rest save save_over load script script_over quit = absurd (script refl)
told-alone ScriptOver rest save save_over load script script_over quit = absurd (script_over refl)
told-alone Help rest save save_over load script script_over quit = tt
told-alone Quit rest save save_over load script script_over quit = absurd (quit refl)

-- a word by which a trace is loaded, or is not
pub other-load : (files : Files) (source stimulus : List ℕ) (b b' : AtBench) (word : Word) (rest : List ℕ) (outcome : Outcome)
    → word ≡ Load → Leaves AsksNoDeedAtAll (Begun Load rest) files source stimulus b outcome b'
    → Leaves (RestsWith word rest) (Begun word rest) files source stimulus b outcome b'
other-load files source stimulus b b' word rest outcome e h =
    leaves-by AsksNoDeedAtAll (RestsWith word rest) (Begun Load rest) (Begun word rest) files source stimulus b b' outcome
    (λ deed none. absurd none) (λ w r begun. (begun.0 ∙ sym e, begun.1)) h

-- the word by which a session ends, or is told how it is written
pub other-quit : (files : Files) (source stimulus : List ℕ) (b : AtBench) (word : Word) (rest : List ℕ) (outcome : Outcome)
    → word ≡ Quit → Quits rest outcome → Leaves (RestsWith word rest) (Begun word rest) files source stimulus b outcome b
other-quit files source stimulus b word rest outcome e quits =
    quit-leaves (RestsWith word rest) (Begun word rest) files source stimulus b rest outcome quits
    (λ filled. (subst (λ (w : Word). IsToldAlone w rest) (sym e) filled, refl)) (sym e, refl)

-- the words by which the trace is saved
pub other-save : (files : Files) (source stimulus : List ℕ) (b : AtBench) (word : Word) (rest : List ℕ) (outcome : Outcome)
    → word ≡ Save → SavesTrace files b rest false outcome
    → Leaves (RestsWith word rest) (Begun word rest) files source stimulus b outcome b
other-save files source stimulus b word rest outcome e h =
    saves-leave (RestsWith word rest) (Begun word rest) files source stimulus b rest false outcome
    (inl (sym e, refl)) (λ new. inl ((sym e, refl), new refl)) h

pub other-save-over : (files : Files) (source stimulus : List ℕ) (b : AtBench) (word : Word) (rest : List ℕ) (outcome : Outcome)
    → word ≡ SaveOver → SavesTrace files b rest true outcome
    → Leaves (RestsWith word rest) (Begun word rest) files source stimulus b outcome b
other-save-over files source stimulus b word rest outcome e h =
    saves-leave (RestsWith word rest) (Begun word rest) files source stimulus b rest true outcome
    (inr (sym e, refl)) (λ new. inr (sym e, refl)) h

-- the words by which the lines so far are
pub other-script : (files : Files) (source stimulus : List ℕ) (b : AtBench) (word : Word) (bytes rest : List ℕ) (outcome : Outcome)
    → word ≡ Script → WritesFile files bytes rest false Outcome.Scripted Outcome.NotScripted outcome
    → Leaves (RestsWith word rest) (Begun word rest) files source stimulus b outcome b
other-script files source stimulus b word bytes rest outcome e h =
    scripts-leave (RestsWith word rest) (Begun word rest) files source stimulus b bytes rest false outcome
    (inl (sym e, refl)) (λ new. inl ((sym e, refl), new refl)) h

pub other-script-over : (files : Files) (source stimulus : List ℕ) (b : AtBench) (word : Word) (bytes rest : List ℕ) (outcome : Outcome)
    → word ≡ ScriptOver → WritesFile files bytes rest true Outcome.Scripted Outcome.NotScripted outcome
    → Leaves (RestsWith word rest) (Begun word rest) files source stimulus b outcome b
other-script-over files source stimulus b word bytes rest outcome e h =
    scripts-leave (RestsWith word rest) (Begun word rest) files source stimulus b bytes rest true outcome
    (inr (sym e, refl)) (λ new. inr (sym e, refl)) h

-- a word that is answered in words alone
pub other-told : (files : Files) (source stimulus : List ℕ) (b : AtBench) (word : Word) (rest : List ℕ) (outcome : Outcome)
    → IsToldAlone word rest → outcome ≡ Outcome.Done
    → Leaves (RestsWith word rest) (Begun word rest) files source stimulus b outcome b
other-told files source stimulus b word rest outcome goes e =
    rest-leaves (RestsWith word rest) (Begun word rest) files source stimulus b outcome e (goes, refl)

-- a word that asks nothing of the desk
pub word-other : (files : Files) (source stimulus : List ℕ) (b b' : AtBench) (word : Word) (rest : List ℕ) (outcome : Outcome)
    → AsksNoDeed word rest → Leaves (RestsWith word rest) (Begun word rest) files source stimulus b outcome b'
    → Leaves (WordMeans word rest) (Begun word rest) files source stimulus b outcome b'
word-other files source stimulus b b' word rest outcome none h =
    leaves-by (RestsWith word rest) (WordMeans word rest) (Begun word rest) (Begun word rest) files source stimulus b b' outcome
    (λ deed rests. inr (none, rests)) (λ w r begun. begun) h

-- what words ask names no session
pub names-none : (word : Word) (rest : List ℕ) (deed : Deed) → AsksDeed word rest deed → NamesSession deed
names-none R rest deed h = subst NamesSession (sym h.1) tt
names-none N rest deed (inl h) = subst NamesSession (sym h.1) tt
names-none N rest deed (inr h) = subst NamesSession (sym h.2) tt
names-none Next rest deed (inl h) = subst NamesSession (sym h.1) tt
names-none Next rest deed (inr h) = subst NamesSession (sym h.2) tt
names-none Run rest deed (inl h) = subst NamesSession (sym h.1) tt
names-none Run rest deed (inr h) = subst NamesSession (sym h.2) tt
names-none Undo rest deed h = subst NamesSession (sym h.1) tt
names-none Back rest deed (inl h) = subst NamesSession (sym h.1) tt
names-none Back rest deed (inr h) = subst NamesSession (sym h.2) tt
names-none Why rest deed h = absurd h
names-none Waiting rest deed h = absurd h
names-none Outline rest deed h = absurd h
names-none Vars rest deed h = absurd h
names-none ListWord rest deed h = absurd h
names-none Show rest deed h = absurd h
names-none Save rest deed h = absurd h
names-none SaveOver rest deed h = absurd h
names-none Load rest deed h = absurd h
names-none Script rest deed h = absurd h
names-none ScriptOver rest deed h = absurd h
names-none Help rest deed h = absurd h
names-none Quit rest deed h = absurd h

-- what a word means, part by part
flat-means : (word : Word) (rest : List ℕ) (deed : Deed) → WordMeans word rest deed
    → AsksDeed word rest deed ⊎ (AsksNoDeed word rest × IsToldAlone word rest × (deed ≡ Deed.Rest))
flat-means word rest deed (inl h) = inl h
flat-means word rest deed (inr (none, rests)) = inr (none, rests.0, rests.1)

-- what a word means a text asks that it begins
pub word-asks : (text spelled rest : List ℕ) (word : Word) → CutAtSpace text spelled rest → spelling word ≡ spelled
    → (deed : Deed) → WordMeans word rest deed → WordsAsk text deed
word-asks text spelled rest word cut e deed h = (spelled, rest, cut, inl (word, e, flat-means word rest deed h))

-- a text that begins with a word is it with the rest behind it
pub word-begins : (text spelled rest : List ℕ) (word : Word) → CutAtSpace text spelled rest → spelling word ≡ spelled
    → (w : Word) (r : List ℕ) → Begun word rest w r → IsWordWith text w r
word-begins text spelled rest word cut e w r (same, alike) =
    subst (λ (v : Word). IsWordWith text v r) (sym same)
    (subst (λ (t : List ℕ). IsWordWith text word t) (sym alike) (subst (λ (t : List ℕ). CutAtSpace text t rest) (sym e) cut))

-- a text whose first word is none asks nothing
pub no-word-asks : (text spelled rest : List ℕ) → CutAtSpace text spelled rest → SpellsNothing spelled → WordsAsk text Deed.Rest
no-word-asks text spelled rest cut none = (spelled, rest, cut, inr (none, refl))

-- what is answered to a line of a script is answered to what it says
pub own-line : (source : List ℕ) (b b' : AtBench) (line own : List ℕ) (said : Line) → SaysOneThing
    → Says b.desk.machine.checked line said → SaidAsScript source b said own b' → AnsweredAsScript source b line own b'
own-line source b b' line own said one says h other also =
    subst (λ (l : Line). SaidAsScript source b l own b') (one b.desk.machine.checked line said other says also) h

-- a fault that is no want of memory
pub not-want : (fault : Fault) (r : Bool) → r ≡ is_want fault → r ≡ false → fault ≡ Fault.Memory → ⊥
not-want fault r e f m =
    let same : true ≡ false = ap is_want (sym m) ∙ (sym e ∙ f) in false≢true (sym same)

-- why a text was not read as a line of a script
abbrev pub Unsaid : System → List ℕ → Fault → Type 0
Unsaid system line fault =
    ((fault ≡ Fault.Memory) × MayBeStep line) ⊎ ((fault ≡ Fault.BadCommand 1) × (line ≢ []) × AsksNothing system line)

-- a text that was not read, and not for want of memory, asks nothing
pub asks-nothing : (system checked : System) (line : List ℕ) (fault : Fault) → checked ≡ system → (fault ≡ Fault.Memory → ⊥)
    → Unsaid checked line fault → AsksNothing system line
asks-nothing system checked line fault e not (inl h) = absurd (not h.0)
asks-nothing system checked line fault e not (inr h) = subst (λ (s : System). AsksNothing s line) e h.2

-- a text that was not read for want of memory may be a step
pub may-be-step : (checked : System) (line : List ℕ) (fault : Fault) (r : Bool) → r ≡ is_want fault → r ≡ true
    → Unsaid checked line fault → MayBeStep line
may-be-step checked line fault r e t (inl h) = h.1
may-be-step checked line fault r e t (inr h) =
    let same : true ≡ false = sym t ∙ (e ∙ ap is_want h.0) in absurd (false≢true (sym same))

-- a line that became this was read
abbrev is_read : Outcome → Bool
is_read Outcome.Unread = false
is_read _ = true

-- what is done was read
pub done-read : (outcome : Outcome) → outcome ≡ Outcome.Done → outcome ≡ Outcome.Unread → ⊥
done-read outcome done unread =
    let same : true ≡ false = ap is_read (sym done ∙ unread) in absurd (false≢true (sym same))

-- and it is not empty
pub not-empty : (checked : System) (line : List ℕ) (fault : Fault) → (fault ≡ Fault.Memory → ⊥) → Unsaid checked line fault → line ≢ []
not-empty checked line fault not (inl h) = absurd (not h.0)
not-empty checked line fault not (inr h) = h.1

-- a text that is no line of a script has no answer of one
unsaid-own : (source : List ℕ) (b b' : AtBench) (line own : List ℕ) → AsksNothing b.desk.machine.checked line → line ≢ []
    → AnsweredAsScript source b line own b'
unsaid-own source b b' line own nothing filled said (inl asks) = absurd (nothing said asks)
unsaid-own source b b' line own nothing filled said (inr h) = absurd (filled h.0)

-- the same of what is answered, if something is
pub unsaid-owns : {V : Type 0} (items : V → List ℕ) (source : List ℕ) (b b' : AtBench) (line : List ℕ) (answer : Option V)
    → AsksNothing b.desk.machine.checked line → line ≢ [] → IfSome answer (λ v. AnsweredAsScript source b line (items v) b')
unsaid-owns items source b b' line answer nothing filled =
    if-some (λ v. AnsweredAsScript source b line (items v) b') answer (λ v. unsaid-own source b b' line (items v) nothing filled)

-- what is answered to what a line says is answered to the line, if something is
pub own-lines : {V : Type 0} (items : V → List ℕ) (source : List ℕ) (b b' : AtBench) (line : List ℕ) (said : Line) (answer : Option V)
    (checked : System) → checked ≡ b.desk.machine.checked → SaysOneThing → Says checked line said
    → IfSome answer (λ v. SaidAsScript source b said (items v) b') → IfSome answer (λ v. AnsweredAsScript source b line (items v) b')
own-lines items source b b' line said answer checked e one says h =
    if-some-by (λ v. SaidAsScript source b said (items v) b') (λ v. AnsweredAsScript source b line (items v) b') answer
    (λ v own. own-line source b b' line (items v) said one (subst (λ (s : System). Says s line said) e says) own) h

-- an empty text is no number
empty-no-number : (text : List ℕ) → text ≡ [] → IsNoNumber text
empty-no-number text e = no-number-empty text (ap length e)

-- what a text says is answered as a tidied text is
tidied-said : (source : List ℕ) (b b' : AtBench) (text own : List ℕ) (said : Line) → Says b.desk.machine.checked text said
    → AnsweredAsScript source b text own b' → AnsweredAsTidied source b text own b'
tidied-said source b b' text own said (inl asks) h = (h, λ nothing. absurd (nothing said asks))
tidied-said source b b' text own said (inr empty) h = (h, λ nothing. inl (empty-no-number text empty.0))

-- the same of what is answered, if something is
pub tidied-says : {V : Type 0} (items : V → List ℕ) (source : List ℕ) (b b' : AtBench) (text : List ℕ) (said : Line)
    (answer : Option V) (checked : System) → checked ≡ b.desk.machine.checked → Says checked text said
    → IfSome answer (λ v. AnsweredAsScript source b text (items v) b')
    → IfSome answer (λ v. AnsweredAsTidied source b text (items v) b')
tidied-says items source b b' text said answer checked e says h =
    if-some-by (λ v. AnsweredAsScript source b text (items v) b') (λ v. AnsweredAsTidied source b text (items v) b') answer
    (λ v own. tidied-said source b b' text (items v) said (subst (λ (s : System). Says s text said) e says) own) h

-- what a line of a script is answered is what it is answered as typed
pub typed-said : (source : List ℕ) (b b' : AtBench) (line own : List ℕ) (said : Line) → Says b.desk.machine.checked line said
    → AnsweredAsScript source b line own b' → AnsweredAsTyped source b line own b'
typed-said source b b' line own said (inl asks) h = (h, (λ nothing. absurd (nothing said asks)))
typed-said source b b' line own said (inr empty) h =
    let none : tidied line ≡ [] = ap tidied empty.0 in (
      h,
      (λ nothing. (
        subst (λ (t : List ℕ). AnsweredAsScript source b t own b') (empty.0 ∙ sym none) h,
        λ asks. inl (empty-no-number (tidied line) none),
      )),
    )

-- the same of what is answered, if something is
pub typed-says : {V : Type 0} (items : V → List ℕ) (source : List ℕ) (b b' : AtBench) (line : List ℕ) (said : Line) (answer : Option V)
    (checked : System) → checked ≡ b.desk.machine.checked → Says checked line said
    → IfSome answer (λ v. AnsweredAsScript source b line (items v) b') → IfSome answer (λ v. AnsweredAsTyped source b line (items v) b')
typed-says items source b b' line said answer checked e says h =
    if-some-by (λ v. AnsweredAsScript source b line (items v) b') (λ v. AnsweredAsTyped source b line (items v) b') answer
    (λ v own. typed-said source b b' line (items v) said (subst (λ (s : System). Says s line said) e says) own) h

-- a number is answered as a tidied text is, where that is no line of a script
pub tidied-number : {V : Type 0} (items : V → List ℕ) (source : List ℕ) (b b' : AtBench) (text : List ℕ) (answer : Option V)
    → AsksNothing b.desk.machine.checked text → text ≢ []
    → IfSome answer (λ v. AnsweredAsNumber source b text (items v) b')
    → IfSome answer (λ v. AnsweredAsTidied source b text (items v) b')
tidied-number items source b b' text answer nothing filled h =
    if-some-by (λ v. AnsweredAsNumber source b text (items v) b') (λ v. AnsweredAsTidied source b text (items v) b') answer
    (λ v own. (unsaid-own source b b' text (items v) nothing filled, (λ none. own))) h

-- what a line is answered once it is tidied is what it is answered as typed, where it is none of a script
pub typed-loose : {V : Type 0} (items : V → List ℕ) (source : List ℕ) (b b' : AtBench) (line : List ℕ) (answer : Option V)
    → AsksNothing b.desk.machine.checked line → line ≢ []
    → IfSome answer (λ v. AnsweredAsTidied source b (tidied line) (items v) b')
    → IfSome answer (λ v. AnsweredAsTyped source b line (items v) b')
typed-loose items source b b' line answer nothing filled h =
    if-some-by (λ v. AnsweredAsTidied source b (tidied line) (items v) b') (λ v. AnsweredAsTyped source b line (items v) b') answer
    (λ v own. (unsaid-own source b b' line (items v) nothing filled, (λ none. own))) h

-- what a text is answered that is a tidied line is what the tidied line is answered
pub owns-as : {V : Type 0} (items : V → List ℕ) (source : List ℕ) (b b' : AtBench) (text line : List ℕ) (answer : Option V)
    → text ≡ tidied line → IfSome answer (λ v. AnsweredAsTidied source b text (items v) b')
    → IfSome answer (λ v. AnsweredAsTidied source b (tidied line) (items v) b')
owns-as items source b b' text line answer e h =
    subst (λ (t : List ℕ). IfSome answer (λ v. AnsweredAsTidied source b t (items v) b')) e h

-- a number takes a step, or there was no memory to read it
pub number-leaves : (files : Files) (source stimulus text : List ℕ) (b b' : AtBench) (n : ℕ) (outcome : Outcome)
    → Reads text n → TakesNumber n b outcome b'
    → Leaves (ShellAsks text) (IsWordWith text) files source stimulus b outcome b'
number-leaves files source stimulus text b b' n outcome reads (inl (e, does)) =
    done-leaves (ShellAsks text) (IsWordWith text) files source stimulus b b' outcome (Deed.Take n) e
    (inl (n, reads, refl)) does
number-leaves files source stimulus text b b' n outcome reads (inr (e, same)) =
    subst (λ (o : Outcome). Leaves (ShellAsks text) (IsWordWith text) files source stimulus b o b') (sym e) same

-- the command that has the number was asked
pub takes-asked : (b b' : AtBench) (n : ℕ) (c : Command) (outcome : Outcome) → outcome ≡ Outcome.Done
    → Some c ≡ numbered_as b.numbered n → ((done : Done) × Does b (Deed.Ask c) done b') → TakesNumber n b outcome b'
takes-asked b b' n c outcome e at (done, does) =
    inl (e, (done, subst (λ (o : Option Command). AsksIfAny b o done b') at does))

-- no command has it
pub takes-none : (b : AtBench) (n : ℕ) (outcome : Outcome) → outcome ≡ Outcome.Done → None ≡ numbered_as b.numbered n
    → TakesNumber n b outcome b
takes-none b n outcome e at =
    inl (e, (Done.Unknown, subst (λ (o : Option Command). AsksIfAny b o Done.Unknown b) at (refl, refl)))

-- its own answer is that of the command which has the number
pub step-owns : {V : Type 0} (items : V → List ℕ) (source : List ℕ) (b b' : AtBench) (n : ℕ) (c : Command) (answer : Option V)
    → Some c ≡ numbered_as b.numbered n → IfSome answer (λ v. SaidAsScript source b (Line.Asked c) (items v) b')
    → IfSome answer (λ v. AnsweredAsStep source b n (items v) b')
step-owns items source b b' n c answer at h =
    if-some-by (λ v. SaidAsScript source b (Line.Asked c) (items v) b') (λ v. AnsweredAsStep source b n (items v) b') answer
    (λ v own other is.
    let same : c ≡ other = cc in
    subst (λ (x : Command). SaidAsScript source b (Line.Asked x) (items v) b') same own) h

-- where none has it nothing is owed
pub none-owns : {V : Type 0} (items : V → List ℕ) (source : List ℕ) (b b' : AtBench) (n : ℕ) (answer : Option V)
    → None ≡ numbered_as b.numbered n → IfSome answer (λ v. AnsweredAsStep source b n (items v) b')
none-owns items source b b' n answer at =
    if-some (λ v. AnsweredAsStep source b n (items v) b') answer (λ v other is. absurd (cc))

-- what is owed to the number is owed to the text
pub number-owns : {V : Type 0} (items : V → List ℕ) (source : List ℕ) (b b' : AtBench) (text : List ℕ) (n : ℕ) (answer : Option V)
    → Reads text n → IfSome answer (λ v. AnsweredAsStep source b n (items v) b')
    → IfSome answer (λ v. AnsweredAsNumber source b text (items v) b')
number-owns items source b b' text n answer reads h =
    if-some-by (λ v. AnsweredAsStep source b n (items v) b') (λ v. AnsweredAsNumber source b text (items v) b') answer
    (λ v own. inr (n, reads, own)) h

pub words-owns : {V : Type 0} (items : V → List ℕ) (source : List ℕ) (b b' : AtBench) (text : List ℕ) (answer : Option V)
    → IsNoNumber text → IfSome answer (λ v. AnsweredAsNumber source b text (items v) b')
words-owns items source b b' text answer none =
    if-some (λ v. AnsweredAsNumber source b text (items v) b') answer (λ v. inl none)

-- a line that is none of a script as it stands leaves what it leaves once it is tidied
pub loose-line : (files : Files) (source stimulus line text : List ℕ) (b b' : AtBench) (outcome : Outcome) → text ≡ tidied line
    → AsksNothing b.desk.machine.checked line
    → Leaves (TextAsks b.desk.machine.checked text) (IsWordWith text) files source stimulus b outcome b'
    → LineLeaves files source stimulus b line outcome b'
loose-line files source stimulus line text b b' outcome e nothing h =
    leaves-by (TextAsks b.desk.machine.checked (tidied line)) (LineAsks b.desk.machine.checked line) (IsWordWith (tidied line))
    (IsWordWith (tidied line)) files source stimulus b b' outcome (λ deed asks. inr (nothing, asks)) (λ w rest is. is)
    (subst (λ (t : List ℕ). Leaves (TextAsks b.desk.machine.checked t) (IsWordWith t) files source stimulus b outcome b') e h)

-- a text that is none of a script leaves what it leaves in a shell
pub shell-text : (files : Files) (source stimulus text : List ℕ) (b b' : AtBench) (outcome : Outcome) → AsksNothing b.desk.machine.checked text
    → Leaves (ShellAsks text) (IsWordWith text) files source stimulus b outcome b'
    → Leaves (TextAsks b.desk.machine.checked text) (IsWordWith text) files source stimulus b outcome b'
shell-text files source stimulus text b b' outcome nothing h =
    leaves-by (ShellAsks text) (TextAsks b.desk.machine.checked text) (IsWordWith text) (IsWordWith text) files source stimulus
    b b' outcome (λ deed asks. inr (nothing, asks)) (λ w rest is. is) h
