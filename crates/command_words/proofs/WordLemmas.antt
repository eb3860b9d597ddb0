-- What a parse reads of a command as it is made, and what the matches hold of a word.
use Rattle.std.proofs.Common.{◌≡◌, ℕ, ◌<◌, ◌^◌, List, Option, Some, None, Result, Ok, Err, ◌||◌, true, ◌∙◌, sym, ap, ap₂, refl, subst, arith, codes, Bool, false, ◌⊎◌, inl, inr, ◌≢◌, [], ◌∷◌, ◌==◌, nat_lt, IsTrue, ◌↔◌}
use Rattle.std.proofs.lemmas.Bool.{false≢true}
use Rattle.std.proofs.lemmas.Result.{IfOk-weaker}
use Rattle.std.proofs.lemmas.Slice.Eq.{bytes_eq-Decides}
use Rattle.std.specs.Str.{bytes_eq}
use Rattle.std.specs.Bool.{Decides}
use Rattle.std.specs.List.{list_all}
use Rattle.std.proofs.lemmas.Bool.Decides.{nat_tests}
use Rattle.std.proofs.lemmas.Fmt.{decimal_is_IsNumeral}
use Rattle.decimal.specs.Reading.{IsNoNumber, Reads}
use Rattle.std.specs.Prelude.{IfSome, IsSome, IfOk, IsErrAnd, MatchOption, MatchResult, option_map, unwrap_or}
use Rattle.std.specs.Borrow.{Bor}
use Rattle.std.specs.Str.Parse.{IsNumeral, digits_value, without_leading_plus}
use Rattle.clap.specs.Words.{AddsArg, AddsSubcommand, App, ReadsOne, Rule, Text, app_of, first_of, first_value, one_of, one_text, rows_of, with_rule, with_subcommand, HasMatchesOf, Row, found_of, is_simple, kind_of, subcommand_name_of, subcommand_of, subcommand_rows, subcommand_rows_of, takes, HasKind, IsAmong, fault_of, is_simple_and_free}
use Rattle.clap.specs.declared.builder.arg.Arg.{Arg}
use Rattle.clap.specs.declared.builder.command.Command.{Command}
use Rattle.clap.specs.declared.parser.matches.Found.{Found}
use Rattle.clap.proofs.WalkLemmas.{first_value-rows, one_text-rows}
use Rattle.clap.specs.declared.parser.matches.ArgMatches.{ArgMatches}
use Rattle.clap.specs.declared.parser.matches.ArgMatches.TheViews.{out-ArgMatches, out-SubCommand}
use Rattle.clap.specs.declared.parser.matches.SubCommand.{SubCommand}
use Rattle.std.specs.Prelude.{Box}
use Rattle.std.specs.Box.{box_value}
use Rattle.clap.specs.declared.error.Error.{Error}
use Rattle.clap.specs.declared.error.kind.ErrorKind.TheVariants.{MissingSubcommand, OutOfMemory}
use Rattle.clap.proofs.OnLiterals.{clap_on_literals}
use Rattle.refusal_pages.specs.Numbers.{among, is_refusal, of_editors, of_files, of_lines, of_sources}
use Rattle.refusal_pages.specs.declared.page.Page.{Page}
use Rattle.command_words.specs.declared.form.Drawing.{Drawing}
use Rattle.command_words.specs.declared.request.Request.{Request}
use Rattle.command_words.specs.declared.unasked.Unasked.{Unasked}
use Rattle.command_words.specs.Words.{AskFor, AskForSome, AskForNone, AskNothing, IsFaultOf, IsFlag, IsNumber, IsRequest, Named, TellsPage, program}
use Rattle.command_words.specs.Words.{AskDrawing, TellsStep, drawing_of, is_on}
use Rattle.command_words.specs.declared.crew_size.CrewSize.{CrewSize}
use Rattle.command_words.specs.internal.Building.{AsksNoDrawing, Chooses, ChoosesNone, IsArgument, IsCommand, IsNoRequest, rows_in}
use Rattle.command_words.specs.internal.Building.{Finds, NamesNoFiles, NamesNoTrace, Refuses, TellsCrew, TellsError, TellsNoCrew, TellsNoPage}

-- one more argument
pub with_argument : (old new : Command) (a : Arg) (app : App) (rule : Rule) → IsCommand app old → IsArgument rule a → AddsArg old a new → IsCommand (with_rule app rule) new
with_argument old new a app rule was is added = record {
  app = added.shape is.local ∙ ap₂ with_rule was.app is.rule;
  local = added.globals ∙ ap₂ ◌||◌ was.local is.local;
}

-- one more subcommand
pub with_command : (old sub new : Command) (app under : App) → IsCommand app old → IsCommand under sub → AddsSubcommand old sub new → IsCommand (with_subcommand app under.top) new
with_command old sub new app under was is added = record {
  app = added.shape is.local ∙ ap₂ with_subcommand was.app (ap (λ (a : App). a.top) is.app);
  local = added.globals ∙ ap₂ ◌||◌ was.local is.local;
}

-- one more argument, where there was memory for the command and for it
pub with_one : {E : Type 0} (command r : Result Command E) (old : Command) (a : Arg) (app : App) (rule : Rule)
    → command ≡ Ok old → IfOk r (AddsArg old a) → IfOk command (IsCommand app) → IsArgument rule a
    → IfOk r (IsCommand (with_rule app rule))
with_one {E} command r old a app rule same adds was is =
    IfOk-weaker r _ _
    (λ made. with_argument old made a app rule (subst (λ (x : Result Command E). IfOk x (IsCommand app)) same was) is)
    adds

-- one more subcommand, where there was memory for it
pub with_another : {E : Type 0} (command r : Result Command E) (old sub : Command) (app under : App)
    → command ≡ Ok sub → IfOk r (AddsSubcommand old sub) → IsCommand app old → IfOk command (IsCommand under)
    → IfOk r (IsCommand (with_subcommand app under.top))
with_another {E} command r old sub app under same adds was is =
    IfOk-weaker r _ _
    (λ made. with_command old sub made app under was (subst (λ (x : Result Command E). IfOk x (IsCommand under)) same is))
    adds

-- the text that was got is that of the row
pub text_of_row : (f : Found) (id : Text) (o : Option (Bor Text)) (s : Bor Text) → option_map (λ (x : Bor Text). x.now) o ≡ first_value f id → o ≡ Some s → first_of id (rows_of f) ≡ Some s.now
text_of_row f id o s got is = sym (first_value-rows f id) ∙ (sym got ∙ ap (option_map (λ (x : Bor Text). x.now)) is)

-- the number that was got is that of the row
pub number_of_row : {E : Type 0} (G : List ℕ → Result ℕ E → Type 0) (f : Found) (id : Text) (o : Option ℕ) (n : ℕ)
    → (one_text f id ≡ None → o ≡ None) → ((t : List ℕ) → one_text f id ≡ Some t → ReadsOne G t o)
    → ((u : List ℕ) (x : ℕ) → G u (Ok x) → IsNumeral 10 (without_leading_plus u) × (x ≡ digits_value 10 (without_leading_plus u)))
    → o ≡ Some n → IsNumber (one_of id (rows_of f)) n
number_of_row {E} G f id o n none value tells is =
    subst (λ (t : Option Text). IsNumber t n) (one_text-rows f id) (go (one_text f id) refl)
  where
    go : (t : Option Text) → one_text f id ≡ t → IsNumber t n
    go None e = let gone : o ≡ None = none e in cc
    go (Some t) e = tells t n (subst (λ (r : Option ℕ). ReadsOne G t r) is (value t e))

-- no text was got where the row has none
pub no_text : (f : Found) (id : Text) (o : Option (Bor Text)) → option_map (λ (x : Bor Text). x.now) o ≡ first_value f id → o ≡ None
    → (s : Text) → first_of id (rows_of f) ≡ Some s → ⊥
no_text f id o got none s is =
    let gone : Some s ≡ None = sym is ∙ (sym (first_value-rows f id) ∙ (sym got ∙ ap (option_map (λ (x : Bor Text). x.now)) none)) in cc

-- no number of so many bits was got where the row has none
pub no_number : {E : Type 0} (k : ℕ) (G : List ℕ → Result ℕ E → Type 0) (f : Found) (id : Text) (o : Option ℕ)
    → ((t : List ℕ) → one_text f id ≡ Some t → ReadsOne G t o)
    → ((u : List ℕ) (e : E) → G u (Err e) → IsNumeral 10 (without_leading_plus u) × (digits_value 10 (without_leading_plus u) < 2 ^ k) → ⊥)
    → o ≡ None → (n : ℕ) → IsNumber (one_of id (rows_of f)) n → n < 2 ^ k → ⊥
no_number {E} k G f id o value tells is n number small =
    go (one_text f id) refl (subst (λ (t : Option Text). IsNumber t n) (sym (one_text-rows f id)) number)
  where
    go : (t : Option Text) → one_text f id ≡ t → IsNumber t n → ⊥
    go None e h = h
    go (Some t) e h =
        let read : ReadsOne G t None = subst (λ (r : Option ℕ). ReadsOne G t r) is (value t e) in
        tells t read.0 read.1 (h.0, subst (λ (m : ℕ). m < 2 ^ k) h.1 small)

-- a text tells one number
pub one_number : (o : Option Text) (m n : ℕ) → IsNumber o m → IsNumber o n → m ≡ n
one_number None m n h g = absurd h
one_number (Some text) m n h g = h.1 ∙ sym g.1

-- no crew has so many workers and turns
abbrev pub FitsNoCrew : ℕ → ℕ → Type 0
FitsNoCrew workers turns = (workers < 1) ⊎ (16 < workers) ⊎ (1000000 < turns)

-- a crew has at least one worker, and no more workers and turns than a crew may have
pub no_crew : (workers turns : ℕ) (crew : CrewSize) → FitsNoCrew workers turns → crew.workers ≡ workers
    → crew.turns ≡ turns → ⊥
no_crew workers turns crew none w t =
    let some = crew.some in
    let few = crew.few in
    let short = crew.short in
    omega (arith, some, few, short, w, t, none)

-- the crew that numbers tell, or none
pub crew_told : (rows : List Row) (workers turns : ℕ) (o : Option CrewSize)
    → MatchOption o (FitsNoCrew workers turns) (λ made. (made.workers ≡ workers) × (made.turns ≡ turns))
    → IsNumber (one_of (codes "workers") rows) workers → IsNumber (one_of (codes "turns") rows) turns
    → MatchOption o (TellsNoCrew rows) (TellsCrew rows)
crew_told rows workers turns None told w t = λ crew tells.
    no_crew workers turns crew told
    (one_number (one_of (codes "workers") rows) crew.workers workers tells.0 w)
    (one_number (one_of (codes "turns") rows) crew.turns turns tells.1 t)
crew_told rows workers turns (Some made) told w t = (
  subst (λ (n : ℕ). IsNumber (one_of (codes "workers") rows) n) (sym told.0) w,
  subst (λ (n : ℕ). IsNumber (one_of (codes "turns") rows) n) (sym told.1) t,
)

-- two names that a test tells apart
pub unlike : {name text : Text} → name ≡ text → bytes_eq name text ≡ false → ⊥
unlike {name} {text} same apart =
    false≢true ((subst (λ (b : Bool). Decides b (name ≡ text)) apart (bytes_eq-Decides name text)).1 same)

-- the option that was got is that of the row
pub flag_of_row : (f : Found) (id : Text) (b : Bool) → (one_text f id ≡ None → b ≡ false)
    → (one_text f id ≡ Some (codes "true") → b ≡ true) → (one_text f id ≡ Some (codes "false") → b ≡ false)
    → IsFlag (one_of id (rows_of f)) b
flag_of_row f id b none given absent =
    subst (λ (t : Option Text). IsFlag t b) (one_text-rows f id) (none, given, absent)

-- no request is that of `check` where no file is named
pub no_check : (rows : List Row) → ((s : Text) → first_of (codes "FILE") rows ≡ Some s → ⊥)
    → IsNoRequest (codes "check") rows
no_check rows none (Request.Check file explain) h = none file.now h.1
no_check rows none other h = unlike h.0 refl

-- nor that of `outline`
pub no_outline : (rows : List Row) → ((s : Text) → first_of (codes "FILE") rows ≡ Some s → ⊥)
    → IsNoRequest (codes "outline") rows
no_outline rows none (Request.Outline file) h = none file.now h.1
no_outline rows none other h = unlike h.0 refl

-- nor that of `debug` where no files are
pub no_debug : (rows : List Row) → NamesNoFiles rows → IsNoRequest (codes "debug") rows
no_debug rows none (Request.Debug file stimulus explain) h = none file.now stimulus.now h.1
no_debug rows none other h = unlike h.0 refl

-- nor that of `replay`, with a trace
pub no_replay : (rows : List Row) → NamesNoTrace rows → IsNoRequest (codes "replay") rows
no_replay rows none (Request.Replay file stimulus trace explain) h = none file.now stimulus.now trace.now h.1
no_replay rows none other h = unlike h.0 refl

-- nor that of `waiting`
pub no_waiting : (rows : List Row) → NamesNoTrace rows → IsNoRequest (codes "waiting") rows
no_waiting rows none (Request.Waiting file stimulus trace) h = none file.now stimulus.now trace.now h.1
no_waiting rows none other h = unlike h.0 refl

-- nor that of `work` where no files are, or the numbers are those of no crew
pub no_work : (rows : List Row) → NamesNoFiles rows ⊎ TellsNoCrew rows → IsNoRequest (codes "work") rows
no_work rows (inl none) (Request.Work file stimulus crew explain) h = none file.now stimulus.now h.1
no_work rows (inr none) (Request.Work file stimulus crew explain) h = none crew (h.2, h.3)
no_work rows none other h = unlike h.0 refl

-- nor that of `shell` where no files are
pub no_shell : (rows : List Row) → NamesNoFiles rows → IsNoRequest (codes "shell") rows
no_shell rows none (Request.Shell file stimulus trace) h = none file.now stimulus.now h.1
no_shell rows none other h = unlike h.0 refl

-- nor that of `why` where no files are, or nothing is asked about
pub no_why : (rows : List Row) → NamesNoTrace rows ⊎ ((s : Text) → first_of (codes "X") rows ≡ Some s → ⊥)
    → IsNoRequest (codes "why") rows
no_why rows (inl none) (Request.Why file stimulus trace subject all) h = none file.now stimulus.now trace.now h.1
no_why rows (inr none) (Request.Why file stimulus trace subject all) h = none subject.now h.2
no_why rows none other h = unlike h.0 refl

-- a text is that of one number alone
one_number_of : (text : Text) (t u : ℕ) → Reads text t → Reads text u → t ≡ u
one_number_of text t u h k =
    sym (decimal_is_IsNumeral t h.0).1 ∙ (ap (digits_value 10) (h.1 ∙ sym k.1) ∙ (decimal_is_IsNumeral u k.0).1)

-- an option tells of one step alone
one_step : (o : Option Text) (a b : Option ℕ) → TellsStep o a → TellsStep o b → a ≡ b
one_step None a b h k = h ∙ sym k
one_step (Some text) a b h k =
    h.1 ∙ (ap (λ (t : ℕ). Some t) (one_number_of text h.0 k.0 h.2 k.2) ∙ sym k.1)

-- the step that an option tells of
pub step_told : (o : Option Text) (text : Text) (t : ℕ) → o ≡ Some text → Reads text t → TellsStep o (Some t)
step_told o text t is h = subst (λ (p : Option Text). TellsStep p (Some t)) (sym is) (t, refl, h)

-- it tells of none where its text is no number
pub no_step_told : (o : Option Text) (text : Text) → o ≡ Some text → IsNoNumber text → (event : Option ℕ) → TellsStep o event → ⊥
no_step_told o text is none event h =
    let tells : TellsStep (Some text) event = subst (λ (p : Option Text). TellsStep p event) is h in none tells.0 tells.2

-- the picture of the options with the step that they tell of
pub drawing_told : (rows : List Row) (event : Option ℕ) (o : Option Drawing) → TellsStep (first_of (codes "event") rows) event
    → o ≡ drawing_of (is_on (first_of (codes "svg") rows)) (is_on (first_of (codes "vcd") rows)) (is_on (first_of (codes "json") rows)) event (is_on (first_of (codes "quiet") rows))
    → MatchOption o (AsksNoDrawing rows) (AskDrawing rows)
drawing_told rows event None tells is = λ drawing asked.
    let same : asked.0 ≡ event = one_step (first_of (codes "event") rows) asked.0 event asked.1 tells in
    let other : drawing_of (is_on (first_of (codes "svg") rows)) (is_on (first_of (codes "vcd") rows)) (is_on (first_of (codes "json") rows)) event (is_on (first_of (codes "quiet") rows)) ≡ Some drawing =
    subst (λ (e : Option ℕ). drawing_of (is_on (first_of (codes "svg") rows)) (is_on (first_of (codes "vcd") rows)) (is_on (first_of (codes "json") rows)) e (is_on (first_of (codes "quiet") rows)) ≡ Some drawing) same asked.2 in
    let gone : None ≡ Some drawing = is ∙ other in cc
drawing_told rows event (Some drawing) tells is = (event, tells, sym is)

-- nor that of `picture`, with a trace, or where no picture is asked for
pub no_picture : (rows : List Row) → NamesNoTrace rows ⊎ AsksNoDrawing rows → IsNoRequest (codes "picture") rows
no_picture rows (inl none) (Request.Picture file stimulus trace drawing) h = none file.now stimulus.now trace.now h.1
no_picture rows (inr none) (Request.Picture file stimulus trace drawing) h = none drawing h.2
no_picture rows none other h = unlike h.0 refl

-- nor that of `explain` where the number is that of no refusal
pub no_explain : (rows : List Row) → TellsNoPage rows → IsNoRequest (codes "explain") rows
no_explain rows none (Request.Explain page) h = none page.now h.1
no_explain rows none other h = unlike h.0 refl

-- one of two tests holds
either : (a b : Bool) → IsTrue (a || b) → IsTrue a ⊎ IsTrue b
either true b h = inl refl
either false b h = inr h

-- a number that is among those below a bound is below it
among_below : (n most : ℕ) (numbers : List ℕ) → list_all (λ m. nat_lt m most) numbers ≡ true → IsTrue (among n numbers)
    → n < most
among_below n most [] all h = absurd (false≢true h)
among_below n most (m ∷ rest) all h = elim (either (n == m) (among n rest) h) [
  | inl same ↦ grind (arith, nat_tests, same, all)
  | inr later ↦ among_below n most rest (grind (arith, nat_tests, all)) later
]

-- the number of a refusal is below 114
pub number_is_small : (n : ℕ) → IsTrue (is_refusal n) → n < 114
number_is_small n h = elim (either (among n of_sources) (among n of_lines || (among n of_files || among n of_editors)) h) [
  | inl first ↦ among_below n 114 of_sources refl first
  | inr later ↦ elim (either (among n of_lines) (among n of_files || among n of_editors) later) [
    | inl second ↦ among_below n 114 of_lines refl second
    | inr last ↦ elim (either (among n of_files) (among n of_editors) last) [
      | inl third ↦ among_below n 114 of_files refl third
      | inr fourth ↦ among_below n 114 of_editors refl fourth
    ]
  ]
]

-- the number that was got is that of the page, where there is one
pub page_told : (rows : List Row) (n : ℕ) (o : Option (Bor Page)) → IsSome o ↔ IsTrue (is_refusal n)
    → IfSome o (λ page. page.now.number ≡ n) → IsNumber (one_of (codes "N") rows) n
    → MatchOption o (TellsNoPage rows) (λ page. TellsPage rows page.now)
page_told rows n None each right number = λ page tells.
    let same : page.number ≡ n = one_number (one_of (codes "N") rows) page.number n tells.0 number in
    false≢true (each.1 (subst (λ (k : ℕ). IsTrue (is_refusal k)) same tells.1))
page_told rows n (Some page) each right number = (
  subst (λ (k : ℕ). IsNumber (one_of (codes "N") rows) k) (sym right) number,
  subst (λ (k : ℕ). IsTrue (is_refusal k)) (sym right) (each.0 refl),
)

-- the subcommand that was met, with its rows
pub named_in : (m : ArgMatches) (o : Option (Bor Text × Bor ArgMatches)) (p : Bor Text × Bor ArgMatches)
    → option_map (λ (x : Bor Text × Bor ArgMatches). x.0.now) o ≡ subcommand_name_of m
    → option_map (λ (x : Bor Text × Bor ArgMatches). rows_of (found_of x.1.now)) o ≡ option_map (λ (x : Named). x.1) (subcommand_rows_of m)
    → o ≡ Some p → subcommand_rows_of m ≡ Some (p.0.now, rows_of (found_of p.1.now))
named_in m o p name rows is =
    go (out-ArgMatches m).subcommand
    (sym (ap (option_map (λ (x : Bor Text × Bor ArgMatches). x.0.now)) is) ∙ name)
    (sym (ap (option_map (λ (x : Bor Text × Bor ArgMatches). rows_of (found_of x.1.now))) is) ∙ rows)
  where
    go : {Z : Type 0} (b : Option (Box SubCommand Z)) → Some p.0.now ≡ option_map (λ (x : Box SubCommand Z). (out-SubCommand (box_value x)).name.now) b
        → Some (rows_of (found_of p.1.now)) ≡ option_map (λ (x : Named). x.1) (subcommand_rows b) → subcommand_rows b ≡ Some (p.0.now, rows_of (found_of p.1.now))
    go None n r = cc
    go (Some b) n r =
        let first : (out-SubCommand (box_value b)).name.now ≡ p.0.now = cc in
        let second : rows_of (found_of (out-SubCommand (box_value b)).matches) ≡ rows_of (found_of p.1.now) = cc in
        ap₂ (λ (a : Text) (l : List Row). Some (a, l)) first second

-- no subcommand was met where none was got
pub none_in : (m : ArgMatches) (o : Option (Bor Text × Bor ArgMatches))
    → option_map (λ (x : Bor Text × Bor ArgMatches). rows_of (found_of x.1.now)) o ≡ option_map (λ (x : Named). x.1) (subcommand_rows_of m)
    → o ≡ None → ChoosesNone m
none_in m o rows none request chosen =
    let gone : None ≡ Some chosen.0.1 =
    sym (ap (option_map (λ (x : Bor Text × Bor ArgMatches). rows_of (found_of x.1.now))) none) ∙ (rows ∙ ap (option_map (λ (x : Named). x.1)) chosen.1) in cc

-- what the values ask for under a name they ask for under the same name
pub asked_by : (words : ArgMatches) (name text : Text) (o : Option Request) → name ≡ text
    → MatchOption o (IsNoRequest text (rows_in words)) (IsRequest text (rows_in words))
    → MatchOption o (IsNoRequest name (rows_in words)) (IsRequest name (rows_in words))
asked_by words name text o same asked =
    subst (λ (n : Text). MatchOption o (IsNoRequest n (rows_in words)) (IsRequest n (rows_in words))) (sym same) asked

-- the request of the subcommand that was met is the one that the matches make
pub chosen_by : (m : ArgMatches) (name : Text) (rows : List Row) (o : Option Request) → subcommand_rows_of m ≡ Some (name, rows)
    → MatchOption o (IsNoRequest name rows) (IsRequest name rows) → MatchOption o (ChoosesNone m) (Chooses m)
chosen_by m name rows None met none = λ request chosen.
    none request (subst (λ (q : Named). IsRequest q.0 q.1 request) (ap (λ (r : Option Named). unwrap_or r (name, rows)) (sym chosen.1 ∙ met)) chosen.2)
chosen_by m name rows (Some request) met is = ((name, rows), met, is)

-- what `clap` says of the matches holds of the program
program_is_simple : is_simple program ≡ true
unfolding clap_on_literals
program_is_simple = refl

-- the faults of the words are those that `clap` finds
program_is_free : is_simple_and_free program ≡ true
unfolding clap_on_literals
program_is_free = refl

-- the request of the subcommand that was met is what the words ask for
pub asks : (words : List Text) (command : Command) (m : ArgMatches) (request : Request) → IsCommand program command → HasMatchesOf (app_of command) words m
    → (is_simple_and_free (app_of command) ≡ true → fault_of (app_of command) words ≡ []) → Chooses m request → AskFor words request
asks words command m request is has kinds chosen =
    let met = has (ap is_simple is.app ∙ program_is_simple) in (
      subst (λ (a : App). fault_of a words ≡ []) is.app (kinds (ap is_simple_and_free is.app ∙ program_is_free)),
      (chosen.0, subst (λ (a : App). subcommand_of a words ≡ Some chosen.0) is.app (sym met.1 ∙ chosen.1), chosen.2),
    )

-- words that ask for a request have matches that make one
pub none_asked : (words : List Text) (command : Command) (m : ArgMatches) → IsCommand program command → HasMatchesOf (app_of command) words m
    → ChoosesNone m → AskForNone words
none_asked words command m is has none request of =
    let met = has (ap is_simple is.app ∙ program_is_simple) in
    let named = of.1 in
    none request (named.0, met.1 ∙ subst (λ (a : App). subcommand_of a words ≡ Some named.0) (sym is.app) named.1, named.2)

-- words that the program takes are refused for want of memory alone
pub passed : (words : List Text) (command : Command) (error : Error) → IsCommand program command
    → (takes (app_of command) words ≡ true → kind_of error ≡ OutOfMemory) → AskForSome words → kind_of error ≡ OutOfMemory
passed words command error is passes asked = passes (subst (λ (a : App). takes a words ≡ true) (sym is.app) asked.0)

pub faulty : (words : List Text) (command : Command) (error : Error) → IsCommand program command
    → (is_simple_and_free (app_of command) ≡ true → HasKind (fault_of (app_of command) words) error) → kind_of error ≢ OutOfMemory
    → IsFaultOf words (kind_of error)
faulty words command error is kinds some = elim (kinds (ap is_simple_and_free is.app ∙ program_is_free)) [
  | inl memory ↦ absurd (some memory)
  | inr among ↦ inl (subst (λ (a : App). IsAmong (kind_of error) (fault_of a words)) is.app among)
]

-- what the program finds in words in which `clap` finds no fault
pub found_in : (words : List Text) (command : Command) (m : ArgMatches) (o : Option Request) → IsCommand program command
    → HasMatchesOf (app_of command) words m
    → (is_simple_and_free (app_of command) ≡ true → fault_of (app_of command) words ≡ [])
    → MatchOption o (ChoosesNone m) (Chooses m) → Finds words o
found_in words command m (Some request) is has kinds chosen = asks words command m request is has kinds chosen
found_in words command m None is has kinds none = (
  subst (λ (a : App). fault_of a words ≡ []) is.app (kinds (ap is_simple_and_free is.app ∙ program_is_free)),
  none_asked words command m is has none,
)

-- words in which `clap` finds none, and which ask for no request
pub none_found : (words : List Text) (error : Error) → Finds words None → kind_of error ≡ MissingSubcommand
    → Refuses words error
none_found words error none missing = (
  (λ asked. absurd (none.1 asked.1.0 asked.1.1)),
  (λ some. inr (none.0, missing, none.1)),
)

-- want of memory is no fault of the words
pub no_memory : (words : List Text) (error : Error) → kind_of error ≡ OutOfMemory → Refuses words error
no_memory words error memory = ((λ asked. memory), (λ some. absurd (some memory)))

-- and is handed on
pub memory_refused : {A : Type 0} (r : Result A Error) (words : List Text) (gives : A → Type 0)
    → IsErrAnd r (λ e. kind_of e ≡ OutOfMemory) → MatchResult r gives (Refuses words)
memory_refused (Ok x) words gives h = absurd h
memory_refused (Err e) words gives h = no_memory words e h

-- what is told of an error that refuses the words
pub nothing_asked : (words : List Text) (error : Error) (why : Unasked) → Refuses words error
    → TellsError (kind_of error) why → AskNothing words why
nothing_asked words error Unasked.Memory refused told = tt
nothing_asked words error (Unasked.Help text) refused told =
    ((λ asked. told.0 (refused.0 asked)), (kind_of error, refused.1 told.0, told.1), told.2)
nothing_asked words error (Unasked.Mistake text) refused told =
    ((λ asked. told.0 (refused.0 asked)), (kind_of error, refused.1 told.0, told.1), told.2)
