-- What a line asks for.
use Rattle.std.proofs.Common.{◌≡◌, ℕ, ◌≤◌, ◌<◌, arith, List, [], ◌++◌, Option, Some, None, MatchOption, Result, Ok, Err, IfOk, IfErr, ◌≢◌, ◌⊎◌, inl, inr, refl, sym, ap, ◌∙◌, subst}
use Rattle.system.specs.declared.system.System.{System}
use Rattle.line_text.specs.declared.keyword.Keyword.{Keyword}
use Rattle.line_text.specs.declared.keyword.Keyword.TheVariants as keywords
use Rattle.line_text.specs.EventText.{field}
use Rattle.line_text.specs.Fields.{BeginsField, CutAtSpace}
use Rattle.line_text.specs.Keywords.{spelling}
use Rattle.line_text.specs.internal.Spelled.{SpellsNothing}
use Rattle.debug_session.specs.declared.line.Line.{Line}
use Rattle.debug_session.specs.declared.fault.Fault.{Fault}
use Rattle.line_text.specs.Operands.{IsNumber, MayBeChoice}
use Rattle.line_text.specs.internal.NoOperand.{IsNoTicket, IsNoVariable, IsNoChoice}
use Rattle.line_text.proofs.public.NumberLemmas.{read-number}
use Rattle.debug_session.specs.Lines.{MayBeStep, AsksBy, Asks, AsksNothing, Says, SaysSession}
use Rattle.debug_session.specs.internal.NotAsked.{IsNoSession, AsksNothingBy}
use Rattle.line_text.proofs.public.CutLemmas.{cut-same}
use Rattle.line_text.proofs.public.KeywordLemmas.{spelling-no-space, one-keyword}

-- a field begins with a space
field-begins : (rest text : List ℕ) → rest ≡ field text → BeginsField rest
field-begins rest text e = subst BeginsField (sym e) refl

-- what stands behind a keyword is nothing or begins with a space
pub behind-begins : (system : System) (w : Keyword) (rest : List ℕ) (c : Line) → AsksBy system w rest c → BeginsField rest
behind-begins system keywords.Step rest c (d, h, e) = subst BeginsField (sym h.2.1) refl
behind-begins system keywords.Undo rest c (t, h, e) = subst BeginsField (sym h.1) refl
behind-begins system keywords.Roll rest c (t, h, e) = subst BeginsField (sym h.1) refl
behind-begins system keywords.RollValue rest c (x, h, e) = subst BeginsField (sym h.1) refl
behind-begins system keywords.Blame rest c (x, h, e) = subst BeginsField (sym h.1) refl
behind-begins system keywords.Ready rest c (h, e) = subst BeginsField (sym h) tt
behind-begins system keywords.Consequences rest c (t, h, e) = subst BeginsField (sym h.1) refl
behind-begins system keywords.Live rest c (h, e) = subst BeginsField (sym h) tt
behind-begins system keywords.Value rest c (x, h, e) = subst BeginsField (sym h.1) refl
behind-begins system keywords.Branch rest c (k, h, e) = subst BeginsField (sym h.1) refl
behind-begins system keywords.Break rest c (n, h, e) = subst BeginsField (sym h.1) refl
behind-begins system keywords.Clear rest c (n, h, e) = subst BeginsField (sym h.1) refl
behind-begins system keywords.Session rest c (k, h, e) = subst BeginsField (sym h.1) refl
behind-begins system keywords.View rest c (h, e) = subst BeginsField (sym h) tt
behind-begins system keywords.Trace rest c (h, e) = subst BeginsField (sym h) tt

-- the keyword and the rest are the parts of the line
asked-parts : (system : System) (line text rest : List ℕ) (c : Line) → CutAtSpace line text rest → (a : Asks system line c)
    → (spelling a.keyword ≡ text) × (a.rest ≡ rest)
asked-parts system line text rest c cut a =
    cut-same (spelling a.keyword) text a.rest rest (spelling-no-space a.keyword) cut.clear
    (behind-begins system a.keyword a.rest c a.asked) cut.begins (sym a.spelled ∙ sym cut.joined)

-- a line that begins with no keyword asks for nothing
pub no-keyword : (system : System) (line text rest : List ℕ) → CutAtSpace line text rest → SpellsNothing text → AsksNothing system line
no-keyword system line text rest cut none c a = none a.keyword (asked-parts system line text rest c cut a).0

-- a line whose keyword asks for nothing with what is behind it asks for nothing
pub nothing-behind : (system : System) (line text rest : List ℕ) (w : Keyword) → CutAtSpace line text rest → spelling w ≡ text
    → AsksNothingBy system w rest → AsksNothing system line
nothing-behind system line text rest w cut h none c a =
    let same : a.keyword ≡ w = one-keyword a.keyword w text (asked-parts system line text rest c cut a).0 h in
    let moved : AsksBy system w a.rest c = subst (λ v. AsksBy system v a.rest c) same a.asked in
    none c (subst (λ r. AsksBy system w r c) (asked-parts system line text rest c cut a).1 moved)

-- a line asks for what its keyword asks for with what is behind it
pub asks-behind : (system : System) (line text rest : List ℕ) (w : Keyword) (c : Line) → CutAtSpace line text rest
    → spelling w ≡ text → AsksBy system w rest c → Asks system line c
asks-behind system line text rest w c cut h asked = record {
  keyword = w;
  rest = rest;
  spelled = sym cut.joined ∙ ap (λ t. t ++ rest) (sym h);
  asked = asked;
}

-- no session stands where no number does
pub no-session-number : (rest : List ℕ) → IsNoTicket rest → IsNoSession rest
no-session-number rest none k h = none k (omega (arith, h.0), h.1)

-- a number of 16 and more is of no session
pub no-session-above : (rest : List ℕ) (n : ℕ) → IsNumber n rest → 16 ≤ n → IsNoSession rest
no-session-above rest n read above k h =
    let same : k ≡ n = read-number n k rest read (omega (arith, h.0)) h.1 in
    let below : k < 16 = h.0 in
    omega arith

-- where no variable is named
pub roll-value-nothing : (system : System) (w : Keyword) (rest : List ℕ) → w ≡ keywords.RollValue → IsNoVariable system rest → AsksNothingBy system w rest
roll-value-nothing system w rest e none = subst (λ v. AsksNothingBy system v rest) (sym e) (λ c h. none h.0 h.1)

-- where no variable is named
pub blame-nothing : (system : System) (w : Keyword) (rest : List ℕ) → w ≡ keywords.Blame → IsNoVariable system rest → AsksNothingBy system w rest
blame-nothing system w rest e none = subst (λ v. AsksNothingBy system v rest) (sym e) (λ c h. none h.0 h.1)

-- where no variable is named
pub value-nothing : (system : System) (w : Keyword) (rest : List ℕ) → w ≡ keywords.Value → IsNoVariable system rest → AsksNothingBy system w rest
value-nothing system w rest e none = subst (λ v. AsksNothingBy system v rest) (sym e) (λ c h. none h.0 h.1)

-- where no choice stands
pub step-nothing : (system : System) (w : Keyword) (rest : List ℕ) → w ≡ keywords.Step → IsNoChoice rest → AsksNothingBy system w rest
step-nothing system w rest e none = subst (λ v. AsksNothingBy system v rest) (sym e) (λ c h. none h.0 h.1)

-- what a keyword asks for where something was found behind it
pub found-by : (system : System) (w : Keyword) (rest : List ℕ) (number : ℕ) (found : Option Line) (r : Result Line Fault)
    → MatchOption found (r ≡ Err (Fault.BadCommand number)) (λ c. r ≡ Ok c)
    → MatchOption found (AsksNothingBy system w rest) (λ c. AsksBy system w rest c) → IfOk r (λ c. AsksBy system w rest c)
found-by system w rest number None r e h = subst (λ x. IfOk x (λ c. AsksBy system w rest c)) (sym e) tt
found-by system w rest number (Some c) r e h = subst (λ x. IfOk x (λ c'. AsksBy system w rest c')) (sym e) h

-- why a keyword asks for nothing
abbrev pub UnsaidBy : System → Keyword → List ℕ → ℕ → Fault → Type 0
UnsaidBy system w rest number fault =
    ((fault ≡ Fault.Memory) × (w ≡ keywords.Step) × MayBeChoice rest) ⊎ ((fault ≡ Fault.BadCommand number) × AsksNothingBy system w rest)

-- why a keyword asks for nothing where nothing was found behind it
pub nothing-by : (system : System) (w : Keyword) (rest : List ℕ) (number : ℕ) (found : Option Line) (r : Result Line Fault)
    → MatchOption found (r ≡ Err (Fault.BadCommand number)) (λ c. r ≡ Ok c)
    → MatchOption found (AsksNothingBy system w rest) (λ c. AsksBy system w rest c) → IfErr r (UnsaidBy system w rest number)
nothing-by system w rest number None r e h = subst (λ x. IfErr x (UnsaidBy system w rest number)) (sym e) (inr (refl, h))
nothing-by system w rest number (Some c) r e h = subst (λ x. IfErr x (UnsaidBy system w rest number)) (sym e) tt

-- a line says what its keyword asks for with what is behind it
pub behind-says : (system : System) (line text rest : List ℕ) (w : Keyword) (r : Result Line Fault) → CutAtSpace line text rest
    → spelling w ≡ text → IfOk r (λ c. AsksBy system w rest c) → IfOk r (λ said. Says system line said)
behind-says system line text rest w (Ok c) cut h asked = inl (asks-behind system line text rest w c cut h asked)
behind-says system line text rest w (Err f) cut h asked = tt

-- a session that a line names is one of the sixteen
session-by : (system : System) (w : Keyword) (rest : List ℕ) (c : Line) → AsksBy system w rest c → SaysSession c
session-by system keywords.Step rest c (x, h, e) = subst SaysSession (sym e) tt
session-by system keywords.Undo rest c (x, h, e) = subst SaysSession (sym e) tt
session-by system keywords.Roll rest c (x, h, e) = subst SaysSession (sym e) tt
session-by system keywords.RollValue rest c (x, h, e) = subst SaysSession (sym e) tt
session-by system keywords.Blame rest c (x, h, e) = subst SaysSession (sym e) tt
session-by system keywords.Ready rest c (h, e) = subst SaysSession (sym e) tt
session-by system keywords.Consequences rest c (x, h, e) = subst SaysSession (sym e) tt
session-by system keywords.Live rest c (h, e) = subst SaysSession (sym e) tt
session-by system keywords.Value rest c (x, h, e) = subst SaysSession (sym e) tt
session-by system keywords.Branch rest c (x, h, e) = subst SaysSession (sym e) tt
session-by system keywords.Break rest c (x, h, e) = subst SaysSession (sym e) tt
session-by system keywords.Clear rest c (x, h, e) = subst SaysSession (sym e) tt
session-by system keywords.Session rest c (k, h, e) = subst SaysSession (sym e) h.0
session-by system keywords.View rest c (h, e) = subst SaysSession (sym e) tt
session-by system keywords.Trace rest c (h, e) = subst SaysSession (sym e) tt

pub behind-session : (system : System) (w : Keyword) (rest : List ℕ) (r : Result Line Fault) → IfOk r (λ c. AsksBy system w rest c) → IfOk r SaysSession
behind-session system w rest (Ok c) asked = session-by system w rest c asked
behind-session system w rest (Err f) asked = tt

-- why a line says nothing
abbrev pub Unsaid : System → List ℕ → ℕ → Fault → Type 0
Unsaid system line number fault =
    ((fault ≡ Fault.Memory) × MayBeStep line) ⊎ ((fault ≡ Fault.BadCommand number) × (line ≢ []) × AsksNothing system line)

-- a line says nothing where its keyword asks for nothing
pub behind-unsaid : (system : System) (line text rest : List ℕ) (w : Keyword) (number : ℕ) (r : Result Line Fault) → CutAtSpace line text rest
    → spelling w ≡ text → (line ≡ [] → ⊥) → IfErr r (UnsaidBy system w rest number) → IfErr r (Unsaid system line number)
behind-unsaid system line text rest w number (Ok c) cut h some why = tt
behind-unsaid system line text rest w number (Err f) cut h some why =
    elim why [
      | inl memory ↦ inl (memory.0, (rest, sym cut.joined ∙ ap (λ t. t ++ rest) (sym h ∙ ap spelling memory.1), memory.2))
      | inr bad ↦ inr (bad.0, some, nothing-behind system line text rest w cut h bad.1)
    ]
