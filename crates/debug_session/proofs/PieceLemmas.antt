-- How one line is answered.
use Rattle.std.proofs.Common.{◌≡◌, ℕ, List, Result, Err, IfErr, MatchResult, refl, sym, subst, inl, inr}
use Rattle.system.specs.declared.system.System.{System}
use Rattle.debug_session.specs.declared.line.Line.{Line}
use Rattle.debug_session.specs.declared.fault.Fault.{Fault}
use Rattle.debug_session.specs.AtLine.{AtLine}
use Rattle.debug_session.specs.Lines.{Asks, Says}
use Rattle.debug_session.specs.Transcript.{SaidAnswered, LineAnswered}
use Rattle.debug_session.specs.internal.OneLine.{LineStops}
use Rattle.debug_session.specs.internal.Telling.{LineUntold}
use Rattle.debug_session.proofs.AskLemmas.{Unsaid}

-- why a line says nothing
unsaid : (s : System) (line : List ℕ) (number : ℕ) (fault : Fault) → Unsaid s line number fault → LineStops s line number fault
unsaid s line number fault h =
    elim h [
      | inl memory ↦ subst (LineStops s line number) (sym memory.0) (inr memory.1)
      | inr bad ↦ subst (LineStops s line number) (sym bad.0) (refl, bad.1, bad.2)
    ]

-- the line says nothing
pub line-unsaid : (s t : System) (line : List ℕ) (number : ℕ) (fault : Fault) → t ≡ s → Unsaid t line number fault → LineStops s line number fault
line-unsaid s t line number fault same h = unsaid s line number fault (subst (λ x. Unsaid x line number fault) same h)

-- there was no memory for the answer
pub line-unmade : (s t : System) (line : List ℕ) (number : ℕ) (said : Line) → t ≡ s → Says t line said → (said ≡ Line.Empty → ⊥)
    → LineStops s line number Fault.Memory
line-unmade s t line number said same (inl asks) some = inl (said, subst (λ x. Asks x line said) same asks)
line-unmade s t line number said same (inr nothing) some = absurd (some nothing.1)

-- the line is answered
pub line-answered : (s t : System) (o o' : AtLine) (line answer : List ℕ) (said : Line) → t ≡ s → Says t line said → SaidAnswered s o said answer o'
    → LineAnswered s o line answer o'
line-answered s t o o' line answer said same says a = (said, subst (λ y. Says y line said) same says, a)

-- the result is the fault that stopped the line
pub stops-with : {A : Type 0} (P : A → Type 0) (s : System) (line : List ℕ) (number : ℕ) (fault : Fault) (r : Result A Fault) → r ≡ Err fault
    → LineStops s line number fault → MatchResult r P (λ f. LineStops s line number f)
stops-with {A} P s line number fault r e h = subst (λ q. MatchResult q P (λ f. LineStops s line number f)) (sym e) h

-- the line says nothing, and nothing changed
line-unread : (s : System) (a : AtLine) (line : List ℕ) (number : ℕ) (fault : Fault) → Unsaid s line number fault → LineUntold s a line fault a
line-unread s a line number fault h =
    elim h [
      | inl memory ↦ subst (λ f. LineUntold s a line f a) (sym memory.0) (inl (memory.1, refl))
      | inr bad ↦ subst (λ f. LineUntold s a line f a) (sym bad.0) refl
    ]

-- the result is the fault that stopped the line, and nothing changed
pub unread-with : {A : Type 0} (s t : System) (a : AtLine) (line : List ℕ) (number : ℕ) (fault : Fault) (r : Result A Fault) → r ≡ Err fault → t ≡ s
    → Unsaid t line number fault → IfErr r (λ f. LineUntold s a line f a)
unread-with s t a line number fault r e same h =
    subst (λ q. IfErr q (λ f. LineUntold s a line f a)) (sym e) (line-unread s a line number fault (subst (λ x. Unsaid x line number fault) same h))
