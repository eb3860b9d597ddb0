-- The answers of a script.
use Rattle.std.proofs.Common.{◌≡◌, inl, inr, ℕ, List, Option, Some, None, Result, Ok, Err, MatchResult, refl, sym, ap, ◌∙◌, subst}
use Rattle.std.specs.Option.{IfSome}
use Rattle.std.specs.Result.{IfOk}
use Rattle.system.specs.declared.system.System.{System}
use Rattle.locked_execution.specs.declared.command.Command.{Command}
use Rattle.locked_execution.specs.declared.command.Reply.{Reply}
use Rattle.debug_session.specs.AtLine.{AtLine}
use Rattle.debug_session.specs.ReplyText.{answer_text, session_text}
use Rattle.debug_session.specs.declared.line.Line.{Line}
use Rattle.shell_desk.specs.AtBench.{AtBench}
use Rattle.shell_desk.specs.Does.{Asked, TurnsSession}
use Rattle.shell.specs.Lines.{SaidAsScript, at_line}

-- what is known of bytes that were made is known of the answer
pub own-by : {V E : Type 0} (items : V → List ℕ) (Q P : List ℕ → Type 0) (r : Result V E) (o : Option V)
    → MatchResult r (λ v. o ≡ Some v) (λ _. o ≡ None) → ((t : List ℕ) → Q t → P t) → IfOk r (λ v. Q (items v))
    → IfSome o (λ v. P (items v))
own-by items Q P (Ok v) o e f h = subst (λ x. IfSome x (λ v. P (items v))) (sym e) (f (items v) h)
own-by items Q P (Err fault) o e f h = subst (λ x. IfSome x (λ v. P (items v))) (sym e) tt

-- a command is answered by the text of its reply
pub asked-own : (source : List ℕ) (b b' : AtBench) (s : System) (c : Command) (reply : Reply) → Asked b c reply b'
    → s ≡ b'.desk.machine.checked → b'.desk.machine.checked ≡ b.desk.machine.checked
    → (t : List ℕ) → t ≡ answer_text s c reply → SaidAsScript source b (Line.Asked c) t b'
asked-own source b b' s c reply asked p q t e =
    (reply, asked.0, asked.1, refl, e ∙ ap (λ (x : System). answer_text x c reply) (p ∙ q))

-- the bench as a script has come to it, with another session
abbrev with_session : List ℕ → AtBench → ℕ → AtLine
with_session source b session = record { desk = b.desk; session = session; source = source }

-- a line that names a session is answered with that session
pub turned-own : (source : List ℕ) (b b' : AtBench) (session : ℕ) → TurnsSession session b b'
    → (t : List ℕ) → t ≡ session_text session → SaidAsScript source b (Line.Session session) t b'
turned-own source b b' session (inl (same, still)) t e =
    (e, ap (at_line source) still ∙ ap (with_session source b) same)
turned-own source b b' session (inr (other, turned)) t e = (e, ap (at_line source) turned)

-- what holds of all holds of what there is
pub if-some : {V : Type 0} (P : V → Type 0) (o : Option V) → ((v : V) → P v) → IfSome o P
if-some P (Some v) all = all v
if-some P None all = tt

-- what follows of what there is
pub if-some-by : {V : Type 0} (P Q : V → Type 0) (o : Option V) → ((v : V) → P v → Q v) → IfSome o P → IfSome o Q
if-some-by P Q (Some v) f h = f v h
if-some-by P Q None f h = tt
