-- A part of a session. No reader has to believe it: `Serves` and `ServesUpTo` of `Session.antt` are of all of one.
use Rattle.std.specs.Prelude.{ℕ, Bool, List, ◌++◌, Option}
use Rattle.std.specs.Io.KnownBytes.{Consumes}
use Rattle.dap_messages.specs.declared.answer.Answer.{Answer}
use Rattle.dap_messages.specs.declared.request.Request.{Request}
use Rattle.dap_server.specs.Session.{Breaks, Hears}
use Rattle.dap_server.specs.declared.fault.Fault.{Fault}

-- messages are heard, where `before` was read before, and more bytes came
abbrev pub ServesFrom : {A : Type 0} → (A → Request → Answer → A → Type 0) → (A → Bool) → A → ℕ → A → ℕ → List ℕ →
    List ℕ → Option (List ℕ) → Option (List ℕ) → Option (List ℕ) → Option (List ℕ) → Type 0
ServesFrom answers over a next b after before left first last old new =
    (came : List ℕ) × Consumes first last came × Hears answers over a next b after (before ++ came) left old new

-- the next message meets a fault, if one comes
abbrev pub BreaksFrom : {A : Type 0} → (A → Request → Answer → A → Type 0) → (A → Bool) → A → ℕ → A → Fault → List ℕ →
    Option (List ℕ) → Option (List ℕ) → Option (List ℕ) → Option (List ℕ) → Type 0
BreaksFrom answers over a next b why before first last old new =
    (came : List ℕ) × Consumes first last came × Breaks answers over a next b why (before ++ came) old new

-- messages are heard, and then comes a fault
pub record StopsFrom {A : Type 0} (answers : A → Request → Answer → A → Type 0) (over : A → Bool) (a : A) (next : ℕ)
    (b : A) (why : Fault) (before : List ℕ) (first last old new : Option (List ℕ)) : Type 0 where
  pub came : List ℕ
  pub read : Consumes first last came
  pub left : List ℕ
  pub mid : A
  pub after : ℕ
  pub between : Option (List ℕ)
  pub hears : Hears answers over a next mid after (before ++ came) left old between
  pub breaks : Breaks answers over mid after b why left between new

-- some bytes are read
abbrev pub ReadsSome : Option (List ℕ) → Option (List ℕ) → Type 0
ReadsSome first last = (came : List ℕ) × Consumes first last came
