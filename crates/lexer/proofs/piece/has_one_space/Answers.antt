use Rattle.std.proofs.Common.{◌≡◌, ◌≤◌, ℕ, Bool, true, false, [], ◌∷◌, length, take, slice_index, not, refl, arith}
use Rattle.std.proofs.lemmas.Bool.{false≢true}
use Rattle.lexer.specs.Bytes.{is_blank}
use Rattle.lexer.specs.declared.class.Class.TheVariants.{Blank}
use Rattle.lexer.specs.internal.Fronts.{IsFront}
use Rattle.syntax.specs.Texts.{Text}
use Rattle.lexer.proofs.FrontLemmas.{run_front}
use Rattle.lexer.proofs.piece.has_one_space.Goals as goal

-- a space before a byte that is no blank is all of the blanks
one_space : (text : Text) → 2 ≤ length text → slice_index text 0 ≡ 32 → is_blank (slice_index text 1) ≡ false → IsFront Blank 1 text × (take 1 text ≡ 32 ∷ [])
one_space [] some first none = absurd (omega (arith, some))
one_space (a ∷ []) some first none = absurd (omega (arith, some))
one_space (a ∷ b ∷ text) some first none = rw first ((rw none at (run_front Blank (32 ∷ b ∷ text) refl)), refl)

is_not : (b : Bool) → not b ≡ true → b ≡ false
is_not true e = absurd (false≢true e)
is_not false e = refl

pub returns-then-first-eq32 : goal.returns-then-first-eq32
returns-then-first-eq32 c passes = one_space c.args.rest.now c.in-len2-up.len_at_least c.if-first-eq32.true (is_not _ (rw c.is_blank.ensures at passes))
