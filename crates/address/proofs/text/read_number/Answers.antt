use Rattle.std.proofs.Common.{◌≡◌, ℕ, ◌+◌, ◌<◌, ◌≤◌, List, [], ◌∷◌, length, get_or, sym, ap, ◌∙◌, arith}
use Rattle.std.proofs.lemmas.Fmt.{decimal_digit}
use Rattle.address.specs.internal.Entries.{ReadsNumber}
use Rattle.address.proofs.public.Numbers.{number-read}
use Rattle.address.proofs.text.read_number.Goals as goal

-- one digit is the text of what it is worth
one-digit : (ds : List ℕ) (n : ℕ) → 1 ≤ length ds → length ds < 2 → get_or ds 0 0 ≡ 48 + n → n < 10 → ReadsNumber ds n
one-digit [] n low high is small = absurd (omega arith)
one-digit (d ∷ []) n low high is small = (omega arith, decimal_digit n small ∙ ap (λ x. x ∷ []) (sym is))
one-digit (d ∷ e ∷ ds) n low high is small = absurd (omega arith)

pub returns-in-48-to-57 : goal.returns-in-48-to-57
returns-in-48-to-57 c =
    one-digit c.args.digits.now c.worth.result (omega arith) (omega arith) c.worth.ensures.digit c.worth.ensures.one

pub returns : goal.returns
returns c =
    number-read c.narrow.result c.args.digits.now c.in_ok-read_number.field-0 c.in_ok-read_number.ensures c.narrow.ensures
