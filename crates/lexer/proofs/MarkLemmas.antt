-- Texts that begin with a mark, as `--`.
use Rattle.std.proofs.Common.{◌≡◌, ◌≢◌, ℕ, ◌-◌, ◌≤◌, ◌<◌, Bool, true, false, [], ◌∷◌, ◌++◌, length, take, drop, refl, ap, sym, ◌∙◌, arith}
use Rattle.std.specs.Prelude.{nat_eq, slice_index}
use Rattle.std.specs.List.{starts_with}
use Rattle.std.proofs.lemmas.Bool.{false≢true, and_parts, and_from, and_left, eqb-true, false_from_ne_true, ne_eqb}
use Rattle.std.proofs.lemmas.List.{length-take, take_rest}
use Rattle.syntax.specs.Texts.{Text}

-- a mark is no front of a shorter text
pub mark_fits : (mark text : Text) → starts_with nat_eq text mark ≡ true → length mark ≤ length text
mark_fits [] text e = omega arith
mark_fits (m ∷ mark) [] e = absurd (false≢true e)
mark_fits (m ∷ mark) (b ∷ text) e = let rest : length mark ≤ length text = mark_fits mark text (and_parts (nat_eq m b) (starts_with nat_eq text mark) e).1 in omega (arith, rest)

-- a text that begins with a mark does so whatever follows
pub mark_extends : (mark text more : Text) → starts_with nat_eq text mark ≡ true → starts_with nat_eq (text ++ more) mark ≡ true
mark_extends [] text more e = refl
mark_extends (m ∷ mark) [] more e = absurd (false≢true e)
mark_extends (m ∷ mark) (b ∷ text) more e =
    and_from _ _ (and_parts _ _ e).0 (mark_extends mark text more (and_parts _ _ e).1)

-- the first byte is the mark's
pub mark_first : (m : ℕ) (mark text : Text) → starts_with nat_eq text (m ∷ mark) ≡ true → slice_index text 0 ≡ m
mark_first m mark [] e = absurd (false≢true e)
mark_first m mark (b ∷ text) e = sym (eqb-true m b (and_parts _ _ e).0)

-- a text that begins with another byte does not begin with the mark
pub other_mark : (m : ℕ) (mark text : Text) → slice_index text 0 ≢ m → starts_with nat_eq text (m ∷ mark) ≡ false
other_mark m mark [] other = refl
other_mark m mark (b ∷ text) other = and_left _ _ (ne_eqb m b (λ e. other (sym e)))

-- a front that is shorter than the mark does not begin with it
pub short_of_mark : (mark text : Text) (n : ℕ) → n < length mark → starts_with nat_eq (take n text) mark ≡ false
short_of_mark mark text n short = false_from_ne_true _ (λ e. absurd (omega (arith, mark_fits mark (take n text) e, length-take n text)))

-- what `starts_with` answers of the rest of a text, as it is sliced
pub mark_at : (mark text : Text) (at : ℕ) (answer is : Bool) → answer ≡ starts_with nat_eq (take (length text - at) (drop at text)) mark → answer ≡ is → starts_with nat_eq (drop at text) mark ≡ is
mark_at mark text at answer is told so = ap (λ part. starts_with nat_eq part mark) (sym (take_rest text at)) ∙ sym told ∙ so
