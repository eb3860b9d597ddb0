-- Places that are the same from an entry on.
use Rattle.std.proofs.Common.{◌≡◌, ℕ, suc, ◌<◌, ◌≤◌, List, ◌∷◌, length, drop, get_or, sym, ◌∙◌, ap, arith, drop-cons, drop_of_length-le}
use Rattle.address.specs.declared.Entry.{Entry}

-- behind the last there is none
pub same-behind : (xs ys : List Entry) (i : ℕ) → length xs ≤ i → length xs ≡ length ys → drop i xs ≡ drop i ys
same-behind xs ys i all size =
    let other : length ys ≤ i = omega arith in
    drop_of_length-le xs {i = i} all ∙ sym (drop_of_length-le ys {i = i} other)

-- an entry more is the same
pub same-more : (xs ys : List Entry) (i j : ℕ) (d : Entry) → j ≡ suc i → j ≤ length xs → length xs ≡ length ys → get_or xs i d ≡ get_or ys i d → drop j xs ≡ drop j ys →
    drop i xs ≡ drop i ys
same-more xs ys i j d next within size same behind =
    let less : i < length xs = omega arith in
    let less_too : i < length ys = omega arith in
    drop-cons xs i d less ∙ ap (λ (z : Entry). z ∷ drop (suc i) xs) same
    ∙ ap (λ (k : List Entry). get_or ys i d ∷ k) (ap (λ (n : ℕ). drop n xs) (sym next) ∙ behind ∙ ap (λ (n : ℕ). drop n ys) next)
    ∙ sym (drop-cons ys i d less_too)
