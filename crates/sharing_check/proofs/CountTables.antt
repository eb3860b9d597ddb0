-- What a table of widths says after a change.
use Rattle.std.proofs.Common.{◌≡◌, ℕ, max, List, [], ◌∷◌, Some, unwrap_or, Bool, true, false, cond, ◌==◌, nat_eq, eqb-true, refl, sym, ap, ◌∙◌, arith}
use Rattle.std.proofs.lemmas.Map.{lookup-none}
use Rattle.std.proofs.lemmas.Map.Entries.{none_past_head}
use Rattle.std.specs.Cmp.{nat_eq_equiv}
use Rattle.std.specs.List.{IsDistinct}
use Rattle.std.specs.Map.{keys_of, lookup}
use Rattle.sharing_check.specs.declared.widths.Together.{Together}
use Rattle.sharing_check.specs.declared.widths.Together.TheVariants.{InOneBranch, InBranches}
use Rattle.sharing_check.specs.declared.widths.Width.{Width}
use Rattle.sharing_check.specs.internal.Counting.{Side, senders, receivers, users, Table, cut, nothing, joined, join, no_use, join_widths, of_side, stored, listed, uses}

-- tables that agree everywhere
pub same_table : (f g : Table) → ((side : Side) (c : ℕ) → f side c ≡ g side c) → f ≡ g
same_table f g same = λ i side c. same side c i

-- no uses beside a table
pub join_nothing : (t : Table) → join InOneBranch nothing t ≡ t
unfolding join
join_nothing t = same_table _ _ (λ side c. least (t side c))
  where
    least : (n : ℕ) → max 0 n ≡ n
    least n = omega arith

-- which table goes into which says nothing
pub join_swaps : (how : Together) (f g : Table) → join how f g ≡ join how g f
unfolding join
join_swaps how f g = same_table _ _ (λ side c. swapped how (f side c) (g side c))
  where
    swapped : (how : Together) (a b : ℕ) → joined how a b ≡ joined how b a
    swapped InOneBranch a b = omega arith
    swapped InBranches a b = omega arith

-- a width that was cut changes nothing without another
cut_alone : (how : Together) (n : ℕ) → joined how (cut n) 0 ≡ cut n
cut_alone InOneBranch n = omega arith
cut_alone InBranches n = omega arith

-- each side of widths that are put together
joined_side : (how : Together) (side : Side) (a b : Width) → cut (of_side side (join_widths how a b)) ≡ joined how (cut (of_side side a)) (cut (of_side side b))
joined_side InOneBranch senders a b = omega arith
joined_side InOneBranch receivers a b = omega arith
joined_side InOneBranch users a b = omega arith
joined_side InBranches senders a b = omega arith
joined_side InBranches receivers a b = omega arith
joined_side InBranches users a b = omega arith

-- the channel of an entry and that of a question
turned : (c d : ℕ) (b : Bool) → nat_eq d c ≡ b → (c == d) ≡ b
turned c d b e = nat_eq_equiv.symm c d ∙ e

no_side : (side : Side) → of_side side no_use ≡ 0
no_side senders = refl
no_side receivers = refl
no_side users = refl

no_uses : (side : Side) (b : Bool) → b ≡ false → (n : ℕ) → cut (cond b n 0) ≡ 0
no_uses side b e n = ap (λ b. cut (cond b n 0)) e

-- a use more of channel d
pub listed_more : (old new : List (ℕ × Width)) (how : Together) (d : ℕ) (w : Width)
    → ((c : ℕ) → lookup (nat_eq c) new ≡ cond (nat_eq d c) (Some (join_widths how (stored old d) w)) (lookup (nat_eq c) old))
    → listed new ≡ join how (listed old) (uses d w)
unfolding listed join uses
listed_more old new how d w set = same_table _ _ (λ side c. ap (λ o. cut (of_side side (unwrap_or o no_use))) (set c) ∙ at side c (nat_eq d c) refl)
  where
    at : (side : Side) (c : ℕ) (b : Bool) → nat_eq d c ≡ b
        → cut (of_side side (unwrap_or (cond b (Some (join_widths how (stored old d) w)) (lookup (nat_eq c) old)) no_use))
        ≡ joined how (cut (of_side side (stored old c))) (cut (cond (c == d) (of_side side w) 0))
    at side c true e =
        joined_side how side (stored old d) w
        ∙ (ap (λ k. joined how (cut (of_side side (stored old k))) (cut (of_side side w))) (eqb-true d c e)
        ∙ ap (λ b. joined how (cut (of_side side (stored old c))) (cut (cond b (of_side side w) 0))) (sym (turned c d true e)))
    at side c false e =
        sym
        (ap (joined how (cut (of_side side (stored old c)))) (no_uses side (c == d) (turned c d false e) (of_side side w))
        ∙ cut_alone how (of_side side (stored old c)))

-- no entries
pub listed_none : listed [] ≡ nothing
unfolding listed
listed_none = same_table _ _ (λ side c. ap cut (no_side side))

pub join_none : (how : Together) (es : List (ℕ × Width)) → join how (listed es) (listed []) ≡ listed es
unfolding listed join
join_none how es =
    same_table _ _
    (λ side c. ap (λ n. joined how (cut (of_side side (stored es c))) (cut n)) (no_side side) ∙ cut_alone how (of_side side (stored es c)))

-- an entry put in, and the rest after it
pub join_entry : (how : Together) (es : List (ℕ × Width)) (e : ℕ × Width) (rest : List (ℕ × Width)) → IsDistinct nat_eq (keys_of (e ∷ rest))
    → join how (join how (listed es) (uses e.0 e.1)) (listed rest) ≡ join how (listed es) (listed (e ∷ rest))
unfolding listed join uses
join_entry how es e rest apart = same_table _ _ (λ side c. at side c (c == e.0) refl)
  where
    at : (side : Side) (c : ℕ) (b : Bool) → (c == e.0) ≡ b
        → joined how (joined how (cut (of_side side (stored es c))) (cut (cond (c == e.0) (of_side side e.1) 0))) (cut (of_side side (stored rest c)))
        ≡ joined how (cut (of_side side (stored es c))) (cut (of_side side (unwrap_or (cond (c == e.0) (Some e.1) (lookup (nat_eq c) rest)) no_use)))
    at side c true is =
        let none : cut (of_side side (stored rest c)) ≡ 0 =
        ap (λ o. cut (of_side side (unwrap_or o no_use))) (lookup-none (nat_eq c) rest (none_past_head nat_eq_equiv c e rest apart is)) ∙ ap cut (no_side side) in
        rw is (here how _ _ _ none)
      where
        here : (how : Together) (a b n : ℕ) → n ≡ 0 → joined how (joined how (cut a) (cut b)) n ≡ joined how (cut a) (cut b)
        here InOneBranch a b n e = omega arith
        here InBranches a b n e = omega arith
    at side c false is = rw is (ap (λ n. joined how n (cut (of_side side (stored rest c)))) (cut_alone how (of_side side (stored es c))))
