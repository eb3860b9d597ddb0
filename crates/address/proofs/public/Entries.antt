-- What the derived `==` and `cmp` of entries answer.
use Rattle.std.proofs.Common.{◌≡◌, List, [], ◌∷◌, refl, ap, sym, ◌∙◌}
use Rattle.std.specs.Bool.{Decides}
use Rattle.std.specs.Cmp.Lexicographic.{slice_cmp}
use Rattle.std.specs.Ordering.{ordering_then}
use Rattle.std.proofs.lemmas.Bool.Decides.{Decides-eqb}
use Rattle.address.specs.declared.Entry.{Entry}
use Rattle.address.specs.declared.Entry.TheVariants.{Ordered, Branch}
use Rattle.address.specs.contracts.EntryPartialEq.TheImpl.{eq-value}
use Rattle.address.specs.contracts.EntryOrd.TheImpl.{cmp-value}
use Rattle.address.specs.Order.{entry_order, order_of}
use Rattle.address.proofs.public.Places.{ordered-injective, branch-injective, ordered-not-branch}

-- `==` is true exactly at equal entries
pub entry_eq-Decides : (x y : Entry) → Decides (eq-value.it x y) (x ≡ y)
entry_eq-Decides (Ordered i) (Ordered j) =
    (λ h. ap Ordered ((Decides-eqb i j).0 h), λ e. (Decides-eqb i j).1 (ordered-injective i j e))
entry_eq-Decides (Branch i) (Branch j) =
    (λ h. ap Branch ((Decides-eqb i j).0 h), λ e. (Decides-eqb i j).1 (branch-injective i j e))
entry_eq-Decides (Ordered i) (Branch j) = (λ h. cc, λ e. absurd (ordered-not-branch i j e))
entry_eq-Decides (Branch i) (Ordered j) = (λ h. cc, λ e. absurd (ordered-not-branch j i (sym e)))

-- `cmp` puts each ordered number before each branch
entry_cmp-is : (x y : Entry) → cmp-value.it x y ≡ entry_order x y
entry_cmp-is (Ordered i) (Ordered j) = refl
entry_cmp-is (Branch i) (Branch j) = refl
entry_cmp-is (Ordered i) (Branch j) = refl
entry_cmp-is (Branch i) (Ordered j) = refl

-- `cmp` of two lists goes entry by entry
pub entries_cmp-is : (a b : List Entry) → slice_cmp cmp-value.it a b ≡ order_of a b
entries_cmp-is [] [] = refl
entries_cmp-is [] (y ∷ b) = refl
entries_cmp-is (x ∷ a) [] = refl
entries_cmp-is (x ∷ a) (y ∷ b) =
    ap (λ o. ordering_then o (slice_cmp cmp-value.it a b)) (entry_cmp-is x y)
    ∙ ap (λ o. ordering_then (entry_order x y) o) (entries_cmp-is a b)
