-- Where two places of a tree of sequences and parallels first differ, and what that says of their order.
use Rattle.std.specs.Prelude.{ℕ, ◌≡◌, ◌≢◌, ◌<◌, ◌⊎◌, List, [], ◌∷◌, ◌++◌}
use Rattle.address.specs.declared.Entry.{Entry}
use Rattle.address.specs.declared.Entry.TheVariants.{Ordered, Branch}

-- at the first place at which they differ both entries are ordered, and the first one's number is less
abbrev pub Before : List Entry → List Entry → Type 0
Before (Ordered i ∷ a) (Ordered j ∷ b) = (i < j) ⊎ ((i ≡ j) × Before a b)
Before (Branch i ∷ a) (Branch j ∷ b) = (i ≡ j) × Before a b
Before [] _ = ⊥
Before (_ ∷ _) [] = ⊥
Before (Ordered _ ∷ _) (Branch _ ∷ _) = ⊥
Before (Branch _ ∷ _) (Ordered _ ∷ _) = ⊥

-- at the first place at which they differ both entries are branch numbers
abbrev pub Apart : List Entry → List Entry → Type 0
Apart (Ordered i ∷ a) (Ordered j ∷ b) = (i ≡ j) × Apart a b
Apart (Branch i ∷ a) (Branch j ∷ b) = (i ≢ j) ⊎ ((i ≡ j) × Apart a b)
Apart [] _ = ⊥
Apart (_ ∷ _) [] = ⊥
Apart (Ordered _ ∷ _) (Branch _ ∷ _) = ⊥
Apart (Branch _ ∷ _) (Ordered _ ∷ _) = ⊥

-- two addresses with one beginning, after which both have an ordered entry, that of `a` with the lesser number
pub record OrderedFork (a b : List Entry) : Type 0 where
  pub common : List Entry
  pub one : ℕ
  pub other : ℕ
  pub one_rest : List Entry
  pub other_rest : List Entry
  pub one_is : a ≡ common ++ Ordered one ∷ one_rest
  pub other_is : b ≡ common ++ Ordered other ∷ other_rest
  pub less : one < other

-- two addresses with one beginning, after which both have a branch number, and not the same
pub record BranchFork (a b : List Entry) : Type 0 where
  pub common : List Entry
  pub one : ℕ
  pub other : ℕ
  pub one_rest : List Entry
  pub other_rest : List Entry
  pub one_is : a ≡ common ++ Branch one ∷ one_rest
  pub other_is : b ≡ common ++ Branch other ∷ other_rest
  pub differ : one ≢ other
