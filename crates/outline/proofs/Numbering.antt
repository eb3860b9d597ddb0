-- The number of an entry is that of its branch.
use Rattle.std.proofs.Common.{◌≡◌, inl, inr, ℕ, zero, suc, ◌+◌, ◌-◌, ◌==◌, ◌<◌, ◌≤◌, if◌then◌else◌, List, [], ◌∷◌, ◌++◌, Bool, true, false, length, Option, Some, None, refl, sym, ◌∙◌, ap, subst, slice_get, arith, length-append}
use Rattle.std.specs.Prelude.{nat_lt, nat_le}
use Rattle.std.proofs.lemmas.Bool.{eqb-true, cases_lt}
use Rattle.std.proofs.lemmas.Bool.Decides.{nat_tests}
use Rattle.address.specs.declared.Entry.{Entry}
use Rattle.address.specs.declared.Entry.TheVariants.{Ordered, Branch}
use Rattle.system.specs.Named.{as_number}
use Rattle.system.specs.declared.command.Command.{Command}
use Rattle.system.specs.declared.system.System.{System}
use Rattle.system.specs.declared.system.Branch as outside
use Rattle.system_places.specs.SystemBranches as places
use Rattle.system_places.specs.SystemBranches.{parallel_of, count_of, child_number, branch_within, branch_of_port, branch_at}
use Rattle.outline.specs.Branches.{of_body, of_child, of_children, of_port, of_ports, of_main, branches_of, Under, BranchesByNumber}
use Rattle.outline.specs.declared.branches.BranchEntry.{BranchEntry}

-- ---- options and lists
abbrev value-or : {X : Type 0} → X → Option X → X
value-or x None = x
value-or x (Some z) = z

some-is : {X : Type 0} (x y : X) → Some x ≡ Some y → x ≡ y
some-is x y h = ap (value-or x) h

no-some : {X : Type 0} {P : Type 0} (x : X) → None ≡ Some x → P
no-some x h = cc

if-some : (b : Bool) (o : Option ℕ) (k : ℕ) → (if b then o else None) ≡ Some k → (b ≡ true) × (o ≡ Some k)
if-some true o k h = (refl, h)
if-some false o k h = cc

then-is : (b : Bool) (o : Option ℕ) → b ≡ true → (if b then o else None) ≡ o
then-is true o h = refl
then-is false o h = cc

at-left : (xs ys : List BranchEntry) (i : ℕ) → i < length xs → slice_get (xs ++ ys) i ≡ slice_get xs i
at-left [] ys i h = absurd (omega arith)
at-left (x ∷ xs) ys zero h = refl
at-left (x ∷ xs) ys (suc i) h = let less : i < length xs = omega arith in at-left xs ys i less

at-right : (xs ys : List BranchEntry) (i j : ℕ) → j ≡ length xs + i → slice_get (xs ++ ys) j ≡ slice_get ys i
at-right [] ys i j h = let is : j ≡ i = omega arith in ap (slice_get ys) is
at-right (x ∷ xs) ys i zero h = absurd (omega arith)
at-right (x ∷ xs) ys i (suc j) h = let is : j ≡ length xs + i = omega arith in at-right xs ys i j is

at-length : (xs : List BranchEntry) (i : ℕ) (x : BranchEntry) → slice_get xs i ≡ Some x → i < length xs
at-length [] i x h = no-some x h
at-length (y ∷ xs) zero x h = omega arith
at-length (y ∷ xs) (suc i) x h = let rest = at-length xs i x h in omega arith

-- ---- an entry of this number, at this place
pub record Stands (es : List BranchEntry) (i n : ℕ) (p : List Entry) : Type 0 where
  pub entry : BranchEntry
  pub stands : slice_get es i ≡ Some entry
  pub number : entry.number ≡ n
  pub place : entry.place ≡ p

child-stands : (cs : List Command) (n i : ℕ) → i < length cs → Stands (of_children n cs) i (n + i) (Branch 0 ∷ Branch (n + i) ∷ [])
child-stands [] n i h = absurd (omega arith)
child-stands (c ∷ cs) n zero h =
    let is : n ≡ n + 0 = omega arith in
    record { entry = of_child n c; stands = refl; number = is; place = ap (λ (m : ℕ). Branch 0 ∷ Branch m ∷ []) is }
child-stands (c ∷ cs) n (suc i) h =
    let less : i < length cs = omega arith in
    let is : (n + 1) + i ≡ n + suc i = omega arith in
    let rest = child-stands cs (n + 1) i less in
    record {
      entry = rest.entry;
      stands = rest.stands;
      number = rest.number ∙ is;
      place = rest.place ∙ ap (λ (m : ℕ). Branch 0 ∷ Branch m ∷ []) is;
    }

children-count : (cs : List Command) (n : ℕ) → length (of_children n cs) ≡ length cs
children-count [] n = refl
children-count (c ∷ cs) n = ap suc (children-count cs (n + 1))

port-stands : (bs : List outside.Branch) (n k i : ℕ) → i < length bs → Stands (of_ports n k bs) i (n + i) (Branch (k + i) ∷ [])
port-stands [] n k i h = absurd (omega arith)
port-stands (b ∷ bs) n k zero h =
    let is : n ≡ n + 0 = omega arith in
    let at : k ≡ k + 0 = omega arith in
    record { entry = of_port n k b; stands = refl; number = is; place = ap (λ (m : ℕ). Branch m ∷ []) at }
port-stands (b ∷ bs) n k (suc i) h =
    let less : i < length bs = omega arith in
    let is : (n + 1) + i ≡ n + suc i = omega arith in
    let at : (k + 1) + i ≡ k + suc i = omega arith in
    let rest = port-stands bs (n + 1) (k + 1) i less in
    record {
      entry = rest.entry;
      stands = rest.stands;
      number = rest.number ∙ is;
      place = rest.place ∙ ap (λ (m : ℕ). Branch m ∷ []) at;
    }

ports-count : (bs : List outside.Branch) (n k : ℕ) → length (of_ports n k bs) ≡ length bs
ports-count [] n k = refl
ports-count (b ∷ bs) n k = ap suc (ports-count bs (n + 1) (k + 1))

-- what stands at one index
one-entry : (es : List BranchEntry) (i : ℕ) (x y : BranchEntry) → slice_get es i ≡ Some x → slice_get es i ≡ Some y → x ≡ y
one-entry es i x y h k = some-is x y (sym h ∙ k)

-- ---- the body's entries, and then those of the ports
main-count : (body : Command) (p : Option (List Command)) → length (of_main body p) ≡ count_of p
main-count body None = refl
main-count body (Some children) = children-count children 0

-- the place of branch i of the body
abbrev main-place : Option (List Command) → ℕ → List Entry
main-place None i = Branch 0 ∷ []
main-place (Some children) i = Branch 0 ∷ Branch i ∷ []

main-stands : (body : Command) (p : Option (List Command)) (i : ℕ) → i < count_of p → Stands (of_main body p) i i (main-place p i)
main-stands body None zero h = record { entry = of_body body; stands = refl; number = refl; place = refl }
main-stands body None (suc i) h = absurd (omega arith)
main-stands body (Some children) i h =
    let is : 0 + i ≡ i = omega arith in
    subst (λ (n : ℕ). Stands (of_children 0 children) i n (Branch 0 ∷ Branch n ∷ [])) is (child-stands children 0 i h)

-- how many branches the body has
abbrev mains : System → ℕ
mains system = count_of (parallel_of system.main)

-- the entry of this number has the place
abbrev Has : System → List Entry → ℕ → Type 0
Has system a k = (e : BranchEntry) × (slice_get (branches_of system) k ≡ Some e) × Under e.place a

module _ (system : System) where
  body-stands : (i : ℕ) → i < mains system → Stands (branches_of system) i i (main-place (parallel_of system.main) i)
  body-stands i h =
      let count : length (of_main system.main (parallel_of system.main)) ≡ mains system = main-count system.main (parallel_of system.main) in
      let less : i < length (of_main system.main (parallel_of system.main)) = omega arith in
      let here = main-stands system.main (parallel_of system.main) i h in
      record { entry = here.entry; stands = at-left _ _ i less ∙ here.stands; number = here.number; place = here.place }

  outer-stands : (j : ℕ) → j < length system.environment → Stands (branches_of system) (mains system + j) (mains system + j) (Branch (1 + j) ∷ [])
  outer-stands j h =
      let main = of_main system.main (parallel_of system.main) in
      let count : length main ≡ mains system = main-count system.main (parallel_of system.main) in
      let ports = of_ports (length main) 1 system.environment in
      let here = port-stands system.environment (length main) 1 j h in
      subst (λ (k : ℕ). Stands (branches_of system) (k + j) (k + j) (Branch (1 + j) ∷ [])) count
      (record { entry = here.entry; stands = at-right main ports j (length main + j) refl ∙ here.stands; number = here.number; place = here.place })

  all-count : length (branches_of system) ≡ mains system + length system.environment
  all-count =
      let main = of_main system.main (parallel_of system.main) in
      let first : length main ≡ mains system = main-count system.main (parallel_of system.main) in
      let second : length (of_ports (length main) 1 system.environment) ≡ length system.environment = ports-count system.environment (length main) 1 in
      length-append main (of_ports (length main) 1 system.environment)
      ∙ (let both : length main + length (of_ports (length main) 1 system.environment) ≡ mains system + length system.environment = omega arith in both)

  -- ---- the branch of a place is that of an entry
  child-found : (p : Option (List Command)) (way : List Entry) (k : ℕ) → branch_within p way ≡ Some k → (k < count_of p) × Under (main-place p k) (Branch 0 ∷ way)
  child-found None way k h = let is : 0 ≡ k = some-is 0 k h in (omega arith, (way, refl))
  child-found (Some children) [] k h = no-some k h
  child-found (Some children) (Ordered n ∷ way) k h = no-some k h
  child-found (Some children) (Branch n ∷ way) k h =
      let parts = if-some (nat_lt n (length children)) (Some n) k h in
      let on : nat_lt n (length children) ≡ true = parts.0 in
      let less : n < length children = grind (arith, nat_tests) in
      let is : n ≡ k = some-is n k parts.1 in
      (subst (λ (j : ℕ). j < length children) is less, (way, ap (λ (j : ℕ). Branch 0 ∷ Branch j ∷ way) is))

  port-found : (n k : ℕ) → (n ≡ 0 → ⊥) → branch_of_port system n ≡ Some k → (n - 1 < length system.environment) × (mains system + (n - 1) ≡ k)
  port-found n k other h =
      let parts = if-some (nat_le n (length system.environment)) (as_number (places.branches_of system.main + (n - 1))) k h in
      let on : nat_le n (length system.environment) ≡ true = parts.0 in
      let less : n ≤ length system.environment = grind (arith, nat_tests) in
      let inner = if-some (nat_le (places.branches_of system.main + (n - 1)) 4294967295) (Some (places.branches_of system.main + (n - 1))) k parts.1 in
      let is : places.branches_of system.main + (n - 1) ≡ k = some-is _ k inner.1 in
      (omega arith, is)

  found : (a : List Entry) (k : ℕ) → branch_at system a ≡ Some k → Has system a k
  found [] k h = no-some k h
  found (Ordered n ∷ rest) k h = no-some k h
  found (Branch n ∷ rest) k h = pick (n == 0) refl h
    where
      pick : (b : Bool) → (n == 0) ≡ b → (if b then branch_within (parallel_of system.main) rest else branch_of_port system n) ≡ Some k → Has system (Branch n ∷ rest) k
      pick true is h =
          let inside = child-found (parallel_of system.main) rest k h in
          let here = body-stands k inside.0 in
          let zero_is : n ≡ 0 = eqb-true n 0 is in
          let under : Under here.entry.place (Branch 0 ∷ rest) = subst (λ (p : List Entry). Under p (Branch 0 ∷ rest)) (sym here.place) inside.1 in
          (here.entry, here.stands, subst (λ (i : ℕ). Under here.entry.place (Branch i ∷ rest)) (sym zero_is) under)
      pick false is h =
          let other : n ≡ 0 → ⊥ = λ (zero_is : n ≡ 0). let off : (n == 0) ≡ true = grind (arith, nat_tests) in cc in
          let at = port-found n k other h in
          let here = outer-stands (n - 1) at.0 in
          let one : 1 + (n - 1) ≡ n = omega (arith, other) in
          let under : Under here.entry.place (Branch n ∷ rest) =
          subst (λ (p : List Entry). Under p (Branch n ∷ rest)) (sym here.place) (rest, ap (λ (i : ℕ). Branch i ∷ rest) (sym one)) in
          (here.entry, subst (λ (i : ℕ). slice_get (branches_of system) i ≡ Some here.entry) at.1 here.stands, under)

  within-body : (p : Option (List Command)) (k : ℕ) (rest : List Entry) → k < count_of p → (a : List Entry) → a ≡ main-place p k ++ rest →
      (way : List Entry) × (a ≡ Branch 0 ∷ way) × (branch_within p way ≡ Some k)
  within-body None k rest h a is = let zero_is : 0 ≡ k = omega arith in (rest, is, ap (λ (i : ℕ). Some i) zero_is)
  within-body (Some children) k rest h a is =
      let on : nat_lt k (length children) ≡ true = grind (arith, nat_tests) in
      (Branch k ∷ rest, is, then-is (nat_lt k (length children)) (Some k) on)

  has : (a : List Entry) (k : ℕ) → length (branches_of system) ≤ 4294967296 → Has system a k → branch_at system a ≡ Some k
  has a k small h = elim (cases_lt k (mains system)) [
    | inl less ↦
        let here = body-stands k less in
        let same : h.0 ≡ here.entry = one-entry (branches_of system) k h.0 here.entry h.1 here.stands in
        let at : a ≡ main-place (parallel_of system.main) k ++ h.2.0 =
        h.2.1 ∙ ap (λ (p : List Entry). p ++ h.2.0) (ap (λ (e : BranchEntry). e.place) same ∙ here.place) in
        let way = within-body (parallel_of system.main) k h.2.0 less a at in
        ap (branch_at system) way.1 ∙ way.2
    | inr past ↦
        let count = all-count in
        let bound : k < length (branches_of system) = at-length (branches_of system) k h.0 h.1 in
        let j : ℕ = k - mains system in
        let is : mains system + j ≡ k = omega arith in
        let less : j < length system.environment = omega arith in
        let here = outer-stands j less in
        let there : slice_get (branches_of system) k ≡ Some here.entry = subst (λ (i : ℕ). slice_get (branches_of system) i ≡ Some here.entry) is here.stands in
        let same : h.0 ≡ here.entry = one-entry (branches_of system) k h.0 here.entry h.1 there in
        let at : a ≡ Branch (1 + j) ∷ h.2.0 = h.2.1 ∙ ap (λ (p : List Entry). p ++ h.2.0) (ap (λ (e : BranchEntry). e.place) same ∙ here.place) in
        ap (branch_at system) at ∙ port-branch j k h.2.0 less is (omega arith)
  ]
    where
      port-branch : (j k : ℕ) (rest : List Entry) → j < length system.environment → mains system + j ≡ k → k ≤ 4294967295 → branch_at system (Branch (1 + j) ∷ rest) ≡ Some k
      port-branch j k rest less is small = pick ((1 + j) == 0) refl
        where
          pick : (b : Bool) → ((1 + j) == 0) ≡ b → (if b then branch_within (parallel_of system.main) rest else branch_of_port system (1 + j)) ≡ Some k
          pick true zero_is = let no : 1 + j ≡ 0 = eqb-true (1 + j) 0 zero_is in absurd (omega arith)
          pick false other =
              let on : nat_le (1 + j) (length system.environment) ≡ true = grind (arith, nat_tests) in
              let number : places.branches_of system.main + ((1 + j) - 1) ≡ k = omega (arith, is) in
              let fits : nat_le (places.branches_of system.main + ((1 + j) - 1)) 4294967295 ≡ true = grind (arith, nat_tests) in
              then-is (nat_le (1 + j) (length system.environment)) (as_number (places.branches_of system.main + ((1 + j) - 1))) on
              ∙ then-is (nat_le (places.branches_of system.main + ((1 + j) - 1)) 4294967295) (Some (places.branches_of system.main + ((1 + j) - 1))) fits
              ∙ ap (λ (i : ℕ). Some i) number

  in-order : (i : ℕ) (e : BranchEntry) → slice_get (branches_of system) i ≡ Some e → e.number ≡ i
  in-order i e h = elim (cases_lt i (mains system)) [
    | inl less ↦
        let here = body-stands i less in
        ap (λ (x : BranchEntry). x.number) (one-entry (branches_of system) i e here.entry h here.stands) ∙ here.number
    | inr past ↦
        let count = all-count in
        let bound : i < length (branches_of system) = at-length (branches_of system) i e h in
        let j : ℕ = i - mains system in
        let is : mains system + j ≡ i = omega arith in
        let less : j < length system.environment = omega arith in
        let here = outer-stands j less in
        let there : slice_get (branches_of system) i ≡ Some here.entry = subst (λ (k : ℕ). slice_get (branches_of system) k ≡ Some here.entry) is here.stands in
        ap (λ (x : BranchEntry). x.number) (one-entry (branches_of system) i e here.entry h there) ∙ here.number ∙ is
  ]

pub branches-by-number : BranchesByNumber
branches-by-number system small = record {
  in_order = in-order system;
  exactly = λ a k. (found system a k, has system a k small);
}
