-- What is found of a construct: it is right, with what it becomes, or it has faults, those of the construct itself only
-- where its parts have none. Of all faults one is answered.
use Rattle.std.specs.Prelude.{◌≡◌, List, [], ◌∷◌, ◌++◌, Result, Ok, Err}
use Rattle.types.specs.Refusal.{lesser}
use Rattle.refusals.specs.declared.types.Fault.{Fault}
use Rattle.syntax.specs.Lists.{In, Every}

-- what one thing owes alone: it is right, or has a fault
abbrev pub Verdict : Type 0 → Type 0
Verdict A = Result A Fault

-- A way to keep faults. What a construct is reads the same for any way; `every` keeps them all.
pub record Keeping : Type 1 where
  pub Faults : Type 0
  -- those of one thing alone
  pub alone : {A : Type 0} → Verdict A → Result A Faults
  -- those of two parts
  pub together : Faults → Faults → Faults

abbrev pub Findings : Keeping → Type 0 → Type 0
Findings k A = Result A k.Faults

-- ---- constructs

-- a construct of one part
abbrev pub becomes : {A B E : Type 0} → (A → B) → Result A E → Result B E
becomes f (Ok a) = Ok (f a)
becomes f (Err faults) = Err faults

-- what is asked of a construct only where its parts are right
abbrev pub if_right : {A B E : Type 0} → Result A E → (A → Result B E) → Result B E
if_right (Ok a) next = next a
if_right (Err faults) next = Err faults

module _ (k : Keeping) where
  -- two parts: the faults of both
  abbrev pub both : {A B : Type 0} → Findings k A → Findings k B → Findings k (A × B)
  both (Ok a) (Ok b) = Ok (a, b)
  both (Ok a) (Err faults) = Err faults
  both (Err faults) (Ok b) = Err faults
  both (Err faults) (Err others) = Err (k.together faults others)

  -- two demands
  abbrev pub and : Findings k (Unit {0}) → Findings k (Unit {0}) → Findings k (Unit {0})
  and a b = becomes (λ _. tt) (both a b)

  -- one more part behind others
  abbrev pub with_next : {A : Type 0} → Findings k (List A) → Findings k A → Findings k (List A)
  with_next list next = becomes (λ p. p.0 ++ p.1 ∷ []) (both list next)

  -- more parts behind others
  abbrev pub with_all : {A : Type 0} → Findings k (List A) → List (Findings k A) → Findings k (List A)
  with_all list [] = list
  with_all list (next ∷ rest) = with_all (with_next list next) rest

  -- a construct of any number of parts
  abbrev pub all : {A : Type 0} → List (Findings k A) → Findings k (List A)
  all parts = with_all (Ok []) parts

  -- more demands beside others
  abbrev pub and_all : Findings k (Unit {0}) → List (Verdict (Unit {0})) → Findings k (Unit {0})
  and_all first [] = first
  and_all first (next ∷ rest) = and_all (and first (k.alone next)) rest

  -- any number of demands
  abbrev pub demands : List (Verdict (Unit {0})) → Findings k (Unit {0})
  demands verdicts = and_all (Ok tt) verdicts

-- ---- all faults, and the one that is answered

-- faults, at least one
pub record Faults : Type 0 where
  pub first : Fault
  pub others : List Fault

abbrev pub listed : Faults → List Fault
listed fs = fs.first ∷ fs.others

-- a verdict, of which the fault, if it has one, is the only one
abbrev pub one_fault : {A : Type 0} → Verdict A → Result A Faults
one_fault (Ok a) = Ok a
one_fault (Err fault) = Err (record { first = fault; others = [] })

-- all faults are kept
abbrev pub every : Keeping
every = record {
  Faults = Faults;
  alone = one_fault;
  together = λ fs gs. record { first = fs.first; others = fs.others ++ gs.first ∷ gs.others };
}

-- the fault is one of those found, and of all of them it is answered: that of the least offset, at one offset of the
-- least number
abbrev pub IsRefused : {A : Type 0} → Findings every A → Fault → Type 0
IsRefused (Ok a) fault = ⊥
IsRefused (Err faults) fault = In fault (listed faults) × Every (λ other. lesser fault other ≡ fault) (listed faults)
