-- The branches that are awake come in turn.
use Rattle.std.proofs.Common.{◌≡◌, inl, inr, ℕ, zero, suc, ◌+◌, ◌-◌, ◌<◌, ◌≤◌, arith, true, false, List, Option, Some, None, refl, sym, ap, ◌∙◌, subst}
use Rattle.std.specs.Prelude.{nat_lt}
use Rattle.std.proofs.lemmas.Bool.{cases_lt}
use Rattle.std.proofs.lemmas.Bool.Decides.{nat_tests}
use Rattle.system_places.specs.SystemBranches.{branch_count}
use Rattle.locked_execution.specs.declared.command.Command.{Command}
use Rattle.locked_execution.specs.declared.command.Reply.{Reply}
use Rattle.shell_desk.specs.AtBench.{AtBench}
use Rattle.idle_branches.specs.declared.ends.Ends.{Ends}
use Rattle.shell_desk.specs.Does.{Asked, first_of, is_busy, next_of}
use Rattle.shell_desk.specs.internal.Sleeping.{AllSleep, AsksBetween, AwakeInTurn, IsAsleep, SleepsBehind, round}
use Rattle.shell_desk.proofs.DeedLemmas.{by-false, by-true}
use Rattle.shell_desk.proofs.TidyLemmas.{if-false, if-true}

-- a branch before the last is the one behind the one before it
round-in : (count n : ℕ) → n < count → round count n ≡ n
round-in count n less =
    let is : nat_lt n count ≡ true = grind (arith, nat_tests) in if-true (nat_lt n count) n 0 is

-- behind the last comes the first
round-out : (count n : ℕ) → count ≤ n → round count n ≡ 0
round-out count n past =
    let is : nat_lt n count ≡ false = grind (arith, nat_tests) in if-false (nat_lt n count) n 0 is

zero-round : (count : ℕ) → round count 0 ≡ 0
zero-round count = elim (cases_lt 0 count) [
  | inl some ↦ round-in count 0 some
  | inr none ↦ round-out count 0 none
]

-- the one behind a branch is one of them, or 0
next-round : (count k : ℕ) → round count (next_of count k) ≡ next_of count k
next-round count k = elim (cases_lt (k + 1) count) [
  | inl less ↦
      let is : next_of count k ≡ k + 1 = round-in count (k + 1) less in
      ap (round count) is ∙ (round-in count (k + 1) less ∙ sym is)
  | inr past ↦
      let is : next_of count k ≡ 0 = round-out count (k + 1) past in
      ap (round count) is ∙ (zero-round count ∙ sym is)
]

-- the first is one of them, or 0
first-round : (count : ℕ) (last : Option ℕ) → round count (first_of count last) ≡ first_of count last
first-round count None = zero-round count
first-round count (Some k) = next-round count k

is-round : (b : AtBench) (count first : ℕ) → first ≡ first_of count b.turn → round count first ≡ first
is-round b count first q = ap (round count) q ∙ (first-round count b.turn ∙ sym q)

module _ (ends : Ends) where
  -- each branch that is awake once, from the one behind that which was stepped last
  abbrev pub AwakeTurn : AtBench → List ℕ → Reply → AtBench → List ℕ → Type 0
  AwakeTurn b asleep reply b' asleep' =
      let count = branch_count b.desk.machine.checked in
      AwakeInTurn ends count b asleep count (first_of count b.turn) reply b' asleep'

  -- a turn with so many left from this branch
  abbrev Left : ℕ → AtBench → List ℕ → ℕ → ℕ → Reply → AtBench → List ℕ → Type 0
  Left count b asleep left n reply b' asleep' = AwakeInTurn ends count b asleep left (round count n) reply b' asleep'

  -- those that sleep are passed over
  pass-all : (count : ℕ) (b : AtBench) (asleep : List ℕ) (from d rest : ℕ) (reply : Reply) (b' : AtBench) (asleep' : List ℕ)
      → from + d ≤ count → ((i : ℕ) → from ≤ i → i < from + d → IsAsleep asleep i)
      → Left count b asleep rest (from + d) reply b' asleep' → Left count b asleep (rest + d) from reply b' asleep'
  pass-all count b asleep from zero rest reply b' asleep' inside sleep h =
      let left : rest + 0 ≡ rest = omega arith in
      let here : from + 0 ≡ from = omega arith in
      subst (λ (n : ℕ). Left count b asleep n from reply b' asleep') (sym left)
      (subst (λ (n : ℕ). Left count b asleep rest n reply b' asleep') here h)
  pass-all count b asleep from (suc d) rest reply b' asleep' inside sleep h =
      let left : rest + suc d ≡ suc (rest + d) = omega arith in
      let less : from < count = omega arith in
      let next : from + suc d ≡ from + 1 + d = omega arith in
      let later : from + 1 + d ≤ count = omega arith in
      let first : from < from + suc d = omega arith in
      let same : from ≤ from = omega arith in
      subst (λ (n : ℕ). Left count b asleep n from reply b' asleep') (sym left)
      (subst (λ (k : ℕ). AwakeInTurn ends count b asleep (suc (rest + d)) k reply b' asleep') (sym (round-in count from less))
      (inl (
        sleep from same first,
        pass-all count b asleep (from + 1) d rest reply b' asleep' later
            (λ i low high. sleep i (omega arith) (omega arith))
            (subst (λ (n : ℕ). Left count b asleep rest n reply b' asleep') next h),
      )))

  -- the same up to a branch
  pass-to : (count : ℕ) (b : AtBench) (asleep : List ℕ) (from next to rest : ℕ) (reply : Reply) (b' : AtBench) (asleep' : List ℕ)
      → from ≤ next → next ≤ to → to ≤ count → AllSleep asleep from next
      → Left count b asleep (rest + (to - next)) next reply b' asleep'
      → Left count b asleep (rest + (to - from)) from reply b' asleep'
  pass-to count b asleep from next to rest reply b' asleep' low high inside sleep h =
      let there : from + (next - from) ≡ next = omega arith in
      let within : from + (next - from) ≤ count = omega arith in
      let sum : (rest + (to - next)) + (next - from) ≡ rest + (to - from) = omega arith in
      subst (λ (n : ℕ). Left count b asleep n from reply b' asleep') sum
      (pass-all count b asleep from (next - from) (rest + (to - next)) reply b' asleep' within
      (λ i above below. sleep i above (omega arith))
      (subst (λ (n : ℕ). Left count b asleep (rest + (to - next)) n reply b' asleep') (sym there) h))

  -- none of those between is awake
  pub between-none : (from to : ℕ) (b : AtBench) (asleep : List ℕ) → from ≤ to → AllSleep asleep from to
      → AsksBetween ends from to b asleep None b asleep
  between-none from to b asleep low sleep count rest reply b' asleep' inside h =
      let same : to ≤ to = omega arith in
      let left : rest ≡ rest + (to - to) = omega arith in
      pass-to count b asleep from to to rest reply b' asleep' low same inside sleep
      (subst (λ (n : ℕ). Left count b asleep n to reply b' asleep') left h)

  -- one is awake, and has a step or is refused
  pub between-ends : (from next to : ℕ) (b m : AtBench) (asleep s : List ℕ) (r : Reply) → from ≤ next → next < to
      → AllSleep asleep from next → Asked b (Command.Branch next) r m → SleepsBehind ends m.desk.machine next r asleep s
      → is_busy r ≡ true → AsksBetween ends from to b asleep (Some r) m s
  between-ends from next to b m asleep s r low less sleep asked behind busy count rest inside =
      let high : next ≤ to = omega arith in
      let more : next < count = omega arith in
      let left : rest + (to - next) ≡ suc (rest + (to - (next + 1))) = omega arith in
      pass-to count b asleep from next to rest r m s low high inside sleep
      (subst (λ (n : ℕ). Left count b asleep n next r m s) (sym left)
      (subst (λ (k : ℕ). AwakeInTurn ends count b asleep (suc (rest + (to - (next + 1)))) k r m s) (sym (round-in count next more))
      (inr (r, m, s, asked, behind, by-true _ (is_busy r) busy (refl, refl, refl)))))

  -- one is awake and idle
  one-more : (count from next to rest : ℕ) (b m b' : AtBench) (asleep s asleep' : List ℕ) (r reply : Reply) → from ≤ next → next < to
      → to ≤ count → AllSleep asleep from next → Asked b (Command.Branch next) r m
      → SleepsBehind ends m.desk.machine next r asleep s → is_busy r ≡ false
      → Left count m s (rest + (to - (next + 1))) (next + 1) reply b' asleep'
      → Left count b asleep (rest + (to - from)) from reply b' asleep'
  one-more count from next to rest b m b' asleep s asleep' r reply low less inside sleep asked behind idle h =
      let high : next ≤ to = omega arith in
      let more : next < count = omega arith in
      let left : rest + (to - next) ≡ suc (rest + (to - (next + 1))) = omega arith in
      pass-to count b asleep from next to rest reply b' asleep' low high inside sleep
      (subst (λ (n : ℕ). Left count b asleep n next reply b' asleep') (sym left)
      (subst (λ (k : ℕ). AwakeInTurn ends count b asleep (suc (rest + (to - (next + 1)))) k reply b' asleep')
      (sym (round-in count next more)) (inr (r, m, s, asked, behind, by-false _ (is_busy r) idle h))))

  -- one is awake and idle, and then those behind it
  pub between-goes-on : (from next to : ℕ) (b m b'' : AtBench) (asleep s s'' : List ℕ) (r : Reply) (told : Option Reply)
      → from ≤ next → next < to → AllSleep asleep from next → Asked b (Command.Branch next) r m
      → SleepsBehind ends m.desk.machine next r asleep s → is_busy r ≡ false → AsksBetween ends (next + 1) to m s told b'' s''
      → AsksBetween ends from to b asleep told b'' s''
  between-goes-on from next to b m b'' asleep s s'' r None low less sleep asked behind idle h =
      λ count rest reply b' asleep' inside then.
      one-more count from next to rest b m b' asleep s asleep' r reply low less inside sleep asked behind idle
      (h count rest reply b' asleep' inside then)
  between-goes-on from next to b m b'' asleep s s'' r (Some told) low less sleep asked behind idle h =
      λ count rest inside.
      one-more count from next to rest b m b'' asleep s s'' r told low less inside sleep asked behind idle (h count rest inside)

  -- two stretches of branches are all of them, from the one whose turn it is
  turn-of : (b : AtBench) (asleep : List ℕ) (count first : ℕ) (reply : Reply) (b' : AtBench) (asleep' : List ℕ)
      → count ≡ branch_count b.desk.machine.checked → first ≡ first_of count b.turn → round count first ≡ first → first ≤ count
      → Left count b asleep (first + (count - first)) first reply b' asleep' → AwakeTurn b asleep reply b' asleep'
  turn-of b asleep count first reply b' asleep' p q at inside h =
      let all : first + (count - first) ≡ count = omega arith in
      subst (λ (n : ℕ). AwakeInTurn ends n b asleep n (first_of n b.turn) reply b' asleep') p
      (subst (λ (k : ℕ). AwakeInTurn ends count b asleep count k reply b' asleep') (at ∙ q)
      (subst (λ (m : ℕ). AwakeInTurn ends count b asleep m (round count first) reply b' asleep') all h))

  -- the second stretch stands behind the last branch
  behind-last : (count first : ℕ) (b : AtBench) (asleep : List ℕ) (reply : Reply) (b' : AtBench) (asleep' : List ℕ) → first ≤ count
      → Left count b asleep (0 + (first - 0)) 0 reply b' asleep' → Left count b asleep first count reply b' asleep'
  behind-last count first b asleep reply b' asleep' inside h =
      let left : 0 + (first - 0) ≡ first = omega arith in
      let whole : count ≤ count = omega arith in
      subst (λ (k : ℕ). AwakeInTurn ends count b asleep first k reply b' asleep')
      (zero-round count ∙ sym (round-out count count whole))
      (subst (λ (n : ℕ). Left count b asleep n 0 reply b' asleep') left h)

  -- the turn ends in the first stretch
  pub turn-first : (b m : AtBench) (asleep s : List ℕ) (count first : ℕ) (r : Reply) → count ≡ branch_count b.desk.machine.checked
      → first ≡ first_of count b.turn → first ≤ count → AsksBetween ends first count b asleep (Some r) m s → AwakeTurn b asleep r m s
  turn-first b m asleep s count first r p q inside h =
      let whole : count ≤ count = omega arith in
      turn-of b asleep count first r m s p q (is-round b count first q) inside (h count first whole)

  -- or in the second
  pub turn-second : (b m n : AtBench) (asleep s u : List ℕ) (count first : ℕ) (r : Reply) → count ≡ branch_count b.desk.machine.checked
      → first ≡ first_of count b.turn → first ≤ count → AsksBetween ends first count b asleep None m s
      → AsksBetween ends 0 first m s (Some r) n u → AwakeTurn b asleep r n u
  turn-second b m n asleep s u count first r p q inside one two =
      let whole : count ≤ count = omega arith in
      turn-of b asleep count first r n u p q (is-round b count first q) inside
      (one count first r n u whole (behind-last count first m s r n u inside (two count 0 inside)))

  -- or nobody has a step
  pub turn-none : (b m n : AtBench) (asleep s u : List ℕ) (count first : ℕ) → count ≡ branch_count b.desk.machine.checked
      → first ≡ first_of count b.turn → first ≤ count → AsksBetween ends first count b asleep None m s
      → AsksBetween ends 0 first m s None n u → AwakeTurn b asleep Reply.Idle n u
  turn-none b m n asleep s u count first p q inside one two =
      let whole : count ≤ count = omega arith in
      turn-of b asleep count first Reply.Idle n u p q (is-round b count first q) inside
      (one count first Reply.Idle n u whole (behind-last count first m s Reply.Idle n u inside (two count 0 Reply.Idle n u inside (refl, refl, refl))))
