-- What is told of one run, event by event in one order, is one.
use Rattle.std.proofs.Common.{◌≡◌, inl, inr, ℕ, ◌+◌, ◌<◌, ◌≤◌, List, length, get_or, Some, true≢false, refl, sym, ◌∙◌, ap, subst, arith}
use Rattle.std.specs.Prelude.{slice_get}
use Rattle.std.proofs.lemmas.Bool.{cases_lt}
use Rattle.std.proofs.lemmas.Option.{slice_get-get_or, slice_get_past}
use Rattle.syntax.specs.Lists.{In}
use Rattle.runs.specs.Live.{Live, Rising}
use Rattle.runs.specs.Steps.{State}
use Rattle.runs.specs.declared.event.Event.{Event}
use Rattle.dependence.proofs.public.ListPlaces.{at-within}
use Rattle.run_depths.specs.Depths.{AreAhead, AreDepths, ListsAhead, StandsAt}
use Rattle.run_depths.specs.Races.{AreRaces, IsEarlierRace, OrdersBy}
use Rattle.run_depths.specs.declared.races.Race.{Race}
use Rattle.run_depths.proofs.public.Deepening.{one-place}
use Rattle.depth_laws.specs.Laws.{IsLongest}
use Rattle.depth_laws.proofs.public.Chains.{depth-is-longest}
use Rattle.depth_laws.proofs.public.EqualRaces.{orders-one, same-event}
use Rattle.waiting.specs.Progress.{StandsLike}
use Rattle.waiting.specs.declared.progress.Progress.{Progress}
use Rattle.waiting.specs.declared.progress.Progress.TheVariants.{GoesOn, Done, Stuck}
use Rattle.picture_laws.proofs.OneOrder.{NeverBoth, by-index, one-ordered}

one-depth : (l : Live) (u d b : ℕ) → IsLongest l u d → IsLongest l u b → d ≡ b
one-depth l u d b one two =
    let up : d ≤ b = two.longest d one.chain in let down : b ≤ d = one.longest b two.chain in omega arith

pub one-depths : (l : Live) (depths others : List ℕ) → AreDepths l depths → AreDepths l others → depths ≡ others
one-depths l depths others are those = by-index depths others at
  where
    at : (i : ℕ) → slice_get depths i ≡ slice_get others i
    at i =
        elim (cases_lt i (length l)) [
          | inl less ↦
              let x = at-within l i less in
              let stands : StandsAt l x.0.0 i = (x.0.1, x.1) in
              let size = are.size in
              let other = those.size in
              let here : i < length depths = omega arith in
              let there : i < length others = omega arith in
              let same : get_or depths i 0 ≡ get_or others i 0 =
              one-depth l x.0.0 (get_or depths i 0) (get_or others i 0) (depth-is-longest l depths i x.0.0 are stands)
              (depth-is-longest l others i x.0.0 those stands) in
              slice_get-get_or depths i 0 here ∙ ap (λ (d : ℕ). Some d) same ∙ sym (slice_get-get_or others i 0 there)
          | inr past ↦
              let size = are.size in
              let other = those.size in
              slice_get_past depths i (let h : length depths ≤ i = omega arith in h)
              ∙ sym (slice_get_past others i (let h : length others ≤ i = omega arith in h))
        ]

ascends : NeverBoth ◌<◌
ascends x y a b = omega arith

row-in : (low next : ℕ) (l : Live) (i t : ℕ) (row other : List ℕ) → Rising low l next → ListsAhead l i t row → ListsAhead l i t other → (n : ℕ) → In n row →
    In n other
row-in low next l i t row other rising one two n within =
    let here = one.each n within in
    let found = two.all here.0 here.1 in
    let index : i + n ≡ i + found.0 = one-place low next l here.0 (i + n) (i + found.0) rising here.2 found.2 in
    let same : found.0 ≡ n = omega arith in
    subst (λ (k : ℕ). In k other) same found.1

one-row : (low next : ℕ) (l : Live) (i t : ℕ) (row other : List ℕ) → Rising low l next → ListsAhead l i t row → ListsAhead l i t other → row ≡ other
one-row low next l i t row other rising one two =
    one-ordered ◌<◌ row other ascends one.ascending two.ascending (row-in low next l i t row other rising one two)
    (row-in low next l i t other row rising two one)

pub one-ahead : (low next : ℕ) (l : Live) (rows others : List (List ℕ)) → Rising low l next → AreAhead l rows → AreAhead l others → rows ≡ others
one-ahead low next l rows others rising are those = by-index rows others at
  where
    at : (i : ℕ) → slice_get rows i ≡ slice_get others i
    at i =
        elim (cases_lt i (length l)) [
          | inl less ↦
              let x = at-within l i less in
              let stands : StandsAt l x.0.0 i = (x.0.1, x.1) in
              let size = are.size in
              let other = those.size in
              let here = at-within rows i (let h : i < length rows = omega arith in h) in
              let there = at-within others i (let h : i < length others = omega arith in h) in
              let same : here.0 ≡ there.0 =
              one-row low next l i x.0.0 here.0 there.0 rising (are.each i x.0.0 here.0 stands here.1) (those.each i x.0.0 there.0 stands there.1) in
              here.1 ∙ ap (λ (row : List ℕ). Some row) same ∙ sym there.1
          | inr past ↦
              let size = are.size in
              let other = those.size in
              slice_get_past rows i (let h : length rows ≤ i = omega arith in h)
              ∙ sym (slice_get_past others i (let h : length others ≤ i = omega arith in h))
        ]

never-earlier : NeverBoth IsEarlierRace
never-earlier x y (inl a) (inl b) = omega arith
never-earlier x y (inl a) (inr b) = let is = b.0 in omega arith
never-earlier x y (inr a) (inl b) = let is = a.0 in omega arith
never-earlier x y (inr a) (inr b) = let less = a.1 in let back = b.1 in omega arith

race-in : (l : Live) (races others : List Race) → AreRaces l races → AreRaces l others → (r : Race) → In r races → In r others
race-in l races others are those r within =
    let race = are.each r within in
    let found = those.all r.cause r.event race.0 race.1 race.2 race.3 race.4 race.5 race.6 in
    let other = those.each (record { cause = r.cause; event = r.event; variable = found.0 }) found.1 in
    let first = same-event l r.cause other.0 race.0 other.2 race.2 other.4 race.4 in
    let second = same-event l r.event other.1 race.1 other.3 race.3 other.5 race.5 in
    let told : OrdersBy race.2 race.3 found.0 =
    subst (λ (g : Event). OrdersBy race.2 g found.0) second.1 (subst (λ (g : Event). OrdersBy g other.3 found.0) first.1 other.7) in
    let one : found.0 ≡ r.variable = orders-one race.2 race.3 found.0 r.variable told race.7 in
    let made : ℕ → Race = λ k. record { cause = r.cause; event = r.event; variable = k } in
    subst (λ (k : ℕ). In (made k) others) one found.1

pub one-races : (l : Live) (races others : List Race) → AreRaces l races → AreRaces l others → races ≡ others
one-races l races others are those =
    one-ordered IsEarlierRace races others never-earlier are.in_order those.in_order (race-in l races others are those) (race-in l others races those are)

pub one-progress : (S : State) (p q : Progress) → StandsLike S p → StandsLike S q → p ≡ q
one-progress S GoesOn GoesOn a b = refl
one-progress S GoesOn Done a b = absurd (b.0 a.0 a.1)
one-progress S GoesOn Stuck a b = absurd (b.0 a.0 a.1)
one-progress S Done GoesOn a b = absurd (a.0 b.0 b.1)
one-progress S Done Done a b = refl
one-progress S Done Stuck a b = absurd (true≢false (sym a.1 ∙ b.1))
one-progress S Stuck GoesOn a b = absurd (a.0 b.0 b.1)
one-progress S Stuck Done a b = absurd (true≢false (sym b.1 ∙ a.1))
one-progress S Stuck Stuck a b = refl
