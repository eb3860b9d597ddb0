-- A chain of causes is no longer than the longest in which each event is followed by the next.
use Rattle.std.proofs.Common.{◌≡◌, ◌⊎◌, inl, inr, ℕ, zero, suc, ◌<◌, ◌≤◌, List, refl, subst, arith}
use Rattle.std.specs.Prelude.{slice_index}
use Rattle.runs.specs.Live.{Live, Rising}
use Rattle.dependence.specs.Followers.{Reached, along, here}
use Rattle.dependence.proofs.public.FollowerLaws.{direct-follows, reached-through-followers}
use Rattle.run_depths.specs.Depths.{AreDepths, StandsAt}
use Rattle.depth_laws.specs.Laws.{CauseChain, Chain, IsLongestOfCauses}
use Rattle.depth_laws.proofs.public.Chains.{depth-is-longest}

-- who follows another is caused by it
causes : (l : Live) (n u : ℕ) → Chain l n u → CauseChain l n u
causes l zero u chain = tt
causes l (suc n) u chain = (chain.0, chain.1.dependent, causes l n chain.0 chain.2)

-- what is reached from the end of a chain has a longer one
onward : (l : Live) (n t u : ℕ) → Chain l n t → Reached l t u → (t ≡ u) ⊎ ((m : ℕ) × (n < m) × Chain l m u)
onward l n t u chain here = inl refl
onward l n t u chain (along {u = w} r f) = elim (onward l n t w chain r) [
  | inl one ↦ inr (suc n, omega arith, (w, f, subst (λ (s : ℕ). Chain l n s) one chain))
  | inr longer ↦ let more : n < longer.0 = longer.1 in inr (suc longer.0, omega arith, (w, f, longer.2))
]

-- to a chain of causes there is one of followers that is no shorter
no-shorter : (low next : ℕ) (l : Live) (n u : ℕ) → Rising low l next → CauseChain l n u → (m : ℕ) × (n ≤ m) × Chain l m u
no-shorter low next l zero u rising chain = (zero, omega arith, tt)
no-shorter low next l (suc n) u rising chain =
    let before = no-shorter low next l n chain.0 rising chain.2 in
    let least : n ≤ before.0 = before.1 in
    let reached : Reached l chain.0 u =
    (reached-through-followers low next l chain.0 u rising).0 (direct-follows l chain.0 u chain.1) in
    elim (onward l before.0 chain.0 u before.2 reached) [
      | inl one ↦ let less : chain.0 < u = chain.1.less in absurd (omega arith)
      | inr longer ↦ let more : before.0 < longer.0 = longer.1 in (longer.0, omega arith, longer.2)
    ]

pub depth-is-longest-of-causes : (l : Live) (depths : List ℕ) (low next i u : ℕ) → Rising low l next → AreDepths l depths → StandsAt l u i →
    IsLongestOfCauses l u (slice_index depths i)
depth-is-longest-of-causes l depths low next i u rising are stands =
    let one = depth-is-longest l depths i u are stands in
    record {
      chain = causes l (slice_index depths i) u one.chain;
      longest = λ n chain.
          let found = no-shorter low next l n u rising chain in
          let least : n ≤ found.0 = found.1 in
          let most : found.0 ≤ slice_index depths i = one.longest found.0 found.2 in
          omega arith;
    }
