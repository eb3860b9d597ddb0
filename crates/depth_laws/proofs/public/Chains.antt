-- The depth of an event is the length of the longest chain that leads to it.
use Rattle.std.proofs.Common.{◌≡◌, ◌⊎◌, inl, inr, ℕ, zero, suc, ◌+◌, ◌<◌, ◌≤◌, List, Some, refl, sym, ◌∙◌, arith}
use Rattle.std.specs.Prelude.{slice_get, slice_index}
use Rattle.runs.specs.Live.{Live, LiveAt}
use Rattle.runs.specs.declared.event.Event.{Event}
use Rattle.dependence.specs.Followers.{Follower}
use Rattle.dependence.proofs.public.ListPlaces.{index-in}
use Rattle.run_depths.specs.Depths.{AreDepths, IsDepth, StandsAt}
use Rattle.depth_laws.specs.Laws.{Chain, IsLongest}

-- what an event follows stands somewhere
pub lead-stands : (l : Live) (t u : ℕ) → Follower l t u → (j : ℕ) × StandsAt l t j
lead-stands l t u f =
    let at = index-in l (t, f.dependent.event) f.dependent.live in (at.0, (f.dependent.event, at.1))

-- no chain is longer than the depth
pub chains-below : (l : Live) (depths : List ℕ) (n u i : ℕ) → AreDepths l depths → StandsAt l u i → Chain l n u
    → n ≤ slice_index depths i
chains-below l depths zero u i are stands chain = omega arith
chains-below l depths (suc n) u i are stands chain =
    let at = lead-stands l chain.0 u chain.1 in
    let before : n ≤ slice_index depths at.0 = chains-below l depths n chain.0 at.0 are at.1 chain.2 in
    let less : slice_index depths at.0 < slice_index depths i = (are.each i u stands).above chain.0 at.0 chain.1 at.1 in
    omega arith

-- there is one as long as the depth
pub chain-there : (l : Live) (depths : List ℕ) (d u i : ℕ) → AreDepths l depths → StandsAt l u i → slice_index depths i ≡ d
    → Chain l d u
chain-there l depths zero u i are stands is = tt
chain-there l depths (suc d) u i are stands is = elim (are.each i u stands).reached [
  | inl none ↦ absurd (omega arith)
  | inr some ↦
      let behind = some.2 in
      let same : slice_index depths behind.0 ≡ d = let up : slice_index depths i ≡ slice_index depths behind.0 + 1 = behind.2 in omega arith in
      (some.0, some.1, chain-there l depths d some.0 behind.0 are behind.1 same)
]

pub depth-is-longest : (l : Live) (depths : List ℕ) (i u : ℕ) → AreDepths l depths → StandsAt l u i → IsLongest l u (slice_index depths i)
depth-is-longest l depths i u are stands = record {
  chain = chain-there l depths (slice_index depths i) u i are stands refl;
  longest = λ n chain. chains-below l depths n u i are stands chain;
}
