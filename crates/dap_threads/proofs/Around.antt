-- The frames of a branch, as they are made.
use Rattle.std.proofs.Common.{◌≡◌, ◌<◌, ◌-◌, ◌++◌, ◌∷◌, [], ◌∙◌, ℕ, zero, suc, List, Option, Some, map, append_assoc, sym, ap, subst, arith}
use Rattle.dap_views.specs.Around.{around, onwards, outwards}
use Rattle.dap_views.specs.declared.index.Index.{Index}
use Rattle.dap_views.specs.declared.sight.Rank.{Rank}
use Rattle.dap_views.specs.declared.sight.Sight.{Sight}
use Rattle.system.specs.declared.system.System.{System}
use Rattle.dap_threads.specs.Frames.{at_call, places_in, with_all}
use Rattle.dap_threads.specs.declared.frames.Frame.{Frame}

-- one more call around
called-on : (index : Index) (n inner outer : ℕ) → around index inner ≡ Some outer → outwards (suc n) index inner ≡ outer ∷ outwards n index outer
called-on index n inner outer is = ap (λ (o : Option ℕ). onwards (outwards n index) o) is

pub called_more : (index : Index) (frames after all : List Frame) (left inner outer : ℕ) → 0 < left → around index inner ≡ Some outer →
    after ≡ frames ++ at_call outer ∷ [] → frames ++ map at_call (outwards left index inner) ≡ all →
    after ++ map at_call (outwards (left - 1) index outer) ≡ all
called_more index frames after all zero inner outer some is push h = absurd (omega arith)
called_more index frames after all (suc n) inner outer some is push h =
    let less : suc n - 1 ≡ n = omega arith in
    subst (λ (k : ℕ). after ++ map at_call (outwards k index outer) ≡ all) (sym less)
    (ap (λ (fs : List Frame). fs ++ map at_call (outwards n index outer)) push
    ∙ append_assoc frames (at_call outer ∷ []) (map at_call (outwards n index outer))
    ∙ ap (λ (cs : List ℕ). frames ++ map at_call cs) (sym (called-on index n inner outer is))
    ∙ h)

-- the places of all ranks
pub all_places : (system s : System) (sight : Sight) (branch : ℕ) (none acting joining waiting : List ℕ) → s ≡ system → none ≡ [] →
    acting ≡ with_all none s sight branch Rank.Acts → joining ≡ with_all acting s sight branch Rank.Joins →
    waiting ≡ with_all joining s sight branch Rank.Waits → waiting ≡ places_in system sight branch
all_places system s sight branch none acting joining waiting same empty one two three =
    three
    ∙ ap (λ (ks : List ℕ). with_all ks s sight branch Rank.Waits)
    (two
    ∙ ap (λ (ks : List ℕ). with_all ks s sight branch Rank.Joins)
    (one ∙ ap (λ (ks : List ℕ). with_all ks s sight branch Rank.Acts) empty))
    ∙ ap (λ (t : System). places_in t sight branch) same
