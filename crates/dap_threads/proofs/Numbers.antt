-- The numbers of threads and frames.
use Rattle.std.specs.Prelude.{MatchOption, slice_get}
use Rattle.std.proofs.Common.{◌≡◌, ◌<◌, ◌≤◌, ◌+◌, ◌-◌, ◌^◌, ◌/◌, ◌%◌, ◌&&◌, ◌∙◌, ℕ, List, Option, Some, None, Bool, true, false, refl, sym, ap, subst, max, length, if◌then◌else◌, arith, lit<, nat_lt}
use Rattle.std.proofs.Math.Nat.{mod-lt, min-le_right}
use Rattle.std.proofs.Math.Pow.{split}
use Rattle.std.proofs.lemmas.Bool.Decides.{nat_tests}
use Rattle.dap_messages.specs.declared.answer.Answer.{Answer}
use Rattle.dap_views.specs.Handles.{frame_id}
use Rattle.dap_views.specs.Seen.{first_branch}
use Rattle.dap_views.specs.declared.index.Index.{Index}
use Rattle.dap_views.specs.declared.sight.Sight.{Sight}
use Rattle.machine.specs.AtMachine.{AtMachine}
use Rattle.runs.proofs.public.Options.{some-injective}
use Rattle.system_places.specs.SystemBranches.{branch_count}
use Rattle.dap_threads.specs.Frames.{FindsFrame, FindsNamed, HasNoFrame, IsFrame, Misses, count_of, frame_count, frames_of, seen_call}
use Rattle.dap_threads.specs.declared.frames.Frame.{Frame}
use Rattle.dap_threads.specs.Threads.{branch_of}

-- what is told of the parts of a number by `frame_of`
abbrev pub TellsParts : ℕ → ℕ × ℕ → Type 0
TellsParts id r = (t k : ℕ) → k < 2 ^ 15 → frame_id t k ≡ id → r ≡ (t, k)

-- so they are its parts
parts-of : (id : ℕ) (r : ℕ × ℕ) → TellsParts id r → frame_id r.0 r.1 ≡ id
parts-of id r tells =
    let small : id % 2 ^ 15 < 2 ^ 15 = mod-lt id (lit< tt) in
    let P : ℕ × ℕ → Type 0 = λ q. frame_id q.0 q.1 ≡ id in
    subst P (sym (tells (id / 2 ^ 15) (id % 2 ^ 15) small (split id 15))) (split id 15)

-- a branch that is found is that of the thread, and one of so many
branch-found : (count number branch : ℕ) → branch_of count number ≡ Some branch → (branch + 1 ≡ number) × (branch < count)
branch-found count number branch e = by-tests (nat_lt 0 number) (nat_lt (number - 1) count) refl refl e
  where
    by-tests : (p q : Bool) → nat_lt 0 number ≡ p → nat_lt (number - 1) count ≡ q → (if p && q then Some (number - 1) else None) ≡ Some branch → (branch + 1 ≡ number) × (branch < count)
    by-tests true true h g e =
        let is : number - 1 ≡ branch = some-injective (number - 1) branch e in
        let some : 0 < number = grind (arith, nat_tests) in
        let few : number - 1 < count = grind (arith, nat_tests) in
        (omega arith, omega arith)
    by-tests true false h g e = cc
    by-tests false q h g e = cc

-- a branch is found by its thread
branch-there : (count branch : ℕ) → branch < count → branch_of count (branch + 1) ≡ Some branch
branch-there count branch small =
    let some : nat_lt 0 (branch + 1) ≡ true = grind (arith, nat_tests) in
    let less : branch + 1 - 1 ≡ branch = omega arith in
    let few : nat_lt (branch + 1 - 1) count ≡ true = ap (λ n. nat_lt n count) less ∙ grind (arith, nat_tests) in
    ap (λ p. if p && nat_lt (branch + 1 - 1) count then Some (branch + 1 - 1) else None) some
    ∙ ap (λ q. if true && q then Some (branch + 1 - 1) else None) few
    ∙ ap (λ n. Some n) less

-- a frame has few frames above it
frame-small : (m : AtMachine) (index : Index) (sight : Sight) (branch k : ℕ) → k < frame_count m index sight branch → k < 2 ^ 15
frame-small m index sight branch k h =
    let most : frame_count m index sight branch ≤ 1000 = min-le_right (max (length (frames_of m index sight branch)) 1) 1000 in
    let low : 1000 < 2 ^ 15 = lit< tt in
    omega arith

-- a frame of the number is that of its parts
parts-are : (m : AtMachine) (index : Index) (sight : Sight) (id branch k : ℕ) (r : ℕ × ℕ) → TellsParts id r → IsFrame m index sight id branch k → r ≡ (branch + 1, k)
parts-are m index sight id branch k r tells f = tells (branch + 1) k (frame-small m index sight branch k f.2) f.0

-- the branch of the thread is found where there is a frame
frame-branch :
    (m : AtMachine) (index : Index) (sight : Sight) (id count branch k : ℕ) (r : ℕ × ℕ)
    → TellsParts id r
    → count ≡ branch_count m.checked
    → IsFrame m index sight id branch k
    → branch_of count r.0 ≡ Some branch
frame-branch m index sight id count branch k r tells ec f =
    let Q : ℕ → Type 0 = λ n. branch < n in
    ap (λ q. branch_of count q.0) (parts-are m index sight id branch k r tells f) ∙ branch-there count branch (subst Q (sym ec) f.1)

-- none, where no branch is found
pub no-branch :
    (m : AtMachine) (index : Index) (sight : Sight) (id count : ℕ) (r : ℕ × ℕ)
    → TellsParts id r
    → count ≡ branch_count m.checked
    → branch_of count r.0 ≡ None
    → HasNoFrame m index sight id
no-branch m index sight id count r tells ec none branch k f =
    let both : None ≡ Some branch = sym none ∙ frame-branch m index sight id count branch k r tells ec f in cc

-- none, where the index is behind the frames of the branch
none-behind :
    (m : AtMachine) (index : Index) (sight : Sight) (id count found : ℕ) (r : ℕ × ℕ)
    → TellsParts id r
    → count ≡ branch_count m.checked
    → branch_of count r.0 ≡ Some found
    → frame_count m index sight found ≤ r.1
    → HasNoFrame m index sight id
none-behind m index sight id count found r tells ec e behind branch k f =
    let same : branch ≡ found =
    some-injective branch found (sym (frame-branch m index sight id count branch k r tells ec f) ∙ e) in
    let here : r.1 ≡ k = ap (λ q. q.1) (parts-are m index sight id branch k r tells f) in
    let P : ℕ → Type 0 = λ b. k < frame_count m index sight b in
    let S : ℕ → Type 0 = λ n. n < frame_count m index sight found in
    let before : r.1 < frame_count m index sight found = subst S (sym here) (subst P same f.2) in
    absurd (omega (arith, before, behind))

-- what is told of the frame of this index among those of a branch
abbrev pub IsAmong : Index → ℕ → List Frame → ℕ → Option (ℕ × ℕ) → Type 0
IsAmong index branch frames k found =
    MatchOption found (count_of frames ≤ k)
    (λ one. (one.0 ≡ branch) × (k < count_of frames) × (one.1 ≡ seen_call index branch (slice_get frames k)))

-- that is what is found
found-among :
    (m : AtMachine) (index : Index) (sight : Sight) (id count branch : ℕ) (r : ℕ × ℕ) (found : Option (ℕ × ℕ))
    → TellsParts id r
    → count ≡ branch_count m.checked
    → branch_of count r.0 ≡ Some branch
    → IsAmong index branch (frames_of m index sight branch) r.1 found
    → FindsFrame m index sight id found
found-among m index sight id count branch r None tells ec e h = none-behind m index sight id count branch r tells ec e h
found-among m index sight id count branch r (Some one) tells ec e h =
    let is = branch-found count r.0 branch e in
    let T : ℕ → Type 0 = λ t. frame_id t r.1 ≡ id in
    let Q : ℕ → Type 0 = λ n. branch < n in
    let numbered : frame_id (branch + 1) r.1 ≡ id = subst T (sym is.0) (parts-of id r tells) in
    let within : branch < branch_count m.checked = subst Q ec is.1 in
    let F : ℕ → Type 0 = λ b. IsFrame m index sight id b r.1 in
    let S : ℕ → Type 0 = λ b. one.1 ≡ seen_call index b (slice_get (frames_of m index sight b) r.1) in
    (r.1, subst F (sym h.0) (numbered, within, h.1), subst S (sym h.0) h.2)

pub among_frames :
    (m : AtMachine) (index : Index) (sight : Sight) (id count branch : ℕ) (r : ℕ × ℕ) (frames : List Frame) (found : Option (ℕ × ℕ))
    → TellsParts id r
    → count ≡ branch_count m.checked
    → branch_of count r.0 ≡ Some branch
    → frames ≡ frames_of m index sight branch
    → IsAmong index branch frames r.1 found
    → FindsFrame m index sight id found
among_frames m index sight id count branch r frames found tells ec e ef h =
    let P : List Frame → Type 0 = λ fs. IsAmong index branch fs r.1 found in
    found-among m index sight id count branch r found tells ec e (subst P ef h)

-- what is found by a number that is named
pub finds_named : (m : AtMachine) (index : Index) (seen : Option Sight) (sight : Sight) (named : Option ℕ) (id : ℕ) (found : Option (ℕ × ℕ)) → seen ≡ Some sight →
    named ≡ Some id → FindsFrame m index sight id found → FindsNamed m index seen named found
finds_named m index seen sight named id found shown is h =
    let to : FindsNamed m index (Some sight) (Some id) found = h in
    subst (λ (s : Option Sight). FindsNamed m index s named found) (sym shown)
    (subst (λ (o : Option ℕ). FindsNamed m index (Some sight) o found) (sym is) to)

pub misses_named : (m : AtMachine) (index : Index) (seen : Option Sight) (sight : Sight) (named : Option ℕ) (id : ℕ) (b : Answer) → seen ≡ Some sight →
    named ≡ Some id → Misses m index (Some sight) (Some id) b → Misses m index seen named b
misses_named m index seen sight named id b shown is h =
    subst (λ (s : Option Sight). Misses m index s named b) (sym shown)
    (subst (λ (o : Option ℕ). Misses m index (Some sight) o b) (sym is) h)

-- where none is named, the branch of the first step
pub finds_first : (m : AtMachine) (index : Index) (seen : Option Sight) (sight : Sight) (named : Option ℕ) (branch : ℕ) → seen ≡ Some sight →
    named ≡ None → branch ≡ first_branch m sight.ready → FindsNamed m index seen named (Some (branch, 0))
finds_first m index seen sight named branch shown none is =
    let to : FindsNamed m index (Some sight) None (Some (branch, 0)) = ap (λ (b : ℕ). Some (b, 0)) is in
    subst (λ (s : Option Sight). FindsNamed m index s named (Some (branch, 0))) (sym shown)
    (subst (λ (o : Option ℕ). FindsNamed m index (Some sight) o (Some (branch, 0))) (sym none) to)
