-- What a call and a turn add, and turns one after the other.
use Rattle.std.proofs.Common.{◌≡◌, ◌⊎◌, inl, inr, ℕ, zero, suc, ◌+◌, ◌<◌, ◌≤◌, if◌then◌else◌, Bool, true, false, List, [], ◌∷◌, ◌++◌, length, refl, ap, sym, ◌∙◌, subst, arith, length-append, append_assoc, append-nil, Result, Ok, Err, IfOk, OnOk, OnErr, MatchResult}
use mathlib.Core.List.{IsPrefix}
use Rattle.atomic_table.specs.Seated.{TableId}
use Rattle.recorded_calls.specs.History.{entry_of, IsLegal}
use Rattle.recorded_calls.specs.declared.entry.Entry.{Entry}
use Rattle.recorded_calls.proofs.public.Beginnings.{prefix_same, prefix_trans}
use Rattle.locked_object.specs.Passes.{IsPassOf, number, seen_history, own}
use Rattle.locked_object.specs.Sharing.{Recorded, SawNothing}
use Rattle.locked_object.specs.declared.pass.Pass.{Pass}
use Rattle.locked_object.specs.declared.object.NotRecorded.{NotRecorded}
use Rattle.object_workers.specs.Runs.{steps_in, AskBranches, PassRan, SawLegal}
use Rattle.object_workers.specs.internal.Workers.{WorkerRan, AskedFor}
use Rattle.object_workers.specs.declared.worker.Worker.{Worker}

at_most_one : (b : Bool) → (if b then 1 else 0) ≤ 1
at_most_one true = omega arith
at_most_one false = omega arith

module _ {C R : Type 0} where
  steps_joined : (steps : R → Bool) (es fs : List (Entry C R)) → steps_in steps (es ++ fs) ≡ steps_in steps es + steps_in steps fs
  steps_joined steps [] fs = omega arith
  steps_joined steps (e ∷ es) fs = let h = steps_joined steps es fs in omega arith

  -- an answer tells of one step at most
  pub steps_few : (steps : R → Bool) (es : List (Entry C R)) → steps_in steps es ≤ length es
  steps_few steps [] = omega arith
  steps_few steps (e ∷ es) = let h = steps_few steps es in let one = at_most_one (steps e.reply) in omega arith

  branches_joined : (asks : ℕ → C) (count n : ℕ) (es fs : List (Entry C R)) → AskBranches asks count n es → AskBranches asks count n fs → AskBranches asks count n (es ++ fs)
  branches_joined asks count n [] fs h k = k
  branches_joined asks count n (e ∷ es) fs h k = (h.0, branches_joined asks count n es fs h.1 k)

module _ {D C R : Type 0} (table : TableId) (opening : D) (asks : ℕ → C) (count : ℕ) where
  -- a call that was recorded
  pub recorded_ran : (p q : Pass D C R) (c : C) (k : ℕ) (r : R) → IsPassOf table opening q → number q ≡ number p → Recorded p c r q → c ≡ asks k → (k < count) ⊎ ((count ≡ 0) × (k ≡ 0))
      → PassRan table opening asks count 1 p q (entry_of (number p) c r ∷ [])
  recorded_ran p q c k r fits same done is below =
      record {
        fits = fits;
        same = same;
        saw = (done.between ++ entry_of (number p) c r ∷ [], sym (append_assoc (seen_history p) done.between (entry_of (number p) c r ∷ [])) ∙ sym done.saw);
        made = done.made;
        branches = ((refl, (k, is, below)), tt);
        few = omega arith;
      }

  -- a call that was not
  pub unrecorded_ran : (p q : Pass D C R) → IsPassOf table opening q → number q ≡ number p → SawNothing p q → PassRan table opening asks count 1 p q []
  unrecorded_ran p q fits same is =
      record {
        fits = fits;
        same = same;
        saw = prefix_same (seen_history p) (seen_history q) (sym is.0);
        made = is.1 ∙ sym (append-nil (own p));
        branches = tt;
        few = omega arith;
      }

  -- the pass has made calls, and then more
  pub more_ran : (t u : ℕ) (p q r : Pass D C R) (es fs : List (Entry C R)) → PassRan table opening asks count t p q es → PassRan table opening asks count u q r fs → PassRan table opening asks count (t + u) p r (es ++ fs)
  more_ran t u p q r es fs a b =
      record {
        fits = b.fits;
        same = b.same ∙ a.same;
        saw = prefix_trans (seen_history p) (seen_history q) (seen_history r) a.saw b.saw;
        made = b.made ∙ ap (λ l. l ++ fs) a.made ∙ append_assoc (own p) es fs;
        branches = branches_joined asks count (number p) es fs a.branches (subst (λ (n : ℕ). AskBranches asks count n fs) a.same b.branches);
        few = let l = length-append es fs in let x = a.few in let y = b.few in omega arith;
      }

  -- no turn yet
  pub none_ran : (performs : D → ℕ → C → R → D → Type 0) (steps : R → Bool) (w : Worker D C R) → IsPassOf table opening w.pass → WorkerRan table opening performs asks steps count 0 w w
  none_ran performs steps w fits =
      record {
        added = [];
        ran =
            record {
              fits = fits;
              same = refl;
              saw = prefix_same (seen_history w.pass) (seen_history w.pass) refl;
              made = sym (append-nil (own w.pass));
              branches = tt;
              few = omega arith;
            };
        stepped = omega arith;
        rest_lost = omega arith;
        legal = inl refl;
        same = refl;
      }

  -- seen behind what was seen
  saw_on : (performs : D → ℕ → C → R → D → Type 0) (p q r : Pass D C R) → SawLegal performs opening p q → SawLegal performs opening q r → SawLegal performs opening p r
  saw_on performs p q r a (inr legal) = inr legal
  saw_on performs p q r (inl same) (inl still) = inl (still ∙ same)
  saw_on performs p q r (inr legal) (inl still) = inr (subst (IsLegal performs opening) (sym still) legal)

  -- one turn more
  pub turn_more : (performs : D → ℕ → C → R → D → Type 0) (steps : R → Bool) (t : ℕ) (u v w : Worker D C R) → WorkerRan table opening performs asks steps count t u v → WorkerRan table opening performs asks steps count 1 v w → WorkerRan table opening performs asks steps count (t + 1) u w
  turn_more performs steps t u v w a b =
      record {
        added = a.added ++ b.added;
        ran = more_ran t 1 u.pass v.pass w.pass a.added b.added a.ran b.ran;
        stepped = let s = steps_joined steps a.added b.added in let x = a.stepped in let y = b.stepped in omega arith;
        rest_lost = let l = length-append a.added b.added in let x = a.rest_lost in let y = b.rest_lost in omega arith;
        legal = saw_on performs u.pass v.pass w.pass a.legal b.legal;
        same = b.same ∙ a.same;
      }

  -- one call, as it was told
  pub call_ran : (performs : D → ℕ → C → R → D → Type 0) (steps : R → Bool) (u w : Worker D C R) (q : Pass D C R) (c : C) (k : ℕ) (told : Result R (NotRecorded R)) → IsPassOf table opening q × (number q ≡ number u.pass)
      → IfOk told (λ r. Recorded u.pass c r q) → OnOk told (IsLegal performs opening (seen_history q)) → OnErr told (SawNothing u.pass q) → c ≡ asks k → (k < count) ⊎ ((count ≡ 0) × (k ≡ 0)) → w.pass ≡ q → w.number ≡ u.number
      → MatchResult told (λ r. (w.stepped ≡ u.stepped + (if steps r then 1 else 0)) × (w.lost ≡ u.lost)) (λ _. (w.stepped ≡ u.stepped) × (w.lost ≡ u.lost + 1))
      → WorkerRan table opening performs asks steps count 1 u w
  call_ran performs steps u w q c k (Ok r) fits done legal same is below here numbered counts =
      record {
        added = entry_of (number u.pass) c r ∷ [];
        ran = subst (λ (x : Pass D C R). PassRan table opening asks count 1 u.pass x (entry_of (number u.pass) c r ∷ [])) (sym here) (recorded_ran u.pass q c k r fits.0 fits.1 done is below);
        stepped = let a = counts.0 in omega arith;
        rest_lost = let a = counts.1 in omega arith;
        legal = inr (subst (λ (x : Pass D C R). IsLegal performs opening (seen_history x)) (sym here) legal);
        same = numbered;
      }
  call_ran performs steps u w q c k (Err why) fits done legal same is below here numbered counts =
      record {
        added = [];
        ran = subst (λ (x : Pass D C R). PassRan table opening asks count 1 u.pass x []) (sym here) (unrecorded_ran u.pass q fits.0 fits.1 same);
        stepped = let a = counts.0 in omega arith;
        rest_lost = let a = counts.1 in omega arith;
        legal = inl (ap seen_history here ∙ same.0);
        same = numbered;
      }

  -- after some turns there are no more steps, nor lost turns, than turns
  pub counts_few : (performs : D → ℕ → C → R → D → Type 0) (steps : R → Bool) (t : ℕ) (u w : Worker D C R) → u.stepped ≡ 0 → u.lost ≡ 0 → WorkerRan table opening performs asks steps count t u w → (w.stepped ≤ t) × (w.lost ≤ t)
  counts_few performs steps t u w none nothing ran =
      let few = steps_few steps ran.added in
      let a = ran.stepped in
      let b = ran.rest_lost in
      let c = ran.ran.few in
      (omega arith, omega arith)

-- branch 0 is one of those there are, or there is none
pub first_branch : (count : ℕ) → (0 < count) ⊎ ((count ≡ 0) × (◌≡◌ {A = ℕ} 0 0))
first_branch zero = inr (refl, refl)
first_branch (suc count) = inl (omega arith)

-- what a call asked for
pub call_asked : {D C R : Type 0} (asks : ℕ → C) (p q r : Pass D C R) (c : C) (k : ℕ) (told : Result R (NotRecorded R)) → IfOk told (λ t. Recorded p c t q) → OnErr told (SawNothing p q) → c ≡ asks k → r ≡ q → AskedFor asks k p r
call_asked asks p q r c k (Ok t) done same is here = inr (t, ap own here ∙ done.made ∙ ap (λ x. own p ++ entry_of (number p) x t ∷ []) is)
call_asked asks p q r c k (Err why) done same is here = inl (ap own here ∙ same.1)
