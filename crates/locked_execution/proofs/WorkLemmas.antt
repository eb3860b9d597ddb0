-- What workers did, of the passes that they were given.
use Rattle.std.proofs.Common.{◌≡◌, ℕ, suc, ◌≤◌, ◌+◌, ◌*◌, Bool, List, [], ◌∷◌, ◌++◌, length, Some, refl, sym, ap, ◌∙◌, subst, arith}
use Rattle.std.specs.Prelude.{slice_get}
use Rattle.std.proofs.Math.Nat.{mul_comm}
use Rattle.atomic_table.specs.Seated.{TableId}
use Rattle.recorded_calls.specs.declared.entry.Entry.{Entry}
use Rattle.recorded_calls.specs.History.{calls_by}
use Rattle.locked_object.specs.Passes.{IsPassOf, number, own}
use Rattle.locked_object.specs.Sharing.{NewPasses}
use Rattle.locked_object.specs.declared.pass.Pass.{Pass}
use Rattle.object_workers.specs.Dealt.{total}
use Rattle.object_workers.specs.Runs.{steps_in, PassesFit, PassesRan, WorkersRan}
use Rattle.object_workers.proofs.public.Turns.{steps_few}
use Rattle.system.specs.declared.system.System.{System}
use Rattle.system_places.specs.SystemBranches.{branch_count}
use Rattle.machine.specs.AtMachine.{AtMachine}
use Rattle.locked_execution.specs.AtDesk.{AtDesk, new_desk}
use Rattle.locked_execution.specs.Sharing.{History, is_step}
use Rattle.locked_execution.specs.declared.command.Command.{Command}
use Rattle.locked_execution.specs.declared.command.Reply.{Reply}
use Rattle.locked_execution.specs.Working.{unstepped, HasAllOf, CountsLive, Worked}

-- a list of no length has no elements
pub none_left : {X : Type 0} (xs : List X) → length xs ≡ 0 → xs ≡ []
none_left [] e = refl
none_left (x ∷ xs) e = absurd (omega arith)

-- one number is at most another and more
below : (s t u l n : ℕ) → s ≡ t → t ≤ u → u + l ≡ n → s ≤ n
below s t u l n is few all = omega arith

module _ {C R : Type 0} where
  -- there are no more steps than calls
  total_few : (steps : R → Bool) (ls : List (List (Entry C R))) → total (steps_in steps) ls ≤ total length ls
  total_few steps [] = omega arith
  total_few steps (l ∷ ls) = let a = steps_few steps l in let b = total_few steps ls in omega arith

module _ {D C R : Type 0} where
  -- passes of one object at each place
  fit : (table : TableId) (opening : D) (ps : List (Pass D C R)) → ((i : ℕ) (p : Pass D C R) → slice_get ps i ≡ Some p → IsPassOf table opening p)
      → PassesFit table opening ps
  fit table opening [] each = tt
  fit table opening (p ∷ ps) each = (each 0 p refl, fit table opening ps (λ i q e. each (suc i) q e))

  -- and the other way round
  pub fit_here : (table : TableId) (opening : D) (ps rest all : List (Pass D C R)) (p : Pass D C R) → ps ++ p ∷ rest ≡ all → PassesFit table opening all → IsPassOf table opening p
  fit_here table opening ps rest all p is fits = fit_at ps (subst (PassesFit table opening) (sym is) fits) where
    fit_at : (qs : List (Pass D C R)) → PassesFit table opening (qs ++ p ∷ rest) → IsPassOf table opening p
    fit_at [] h = h.0
    fit_at (q ∷ qs) h = fit_at qs h.1

  -- passes with which workers ran are of their object
  pub ran_fit : (table : TableId) (opening : D) (asks : ℕ → C) (count turns : ℕ) (before after : List (Pass D C R)) (added : List (List (Entry C R))) → PassesRan table opening asks count turns before after added → PassesFit table opening after
  ran_fit table opening asks count turns [] [] [] ran = tt
  ran_fit table opening asks count turns (p ∷ ps) (q ∷ qs) (l ∷ ls) ran = (ran.0.fits, ran_fit table opening asks count turns ps qs ls ran.1)
  ran_fit table opening asks count turns [] (q ∷ qs) ls ran = absurd ran
  ran_fit table opening asks count turns (p ∷ ps) [] ls ran = absurd ran
  ran_fit table opening asks count turns [] [] (l ∷ ls) ran = absurd ran
  ran_fit table opening asks count turns (p ∷ ps) (q ∷ qs) [] ran = absurd ran

  -- and are as many
  pub ran_many : (table : TableId) (opening : D) (asks : ℕ → C) (count turns : ℕ) (before after : List (Pass D C R)) (added : List (List (Entry C R))) → PassesRan table opening asks count turns before after added → length after ≡ length before
  ran_many table opening asks count turns [] [] [] ran = refl
  ran_many table opening asks count turns (p ∷ ps) (q ∷ qs) (l ∷ ls) ran = ap suc (ran_many table opening asks count turns ps qs ls ran.1)
  ran_many table opening asks count turns [] (q ∷ qs) ls ran = absurd ran
  ran_many table opening asks count turns (p ∷ ps) [] ls ran = absurd ran
  ran_many table opening asks count turns [] [] (l ∷ ls) ran = absurd ran
  ran_many table opening asks count turns (p ∷ ps) (q ∷ qs) [] ran = absurd ran

  -- new passes are of their object
  pub new_fit : (table : TableId) (opening : D) (count : ℕ) (ps : List (Pass D C R)) → NewPasses table opening count ps → PassesFit table opening ps
  new_fit table opening count ps new = fit table opening ps (λ i p e. (new.each i p e).0)

  -- and no more than turns
  pub steps_of_turns : (table : TableId) (opening : D) (asks : ℕ → C) (count turns : ℕ) (steps : R → Bool) (before after : List (Pass D C R)) (stepped lost workers : ℕ)
      → WorkersRan table opening asks count turns steps before after stepped lost → length before ≡ workers → stepped ≤ workers * turns
  steps_of_turns table opening asks count turns steps before after stepped lost workers ran many =
      subst (λ (n : ℕ). stepped ≤ n) (ap (λ (n : ℕ). turns * n) many ∙ mul_comm turns workers)
      (below stepped (total (steps_in steps) ran.added) (total length ran.added) lost (turns * length before) ran.counted (total_few steps ran.added) ran.rest_lost)

-- workers with new passes of an execution of the system took their turns
pub crew_ran : (system : System) (workers turns stepped live lost : ℕ) (table : TableId) (opening : AtDesk) (made : AtMachine) (before after : List (Pass AtDesk Command Reply))
    → made ≡ record { checked = system; live = []; next = 1; marked = [] } → opening ≡ new_desk made → NewPasses table opening workers before
    → WorkersRan table opening Command.Branch (branch_count opening.machine.checked) turns is_step before after stepped lost
    → CountsLive opening after live → Worked system workers turns stepped live
crew_ran system workers turns stepped live lost table opening made before after machine desk new ran lives =
    let same : opening ≡ unstepped system = desk ∙ ap new_desk machine in
    let passes = subst (λ (o : AtDesk). NewPasses table o workers before) same new in
    let steps = subst (λ (o : AtDesk). WorkersRan table o Command.Branch (branch_count o.machine.checked) turns is_step before after stepped lost) same ran in
    record {
      passes = after;
      steps = record {
        table = table;
        before = before;
        lost = lost;
        new = passes;
        ran = steps;
        few = steps_of_turns table (unstepped system) Command.Branch (branch_count system) turns is_step before after stepped lost workers steps passes.many;
      };
      lives = subst (λ (o : AtDesk). CountsLive o after live) same lives;
    }

-- one pass more
pub has_more : (log : History) (ps : List (Pass AtDesk Command Reply)) (p : Pass AtDesk Command Reply) → HasAllOf log ps → calls_by (number p) log ≡ own p → HasAllOf log (ps ++ p ∷ [])
has_more log [] p all here = (here, tt)
has_more log (q ∷ ps) p all here = (all.0, has_more log ps p all.1 here)
