-- The command of a place lies within the body, so its line is one on which a command begins.
use Rattle.std.proofs.Common.{◌≡◌, ℕ, zero, suc, ◌==◌, ◌||◌, if◌then◌else◌, List, [], ◌∷◌, ◌++◌, Bool, true, false, Option, None, Some, length, map, refl, ◌∙◌, ap, subst, eq-eqb, slice_get}
use Rattle.std.specs.Prelude.{option_map, option_and_then}
use Rattle.std.specs.Option.{option_or}
use Rattle.std.proofs.lemmas.Bool.{or_left, or_right}
use Rattle.address.specs.declared.Entry.{Entry}
use Rattle.address.specs.declared.Entry.TheVariants.{Ordered, Branch}
use Rattle.system.specs.declared.command.Action.{Action}
use Rattle.system.specs.declared.command.Action.TheOpen.{Action-F}
use Rattle.system.specs.declared.command.Action.TheFolds.{map-Action, fold-Action, fold_out-Action, fold_out-Command, fold_out-Arm, fold_out-Guarded, fold_out-Labelled}
use Rattle.system.specs.declared.command.Arm.{Arm, out-Arm}
use Rattle.system.specs.declared.command.Command.{Command, out-Command}
use Rattle.system.specs.declared.command.Guarded.{Guarded, out-Guarded}
use Rattle.system.specs.declared.command.Labelled.{Labelled, out-Labelled}
use Rattle.system.specs.declared.system.System.{System}
use Rattle.system_places.specs.CommandPlaces.{is_body_number}
use Rattle.system_places.specs.declared.command_places.Form.TheVariants.{Turns, Test, Choice}
use Rattle.system_places.specs.LinesBegun.{any_onto, last_of, begun_layer, begun_arm, begun_command, begun_guarded, begun_labelled, begins}
use Rattle.system_places.specs.internal.Parts.{arm_begins, guarded_begins, labelled_begins}
use Rattle.system_places.specs.TakenArms.{ArmsByPlace, Doing, doing, line_of_command, is_place, else_at, guarded_at, labelled_at, channel_arm_at, body_at, part_at, child_at, part, acting_in, acting_command}
use Rattle.system_places.specs.Laws.{LinesAreBegun}

-- what is held
abbrev held_or : {X : Type 0} → X → Option X → X
held_or x None = x
held_or x (Some y) = y

some-same : {X : Type 0} (x y : X) → Some x ≡ Some y → x ≡ y
some-same x y e = ap (λ o. held_or x o) e

-- once one is found it stays so
any-found : (bs : List Bool) → any_onto true bs ≡ true
any-found [] = refl
any-found (b ∷ bs) = any-found bs

-- one of the list has it
any-at : {X : Type 0} (found : Bool) (f : X → Bool) (xs : List X) (k : ℕ) (x : X) → slice_get xs k ≡ Some x → f x ≡ true →
    any_onto found (map f xs) ≡ true
any-at found f [] zero x at h = cc
any-at found f [] (suc k) x at h = cc
any-at found f (y ∷ ys) zero x at h =
    ap (λ b. any_onto b (map f ys)) (or_right found (f y) (ap f (some-same y x at) ∙ h)) ∙ any-found (map f ys)
any-at found f (y ∷ ys) (suc k) x at h = any-at (found || f y) f ys k x at h

-- the lines of the parts of a command
abbrev action_begins : ℕ → Action → Bool
action_begins line = fold-Action Bool Bool Bool Bool Bool begun_layer begun_arm (begun_command line) begun_guarded begun_labelled

abbrev parts_begin : ℕ → Doing → Bool
parts_begin line d =
    begun_layer (map-Action Action Arm Command Guarded Labelled Bool Bool Bool Bool Bool
    (action_begins line) (arm_begins line) (begins line) (guarded_begins line) (labelled_begins line) d)

-- a command begins on its own line, and on those of its parts
opened : (line : ℕ) (c : Command) → begins line c ≡ ((line_of_command c == line) || parts_begin line (doing c))
opened line c =
    fold_out-Command Bool Bool Bool Bool Bool begun_layer begun_arm (begun_command line) begun_guarded begun_labelled c
    ∙ ap (λ b. (line_of_command c == line) || b)
    (fold_out-Action Bool Bool Bool Bool Bool begun_layer begun_arm (begun_command line) begun_guarded begun_labelled (out-Command c).action)

on-own-line : (c : Command) → begins (line_of_command c) c ≡ true
on-own-line c = opened (line_of_command c) c ∙ or_left (line_of_command c == line_of_command c) (parts_begin (line_of_command c) (doing c)) (eq-eqb (line_of_command c) (line_of_command c) refl)

arm-opened : (line : ℕ) (a : Arm) → arm_begins line a ≡ begins line (out-Arm a).body
arm-opened line a = fold_out-Arm Bool Bool Bool Bool Bool begun_layer begun_arm (begun_command line) begun_guarded begun_labelled a

guarded-opened : (line : ℕ) (a : Guarded) → guarded_begins line a ≡ begins line (out-Guarded a).body
guarded-opened line a = fold_out-Guarded Bool Bool Bool Bool Bool begun_layer begun_arm (begun_command line) begun_guarded begun_labelled a

labelled-opened : (line : ℕ) (a : Labelled) → labelled_begins line a ≡ begins line (out-Labelled a).body
labelled-opened line a = fold_out-Labelled Bool Bool Bool Bool Bool begun_layer begun_arm (begun_command line) begun_guarded begun_labelled a

-- what stands where a body stands is the body
body-there : (b : Bool) (o : Option Command) (e : Command) → body_at b o ≡ Some e → o ≡ Some e
body-there true o e is = is
body-there false o e is = cc

-- an arm that was taken
taken-there : (f : ℕ → Option Command) (arm : Option ℕ) (e : Command) → option_and_then f arm ≡ Some e → (k : ℕ) × (f k ≡ Some e)
taken-there f None e is = cc
taken-there f (Some k) e is = (k, is)

-- the body of an arm, or what stands behind an `else`
in-arms : {X : Type 0} (line : ℕ) (f : X → Bool) (body : X → Command) → ((a : X) → f a ≡ begins line (body a)) →
    (arms : List X) (last : Option Command) (k : ℕ) (e : Command) → option_or (option_map body (slice_get arms k)) (else_at (length arms) last k) ≡ Some e →
    begins line e ≡ true → (any_onto false (map f arms) || last_of (option_map (begins line) last)) ≡ true
in-arms line f body same arms last k e is h = pick (slice_get arms k) refl is
  where
    behind : (b : Bool) (o : Option Command) → (if b then o else None) ≡ Some e → last_of (option_map (begins line) o) ≡ true
    behind true None at = cc
    behind true (Some d) at = ap (begins line) (some-same d e at) ∙ h
    behind false o at = cc

    pick : (o : Option _) → slice_get arms k ≡ o → option_or (option_map body o) (else_at (length arms) last k) ≡ Some e →
        (any_onto false (map f arms) || last_of (option_map (begins line) last)) ≡ true
    pick (Some a) at found =
        or_left (any_onto false (map f arms)) (last_of (option_map (begins line) last))
        (any-at false f arms k a at (same a ∙ ap (begins line) (some-same (body a) e found) ∙ h))
    pick None at found =
        or_right (any_onto false (map f arms)) (last_of (option_map (begins line) last)) (behind (k == length arms) last found)

-- the body of an arm on a channel
in-waiting : (line : ℕ) (arms : List Arm) (k : ℕ) (e : Command) → channel_arm_at arms k ≡ Some e → begins line e ≡ true → any_onto false (map (arm_begins line) arms) ≡ true
in-waiting line arms k e is h = pick (slice_get arms k) refl is
  where
    pick : (o : Option Arm) → slice_get arms k ≡ o → option_map (λ a. (out-Arm a).body) o ≡ Some e → any_onto false (map (arm_begins line) arms) ≡ true
    pick (Some a) at found =
        any-at false (arm_begins line) arms k a at (arm-opened line a ∙ ap (begins line) (some-same (out-Arm a).body e found) ∙ h)
    pick None at found = cc

-- the body of a loop or an input
in-body : (line : ℕ) (b : Bool) (body e : Command) → body_at b (Some body) ≡ Some e → begins line e ≡ true → begins line body ≡ true
in-body line b body e is h = ap (begins line) (some-same body e (body-there b (Some body) e is)) ∙ h

-- a part at p.n, one line a form
ordered-begins : (line : ℕ) (arm : Option ℕ) (d : Doing) (n : ℕ) (e : Command) → part_at arm d n ≡ Some e → begins line e ≡ true → parts_begin line d ≡ true
ordered-begins line arm (Action-F.Loop body) n e is h = in-body line (is_body_number Turns n) body e is h
ordered-begins line arm (Action-F.While g body) n e is h = in-body line (is_body_number Turns n) body e is h
ordered-begins line arm (Action-F.Input c body) n e is h = in-body line (is_body_number Choice n) body e is h
ordered-begins line arm (Action-F.If arms None) n e is h =
    let at = taken-there (guarded_at arms None) arm e (body-there (is_body_number Test n) (option_and_then (guarded_at arms None) arm) e is) in
    in-arms line (guarded_begins line) (λ a. (out-Guarded a).body) (guarded-opened line) arms None at.0 e at.1 h
ordered-begins line arm (Action-F.If arms (Some body)) n e is h =
    let at = taken-there (guarded_at arms (Some body)) arm e (body-there (is_body_number Test n) (option_and_then (guarded_at arms (Some body)) arm) e is) in
    in-arms line (guarded_begins line) (λ a. (out-Guarded a).body) (guarded-opened line) arms (Some body) at.0 e at.1 h
ordered-begins line arm (Action-F.Case g arms None) n e is h =
    let at = taken-there (labelled_at arms None) arm e (body-there (is_body_number Test n) (option_and_then (labelled_at arms None) arm) e is) in
    in-arms line (labelled_begins line) (λ a. (out-Labelled a).body) (labelled-opened line) arms None at.0 e at.1 h
ordered-begins line arm (Action-F.Case g arms (Some body)) n e is h =
    let at = taken-there (labelled_at arms (Some body)) arm e (body-there (is_body_number Test n) (option_and_then (labelled_at arms (Some body)) arm) e is) in
    in-arms line (labelled_begins line) (λ a. (out-Labelled a).body) (labelled-opened line) arms (Some body) at.0 e at.1 h
ordered-begins line arm (Action-F.Select arms) n e is h =
    let at = taken-there (channel_arm_at arms) arm e (body-there (is_body_number Choice n) (option_and_then (channel_arm_at arms) arm) e is) in
    in-waiting line arms at.0 e at.1 h
ordered-begins line arm (Action-F.Arbitrate arms) n e is h =
    let at = taken-there (channel_arm_at arms) arm e (body-there (is_body_number Choice n) (option_and_then (channel_arm_at arms) arm) e is) in
    in-waiting line arms at.0 e at.1 h
ordered-begins line arm (Action-F.Sequence children) n e is h = any-at false (begins line) children n e is h
ordered-begins line arm _ n e is h = cc

-- a part at p/n
branch-begins : (line : ℕ) (d : Doing) (n : ℕ) (e : Command) → child_at d n ≡ Some e → begins line e ≡ true → parts_begin line d ≡ true
branch-begins line (Action-F.Parallel children) n e is h = any-at false (begins line) children n e is h
branch-begins line _ n e is h = cc

part-begins : (line : ℕ) (arm : Option ℕ) (d : Doing) (x : Entry) (e : Command) → part arm d x ≡ Some e → begins line e ≡ true → parts_begin line d ≡ true
part-begins line arm d (Ordered n) e is h = ordered-begins line arm d n e is h
part-begins line arm d (Branch n) e is h = branch-begins line d n e is h

-- what begins in a part begins in the command
part-within : (line : ℕ) (arm : Option ℕ) (c : Command) (x : Entry) (e : Command) → part arm (doing c) x ≡ Some e → begins line e ≡ true → begins line c ≡ true
part-within line arm c x e is h = opened line c ∙ or_right (line_of_command c == line) (parts_begin line (doing c)) (part-begins line arm (doing c) x e is h)

-- the command of a way is the one where the way begins, or lies within it
same-line : (c e : Command) → Some c ≡ Some e → begins (line_of_command e) c ≡ true
same-line c e is = subst (λ d. begins (line_of_command d) c ≡ true) (some-same c e is) (on-own-line c)

acting-begins : (taken : ArmsByPlace) (before : List Entry) (c : Command) (way : List Entry) (e : Command) → acting_in taken before c way ≡ Some e → begins (line_of_command e) c ≡ true
acting-begins taken before c [] e is = pick (is_place (doing c) []) is
  where
    pick : (b : Bool) → (if b then Some c else None) ≡ Some e → begins (line_of_command e) c ≡ true
    pick true at = same-line c e at
    pick false at = cc
acting-begins taken before c (x ∷ way) e is =
    pick (is_place (doing c) (x ∷ way)) (λ d at. acting-begins taken (before ++ x ∷ []) d way e at) is
  where
    below : (o : Option Command) → part (taken before) (doing c) x ≡ o → ((d : Command) → acting_in taken (before ++ x ∷ []) d way ≡ Some e → begins (line_of_command e) d ≡ true) →
        option_and_then (λ d. acting_in taken (before ++ x ∷ []) d way) o ≡ Some e → begins (line_of_command e) c ≡ true
    below None there more at = cc
    below (Some d) there more at = part-within (line_of_command e) (taken before) c x d there (more d at)

    pick : (b : Bool) → ((d : Command) → acting_in taken (before ++ x ∷ []) d way ≡ Some e → begins (line_of_command e) d ≡ true) →
        (if b then Some c else option_and_then (λ d. acting_in taken (before ++ x ∷ []) d way) (part (taken before) (doing c) x)) ≡ Some e → begins (line_of_command e) c ≡ true
    pick true more at = same-line c e at
    pick false more at = below (part (taken before) (doing c) x) refl more at

command-begins : (taken : ArmsByPlace) (system : System) (place : List Entry) (e : Command) → acting_command taken system place ≡ Some e → begins (line_of_command e) system.main ≡ true
command-begins taken system [] e is = cc
command-begins taken system (Ordered n ∷ way) e is = cc
command-begins taken system (Branch n ∷ way) e is = pick (n == 0) is
  where
    pick : (b : Bool) → (if b then acting_in taken (Branch n ∷ []) system.main way else None) ≡ Some e → begins (line_of_command e) system.main ≡ true
    pick true at = acting-begins taken (Branch n ∷ []) system.main way e at
    pick false at = cc

pub lines-are-begun : LinesAreBegun
lines-are-begun taken system place line is = pick (acting_command taken system place) refl is
  where
    pick : (o : Option Command) → acting_command taken system place ≡ o → option_map line_of_command o ≡ Some line → begins line system.main ≡ true
    pick None there at = cc
    pick (Some e) there at =
        subst (λ n. begins n system.main ≡ true) (some-same (line_of_command e) line at) (command-begins taken system place e there)
