-- What is done at a desk, command by command.
use Rattle.std.proofs.Common.{◌≡◌, inl, inr, ℕ, zero, suc, ◌+◌, ◌-◌, ◌<◌, ◌≤◌, arith, Bool, true, false, List, [], ◌∷◌, Option, Some, None, Result, Ok, Err, refl, sym, ap, ◌∙◌, subst}
use Rattle.std.specs.Bool.{MatchBool}
use Rattle.std.specs.Prelude.{option_map, slice_get, length, IfOk}
use Rattle.runs.specs.Live.{Live}
use Rattle.runs.specs.declared.event.Event.{Event}
use Rattle.system_places.specs.SystemBranches.{branch_count}
use Rattle.locked_execution.specs.AtDesk.{AtDesk}
use Rattle.locked_execution.specs.Answered.{Answered}
use Rattle.locked_execution.specs.Performs.{Answers}
use Rattle.locked_execution.specs.declared.command.Command.{Command}
use Rattle.locked_execution.specs.declared.command.Reply.{Reply}
use Rattle.shell_desk.specs.AtBench.{AtBench}
use Rattle.shell_desk.specs.Does.{Asked, AsksIfAny, GoesBack, InTurn, IsNewest, OneTurn, Runs, RunsFrom, RunsPast, end_of, ended_at, ends_run, ends_way, first_of, held_of, is_busy, next_of, numbered_as, TurnsSession}
use Rattle.shell_desk.specs.Laws.{EachDeedIsCommands, Leaves, of_session}
use Rattle.shell_desk.specs.declared.deed.Deed.{Deed}
use Rattle.shell_desk.specs.declared.deed.Done.{Done}
use Rattle.shell_desk.specs.declared.deed.End.{End}

-- one of the turns that are left
one-less : (n i : ℕ) → i < n → n - i ≡ suc (n - (i + 1))
one-less n i less = omega arith

-- no step is asked for
no-step : 0 < 0 → ⊥
no-step less = omega arith

-- a test has one result
pub true-false : true ≡ false → ⊥
true-false h = cc

-- a fact by a test
pub by-false : (P : Type 0) {Q : Type 0} → (t : Bool) → t ≡ false → Q → MatchBool t P Q
by-false P true e q = absurd (true-false e)
by-false P false e q = q

pub by-true : {P : Type 0} (Q : Type 0) → (t : Bool) → t ≡ true → P → MatchBool t P Q
by-true Q true e p = p
by-true Q false e p = absurd (true-false (sym e))

-- the fact of a test that fails
pub told-false : (P : Type 0) {Q : Type 0} → (t : Bool) → MatchBool t P Q → t ≡ false → Q
told-false P true h e = absurd (true-false e)
told-false P false h e = h

-- the fact of a test that passes
pub told-true : {P : Type 0} (Q : Type 0) → (t : Bool) → MatchBool t P Q → t ≡ true → P
told-true Q true h e = h
told-true Q false h e = absurd (true-false (sym e))

-- what follows from both
by-cases : (P Q : Type 0) {R : Type 0} → (t : Bool) → MatchBool t P Q → (P → R) → (Q → R) → R
by-cases P Q true h f g = f h
by-cases P Q false h f g = g h

-- all branches are left at first
pub turn-begins : (b : AtBench) (count first : ℕ) → count ≡ branch_count b.desk.machine.checked → first ≡ first_of count b.turn
    → (reply : Reply) (b' : AtBench) → InTurn count b (count - 0) first reply b' → OneTurn b reply b'
turn-begins b count first p q reply b' h =
    let all : count - 0 ≡ count = omega arith in
    subst (λ (n : ℕ). InTurn n b n (first_of n b.turn) reply b') p
    (subst (λ (k : ℕ). InTurn count b count k reply b') q
    (subst (λ (m : ℕ). InTurn count b m first reply b') all h))

-- one branch more of a turn
pub turn-goes-on : (count i k k' : ℕ) (b m : AtBench) (r : Reply) → i < count → Asked b (Command.Branch k) r m → is_busy r ≡ false
    → k' ≡ next_of count k → (reply : Reply) (b' : AtBench) → InTurn count m (count - (i + 1)) k' reply b'
    → InTurn count b (count - i) k reply b'
turn-goes-on count i k k' b m r less asked idle next reply b' rest =
    subst (λ (left : ℕ). InTurn count b left k reply b') (sym (one-less count i less))
    (r, m, asked, by-false _ (is_busy r) idle (subst (λ (n : ℕ). InTurn count m (count - (i + 1)) n reply b') next rest))

-- the branch that is not idle
pub turn-ends : (count i k : ℕ) (b m : AtBench) (r : Reply) → i < count → Asked b (Command.Branch k) r m → is_busy r ≡ true
    → InTurn count b (count - i) k r m
turn-ends count i k b m r less asked busy =
    subst (λ (left : ℕ). InTurn count b left k r m) (sym (one-less count i less))
    (r, m, asked, by-true _ (is_busy r) busy (refl, refl))

-- no branch is left
pub turn-idle : (count i k : ℕ) (b : AtBench) → count ≤ i → InTurn count b (count - i) k Reply.Idle b
turn-idle count i k b past =
    let none : count - i ≡ 0 = omega arith in
    subst (λ (left : ℕ). InTurn count b left k Reply.Idle b) (sym none) (refl, refl)

-- all steps are left at first
pub run-begins : (limit : ℕ) (b : AtBench) (end : End) (b' : AtBench) → Runs b (limit - 0) end b' → Runs b limit end b'
run-begins limit b end b' h =
    let all : limit - 0 ≡ limit = omega arith in subst (λ (left : ℕ). Runs b left end b') all h

-- one step more of a run
pub run-goes-on : (limit i : ℕ) (b m : AtBench) (r : Reply) → i < limit → OneTurn b r m → ends_run r ≡ false
    → (end : End) (b' : AtBench) → Runs m (limit - (i + 1)) end b' → Runs b (limit - i) end b'
run-goes-on limit i b m r less turn step end b' rest =
    subst (λ (left : ℕ). Runs b left end b') (sym (one-less limit i less)) (r, m, turn, by-false _ (ends_run r) step rest)

-- a run that ends at a reply
pub run-ends : (limit i : ℕ) (b m : AtBench) (r : Reply) (end : End) → i < limit → OneTurn b r m → ends_run r ≡ true
    → end ≡ end_of r → Runs b (limit - i) end m
run-ends limit i b m r end less turn none e =
    subst (λ (left : ℕ). Runs b left end m) (sym (one-less limit i less))
    (r, m, turn, by-true _ (ends_run r) none (e, refl))

-- a run of as many steps as were asked for
pub run-enough : (limit i : ℕ) (b : AtBench) → limit ≤ i → Runs b (limit - i) End.Enough b
run-enough limit i b past =
    let none : limit - i ≡ 0 = omega arith in
    subst (λ (left : ℕ). Runs b left End.Enough b) (sym none) (refl, refl)

-- one step past a breakpoint, and then the others
pub past-goes-on : (line limit : ℕ) (b c d m b' : AtBench) (r r1 r2 : Reply) (end : End) → 0 < limit
    → Asked b (Command.Clear line) r1 c → OneTurn c r d → Asked d (Command.Break line) r2 m → ends_run r ≡ false
    → Runs m (limit - 1) end b' → RunsPast line b limit end b'
past-goes-on line zero b c d m b' r r1 r2 end less cleared turn set step rest = absurd (no-step less)
past-goes-on line (suc left) b c d m b' r r1 r2 end less cleared turn set step rest =
    let same : suc left - 1 ≡ left = omega arith in
    (r, c, d, m, (r1, cleared), turn, (r2, set), by-false _ (ends_run r) step (subst (λ (n : ℕ). Runs m n end b') same rest))

-- no step past a breakpoint
pub past-ends : (line limit : ℕ) (b c d m : AtBench) (r r1 r2 : Reply) (end : End) → 0 < limit
    → Asked b (Command.Clear line) r1 c → OneTurn c r d → Asked d (Command.Break line) r2 m → ends_run r ≡ true
    → end ≡ end_of r → RunsPast line b limit end m
past-ends line zero b c d m r r1 r2 end less cleared turn set none e = absurd (no-step less)
past-ends line (suc left) b c d m r r1 r2 end less cleared turn set none e =
    (r, c, d, m, (r1, cleared), turn, (r2, set), by-true _ (ends_run r) none (e, refl))

-- a run from the breakpoint that is held
pub from-held : (b b' : AtBench) (limit : ℕ) (end : End) (held : Option ℕ) → held ≡ held_of b → RunsFrom held b limit end b'
    → RunsFrom (held_of b) b limit end b'
from-held b b' limit end held e h = subst (λ (o : Option ℕ). RunsFrom o b limit end b') e h

-- the greatest ticket stands last
pub newest-at : (l k : Live) (n t : ℕ) (e : Event) → n ≡ length k → k ≡ l → slice_get l (n - 1) ≡ Some (t, e) → IsNewest l t
newest-at l k n t e p q h =
    (e, subst (λ (m : ℕ). slice_get l (m - 1) ≡ Some (t, e)) (p ∙ ap (λ (x : Live). length x) q) h)

-- all are left at first
pub back-begins : (count : ℕ) (b : AtBench) (told : Option Reply) (b' : AtBench) → GoesBack b (count - 0) told b' → GoesBack b count told b'
back-begins count b told b' h =
    let all : count - 0 ≡ count = omega arith in subst (λ (left : ℕ). GoesBack b left told b') all h

-- one step more is taken back
pub back-goes-on : (count i t : ℕ) (b m : AtBench) (r : Reply) → i < count → IsNewest b.desk.machine.live t
    → Asked b (Command.Undo t) r m → ends_way r ≡ false
    → (told : Option Reply) (b' : AtBench) → GoesBack m (count - (i + 1)) told b' → GoesBack b (count - i) told b'
back-goes-on count i t b m r less newest asked undone told b' rest =
    subst (λ (left : ℕ). GoesBack b left told b') (sym (one-less count i less))
    (inr (t, newest, r, m, asked, by-false _ (ends_way r) undone rest))

-- a step that is not taken back
pub back-ends : (count i t : ℕ) (b m : AtBench) (r : Reply) → i < count → IsNewest b.desk.machine.live t
    → Asked b (Command.Undo t) r m → ends_way r ≡ true → GoesBack b (count - i) (Some r) m
back-ends count i t b m r less newest asked kept =
    subst (λ (left : ℕ). GoesBack b left (Some r) m) (sym (one-less count i less))
    (inr (t, newest, r, m, asked, by-true _ (ends_way r) kept (refl, refl)))

-- no step is left
pub back-empty : (count i : ℕ) (b : AtBench) → i < count → b.desk.machine.live ≡ [] → GoesBack b (count - i) None b
back-empty count i b less empty =
    subst (λ (left : ℕ). GoesBack b left None b) (sym (one-less count i less)) (inl (empty, refl, refl))

-- as many as were asked for
pub back-enough : (count i : ℕ) (b : AtBench) → count ≤ i → GoesBack b (count - i) None b
back-enough count i b past =
    let none : count - i ≡ 0 = omega arith in
    subst (λ (left : ℕ). GoesBack b left None b) (sym none) (refl, refl)

-- numbers count from 1
pub numbered-from : {X : Type 0} (xs : List X) (n : ℕ) → (n ≡ 0 → ⊥) → numbered_as xs n ≡ slice_get xs (n - 1)
numbered-from xs zero some = absurd (some refl)
numbered-from xs (suc i) some =
    let same : suc i - 1 ≡ i = omega arith in ap (λ (k : ℕ). slice_get xs k) (sym same)

-- what is copied has the number
pub numbered-copied : {E : Type 0} (xs : List Command) (n : ℕ) (c : Command) (r : Result (Option Command) E) → (n ≡ 0 → ⊥)
    → slice_get xs (n - 1) ≡ Some c → IfOk r (λ made. made ≡ Some c) → IfOk r (λ found. found ≡ numbered_as xs n)
numbered-copied xs n c (Ok made) some at h = h ∙ sym (numbered-from xs n some ∙ at)
numbered-copied xs n c (Err fault) some at h = tt

-- the command that has a number is asked
pub take-asked : (b b' : AtBench) (n : ℕ) (c : Command) (r : Reply) → (n ≡ 0 → ⊥) → slice_get b.numbered (n - 1) ≡ Some c
    → Asked b c r b' → AsksIfAny b (numbered_as b.numbered n) (Done.Told r) b'
take-asked b b' n c r some at asked =
    subst (λ (o : Option Command). AsksIfAny b o (Done.Told r) b') (sym (numbered-from b.numbered n some ∙ at)) (r, asked, refl)

-- no command has the number
pub take-none : (b : AtBench) (n : ℕ) → (n ≡ 0 → ⊥) → slice_get b.numbered (n - 1) ≡ None
    → AsksIfAny b (numbered_as b.numbered n) Done.Unknown b
take-none b n some at =
    subst (λ (o : Option Command). AsksIfAny b o Done.Unknown b) (sym (numbered-from b.numbered n some ∙ at)) (refl, refl)

-- what commands of the session leave, where one stands before them
asked-then : (session : ℕ) (b m b' : AtBench) (c : Command) (r : Reply) → b.session ≡ session → Asked b c r m
    → Leaves session m b' → Leaves session b b'
asked-then session b m b' c r same asked rest =
    (c ∷ rest.0, r ∷ rest.1, (r, rest.1, m.desk, refl, subst (λ k. Answers b.desk k c r m.desk) same asked.0, rest.2))

-- no commands
nothing-left : (session : ℕ) (b : AtBench) → Leaves session b b
nothing-left session b = ([], [], (refl, refl))

-- where b' is b
unmoved : (session : ℕ) (b b' b'' : AtBench) → b' ≡ b → b.session ≡ session → (b'.session ≡ session → Leaves session b' b'')
    → Leaves session b b''
unmoved session b b' b'' e same rest =
    subst (λ (x : AtBench). Leaves session x b'') e (rest (ap (λ (x : AtBench). x.session) e ∙ same))

-- nothing is done where b' is b
still : (session : ℕ) (b b' : AtBench) → b' ≡ b → Leaves session b b'
still session b b' e = subst (λ (x : AtBench). Leaves session b x) (sym e) (nothing-left session b)

-- the branches of a turn, and what comes behind
turn-leaves : (session count left k : ℕ) (b b' b'' : AtBench) (reply : Reply) → b.session ≡ session → InTurn count b left k reply b'
    → (b'.session ≡ session → Leaves session b' b'') → Leaves session b b''
turn-leaves session count zero k b b' b'' reply same h rest = unmoved session b b' b'' h.1 same rest
turn-leaves session count (suc left) k b b' b'' reply same h rest =
    asked-then session b h.1 b'' (Command.Branch k) h.0 same h.2
    (by-cases ((reply ≡ h.0) × (b' ≡ h.1)) (InTurn count h.1 left (next_of count k) reply b') (is_busy h.0) h.3
    (λ done. unmoved session h.1 b' b'' done.1 (h.2.1 ∙ same) rest)
    (λ more. turn-leaves session count left (next_of count k) h.1 b' b'' reply (h.2.1 ∙ same) more rest))

-- the steps of a run
runs-leave : (session left : ℕ) (b b' : AtBench) (end : End) → b.session ≡ session → Runs b left end b' → Leaves session b b'
runs-leave session zero b b' end same h = still session b b' h.1
runs-leave session (suc left) b b' end same h =
    turn-leaves session (branch_count b.desk.machine.checked) (branch_count b.desk.machine.checked)
    (first_of (branch_count b.desk.machine.checked) b.turn) b h.1 b' h.0 same h.2
    (λ same'. by-cases ((end ≡ end_of h.0) × (b' ≡ h.1)) (Runs h.1 left end b') (ends_run h.0) h.3
    (λ done. still session h.1 b' done.1)
    (λ more. runs-leave session left h.1 b' end same' more))

-- the steps of a run past a breakpoint
runs-past-leave : (session line limit : ℕ) (b b' : AtBench) (end : End) → b.session ≡ session → RunsPast line b limit end b'
    → Leaves session b b'
runs-past-leave session line zero b b' end same h = still session b b' h.1
runs-past-leave session line (suc left) b b' end same (r, c, d, m, (r1, cleared), turn, (r2, set), rest) =
    asked-then session b c b' (Command.Clear line) r1 same cleared
    (turn-leaves session (branch_count c.desk.machine.checked) (branch_count c.desk.machine.checked)
    (first_of (branch_count c.desk.machine.checked) c.turn) c d b' r (cleared.1 ∙ same) turn
    (λ same'. asked-then session d m b' (Command.Break line) r2 same' set
    (by-cases ((end ≡ end_of r) × (b' ≡ m)) (Runs m left end b') (ends_run r) rest
    (λ done. still session m b' done.1)
    (λ more. runs-leave session left m b' end (set.1 ∙ same') more))))

runs-from-leave : (session limit : ℕ) (held : Option ℕ) (b b' : AtBench) (end : End) → b.session ≡ session
    → RunsFrom held b limit end b' → Leaves session b b'
runs-from-leave session limit None b b' end same h = runs-leave session limit b b' end same h
runs-from-leave session limit (Some line) b b' end same h = runs-past-leave session line limit b b' end same h

-- how a run ended changes no desk
ended-desk : (end : End) (m b' : AtBench) → b' ≡ ended_at end m → b'.desk ≡ m.desk
ended-desk End.Enough m b' e = ap (λ (x : AtBench). x.desk) e
ended-desk End.Idle m b' e = ap (λ (x : AtBench). x.desk) e
ended-desk (End.AtBreak line) m b' e = ap (λ (x : AtBench). x.desk) e
ended-desk (End.Refused why) m b' e = ap (λ (x : AtBench). x.desk) e

-- what is left by the desk alone
same-desk : (session : ℕ) (b m b' : AtBench) → b'.desk ≡ m.desk → Leaves session b m → Leaves session b b'
same-desk session b m b' e h =
    (h.0, h.1, subst (λ (d : AtDesk). Answered b.desk (of_session session h.0) h.1 d) (sym e) h.2)

-- the steps that are taken back
back-leaves : (session left : ℕ) (b b' : AtBench) (told : Option Reply) → b.session ≡ session → GoesBack b left told b'
    → Leaves session b b'
back-leaves session zero b b' told same h = still session b b' h.1
back-leaves session (suc left) b b' told same (inl h) = still session b b' h.2
back-leaves session (suc left) b b' told same (inr h) =
    asked-then session b h.3 b' (Command.Undo h.0) h.2 same h.4
    (by-cases ((told ≡ Some h.2) × (b' ≡ h.3)) (GoesBack h.3 left told b') (ends_way h.2) h.5
    (λ done. still session h.3 b' done.1)
    (λ more. back-leaves session left h.3 b' told (h.4.1 ∙ same) more))

-- one command, or none
asks-leave : (session : ℕ) (b b' : AtBench) (c : Option Command) (done : Done) → b.session ≡ session → AsksIfAny b c done b'
    → Leaves session b b'
asks-leave session b b' None done same h = still session b b' h.1
asks-leave session b b' (Some c) done same h = asked-then session b b' b' c h.0 same h.1 (nothing-left session b')

-- another session, or the one at hand: the desk is as it was
turned-leaves : (session k : ℕ) (b b' : AtBench) → TurnsSession k b b' → Leaves session b b'
turned-leaves session k b b' (inl (same, e)) = still session b b' e
turned-leaves session k b b' (inr (other, e)) = ([], [], (refl, ap (λ (x : AtBench). x.desk) e))

-- whatever is done
pub each-deed : EachDeedIsCommands
each-deed b b' Deed.Rest done h = still b.session b b' h.1
each-deed b b' (Deed.Turn k) done h = turned-leaves b.session k b b' h.1
each-deed b b' (Deed.Ask c) done h = asks-leave b.session b b' (Some c) done refl h
each-deed b b' (Deed.Take n) done h = asks-leave b.session b b' (numbered_as b.numbered n) done refl h
each-deed b b' (Deed.Next k) done h = asks-leave b.session b b' (Some (Command.Branch k)) done refl h
each-deed b b' Deed.NextAgain done h = asks-leave b.session b b' (option_map Command.Branch b.branch) done refl h
each-deed b b' (Deed.Run limit) done h =
    same-desk b.session b h.1.0 b' (ended-desk h.0 h.1.0 b' h.1.2) (runs-from-leave b.session limit (held_of b) b h.1.0 h.0 refl h.1.1)
each-deed b b' (Deed.Back count) done h = back-leaves b.session count b b' h.0 refl h.1
