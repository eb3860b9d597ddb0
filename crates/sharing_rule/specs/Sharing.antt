-- That a variable which one branch writes is neither read nor written in another.
use Rattle.std.specs.Prelude.{◌≡◌, ◌⊎◌, ℕ}
use Rattle.syntax.specs.Lists.{In}
use Rattle.system.specs.Expression.{variables, decision_variables}
use Rattle.system.specs.Residual.{Residual, inside, beside, assign, send, receive, loop, while, test, choose, Arms, no_arms, arm}

abbrev mutual
  -- r may yet write the variable x
  pub Writes : ℕ → Residual → Type 0
  Writes x (inside i child next) = Writes x child ⊎ Writes x next
  Writes x (beside k child rest) = Writes x child ⊎ Writes x rest
  Writes x (assign y w e) = x ≡ y
  Writes x (receive c y) = x ≡ y
  Writes x (loop k body) = Writes x body
  Writes x (while k e body) = Writes x body
  Writes x (test d arms) = WritesInArms x arms
  Writes x (choose channels arms) = WritesInArms x arms
  Writes x _ = ⊥

  -- an arm may yet write the variable x
  pub WritesInArms : ℕ → Arms → Type 0
  WritesInArms x no_arms = ⊥
  WritesInArms x (arm r rest) = Writes x r ⊎ WritesInArms x rest

abbrev mutual
  -- r may yet read or write the variable x
  pub Mentions : ℕ → Residual → Type 0
  Mentions x (inside i child next) = Mentions x child ⊎ Mentions x next
  Mentions x (beside k child rest) = Mentions x child ⊎ Mentions x rest
  Mentions x (assign y w e) = (x ≡ y) ⊎ In x (variables e)
  Mentions x (send c w e) = In x (variables e)
  Mentions x (receive c y) = x ≡ y
  Mentions x (loop k body) = Mentions x body
  Mentions x (while k e body) = In x (variables e) ⊎ Mentions x body
  Mentions x (test d arms) = In x (decision_variables d) ⊎ MentionsInArms x arms
  Mentions x (choose channels arms) = MentionsInArms x arms
  Mentions x _ = ⊥

  -- an arm may yet read or write the variable x
  pub MentionsInArms : ℕ → Arms → Type 0
  MentionsInArms x no_arms = ⊥
  MentionsInArms x (arm r rest) = Mentions x r ⊎ MentionsInArms x rest

abbrev mutual
  -- a variable x that is written in one branch of a parallel is neither read nor written in another
  pub OneBranchWrites : ℕ → Residual → Type 0
  OneBranchWrites x (inside i child next) = OneBranchWrites x child × OneBranchWrites x next
  OneBranchWrites x (beside k child rest) =
      (Writes x child → Mentions x rest → ⊥) × (Writes x rest → Mentions x child → ⊥) × OneBranchWrites x child
      × OneBranchWrites x rest
  OneBranchWrites x (loop k body) = OneBranchWrites x body
  OneBranchWrites x (while k e body) = OneBranchWrites x body
  OneBranchWrites x (test d arms) = OneBranchWritesInArms x arms
  OneBranchWrites x (choose channels arms) = OneBranchWritesInArms x arms
  OneBranchWrites x _ = Unit {0}

  -- and so it is in each arm
  pub OneBranchWritesInArms : ℕ → Arms → Type 0
  OneBranchWritesInArms x no_arms = Unit {0}
  OneBranchWritesInArms x (arm r rest) = OneBranchWrites x r × OneBranchWritesInArms x rest
