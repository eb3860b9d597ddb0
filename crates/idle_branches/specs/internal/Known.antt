-- What is known of the channels that the parts of a system use.
-- No reader has to believe it: what it leads to are the laws of `Idle.antt`.
use Rattle.std.specs.Prelude.{◌≡◌, ℕ, ◌+◌, List, [], ◌∷◌, ◌++◌, Option, None, Some, map, slice_get}
use Rattle.syntax.specs.Lists.{In, Every}
use Rattle.system.specs.Residual.{Residual, done, halted, inside, beside, assign, send, receive, sync, held, loop, while, test, choose, closing, drain, Arms, no_arms, arm}
use Rattle.system.specs.Translation.{residual_of, branch_of}
use Rattle.system.specs.declared.command.Command.{Command}
use Rattle.system.specs.declared.system.System.{System}
use Rattle.system_places.specs.SystemBranches.{parallel_of}
use Rattle.runs.specs.Moves.{Move, sends, receives, syncs, opens, releases, closes}
use Rattle.idle_branches.specs.declared.givers.Giver.{Giver}

-- the list of this number
abbrev pub list_or : Option (List ℕ) → List ℕ
list_or None = []
list_or (Some numbers) = numbers

abbrev pub list_at : List (List ℕ) → ℕ → List ℕ
list_at lists k = list_or (slice_get lists k)

-- branch i acts on channel c, by this table
abbrev pub ActsOn : List (List ℕ) → ℕ → ℕ → Type 0
ActsOn acting c i = In i (list_at acting c)

-- branch i gives on channel c, by this table: it is at the other side of it
abbrev pub GivesOn : List (List ℕ) → ℕ → ℕ → Type 0
GivesOn giving i c = In c (list_at giving i)

-- what stands in the lists of a table stands in those of the other too
abbrev pub Grows : List (List ℕ) → List (List ℕ) → Type 0
Grows before after = (k x : ℕ) → In x (list_at before k) → In x (list_at after k)

-- what is known of one branch: its number, who acts on which channel, and on which channels each branch gives
pub record Known : Type 0 where
  pub branch : ℕ
  pub acting : List (List ℕ)
  pub giving : List (List ℕ)

-- it acts on the channel
abbrev pub Acts : Known → ℕ → Type 0
Acts u c = ActsOn u.acting c u.branch

-- it gives on the channel
abbrev pub Gives : Known → ℕ → Type 0
Gives u c = GivesOn u.giving u.branch c

abbrev mutual
  -- all channels on which the residual acts or gives are known
  pub Fits : Known → Residual → Type 0
  Fits u done = Unit {0}
  Fits u halted = Unit {0}
  Fits u (inside i child next) = Fits u child × Fits u next
  Fits u (beside k child rest) = Fits u child × Fits u rest
  Fits u (assign x w e) = Unit {0}
  Fits u (send c w e) = Gives u c
  Fits u (receive c x) = Acts u c
  Fits u (sync c) = Acts u c × Gives u c
  Fits u (held c) = Gives u c
  Fits u (loop k body) = Fits u body
  Fits u (while k e body) = Fits u body
  Fits u (test d arms) = FitsArms u arms
  Fits u (choose channels arms) = Every (Acts u) channels × FitsArms u arms
  Fits u (closing c) = Acts u c
  Fits u (drain c k) = Acts u c

  -- the same of arms
  pub FitsArms : Known → Arms → Type 0
  FitsArms u no_arms = Unit {0}
  FitsArms u (arm r rest) = Fits u r × FitsArms u rest

-- the channel on which the move acts or gives is known
abbrev pub FitsMove : Known → Move → Type 0
FitsMove u (sends c w e opening) = Gives u c
FitsMove u (receives c x) = Acts u c
FitsMove u (syncs c opening) = Acts u c × Gives u c
FitsMove u (opens c k v) = Acts u c
FitsMove u (releases c) = Gives u c
FitsMove u (closes c) = Acts u c
FitsMove u _ = Unit {0}

-- what is known of branch k
abbrev pub known_at : List (List ℕ) → List (List ℕ) → ℕ → Known
known_at acting giving k = record { branch = k; acting = acting; giving = giving }

-- what the branches of the body are to do
abbrev pub parts_of : Command → Option (List Command) → List Residual
parts_of main None = residual_of main ∷ []
parts_of main (Some children) = map residual_of children

-- what the branches are to do, in order of their numbers
abbrev pub parts : System → List Residual
parts system = parts_of system.main (parallel_of system.main) ++ map branch_of system.environment

-- of each of the branches from one on, what it is to do fits what is known of it
abbrev pub FitEach : (ℕ → Known) → ℕ → List Residual → Type 0
FitEach known k [] = Unit {0}
FitEach known k (r ∷ rs) = Fits (known k) r × FitEach known (k + 1) rs

-- branch k may give on the channel of this entry; where the table has none, any may
abbrev pub MayBe : Option Giver → ℕ → Type 0
MayBe None k = Unit {0}
MayBe (Some Giver.Nobody) k = ⊥
MayBe (Some (Giver.One j)) k = j ≡ k
MayBe (Some Giver.Several) k = Unit {0}

-- whoever gives on a channel, by the second table, may do so by the first
abbrev pub KnowsGivers : List Giver → List (List ℕ) → Type 0
KnowsGivers givers giving = (k c : ℕ) → GivesOn giving k c → MayBe (slice_get givers c) k
