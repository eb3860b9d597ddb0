-- The branches of a system, each with its number, its place and the ends that it uses: the children of the body where
-- that is a parallel, else the body as one, and behind them the environment's side of each port, in order.
use Rattle.std.specs.Prelude.{◌≡◌, ◌↔◌, ℕ, ◌+◌, ◌≤◌, List, [], ◌∷◌, ◌++◌, Option, None, Some, length, slice_get}
use Rattle.address.specs.declared.Entry.{Entry}
use Rattle.address.specs.declared.Entry.TheVariants.{Branch}
use Rattle.system.specs.declared.command.Command.{Command, out-Command}
use Rattle.system.specs.declared.system.System.{System}
use Rattle.system.specs.declared.system.Branch as outside
use Rattle.system.specs.declared.system.Branch.TheVariants.{Feed, Drain, Syncs}
use Rattle.system_places.specs.SystemBranches.{parallel_of, branch_at}
use Rattle.outline.specs.Ends.{ends_in}
use Rattle.outline.specs.declared.ends.End.{End}
use Rattle.outline.specs.declared.ends.Way.{Way}
use Rattle.outline.specs.declared.ends.Way.TheVariants as way
use Rattle.outline.specs.declared.branches.BranchEntry.{BranchEntry}
use Rattle.outline.specs.declared.branches.Part.TheVariants.{Body, Port}

-- the body as one branch, at /0
abbrev pub of_body : Command → BranchEntry
of_body body = record { number = 0; place = Branch 0 ∷ []; part = Body (out-Command body).line; ends = ends_in body [] }

-- child n of a body that is a parallel, at /0/n
abbrev pub of_child : ℕ → Command → BranchEntry
of_child n child =
    record {
      number = n;
      place = Branch 0 ∷ Branch n ∷ [];
      part = Body (out-Command child).line;
      ends = ends_in child [];
    }

-- the children, the first with the number n
abbrev pub of_children : ℕ → List Command → List BranchEntry
of_children n [] = []
of_children n (c ∷ cs) = of_child n c ∷ of_children (n + 1) cs

-- an end of the environment, which has no line
abbrev pub outer : ℕ → Way → End
outer c way = record { channel = c; line = None; way = way }

-- the end that the environment uses at a port
abbrev pub outer_end : outside.Branch → End
outer_end (Feed c w values) = outer c way.Sends
outer_end (Drain c) = outer c way.Receives
outer_end (Syncs c n) = outer c way.Syncs

-- the environment at the k-th port, counted from 1, as branch n, at /k
abbrev pub of_port : ℕ → ℕ → outside.Branch → BranchEntry
of_port n k b = record { number = n; place = Branch k ∷ []; part = Port; ends = outer_end b ∷ [] }

-- the environment at the ports, the first of them the k-th, as branch n
abbrev pub of_ports : ℕ → ℕ → List outside.Branch → List BranchEntry
of_ports n k [] = []
of_ports n k (b ∷ bs) = of_port n k b ∷ of_ports (n + 1) (k + 1) bs

-- how many branches these are
abbrev pub count : List BranchEntry → ℕ
count bs = length bs

-- those of the body
abbrev pub of_main : Command → Option (List Command) → List BranchEntry
of_main body None = of_body body ∷ []
of_main body (Some children) = of_children 0 children

-- all branches, in order of their numbers
abbrev pub branches_of : System → List BranchEntry
branches_of system =
    of_main system.main (parallel_of system.main)
    ++ of_ports (length (of_main system.main (parallel_of system.main))) 1 system.environment

-- the place a is p or below it
abbrev pub Under : List Entry → List Entry → Type 0
Under p a = (rest : List Entry) × (a ≡ p ++ rest)

-- one entry for each number from 0 on, in order, and a place lies in branch k, as `branch` means it, exactly where the
-- entry of number k has it at its place or below
pub record IsNumbered (system : System) (entries : List BranchEntry) : Type 0 where
  pub in_order : (i : ℕ) (e : BranchEntry) → slice_get entries i ≡ Some e → e.number ≡ i
  pub exactly : (a : List Entry) (k : ℕ) → branch_at system a ≡ Some k ↔
      ((e : BranchEntry) × (slice_get entries k ≡ Some e) × Under e.place a)

-- so it is of all branches, where each number has 32 bits
abbrev pub BranchesByNumber : Type 0
BranchesByNumber = (system : System) → length (branches_of system) ≤ 4294967296 → IsNumbered system (branches_of system)
