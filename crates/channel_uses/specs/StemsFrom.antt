-- A process stems from a command: it is that command with what it has done.
use Rattle.std.specs.Prelude.{◌≡◌, ℕ, List, Some, slice_get}
use Rattle.system.specs.declared.system.System.{System}
use Rattle.runs.specs.Moves.{Place}
use Rattle.runs.specs.declared.ask.Ask.{Ask}
use Rattle.runs.specs.declared.event.Event.{Event}
use Rattle.process_tree.specs.Code.{Code, continues, halts, moves_once, may_be_held, repeats, decides, awaits, in_turn, side_by_side, drains, Codes, no_code, code, code_at}
use Rattle.process_tree.specs.Proc.{Proc, idle, stopped, once, sender, fresh, turn, ended_at_once, ended, untested, skipped, took, unopened, entered, closed, sequence, parallel, drained, Procs, no_procs, proc, started}
use Rattle.process_tree.specs.Advanced.{Moved, advanced}
use Rattle.process_tree.specs.Translation.{system_code}
use Rattle.event_inverse.specs.Grown.{TreeAndStore, Records, StandFor}

abbrev mutual
  -- the process stems from the command
  pub StemsFrom : Proc → Code → Type 0
  StemsFrom idle c = c ≡ continues
  StemsFrom stopped c = c ≡ halts
  StemsFrom (once o made) c = c ≡ moves_once o
  StemsFrom (sender s p) c = c ≡ may_be_held s
  StemsFrom (fresh g b) c = c ≡ repeats g b
  StemsFrom (turn g b n q) c = (c ≡ repeats g b) × StemsFrom q b
  StemsFrom (ended_at_once g b) c = c ≡ repeats g b
  StemsFrom (ended g b n q) c = (c ≡ repeats g b) × StemsFrom q b
  StemsFrom (untested d cs) c = c ≡ decides d cs
  StemsFrom (skipped d cs) c = c ≡ decides d cs
  StemsFrom (took d cs j q) c = (c ≡ decides d cs) × StemsFrom q (code_at cs j)
  StemsFrom (unopened ds cs) c = c ≡ awaits ds cs
  StemsFrom (entered ds cs e v q) c =
      (c ≡ awaits ds cs) × (j : ℕ) × (slice_get ds j ≡ Some e) × StemsFrom q (code_at cs j)
  StemsFrom (closed ds cs e v q) c =
      (c ≡ awaits ds cs) × (j : ℕ) × (slice_get ds j ≡ Some e) × StemsFrom q (code_at cs j)
  StemsFrom (sequence ps) c = (cs : Codes) × (c ≡ in_turn cs) × AllStemFrom ps cs
  StemsFrom (parallel ps) c = (cs : Codes) × (c ≡ side_by_side cs) × AllStemFrom ps cs
  StemsFrom (drained e n) c = c ≡ drains e

  -- each of the processes stems from the command of its number
  pub AllStemFrom : Procs → Codes → Type 0
  AllStemFrom no_procs cs = cs ≡ no_code
  AllStemFrom (proc p ps) no_code = ⊥
  AllStemFrom (proc p ps) (code c cs) = StemsFrom p c × AllStemFrom ps cs

-- a command that has made no move stems from itself
abbrev pub StartedStems : Type 0
StartedStems = (c : Code) → StemsFrom (started c) c

-- a move keeps what a process stems from
abbrev pub MovesKeepOrigin : Type 0
MovesKeepOrigin =
    (p : Proc) (c : Code) (a : Place) (k : Ask) (x : Moved) → StemsFrom p c → advanced p a k ≡ Some x → StemsFrom x.0 c

-- what stands for a run of a system stems from the command of the system
abbrev pub RunsKeepOrigin : Type 0
RunsKeepOrigin =
    (system : System) (h : List Event) (T : TreeAndStore) (records : Records) → StandFor system h T records →
    StemsFrom T.proc (system_code system)
