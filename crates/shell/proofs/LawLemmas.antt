-- After the lines of a session the desk is what commands leave.
use Rattle.std.proofs.Common.{◌≡◌, ◌⊎◌, inl, inr, ℕ, List, [], ◌∷◌, ◌++◌, refl, sym, ap, subst}
use Rattle.machine.specs.AtMachine.{AtMachine}
use Rattle.locked_execution.specs.AtDesk.{AtDesk, new_desk}
use Rattle.locked_execution.specs.Answered.{Answered}
use Rattle.locked_execution.specs.declared.command.Command.{Command}
use Rattle.locked_execution.specs.declared.command.Reply.{Reply}
use Rattle.locked_execution.proofs.public.AskedLists.{answered-joins}
use Rattle.shell_desk.specs.AtBench.{AtBench}
use Rattle.shell_desk.specs.Laws.{EachDeedIsCommands, of_session}
use Rattle.shell_desk.specs.declared.deed.Deed.{Deed}
use Rattle.shell.specs.Laws.{IsOrLoaded, LinesAreCommands}
use Rattle.shell_files.specs.Files.{Files}
use Rattle.shell.specs.Lines.{LineLeaves, LinesLeave}
use Rattle.shell.specs.declared.answer.Outcome.{Outcome}

-- the desk d' is what commands leave of d, or of a new one on an execution that was loaded
abbrev Comes : List ℕ → List ℕ → AtDesk → AtDesk → Type 0
Comes source stimulus before d' =
    (d : AtDesk) × IsOrLoaded source stimulus before d
    × ((commands : List (ℕ × Command)) × (replies : List Reply) × Answered d commands replies d')

-- nothing was done
comes-still : (source stimulus : List ℕ) (d d' : AtDesk) → d' ≡ d → Comes source stimulus d d'
comes-still source stimulus d d' e = (d, inl refl, ([], [], (refl, e)))

-- what comes of what came
comes-then : (source stimulus : List ℕ) (d m d' : AtDesk) → Comes source stimulus d m → Comes source stimulus m d' → Comes source stimulus d d'
comes-then source stimulus d m d' (start, how, (cs, rs, before)) (from, inl same, (commands, replies, answered)) =
    let on : Answered m commands replies d' = subst (λ (x : AtDesk). Answered x commands replies d') same answered in
    (start, how, (cs ++ commands, rs ++ replies, answered-joins start m d' cs commands rs replies before on))
comes-then source stimulus d m d' first (from, inr loaded, rest) = (from, inr loaded, rest)

-- what one line leaves
comes-line : (files : Files) (source stimulus : List ℕ) (b m : AtBench) (line : List ℕ) (outcome : Outcome) → EachDeedIsCommands
    → LineLeaves files source stimulus b line outcome m → Comes source stimulus b.desk m.desk
comes-line files source stimulus b m line Outcome.Done each (deed, done, asks, does) =
    let left = each b m deed done does in (b.desk, inl refl, (of_session b.session left.0, left.1, left.2))
comes-line files source stimulus b m line Outcome.Unread each h =
    comes-still source stimulus b.desk m.desk (ap (λ (x : AtBench). x.desk) h)
comes-line files source stimulus b m line Outcome.Saved each h =
    comes-still source stimulus b.desk m.desk (ap (λ (x : AtBench). x.desk) h.0)
comes-line files source stimulus b m line Outcome.NotSaved each h =
    comes-still source stimulus b.desk m.desk (ap (λ (x : AtBench). x.desk) h.0)
comes-line files source stimulus b m line Outcome.NotScripted each h =
    comes-still source stimulus b.desk m.desk (ap (λ (x : AtBench). x.desk) h.0)
comes-line files source stimulus b m line Outcome.Scripted each h =
    comes-still source stimulus b.desk m.desk (ap (λ (x : AtBench). x.desk) h.0)
comes-line files source stimulus b m line Outcome.Loaded each (name, text, is, held, (machine, of, turns)) =
    (new_desk machine, inr (machine, (of.0, of.1, (text, of.2)), refl), (turns.0.0, turns.0.1, turns.0.3))
comes-line files source stimulus b m line Outcome.NotLoaded each h =
    comes-still source stimulus b.desk m.desk (ap (λ (x : AtBench). x.desk) h.0)
comes-line files source stimulus b m line Outcome.Over each h =
    comes-still source stimulus b.desk m.desk (ap (λ (x : AtBench). x.desk) h.0)

-- what all lines leave
comes-all : (files : Files) → EachDeedIsCommands → (source stimulus : List ℕ) (b b' : AtBench) (lines : List (List ℕ))
    → LinesLeave files source stimulus b lines b' → Comes source stimulus b.desk b'.desk
comes-all files each source stimulus b b' [] h = comes-still source stimulus b.desk b'.desk (ap (λ (x : AtBench). x.desk) h)
comes-all files each source stimulus b b' (line ∷ lines) (outcome, m, leaves, last, rest) =
    comes-then source stimulus b.desk m.desk b'.desk (comes-line files source stimulus b m line outcome each leaves)
    (comes-all files each source stimulus m b' lines rest)

-- the law
pub lines-are : (files : Files) → EachDeedIsCommands → LinesAreCommands files
lines-are files each source stimulus b b' lines h = comes-all files each source stimulus b b' lines h
