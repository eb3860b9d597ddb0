-- What is gathered from commands: the channels on which they act, and those on which they give.
-- No reader has to believe it: what it leads to are the laws of `Idle.antt`.
use Rattle.std.specs.Prelude.{◌≡◌, ℕ, List, Option, None, Some}
use Rattle.syntax.specs.Lists.{Every}
use Rattle.system.specs.Residual.{Residual}
use Rattle.system.specs.Translation.{OnChannel}
use Rattle.idle_branches.specs.declared.used.Used.{Used}
use Rattle.idle_branches.specs.internal.Known.{Known, Acts, Fits, Grows}

-- all that was gathered is known
abbrev pub Holds : Used → Known → Type 0
Holds used u = Grows used.acting.items u.acting × Grows used.giving.items u.giving

-- where all that is gathered of branch k afterwards is known, so was all before, and this holds of what is known
abbrev pub Adds : ℕ → Used → (Known → Type 0) → Used → Type 0
Adds k before P after = (u : Known) → u.branch ≡ k → Holds after u → Holds before u × P u

-- what each of these is to do fits
abbrev pub FitsAll : List Residual → Known → Type 0
FitsAll rs u = Every (Fits u) rs

-- what a command behind an `else` is to do fits, if there is one
abbrev pub FitsLast : Option Residual → Known → Type 0
FitsLast None u = Unit {0}
FitsLast (Some r) u = Fits u r

-- an arm that opens on a channel
abbrev pub FitsArm : Known → OnChannel → Type 0
FitsArm u a = Acts u a.channel × Fits u a.body

-- arms that open on channels
abbrev pub FitsEachArm : List OnChannel → Known → Type 0
FitsEachArm arms u = Every (FitsArm u) arms
