-- Where a script has come to.
use Rattle.std.specs.Prelude.{ℕ, List, []}
use Rattle.system.specs.declared.system.System.{System}
use Rattle.locked_execution.specs.AtDesk.{AtDesk, new_desk}

-- what the desk holds, the session whose lines come, and the source that a view shows
pub record AtLine : Type 0 where
  pub desk : AtDesk
  pub session : ℕ
  pub source : List ℕ

-- before the first line: an execution of the system, no breakpoints, and session 0
abbrev pub first_line : System → List ℕ → AtLine
first_line system source =
    record { desk = new_desk (record { checked = system; live = []; next = 1; marked = [] }); session = 0; source = source }
