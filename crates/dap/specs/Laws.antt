-- What holds after the requests of a session.
use Rattle.std.specs.Prelude.{ℕ, List, Option, None, Some, Result}
use Rattle.dap_messages.specs.declared.request.Request.{Request}
use Rattle.dap_server.specs.Heard.{Passed}
use Rattle.dap_server.specs.Session.{Session}
use Rattle.dap.specs.Files.{Reads}
use Rattle.dap.specs.Goes.{Comes, IsSeen, is_over}
use Rattle.dap.specs.Launching.{Stands}
use Rattle.dap.specs.declared.face.Face.{Face}
use Rattle.dap.specs.declared.launch.Launched.{Launched}

-- the desk of what is launched, if something is, is what commands of sessions leave of one with which a program is
-- launched
abbrev pub IsLed : Reads → Option Launched → Type 0
IsLed reads None = Unit {0}
IsLed reads (Some l) = Stands reads l.desk

-- whatever a client asks, one request after another, over these files
abbrev pub SessionIsLed : Reads → Type 0
SessionIsLed reads =
    (a b : Face) (next : ℕ) (heard : List (Result Request Passed)) (sent : List (List ℕ))
    → IsLed reads a.launched → Session (Comes reads) is_over a next heard sent b → IsLed reads b.launched

-- what is shown of the state of what is launched, if something is, is so in that state
abbrev pub IsTrueOf : Option Launched → Type 0
IsTrueOf None = Unit {0}
IsTrueOf (Some l) = IsSeen l

-- whatever a client asks, one request after another, over these files: requests look at the state as it is
abbrev pub SessionSees : Reads → Type 0
SessionSees reads =
    (a b : Face) (next : ℕ) (heard : List (Result Request Passed)) (sent : List (List ℕ))
    → IsTrueOf a.launched → Session (Comes reads) is_over a next heard sent b → IsTrueOf b.launched
