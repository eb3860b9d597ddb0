-- What requests set.
use Rattle.std.specs.Prelude.{◌≡◌, ◌⊎◌, true, false}
use Rattle.serde_json.specs.Data.{Data}
use Rattle.serde_json.specs.View.{view}
use Rattle.system.specs.declared.command.Command.{Command}
use Rattle.dap_messages.specs.Notes.{IsRefusal}
use Rattle.dap_messages.specs.declared.answer.Answer.{Answer}
use Rattle.dap_messages.specs.declared.kind.Kind.{Kind}
use Rattle.dap_messages.specs.declared.request.Request.{Request}
use Rattle.dap_messages.specs.declared.told.Told.{Told}
use Rattle.dap_requests.specs.Locations.{Locates}
use Rattle.dap_requests.specs.Sets.{SetsExcepts, SetsLines, SetsWatched}
use Rattle.dap_views.specs.declared.program.Program.{Program}
use Rattle.dap.specs.Begins.{begun}
use Rattle.dap.specs.Stops.{EndsWith}

-- what has not begun and is not over begins; else the request is refused
abbrev pub SetsBegun : Program → Answer → Program → Type 0
SetsBegun p b q =
    ((p.begun ≡ false) × (p.ended ≡ false) × (q ≡ begun p))
    ⊎ (((p.begun ≡ true) ⊎ (p.ended ≡ true)) × IsRefusal b.outcome × (q ≡ p))

-- what a request of this kind with these arguments sets, where c is what runs: what it is for, and nothing else; and
-- where breakpoints may stand is told
abbrev pub SetsBy : Kind → Data → Command → Program → Answer → Program → Type 0
SetsBy Kind.SetBreakpoints d c p b q = SetsLines c d p b q
SetsBy Kind.SetDataBreakpoints d c p b q = SetsWatched d p b q
SetsBy Kind.SetExceptionBreakpoints d c p b q = SetsExcepts d p q
SetsBy Kind.Terminate d c p b q = (q ≡ record p { ended = true }) × EndsWith b Told.Terminated
SetsBy Kind.ConfigurationDone d c p b q = SetsBegun p b q
SetsBy Kind.BreakpointLocations d c p b q = (q ≡ p) × Locates c d p b
SetsBy _ d c p b q = q ≡ p

-- a request sets this
abbrev pub Sets : Request → Command → Program → Answer → Program → Type 0
Sets request c p b q = SetsBy request.kind (view request.arguments) c p b q
