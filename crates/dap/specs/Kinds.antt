-- What requests may do.
use Rattle.std.specs.Prelude.{Bool, true, false, ◌||◌}
use Rattle.dap_messages.specs.declared.kind.Kind.{Kind}
use Rattle.dap_messages.specs.declared.request.Request.{Request}
use Rattle.dap_requests.specs.Typed.{is_typed}
use Rattle.dap_server.specs.Kinds.{moves}

-- whether it may change the desk without asking a thread to move
abbrev pub asks : Kind → Bool
asks Kind.ConfigurationDone = true
asks Kind.Evaluate = true
asks _ = false

-- whether it ends the session
abbrev pub ends : Kind → Bool
ends Kind.Disconnect = true
ends _ = false

-- whether it may change the desk
abbrev pub changes : Kind → Bool
changes kind = moves kind || asks kind

-- whether it is heard before a launch; all others are refused there
abbrev pub opens : Kind → Bool
opens Kind.Initialize = true
opens Kind.Disconnect = true
opens Kind.Launch = true
opens Kind.Threads = true
opens Kind.SetBreakpoints = true
opens Kind.SetDataBreakpoints = true
opens Kind.SetExceptionBreakpoints = true
opens _ = false

-- whether it begins the run
abbrev pub begins : Kind → Bool
begins Kind.ConfigurationDone = true
begins _ = false

-- whether it is a line, where one is typed
abbrev pub types : Kind → Bool → Bool
types Kind.Evaluate typed = typed
types _ typed = false

-- whether it asks a thread to move, or is a line that is typed
abbrev pub is_active : Request → Bool
is_active request = moves request.kind || types request.kind (is_typed request)

-- whether a request may change the desk: one of these, or one that begins the run
abbrev pub may_move : Request → Bool
may_move request = is_active request || begins request.kind
