-- What a client sets on a program, a part at a time.
use Rattle.std.specs.Prelude.{◌≡◌, None}
use Rattle.dap_views.specs.declared.program.Program.{Program}

-- the same, but for what is shown of the state
abbrev pub unseen : Program → Program
unseen p = record p { sight = None }

-- the same, but for breakpoints on lines
abbrev pub SameButLines : Program → Program → Type 0
SameButLines p q = q ≡ record p { asked = q.asked; elsewhere = q.elsewhere; stops = q.stops; last_id = q.last_id }

-- the same, but for what is watched
abbrev pub SameButWatched : Program → Program → Type 0
SameButWatched p q = q ≡ record p { watched = q.watched }

-- the same, but for whether refusals stop as exceptions
abbrev pub SameButExcepts : Program → Program → Type 0
SameButExcepts p q = q ≡ record p { excepts = q.excepts }
