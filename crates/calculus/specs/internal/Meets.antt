-- The event of a send and what meets it, from the value that is sent and the variables that are read.
-- No reader has to believe it: the proofs of `make_event` tie it to `made_together`, and those to `Makes` of `Events.antt`.
use Rattle.std.specs.Prelude.{ℕ, ◌==◌, ◌&&◌, Bool, true, false, List, cond, Option, Some, None}
use Rattle.value.specs.Word.{Word}
use Rattle.runs.specs.Moves.{Place, Move, sends, receives, syncs, opens, releases}
use Rattle.runs.specs.Tests.{same_option, same_word}
use Rattle.runs.specs.declared.event.Event.{Event}
use Rattle.runs.specs.declared.event.Kind.TheVariants.{Meet, Open}

-- of a send
abbrev pub met : Place → Place → ℕ → Word → List ℕ → Move → Option Event
met a b c v read (receives d x) =
    cond (c == d)
    (Some (record {
      kind = Meet;
      first = a;
      second = Some b;
      arm = None;
      channel = Some c;
      value = Some v;
      written = x;
      read = read;
    }))
    None
met a b c v read _ = None

-- of a send that is held
abbrev pub opened_by_send : Place → Place → ℕ → Word → List ℕ → Move → Option Event
opened_by_send a b c v read (opens d k u) =
    cond ((c == d) && same_option same_word (Some v) u)
    (Some (record {
      kind = Open;
      first = a;
      second = Some b;
      arm = Some k;
      channel = Some c;
      value = u;
      written = None;
      read = read;
    }))
    None
opened_by_send a b c v read _ = None

-- whether a move can be the first of two that make an event
abbrev pub is_first : Move → Bool
is_first (sends c w e held) = true
is_first (syncs c held) = true
is_first (releases c) = true
is_first _ = false
