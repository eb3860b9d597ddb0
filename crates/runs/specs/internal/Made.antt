-- Events as a function: the event that moves make over a store.
-- No reader has to believe it: `proofs/public/Made.antt` ties it to `Makes` of `Events.antt`.
use Rattle.std.specs.Prelude.{ℕ, ◌==◌, List, [], ◌∷◌, true, false, cond, ◌&&◌, Option, Some, None}
use Rattle.std.specs.Ordering.{is_lt}
use Rattle.runs.specs.Moves.{Place, Move, assigns, tests, turns, sends, receives, syncs, opens, releases, closes}
use Rattle.address.specs.Order.{order_of}
use Rattle.system.specs.Expression.{Expression, Store, variables, decision_variables, decide, ascending}
use Rattle.runs.specs.Events.{Located, sent}
use Rattle.runs.specs.Asking.{ask_of}
use Rattle.runs.specs.declared.ask.Ask.{Ask}
use Rattle.runs.specs.internal.Below.{apart}
use Rattle.runs.specs.Tests.{same_option, same_word}
use Rattle.runs.specs.declared.event.Event.{Event}
use Rattle.runs.specs.declared.event.Kind.TheVariants.{Assign, Test, Turn, Meet, Open, Close, Sync}

-- what a located move answers to, and where
abbrev pub asks_at : Located → Place × Ask
asks_at l = (l.place, ask_of l.move)

-- what located moves answer to
abbrev pub all_ask : List Located → List (Place × Ask)
all_ask [] = []
all_ask (l ∷ ls) = asks_at l ∷ all_ask ls

-- the event of one move, if it makes one
abbrev pub made_alone : Store → Place → Move → Option Event
made_alone s a (assigns x w e) =
    Some (record {
      kind = Assign;
      first = a;
      second = None;
      arm = None;
      channel = None;
      value = Some (sent s w e);
      written = Some x;
      read = ascending (variables e);
    })
made_alone s a (tests d k) =
    cond (same_option ◌==◌ (decide s d) k)
    (Some (record {
      kind = Test;
      first = a;
      second = None;
      arm = k;
      channel = None;
      value = None;
      written = None;
      read = ascending (decision_variables d);
    }))
    None
made_alone s a turns =
    Some (record {
      kind = Turn;
      first = a;
      second = None;
      arm = None;
      channel = None;
      value = None;
      written = None;
      read = [];
    })
made_alone s a _ = None

-- the event of a send and the move that meets it
abbrev pub made_by_send : Store → Place → ℕ → ℕ → Expression → Place → Move → Option Event
made_by_send s a c w e b (receives d x) =
    cond (c == d)
    (Some (record {
      kind = Meet;
      first = a;
      second = Some b;
      arm = None;
      channel = Some c;
      value = Some (sent s w e);
      written = x;
      read = ascending (variables e);
    }))
    None
made_by_send s a c w e b _ = None

-- the event of a send that is held, and the open that meets it
abbrev pub made_by_held_send : Store → Place → ℕ → ℕ → Expression → Place → Move → Option Event
made_by_held_send s a c w e b (opens d k v) =
    cond ((c == d) && same_option same_word (Some (sent s w e)) v)
    (Some (record {
      kind = Open;
      first = a;
      second = Some b;
      arm = Some k;
      channel = Some c;
      value = v;
      written = None;
      read = ascending (variables e);
    }))
    None
made_by_held_send s a c w e b _ = None

-- the event of a handshake that is held, and the open that meets it
abbrev pub made_by_held_sync : Place → ℕ → Place → Move → Option Event
made_by_held_sync a c b (opens d k v) =
    cond ((c == d) && same_option same_word None v)
    (Some (record {
      kind = Open;
      first = a;
      second = Some b;
      arm = Some k;
      channel = Some c;
      value = v;
      written = None;
      read = [];
    }))
    None
made_by_held_sync a c b _ = None

-- the event of a release and the close that meets it
abbrev pub made_by_release : Place → ℕ → Place → Move → Option Event
made_by_release a c b (closes d) =
    cond (c == d)
    (Some (record {
      kind = Close;
      first = a;
      second = Some b;
      arm = None;
      channel = Some c;
      value = None;
      written = None;
      read = [];
    }))
    None
made_by_release a c b _ = None

-- the event of two handshakes, the lesser place first
abbrev pub made_by_sync : Place → ℕ → Place → Move → Option Event
made_by_sync a c b (syncs d false) =
    cond ((c == d) && is_lt (order_of a b))
    (Some (record {
      kind = Sync;
      first = a;
      second = Some b;
      arm = None;
      channel = Some c;
      value = None;
      written = None;
      read = [];
    }))
    None
made_by_sync a c b _ = None

-- the event of two moves, if they make one
abbrev pub made_together : Store → Place → Move → Place → Move → Option Event
made_together s a (sends c w e false) b n = made_by_send s a c w e b n
made_together s a (sends c w e true) b n = made_by_held_send s a c w e b n
made_together s a (syncs c false) b n = made_by_sync a c b n
made_together s a (syncs c true) b n = made_by_held_sync a c b n
made_together s a (releases c) b n = made_by_release a c b n
made_together s a _ b n = None

-- the event that the located moves make over the store, if they make one
abbrev pub event_of : Store → List Located → Option Event
event_of s [] = None
event_of s (l ∷ []) = made_alone s l.place l.move
event_of s (l ∷ n ∷ []) = cond (apart l.place n.place) (made_together s l.place l.move n.place n.move) None
event_of s (l ∷ n ∷ o ∷ rest) = None
