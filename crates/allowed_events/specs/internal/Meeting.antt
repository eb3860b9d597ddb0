-- The events that actions make, by the one that acts.
-- No reader has to believe it: `proofs/FromActions.antt` ties it to `Allowed` of `runs`.
use Rattle.std.specs.Prelude.{ℕ, ◌==◌, ◌&&◌, List, [], ◌∷◌, cond, Option, Some, None}
use Rattle.std.specs.Ordering.{is_lt}
use Rattle.address.specs.Order.{order_of}
use Rattle.runs.specs.Moves.{Place}
use Rattle.runs.specs.internal.AllowedEvents.{those}
use Rattle.runs.specs.declared.event.Event.{Event}
use Rattle.runs.specs.declared.event.Kind.TheVariants.{Assign, Test, Turn, Meet, Open, Close, Sync}
use Rattle.local_actions.specs.declared.action.LocalAction.{LocalAction}
use Rattle.local_actions.specs.declared.action.ActionKind.{ActionKind}
use Rattle.local_actions.specs.declared.action.ActionKind.TheVariants.{Assigns, Tests, Turns, Sends, Receives, Syncs, Opens, Releases, Closes}

-- the event that an action makes alone
abbrev pub solo : Place → ActionKind → Option Event
solo a (Assigns x v read) =
    Some (record {
      kind = Assign;
      first = a;
      second = None;
      arm = None;
      channel = None;
      value = Some v;
      written = Some x;
      read = read;
    })
solo a (Tests k read) =
    Some (record {
      kind = Test;
      first = a;
      second = None;
      arm = k;
      channel = None;
      value = None;
      written = None;
      read = read;
    })
solo a Turns =
    Some (record {
      kind = Turn;
      first = a;
      second = None;
      arm = None;
      channel = None;
      value = None;
      written = None;
      read = [];
    })
solo a _ = None

-- of a receive and its partner
abbrev pub received : Place → ℕ → Option ℕ → Place → ActionKind → Option Event
received b c x a (Sends d v read) =
    cond (c == d)
    (Some (record {
      kind = Meet;
      first = a;
      second = Some b;
      arm = None;
      channel = Some c;
      value = Some v;
      written = x;
      read = read;
    }))
    None
received b c x a _ = None

-- of the opening of an arm and its partner
abbrev pub opened : Place → ℕ → ℕ → Place → ActionKind → Option Event
opened b c k a (Sends d v read) =
    cond (c == d)
    (Some (record {
      kind = Open;
      first = a;
      second = Some b;
      arm = Some k;
      channel = Some c;
      value = Some v;
      written = None;
      read = read;
    }))
    None
opened b c k a (Syncs d) =
    cond (c == d)
    (Some (record {
      kind = Open;
      first = a;
      second = Some b;
      arm = Some k;
      channel = Some c;
      value = None;
      written = None;
      read = [];
    }))
    None
opened b c k a _ = None

-- of a close and its partner
abbrev pub closed : Place → ℕ → Place → ActionKind → Option Event
closed b c a (Releases d) =
    cond (c == d)
    (Some (record {
      kind = Close;
      first = a;
      second = Some b;
      arm = None;
      channel = Some c;
      value = None;
      written = None;
      read = [];
    }))
    None
closed b c a _ = None

-- of a sync and its partner, which has the greater place
abbrev pub synced : Place → ℕ → Place → ActionKind → Option Event
synced b c a (Syncs d) =
    cond ((c == d) && is_lt (order_of b a))
    (Some (record {
      kind = Sync;
      first = b;
      second = Some a;
      arm = None;
      channel = Some c;
      value = None;
      written = None;
      read = [];
    }))
    None
synced b c a _ = None

-- the event in which the first action acts, with the second as its partner
abbrev pub met : Place → ActionKind → Place → ActionKind → Option Event
met b (Receives c x) a y = received b c x a y
met b (Opens c k) a y = opened b c k a y
met b (Closes c) a y = closed b c a y
met b (Syncs c) a y = synced b c a y
met b _ a y = None

-- the events in which this action acts, with one of the others
abbrev pub met_with : LocalAction → List LocalAction → List Event
met_with l [] = []
met_with l (k ∷ ks) = those (met l.place l.action k.place k.action) (met_with l ks)
