-- Events: one local move, or two that meet on a channel.
use Rattle.std.specs.Prelude.{◌≡◌, ℕ, List, [], ◌∷◌, true, false, Option, Some, None}
use Rattle.std.specs.declared.cmp.Ordering.TheVariants.{Less}
use Rattle.runs.specs.Moves.{Place, Move, assigns, tests, turns, sends, receives, syncs, opens, releases, closes}
use Rattle.address.specs.Places.{Apart}
use Rattle.address.specs.Order.{order_of}
use Rattle.value.specs.Word.{Word, resized}
use Rattle.system.specs.Expression.{Expression, Decision, Store, value, put, variables, decision_variables, decide, ascending}
use Rattle.runs.specs.declared.event.Event.{Event}
use Rattle.runs.specs.declared.event.Kind.{Kind}
use Rattle.runs.specs.declared.event.Kind.TheVariants.{Assign, Test, Turn, Meet, Open, Close, Sync}

-- a move at a place
pub record Located : Type 0 where
  pub place : Place
  pub move : Move

-- a move at a place
abbrev pub at : Place → Move → Located
at a m = record { place = a; move = m }

-- what is sent, at the channel's width
abbrev pub sent : Store → ℕ → Expression → Word
sent s w e = resized (value s e) w

-- the located moves make this event over the store s, one case for each kind of event
pub data Makes (s : Store) : List Located → Event → Type 0 where
  assigning : (a : Place) (x w : ℕ) (e : Expression) →
      Makes s (at a (assigns x w e) ∷ [])
      (record {
        kind = Assign;
        first = a;
        second = None;
        arm = None;
        channel = None;
        value = Some (sent s w e);
        written = Some x;
        read = ascending (variables e);
      })
  testing : (a : Place) (d : Decision) (k : Option ℕ) → decide s d ≡ k →
      Makes s (at a (tests d k) ∷ [])
      (record {
        kind = Test;
        first = a;
        second = None;
        arm = k;
        channel = None;
        value = None;
        written = None;
        read = ascending (decision_variables d);
      })
  turning : (a : Place) →
      Makes s (at a turns ∷ [])
      (record {
        kind = Turn;
        first = a;
        second = None;
        arm = None;
        channel = None;
        value = None;
        written = None;
        read = [];
      })
  meeting : (a b : Place) (c w : ℕ) (e : Expression) (x : Option ℕ) → Apart a b →
      Makes s (at a (sends c w e false) ∷ at b (receives c x) ∷ [])
      (record {
        kind = Meet;
        first = a;
        second = Some b;
        arm = None;
        channel = Some c;
        value = Some (sent s w e);
        written = x;
        read = ascending (variables e);
      })
  opening : (a b : Place) (c w k : ℕ) (e : Expression) → Apart a b →
      Makes s (at a (sends c w e true) ∷ at b (opens c k (Some (sent s w e))) ∷ [])
      (record {
        kind = Open;
        first = a;
        second = Some b;
        arm = Some k;
        channel = Some c;
        value = Some (sent s w e);
        written = None;
        read = ascending (variables e);
      })
  opening_without_data : (a b : Place) (c k : ℕ) → Apart a b →
      Makes s (at a (syncs c true) ∷ at b (opens c k None) ∷ [])
      (record {
        kind = Open;
        first = a;
        second = Some b;
        arm = Some k;
        channel = Some c;
        value = None;
        written = None;
        read = [];
      })
  shutting : (a b : Place) (c : ℕ) → Apart a b →
      Makes s (at a (releases c) ∷ at b (closes c) ∷ [])
      (record {
        kind = Close;
        first = a;
        second = Some b;
        arm = None;
        channel = Some c;
        value = None;
        written = None;
        read = [];
      })
  syncing : (a b : Place) (c : ℕ) → Apart a b → order_of a b ≡ Less →
      Makes s (at a (syncs c false) ∷ at b (syncs c false) ∷ [])
      (record {
        kind = Sync;
        first = a;
        second = Some b;
        arm = None;
        channel = Some c;
        value = None;
        written = None;
        read = [];
      })

-- the second address, if there is one
abbrev pub places_of : Option Place → List Place
places_of None = []
places_of (Some b) = b ∷ []

-- the addresses of an event, one or two
abbrev pub places : Event → List Place
places e = e.first ∷ places_of e.second

-- the store after this value is written to this variable
abbrev pub written_by : Option ℕ → Option Word → Store → Store
written_by None v s = s
written_by (Some x) None s = s
written_by (Some x) (Some v) s = put s x v

-- the store after an event
abbrev pub store_after : Event → Store → Store
store_after e s = written_by e.written e.value s

-- the acting address of this kind of event: that of the receiving side where two sides differ, else the first
abbrev pub acting_at : Kind → Place → Option Place → Place
acting_at Meet a (Some b) = b
acting_at Open a (Some b) = b
acting_at Close a (Some b) = b
acting_at _ a b = a

-- the acting address of an event
abbrev pub acting : Event → Place
acting e = acting_at e.kind e.first e.second
