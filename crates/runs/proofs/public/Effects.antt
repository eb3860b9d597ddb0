-- What a command does to an object: nothing, one event more, or a step back.
use Rattle.std.proofs.Common.{◌≡◌, inl, inr, ℕ, ◌<◌, ◌≤◌, List, [], ◌∷◌, length, refl, sym, subst, arith}
use Rattle.std.proofs.lemmas.List.{length_push}
use Rattle.runs.specs.Steps.{State, Step, Allowed, Run}
use Rattle.runs.specs.Live.{Live, events, DependsOn, same, later, NoDependent}
use Rattle.runs.specs.Object.{Object, Reaches, most_live, last_ticket, with_event, with_live}
use Rattle.runs.specs.Does.{Steps, Undoes, Rolls, RollsValue, Blames, ListsReady, ListsConsequences, ListsLive, TellsValue, TakesOut, Does, Answers}
use Rattle.runs.specs.Sound.{Sound}
use Rattle.runs.specs.declared.event.Event.{Event}
use Rattle.runs.specs.declared.event.Choice.{Choice}
use Rattle.runs.specs.Commands.{Command, Reply}
use Rattle.runs.proofs.public.WellFormed.{WellFormed}
use Rattle.runs.proofs.public.Opening.{opening-formed}
use Rattle.runs.proofs.public.Orders.{run-join}
use Rattle.runs.proofs.public.Tickets.{rising-more, events-join}
use Rattle.runs.proofs.Back.{Back, ClosedIn, without-back, back-runs, back-rising, back-length}

pub data Effect (o o' : Object) : Type 0 where
  unchanged : o' ≡ o → Effect o o'
  added : (e : Event) (T : State) → Reaches o T → Allowed T e → length o.live < most_live → o.next ≤ last_ticket →
      o' ≡ with_event o e → Effect o o'
  taken : (k : Live) → Back o.live k → o' ≡ with_live o k → Effect o o'

-- what follows a ticket is closed
pub depends-closed : (l : Live) (t : ℕ) → ClosedIn l (DependsOn l t)
depends-closed l t u v e f i j less depends c = later e f c i j less depends

-- a ticket on which nothing else depends is closed
pub alone-closed : (l : Live) (t : ℕ) → NoDependent l t → ClosedIn l (λ v. v ≡ t)
alone-closed l t none u v e f i j less depends is =
    none v f j (later e f (subst (λ x. DependsOn l t x) (sym is) same) i j less depends)

taken-out : (o : Object) (t n : ℕ) (o' : Object) → Sound o → TakesOut o t n o' → Effect o o'
taken-out o t n o' s h =
    taken h.0 (without-back o.live (DependsOn o.live t) 1 o.next o.live h.0 (λ x i. i) s.rising (depends-closed o.live t) h.1) h.3

step-effect : (o : Object) (c : Choice) (reply : Reply) (o' : Object) → Steps o c reply o' → Effect o o'
step-effect o c (Reply.Stepped t e) o' h = added e h.3.0 h.3.1 h.3.2.allowed h.1 h.2 h.4
step-effect o c (Reply.Refused why) o' h = unchanged h.1
step-effect o c _ o' h = absurd h

undo-effect : (o : Object) (t : ℕ) (reply : Reply) (o' : Object) → Sound o → Undoes o t reply o' → Effect o o'
undo-effect o t (Reply.Undone u e) o' s h =
    taken h.3.0 (without-back o.live (λ v. v ≡ t) 1 o.next o.live h.3.0 (λ x i. i) s.rising (alone-closed o.live t h.2) h.3.1) h.3.2
undo-effect o t (Reply.Refused why) o' s h = unchanged h.1
undo-effect o t _ o' s h = absurd h

roll-effect : (o : Object) (t : ℕ) (reply : Reply) (o' : Object) → Sound o → Rolls o t reply o' → Effect o o'
roll-effect o t (Reply.Rolled n) o' s h = taken-out o t n o' s h.1
roll-effect o t (Reply.Refused why) o' s h = unchanged h.1
roll-effect o t _ o' s h = absurd h

roll-value-effect : (o : Object) (x : ℕ) (reply : Reply) (o' : Object) → Sound o → RollsValue o x reply o' → Effect o o'
roll-value-effect o x (Reply.Rolled n) o' s h = taken-out o h.0 n o' s h.2
roll-value-effect o x (Reply.Refused why) o' s h = unchanged h.1
roll-value-effect o x _ o' s h = absurd h

blame-effect : (o : Object) (x : ℕ) (reply : Reply) (o' : Object) → Blames o x reply o' → Effect o o'
blame-effect o x (Reply.Blamed t) o' h = unchanged h.1
blame-effect o x (Reply.Refused why) o' h = unchanged h.1
blame-effect o x _ o' h = absurd h

ready-effect : (o : Object) (reply : Reply) (o' : Object) → ListsReady o reply o' → Effect o o'
ready-effect o (Reply.Ready es) o' h = unchanged h.1
ready-effect o _ o' h = absurd h

consequences-effect : (o : Object) (t : ℕ) (reply : Reply) (o' : Object) → ListsConsequences o t reply o' → Effect o o'
consequences-effect o t (Reply.Consequences ts) o' h = unchanged h.2
consequences-effect o t (Reply.Refused why) o' h = unchanged h.1
consequences-effect o t _ o' h = absurd h

live-effect : (o : Object) (reply : Reply) (o' : Object) → ListsLive o reply o' → Effect o o'
live-effect o (Reply.Live l) o' h = unchanged h.1
live-effect o _ o' h = absurd h

value-effect : (o : Object) (x : ℕ) (reply : Reply) (o' : Object) → TellsValue o x reply o' → Effect o o'
value-effect o x (Reply.Value v) o' h = unchanged h.1
value-effect o x (Reply.Refused why) o' h = unchanged h.1
value-effect o x _ o' h = absurd h

-- each command, by its kind
pub does-effect : (o : Object) (c : Command) (reply : Reply) (o' : Object) → Sound o → Does o c reply o' → Effect o o'
does-effect o (Command.Step c) reply o' s h = step-effect o c reply o' h
does-effect o (Command.Undo t) reply o' s h = undo-effect o t reply o' s h
does-effect o (Command.Roll t) reply o' s h = roll-effect o t reply o' s h
does-effect o (Command.RollValue x) reply o' s h = roll-value-effect o x reply o' s h
does-effect o (Command.Blame x) reply o' s h = blame-effect o x reply o' h
does-effect o Command.Ready reply o' s h = ready-effect o reply o' h
does-effect o (Command.Consequences t) reply o' s h = consequences-effect o t reply o' h
does-effect o Command.Live reply o' s h = live-effect o reply o' h
does-effect o (Command.Value x) reply o' s h = value-effect o x reply o' h

pub answers-effect : (o : Object) (c : Command) (reply : Reply) (o' : Object) → Sound o → Answers o c reply o' → Effect o o'
answers-effect o c reply o' s h = elim h [ inl u ↦ does-effect o c reply o' s u | inr u ↦ unchanged u.2 ]

-- the opening of a sound object is well formed
pub sound-formed : (o : Object) → Sound o → WellFormed o.opening.residual
sound-formed o s = subst (λ (S : State). WellFormed S.residual) (sym s.opens.1) (opening-formed s.opens.0)

-- the state after one event more
pub reaches-more : (o : Object) (e : Event) (T U : State) → Reaches o T → Step T e U → Reaches (with_event o e) U
reaches-more o e T U r step =
    subst (λ (h : List Event). Run o.opening h U) (sym (events-join o.live ((o.next, e) ∷ [])))
    (run-join o.opening T U (events o.live) (e ∷ []) r (U, step, refl))

-- what a command leaves is sound
pub effect-sound : (o o' : Object) → Sound o → Effect o o' → Sound o'
effect-sound o o' s (unchanged is) = subst Sound (sym is) s
effect-sound o o' s (added e T r a room unspent is) =
    subst Sound (sym is) (record {
      opens = s.opens;
      runs = (a.0, reaches-more o e T a.0 r a.1);
      rising = rising-more 1 o.next o.live e s.rising;
      room = (let more = length_push o.live (o.next, e) in omega arith);
      unspent = omega arith;
    })
effect-sound o o' s (taken k b is) =
    subst Sound (sym is) (record {
      opens = s.opens;
      runs = back-runs o.opening s.runs.0 o.live k (sound-formed o s) s.runs.1 b;
      rising = back-rising 1 o.next o.live k b s.rising;
      room = (let less = back-length o.live k b in let full = s.room in omega arith);
      unspent = s.unspent;
    })

pub stays-sound : (o : Object) (c : Command) (reply : Reply) (o' : Object) → Sound o → Answers o c reply o' → Sound o'
stays-sound o c reply o' s h = effect-sound o o' s (answers-effect o c reply o' s h)

pub does-sound : (o : Object) (c : Command) (reply : Reply) (o' : Object) → Sound o → Does o c reply o' → Sound o'
does-sound o c reply o' s h = effect-sound o o' s (does-effect o c reply o' s h)
