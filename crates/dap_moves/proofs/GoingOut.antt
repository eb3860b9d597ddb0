-- What an undo and a rollback of a live step answer, and what they leave.
use Rattle.std.proofs.Common.{◌≡◌, ◌⊎◌, ℕ, zero, suc, ◌+◌, ◌<◌, ◌≤◌, List, [], ◌∷◌, false, length, None, Some, inl, inr, refl, sym, ◌∙◌, ap, subst, arith}
use Rattle.std.specs.Prelude.{slice_get}
use Rattle.std.proofs.lemmas.Bool.{cases_lt}
use Rattle.std.proofs.lemmas.Option.{slice_get_within}
use Rattle.syntax.specs.Lists.{In}
use Rattle.system.specs.declared.system.System.{System}
use Rattle.runs.specs.Dependence.{ended, stays, leaves}
use Rattle.runs.specs.Does.{Rolls, Undoes}
use Rattle.runs.specs.Live.{DependsOn, FirstDependent, IsLive, Live, LiveAt, Rising, WithoutTickets}
use Rattle.runs.specs.Object.{Object}
use Rattle.runs.specs.declared.event.Event.{Event}
use Rattle.runs.specs.Commands as runs
use Rattle.runs.specs.declared.command.Refusal.{Refusal}
use Rattle.runs.specs.declared.command.Refusal.TheVariants.{NoSuchEvent, NeededBy}
use Rattle.runs.proofs.public.DependsOnLaw.{depends-up}
use Rattle.runs.proofs.public.Tickets.{rising-one}
use Rattle.dependence.proofs.public.ListPlaces.{at-one, at-within, in-at, index-in}
use Rattle.dependence.proofs.public.Markings.{without-in}
use Rattle.dependence.proofs.public.Standing.{index-rises}
use Rattle.machine.specs.Marks.{marks_behind}
use Rattle.locked_execution.specs.AtDesk.{AtDesk, execution}
use Rattle.locked_execution.specs.Performs.{Answers, session_reply}
use Rattle.locked_execution.specs.declared.command.Command.{Command}
use Rattle.locked_execution.specs.declared.command.Reply.{Reply}
use Rattle.locked_execution.proofs.public.Unchanged.{all-same}
use Rattle.dap_moves.specs.Moves.{quiet}
use Rattle.dap_views.specs.Parts.{NewestBelow, takes_part}
use Rattle.dap_moves.specs.TakingBack.{IsLast, IsRolled, IsUndone, Returned}
use Rattle.dap_moves.specs.internal.Rolling.{GoesOn, GoesOut, IsNewestAt, NoneFrom, RollsAll, gone}
use Rattle.dap_views.specs.declared.watched.Watched.{Watched}
use Rattle.dap_moves.proofs.Backward.{refused-undo}

-- what an undo of a live step is answered: that it is undone, or that another depends on it, which changes nothing
undo-told : (d d' : AtDesk) (t : ℕ) (e : Event) (reply : Reply) (answer : runs.Reply) → LiveAt d.machine.live t e → reply ≡ session_reply answer →
    Undoes (execution d) t answer (execution d') → d'.machine.checked ≡ d.machine.checked → d'.breaks ≡ d.breaks →
    d'.machine.marked ≡ marks_behind answer d.machine.marked →
    ((f : Event) × LiveAt d.machine.live t f × (reply ≡ Reply.Undone t f))
    ⊎ ((u : ℕ) × (reply ≡ Reply.Refused (NeededBy u)) × FirstDependent d.machine.live t u × (d' ≡ d))
undo-told d d' t e reply (runs.Reply.Undone u f) live is h checked breaks marks =
    inl (f, h.1, is ∙ ap (λ (n : ℕ). Reply.Undone n f) h.0)
undo-told d d' t e reply (runs.Reply.Refused why) live is h checked breaks marks =
    let found = refused-undo (execution d) (execution d') t e why live h in
    inr (found.0, is ∙ ap (λ (w : Refusal). Reply.Refused w) found.1, found.2, all-same d d' checked found.3 breaks marks)
undo-told d d' t e reply _ live is h checked breaks marks = absurd h

pub undo_told : (d d' : AtDesk) (t : ℕ) (e : Event) (reply : Reply) → LiveAt d.machine.live t e → Answers d quiet (Command.Undo t) reply d' →
    ((f : Event) × LiveAt d.machine.live t f × (reply ≡ Reply.Undone t f))
    ⊎ ((u : ℕ) × (reply ≡ Reply.Refused (NeededBy u)) × FirstDependent d.machine.live t u × (d' ≡ d))
undo_told d d' t e reply live h = elim h [
  | inl done ↦ undo-told d d' t e reply done.0 live done.1 done.2 done.3 done.4 done.5
  | inr none ↦ absurd none.0
]

-- a rollback of a live step is not refused
roll-told : (o o' : Object) (t : ℕ) (reply : Reply) (answer : runs.Reply) → IsLive o.live t → reply ≡ session_reply answer → Rolls o t answer o' →
    (n : ℕ) × (reply ≡ Reply.Rolled n)
roll-told o o' t reply (runs.Reply.Rolled n) live is h = (n, is)
roll-told o o' t reply (runs.Reply.Refused NoSuchEvent) live is h = absurd (h.0 live.0 live.1)
roll-told o o' t reply (runs.Reply.Refused _) live is h = absurd h.0
roll-told o o' t reply _ live is h = absurd h

pub rolls_all : (d d' : AtDesk) (t : ℕ) (reply : Reply) → IsLive d.machine.live t → Answers d quiet (Command.Roll t) reply d' →
    (n : ℕ) × Answers d quiet (Command.Roll t) (Reply.Rolled n) d'
rolls_all d d' t reply live h =
    let told : (n : ℕ) × (reply ≡ Reply.Rolled n) = elim h [
      | inl done ↦ roll-told (execution d) (execution d') t reply done.0 live done.1 done.2
      | inr none ↦ absurd none.0
    ] in
    (told.0, subst (λ (r : Reply). Answers d quiet (Command.Roll t) r d') told.1 h)

-- so it goes: it is undone, or rolled back where that is refused
pub out_undone : (d m d' : AtDesk) (t : ℕ) (reply : Reply) → IsLive d.machine.live t → Answers d quiet (Command.Undo t) reply m →
    ((why : Refusal) → reply ≡ Reply.Refused why → ⊥) → d' ≡ m → GoesOut d t d'
out_undone d m d' t reply live h other same = elim (undo_told d m t live.0 reply live.1 h) [
  | inl undone ↦
      let there : Answers d quiet (Command.Undo t) (Reply.Undone t undone.0) m = subst (λ (r : Reply). Answers d quiet (Command.Undo t) r m) undone.2 h in
      (undone.0, undone.1, inl (subst (λ (x : AtDesk). Answers d quiet (Command.Undo t) (Reply.Undone t undone.0) x) (sym same) there))
  | inr kept ↦ absurd (other (NeededBy kept.0) kept.1)
]

pub out_rolled : (d m n d' : AtDesk) (t : ℕ) (reply : Reply) (why : Refusal) → IsLive d.machine.live t → Answers d quiet (Command.Undo t) reply m →
    reply ≡ Reply.Refused why → RollsAll m t n → d' ≡ n → GoesOut d t d'
out_rolled d m n d' t reply why live h is rolls same = elim (undo_told d m t live.0 reply live.1 h) [
  | inl undone ↦ let both : Reply.Undone t undone.0 ≡ Reply.Refused why = sym undone.2 ∙ is in absurd (cc)
  | inr kept ↦
      let refused : Answers d quiet (Command.Undo t) (Reply.Refused (NeededBy kept.0)) m =
      subst (λ (r : Reply). Answers d quiet (Command.Undo t) r m) kept.1 h in
      let rolled : Answers m quiet (Command.Roll t) (Reply.Rolled rolls.0) d' =
      subst (λ (x : AtDesk). Answers m quiet (Command.Roll t) (Reply.Rolled rolls.0) x) (sym same) rolls.1 in (
        live.0,
        live.1,
        inr (record {
          live = live.1;
          refused = (kept.0, subst (λ (x : AtDesk). Answers d quiet (Command.Undo t) (Reply.Refused (NeededBy kept.0)) x) kept.3 refused);
          rolled = (rolls.0, subst (λ (x : AtDesk). Answers x quiet (Command.Roll t) (Reply.Rolled rolls.0) d') kept.3 rolled);
        }),
      )
]

-- a ticket is that of one live step
pub out_at : (d d' : AtDesk) (next t : ℕ) (e : Event) → Rising 1 d.machine.live next → LiveAt d.machine.live t e → GoesOut d t d' →
    IsUndone (gone d t e d') ⊎ IsRolled (gone d t e d')
out_at d d' next t e rising live h =
    subst (λ (f : Event). IsUndone (gone d t f d') ⊎ IsRolled (gone d t f d')) (rising-one 1 next d.machine.live t h.0 e rising h.1 live) h.2

-- which live steps an undo leaves
undo-leaves : (o o' : Object) (t : ℕ) (e : Event) (answer : runs.Reply) → Reply.Undone t e ≡ session_reply answer → Undoes o t answer o' →
    IsLive o.live t × WithoutTickets (λ v. v ≡ t) o.live o'.live
undo-leaves o o' t e (runs.Reply.Undone u f) is h = (
  (f, h.1),
  subst (λ (l : Live). WithoutTickets (λ v. v ≡ t) o.live l) (sym (ap (λ (p : Object). p.live) h.3.2)) h.3.1,
)
undo-leaves o o' t e (runs.Reply.Refused why) is h = absurd (cc)
undo-leaves o o' t e _ is h = absurd h

undone-leaves : (r : Returned) → IsUndone r → IsLive r.from.machine.live r.ticket × WithoutTickets (λ v. v ≡ r.ticket) r.from.machine.live r.left.machine.live
undone-leaves r h = elim h [
  | inl done ↦ undo-leaves (execution r.from) (execution r.left) r.ticket r.event done.0 done.1 done.2
  | inr none ↦ absurd none.0
]

-- and which a rollback
roll-leaves : (o o' : Object) (t n : ℕ) (answer : runs.Reply) → Reply.Rolled n ≡ session_reply answer → Rolls o t answer o' →
    WithoutTickets (DependsOn o.live t) o.live o'.live
roll-leaves o o' t n (runs.Reply.Rolled m) is h =
    subst (λ (l : Live). WithoutTickets (DependsOn o.live t) o.live l) (sym (ap (λ (p : Object). p.live) h.1.3)) h.1.1
roll-leaves o o' t n (runs.Reply.Refused why) is h = absurd (cc)
roll-leaves o o' t n _ is h = absurd h

rolled-leaves : (r : Returned) → IsRolled r → WithoutTickets (DependsOn r.from.machine.live r.ticket) r.from.machine.live r.left.machine.live
rolled-leaves r h = elim h.rolled.1 [
  | inl done ↦ roll-leaves (execution r.from) (execution r.left) r.ticket h.rolled.0 done.0 done.1 done.2
  | inr none ↦ absurd none.0
]

-- fewer are left
no-more : (D : ℕ → Type 0) (l k : Live) → WithoutTickets D l k → length k ≤ length l
no-more D l k ended = omega arith
no-more D l k (stays {l = l'} {k = k'} out w) = let rest = no-more D l' k' w in omega (arith, rest)
no-more D l k (leaves {l = l'} gone w) = let rest = no-more D l' k w in omega (arith, rest)

fewer : (D : ℕ → Type 0) (l k : Live) (x : ℕ × Event) → WithoutTickets D l k → In x l → D x.0 → length k < length l
fewer D l k x ended i gone = absurd i
fewer D l k x (stays {x = y} {l = l'} {k = k'} out w) i gone = elim i [
  | inl same ↦ absurd (out (subst (λ (z : ℕ × Event). D z.0) same gone))
  | inr later ↦ let rest = fewer D l' k' x w later gone in omega (arith, rest)
]
fewer D l k x (leaves {l = l'} out w) i gone = let rest = no-more D l' k w in omega (arith, rest)

fewer_left : (r : Returned) → IsUndone r → length r.left.machine.live < length r.from.machine.live
fewer_left r h =
    let left = undone-leaves r h in
    fewer (λ v. v ≡ r.ticket) r.from.machine.live r.left.machine.live (r.ticket, left.0.0) left.1 left.0.1 refl

pub fewer_on : (lines : List ℕ) (watched : List Watched) (d d' : AtDesk) → GoesOn None lines watched d d' → length d'.machine.live < length d.machine.live
fewer_on lines watched d d' h =
    let less = fewer_left h.0 h.3.1 in
    let from : length h.0.from.machine.live ≡ length d.machine.live = ap (λ (x : AtDesk). length x.machine.live) h.1 in
    let left : length h.0.left.machine.live ≡ length d'.machine.live = ap (λ (x : AtDesk). length x.machine.live) h.2 in
    omega (arith, less, from, left)

-- what is left from the index of a step on that is gone stood behind it, where none before it is gone
left-behind : (D : ℕ → Type 0) (l k : Live) (i j : ℕ) (y x : ℕ × Event) → WithoutTickets D l k → slice_get l i ≡ Some y → D y.0 →
    ((m : ℕ) (z : ℕ × Event) → m < i → slice_get l m ≡ Some z → D z.0 → ⊥) → i ≤ j → slice_get k j ≡ Some x →
    (m : ℕ) × (i < m) × (slice_get l m ≡ Some x)
left-behind D l k i j y x ended at gone before le there = absurd (in-at [] i y at)
left-behind D l k zero j y x (stays {x = z} {l = l'} {k = k'} out w) at gone before le there =
    absurd (out (subst (λ (v : ℕ × Event). D v.0) (at-one (z ∷ l') zero y z at refl) gone))
left-behind D l k (suc i) zero y x (stays out w) at gone before le there = absurd (omega arith)
left-behind D l k (suc i) (suc j) y x (stays {x = z} {l = l'} {k = k'} out w) at gone before le there =
    let less : i ≤ j = omega arith in
    let rest = left-behind D l' k' i j y x w at gone (λ m v low here. before (suc m) v (omega arith) here) less there in
    (suc rest.0, omega (arith, rest.1), rest.2)
left-behind D l k zero j y x (leaves {x = z} {l = l'} out w) at gone before le there =
    let was = index-in l' x (without-in (λ (v : ℕ × Event). D v.0) l' k w x (in-at k j x there)) in
    (suc was.0, omega arith, was.1)
left-behind D l k (suc i) j y x (leaves {x = z} {l = l'} out w) at gone before le there = absurd (before zero z (omega arith) refl out)

-- a branch took part in none of those left from the index of its newest step on
none-from : (D : ℕ → Type 0) (d d' : AtDesk) (next k i t : ℕ) (e : Event) → Rising 1 d.machine.live next → d'.machine.checked ≡ d.machine.checked →
    IsNewestAt d k i t e → WithoutTickets D d.machine.live d'.machine.live → D t → ((u : ℕ) → D u → t ≤ u) → NoneFrom d' k i
none-from D d d' next k i t e rising same newest w gone up = λ j x le there.
    let was = left-behind D d.machine.live d'.machine.live i j (t, e) x w newest.there gone
    (λ m z less at out.
    let low : z.0 < t = index-rises 1 next d.machine.live m i z.0 t z.1 e rising at newest.there less in
    let high : t ≤ z.0 = up z.0 out in
    omega arith) le there in
    subst (λ (s : System). takes_part s k x.1 ≡ false) (sym same)
    (newest.newest.last was.0 x was.1 (slice_get_within d.machine.live was.0 x was.2) was.2)

pub none_from : (next k i : ℕ) (r : Returned) → Rising 1 r.from.machine.live next → r.left.machine.checked ≡ r.from.machine.checked →
    IsNewestAt r.from k i r.ticket r.event → IsUndone r ⊎ IsRolled r → NoneFrom r.left k i
none_from next k i r rising same newest out = elim out [
  | inl undone ↦
      none-from (λ v. v ≡ r.ticket) r.from r.left next k i r.ticket r.event rising same newest (undone-leaves r undone).1 refl
      (λ u is. omega (arith, is))
  | inr rolled ↦
      none-from (DependsOn r.from.machine.live r.ticket) r.from r.left next k i r.ticket r.event rising same newest (rolled-leaves r rolled)
      DependsOn.same (λ u follows. depends-up r.from.machine.live r.ticket u follows)
]

-- the last index has a step
pub none_there : (l : Live) (i : ℕ) → i + 1 ≡ length l → slice_get l i ≡ None → ⊥
none_there l i end none =
    let found = at-within l i (omega (arith, end)) in
    let both : None ≡ Some found.0 = sym none ∙ found.1 in
    absurd (cc)

-- a branch took part in none behind the last
pub none_behind : (d : AtDesk) (k from : ℕ) → length d.machine.live ≤ from → NoneFrom d k from
none_behind d k from all = λ i x le at.
    let within : i < length d.machine.live = slice_get_within d.machine.live i x at in
    absurd (omega (arith, all, le, within))

-- the newest below an index from which on it took part in none is the newest
pub newest_there : (d : AtDesk) (k below i t : ℕ) (e : Event) (system : System) (l : Live) → system ≡ d.machine.checked → l ≡ d.machine.live →
    NoneFrom d k below → NewestBelow system k l below i → slice_get l i ≡ Some (t, e) → (i < below) × IsNewestAt d k i t e
newest_there d k below i t e system l same list none newest at =
    let there : slice_get d.machine.live i ≡ Some (t, e) = subst (λ (m : Live). slice_get m i ≡ Some (t, e)) list at in
    let here : NewestBelow d.machine.checked k d.machine.live below i =
    subst (λ (s : System). NewestBelow s k d.machine.live below i) same (subst (λ (m : Live). NewestBelow system k m below i) list newest) in (
      here.within,
      record {
        newest = record {
          within = slice_get_within d.machine.live i (t, e) there;
          found = here.found;
          last = λ j x more less is. elim (cases_lt j below) [ inl low ↦ here.last j x more low is | inr high ↦ none j x high is ];
        };
        there = there;
      },
    )

-- nothing depends on the last step
last-alone : (d : AtDesk) (next t u : ℕ) → Rising 1 d.machine.live next → IsLast d t → FirstDependent d.machine.live t u → ⊥
last-alone d next t u rising last h =
    let at = index-in d.machine.live (u, h.event) h.live in
    let up : t ≤ u = depends-up d.machine.live t u h.depends in
    let within : at.0 < length d.machine.live = slice_get_within d.machine.live at.0 (u, h.event) at.1 in
    let end : last.0 + 1 ≡ length d.machine.live = last.3 in
    elim (cases_lt at.0 last.0) [
      | inl less ↦
          let low : u < t = index-rises 1 next d.machine.live at.0 last.0 u t h.event last.1 rising at.1 last.2 less in
          omega arith
      | inr more ↦
          let here : at.0 ≡ last.0 = omega arith in
          let one = at-one d.machine.live last.0 (u, h.event) (t, last.1) (subst (λ (n : ℕ). slice_get d.machine.live n ≡ Some (u, h.event)) here at.1) last.2 in
          h.other (ap (λ (z : ℕ × Event). z.0) one)
    ]

-- so its undo is answered that it is undone
pub last_undone : (d d' : AtDesk) (next t : ℕ) (reply : Reply) → Rising 1 d.machine.live next → IsLast d t → Answers d quiet (Command.Undo t) reply d' →
    (e : Event) × (reply ≡ Reply.Undone t e)
last_undone d d' next t reply rising last h =
    elim (undo_told d d' t last.1 reply (in-at d.machine.live last.0 (t, last.1) last.2) h) [
      | inl undone ↦ (undone.0, undone.2)
      | inr kept ↦ absurd (last-alone d next t kept.0 rising last kept.2)
    ]
