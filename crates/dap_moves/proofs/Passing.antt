-- Runs that pass none of the lines, one behind another.
use Rattle.std.proofs.Common.{◌≡◌, ◌⊎◌, ◌↔◌, ◌==◌, ℕ, zero, suc, ◌+◌, ◌<◌, ◌≤◌, List, [], ◌∷◌, ◌++◌, length, drop, get_or, Bool, true, false, Option, None, Some, inl, inr, refl, sym, ◌∙◌, ap, subst, arith}
use Rattle.std.specs.Option.{MatchOption}
use Rattle.std.specs.Prelude.{IsTrue, unwrap_or}
use Rattle.std.proofs.lemmas.Bool.Decides.{nat_tests}
use Rattle.std.proofs.lemmas.List.{drop_all, drop_more, nil_from_length}
use Rattle.syntax.specs.Lists.{In}
use Rattle.system.specs.Expression.{is_in}
use Rattle.system_places.specs.SystemBranches.{branch_at}
use Rattle.runs.specs.Choices.{choice_of}
use Rattle.runs.specs.Events.{acting, acting_at}
use Rattle.runs.specs.Live.{events}
use Rattle.runs.specs.Moves.{Place}
use Rattle.runs.specs.declared.event.Choice.{Choice}
use Rattle.runs.specs.declared.event.Event.{Event}
use Rattle.runs.specs.declared.event.Kind.{Kind}
use Rattle.dependence.specs.EventPlaces.{line_after}
use Rattle.machine.specs.AtMachine.{AtMachine}
use Rattle.locked_execution.specs.AtDesk.{AtDesk}
use Rattle.dap_moves.specs.Led.{Led}
use Rattle.dap_moves.specs.Passing.{has_line, stands_on, IsAtLine, PassesBy, StopsAt}
use Rattle.dap_moves.specs.Running.{Keeps, Sees}

-- what stands at an index is in the list
pub here_in : {X : Type 0} (xs : List X) (i : ℕ) (x : X) → i < length xs → x ≡ get_or xs i x → In x xs
here_in [] i x h is = absurd (omega arith)
here_in (y ∷ xs) zero x h is = inl is
here_in (y ∷ xs) (suc i) x h is = inr (here_in xs i x (omega arith) is)

-- a choice that is that of an event
pub found_here : (b : Bool) (seen : List Choice) (i : ℕ) (x c : Choice) → i < length seen → x ≡ get_or seen i x → (IsTrue b ↔ (x ≡ c)) → b ≡ true →
    IsTrue true ↔ In c seen
found_here b seen i x c less is tells same =
    (λ found. subst (λ (y : Choice). In y seen) (tells.0 same) (here_in seen i x less is), λ there. refl)

-- one that is not
pub not_here : (b : Bool) (seen : List Choice) (i : ℕ) (x c : Choice) → i < length seen → x ≡ get_or seen i x → (IsTrue b ↔ (x ≡ c)) → b ≡ false →
    (In c seen → In c (drop i seen)) → In c seen → In c (drop (i + 1) seen)
not_here b seen i x c less is tells other rest = λ there.
    let left : In c (get_or seen i x ∷ drop (i + 1) seen) =
    subst (λ (xs : List Choice). In c xs) (drop_more seen i x less) (rest there) in
    elim left [
      | inl same ↦
          let found : b ≡ true = tells.1 (is ∙ sym same) in
          let bad : true ≡ false = sym found ∙ other in
          absurd (cc)
      | inr behind ↦ behind
    ]

-- none is left
pub none_here : (seen : List Choice) (i : ℕ) (c : Choice) → length seen ≤ i → (In c seen → In c (drop i seen)) → IsTrue false ↔ In c seen
none_here seen i c all rest = (
  λ found. let bad : false ≡ true = found in absurd (cc),
  λ there. absurd (subst (λ (xs : List Choice). In c xs) (drop_all i seen all) (rest there)),
)

pub ruleset seen_among = (found_here, not_here, none_here)

-- a step that was not in mind
pub kept_new : (b : Bool) (before : List Choice) (c : Choice) (after : List Choice) → (In c before → ⊥) → Keeps b before c after →
    Sees b before c after
kept_new true before c after new h = inr (new, h)
kept_new false before c after new h = h

-- one that is kept in mind, or not
pub kept_when : (b : Bool) (before : List Choice) (c : Choice) (after : List Choice) → b ≡ true → Keeps b before c after → after ≡ before ++ c ∷ []
kept_when b before c after is h = subst (λ (x : Bool). Keeps x before c after) is h

pub kept_not : (b : Bool) (before : List Choice) (c : Choice) (after : List Choice) → b ≡ false → Keeps b before c after → after ≡ before
kept_not b before c after is h = subst (λ (x : Bool). Keeps x before c after) is h

-- where nothing was in mind
pub kept_one : (b : Bool) (before : List Choice) (c : Choice) (after : List Choice) → before ≡ [] → Keeps b before c after →
    (after ≡ []) ⊎ (after ≡ c ∷ [])
kept_one true before c after none h = inr (h ∙ ap (λ (xs : List Choice). xs ++ c ∷ []) none)
kept_one false before c after none h = inl (h ∙ none)

-- the action that acts is the first or the second
acts-at : (k : Kind) (a : Place) (b : Option Place) → (acting_at k a b ≡ a) ⊎ (b ≡ Some (acting_at k a b))
acts-at Kind.Meet a (Some b) = inr refl
acts-at Kind.Meet a None = inl refl
acts-at Kind.Open a (Some b) = inr refl
acts-at Kind.Open a None = inl refl
acts-at Kind.Close a (Some b) = inr refl
acts-at Kind.Close a None = inl refl
acts-at Kind.Assign a b = inl refl
acts-at Kind.Test a b = inl refl
acts-at Kind.Turn a b = inl refl
acts-at Kind.Sync a b = inl refl

pub acting_is_action : (e : Event) → (acting e ≡ e.first) ⊎ (e.second ≡ Some (acting e))
acting_is_action e = acts-at e.kind e.first e.second

-- no line is among none
none-among : (o : Option ℕ) → has_line [] o ≡ false
none-among None = refl
none-among (Some line) = refl

none-stands : (m : AtMachine) (lines : List ℕ) (a : Place) → lines ≡ [] → stands_on m lines a ≡ false
none-stands m lines a is = ap (λ (ls : List ℕ). stands_on m ls a) is ∙ none-among (line_after (events m.live) m.checked a)

pub passes_no_line : (m : AtMachine) (lines : List ℕ) (e : Event) → lines ≡ [] → PassesBy m lines e
passes_no_line m lines e is = record { first = none-stands m lines e.first is; second = λ a there. none-stands m lines a is }

-- neither the first action is on a line, nor a second
pub passes_one_action : (m : AtMachine) (lines : List ℕ) (e : Event) → stands_on m lines e.first ≡ false → e.second ≡ None → PassesBy m lines e
passes_one_action m lines e first none = record { first = first; second = λ a there. let no : None ≡ Some a = sym none ∙ there in absurd (cc) }

pub passes_both_actions : (m : AtMachine) (lines : List ℕ) (e : Event) (b : Place) → stands_on m lines e.first ≡ false → e.second ≡ Some b →
    stands_on m lines b ≡ false → PassesBy m lines e
passes_both_actions m lines e b first some second = record {
  first = first;
  second = λ a there. let same : b ≡ a = cc in subst (λ (x : Place). stands_on m lines x ≡ false) same second;
}

-- the event stops at the line of an action
pub stops_first : (m : AtMachine) (lines : List ℕ) (e : Event) (k line : ℕ) → IsAtLine m lines e.first k line → StopsAt m lines e k line
stops_first m lines e k line h = record { place = e.first; action = inl refl; there = h }

pub stops_second : (m : AtMachine) (lines : List ℕ) (e : Event) (b : Place) (k line : ℕ) → e.second ≡ Some b → IsAtLine m lines b k line → StopsAt m lines e k line
stops_second m lines e b k line some h = record { place = b; action = inr some; there = h }

pub stops_acting : (m : AtMachine) (lines : List ℕ) (e : Event) (a : Place) (k line : ℕ) → a ≡ acting e → IsAtLine m lines a k line → StopsAt m lines e k line
stops_acting m lines e a k line is h = record {
  place = acting e;
  action = acting_is_action e;
  there = subst (λ (x : Place). IsAtLine m lines x k line) is h;
}

-- a desk that stays, before commands or behind them
pub led_from : (d m d' : AtDesk) → m ≡ d → Led m d' → Led d d'
led_from d m d' same h = subst (λ (x : AtDesk). Led x d') same h

pub led_to : (d m d' : AtDesk) → d' ≡ m → Led d m → Led d d'
led_to d m d' same h = subst (λ (x : AtDesk). Led d x) (sym same) h

-- a list that a test finds empty
pub none_left : (xs : List ℕ) → (length xs == 0) ≡ true → xs ≡ []
none_left xs h = let e : length xs ≡ 0 = grind (arith, nat_tests) in nil_from_length xs e

-- a choice with the arm and the place of an event is that of the event
pub same_choice : (c : Choice) (e : Event) → c.arm ≡ (choice_of e).arm → c.place ≡ acting e → c ≡ choice_of e
same_choice c e arm place = λ i. record { place = place i; arm = arm i }

pub with_arm : (a b : Bool) (c : Choice) (e : Event) (place : Place) → (IsTrue a ↔ (c.arm ≡ (choice_of e).arm)) → (IsTrue b ↔ (c.place ≡ place)) →
    place ≡ acting e → a ≡ true → IsTrue b ↔ (c ≡ choice_of e)
with_arm a b c e place arm there is same = (
  λ found. same_choice c e (arm.0 same) (there.0 found ∙ is),
  λ whole. there.1 (ap (λ (x : Choice). x.place) whole ∙ sym is),
)

pub without_arm : (a : Bool) (c : Choice) (e : Event) → (IsTrue a ↔ (c.arm ≡ (choice_of e).arm)) → a ≡ false → IsTrue false ↔ (c ≡ choice_of e)
without_arm a c e arm other = (
  λ found. let bad : false ≡ true = found in absurd (cc),
  λ whole.
      let found : a ≡ true = arm.1 (ap (λ (x : Choice). x.arm) whole) in
      let bad : true ≡ false = sym found ∙ other in
      absurd (cc),
)

-- where a place has no line, one that is none of these, or one of these
pub off_line : (m : AtMachine) (lines : List ℕ) (a : Place) (o : Option ℕ) → o ≡ line_after (events m.live) m.checked a → o ≡ None → stands_on m lines a ≡ false
off_line m lines a o is none = ap (λ (x : Option ℕ). has_line lines x) (sym is ∙ none)

pub beside_lines : (m : AtMachine) (lines : List ℕ) (a : Place) (line : ℕ) (o : Option ℕ) → o ≡ line_after (events m.live) m.checked a → o ≡ Some line →
    is_in line lines ≡ false → stands_on m lines a ≡ false
beside_lines m lines a line o is some off = ap (λ (x : Option ℕ). has_line lines x) (sym is ∙ some) ∙ off

pub on_line : (m : AtMachine) (lines : List ℕ) (a : Place) (k line : ℕ) (o : Option ℕ) → o ≡ line_after (events m.live) m.checked a → o ≡ Some line →
    is_in line lines ≡ true → k ≡ unwrap_or (branch_at m.checked a) 0 → IsAtLine m lines a k line
on_line m lines a k line o is some on within = (sym is ∙ some, on, within)

pub ruleset on_lines = (off_line, beside_lines, on_line)

-- behind a first action on none of the lines, what a second tells
pub second_action : (m : AtMachine) (lines : List ℕ) (e : Event) (b : Place) (r : Option (ℕ × ℕ)) → stands_on m lines e.first ≡ false → e.second ≡ Some b →
    MatchOption r (stands_on m lines b ≡ false) (λ hit. IsAtLine m lines b hit.0 hit.1) → MatchOption r (PassesBy m lines e) (λ hit. StopsAt m lines e hit.0 hit.1)
second_action m lines e b None first some h = passes_both_actions m lines e b first some h
second_action m lines e b (Some hit) first some h = stops_second m lines e b hit.0 hit.1 some h
