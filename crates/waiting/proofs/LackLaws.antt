-- What the tests of want of input say of what is told, they say of the state.
use Rattle.std.proofs.Common.{◌≡◌, ◌↔◌, inl, inr, ℕ, zero, suc, ◌+◌, List, [], ◌∷◌, Bool, true, false, not, ◌&&◌, ◌||◌, Option, Some, None, option_map, slice_get, refl, sym, ◌∙◌, ap, ap₂, subst, arith, true≢false}
use Rattle.std.proofs.lemmas.Bool.{and_from, and_parts, cases_Bool}
use Rattle.std.proofs.lemmas.Option.{slice_get-map}
use Rattle.runs.proofs.public.Options.{none-some, some-injective}
use Rattle.runs.specs.Steps.{State}
use Rattle.syntax.specs.Lists.{In}
use Rattle.machine.specs.AtMachine.{AtMachine}
use Rattle.local_actions.specs.declared.action.LocalAction.{LocalAction}
use Rattle.rings.specs.Partners.{partner_in}
use Rattle.rings.specs.declared.partner.Partner.{Partner}
use Rattle.rings.specs.declared.partner.Partner.TheVariants as partner
use Rattle.waiting.specs.Input.{is_starved, takes_input}
use Rattle.waiting.specs.Lacking.{LacksInput}
use Rattle.waiting.specs.Progress.{StandsLike, is_idle, is_outlet}
use Rattle.waiting.specs.Rings.{IsDeadlockedIn}
use Rattle.waiting.specs.Told.{IsTold}
use Rattle.waiting.specs.Waits.{Waits}
use Rattle.waiting.specs.declared.progress.Progress.{Progress}
use Rattle.waiting.specs.declared.progress.Progress.TheVariants.{GoesOn, Done, Stuck}
use Rattle.waiting.specs.declared.waiting.Waiting.{Waiting}
use Rattle.waiting.specs.internal.LackTests.{all_settled, any_starved, is_open, is_set, is_settled, is_stuck, lacks_input, none_deadlocked}
use Rattle.waiting.proofs.Leftover.{or-left, or-parts, or-right}

-- ---- actions by their indexes
got-in : (xs : List LocalAction) (i : ℕ) (x : LocalAction) → slice_get xs i ≡ Some x → In x xs
got-in [] i x h = none-some x h
got-in (y ∷ xs) zero x h = inl (sym (some-injective y x h))
got-in (y ∷ xs) (suc i) x h = inr (got-in xs i x h)

in-got : (xs : List LocalAction) (x : LocalAction) → In x xs → (i : ℕ) × (slice_get xs i ≡ Some x)
in-got [] x h = absurd h
in-got (y ∷ xs) x (inl is) = (0, ap (λ (z : LocalAction). Some z) (sym is))
in-got (y ∷ xs) x (inr h) = let found = in-got xs x h in (suc found.0, found.1)

-- ---- a test of each action, of which the first has the value of number n
-- it holds of the action at index k
none-at : (marks : List Bool) (n : ℕ) (xs : List LocalAction) → none_deadlocked marks n xs ≡ true → (k j : ℕ) (x : LocalAction) → j ≡ n + k → slice_get xs k ≡ Some x
    → not (not (is_idle x) && is_set (slice_get marks j)) ≡ true
none-at marks n [] h k j x e at = none-some x at
none-at marks n (y ∷ xs) h zero j x e at =
    let here : n ≡ j = omega (arith, e) in
    subst (λ (i : ℕ). not (not (is_idle x) && is_set (slice_get marks i)) ≡ true) here
    (subst (λ (z : LocalAction). not (not (is_idle z) && is_set (slice_get marks n)) ≡ true) (some-injective y x at)
    (and_parts (not (not (is_idle y) && is_set (slice_get marks n))) (none_deadlocked marks (n + 1) xs) h).0)
none-at marks n (y ∷ xs) h (suc k) j x e at =
    none-at marks (n + 1) xs (and_parts (not (not (is_idle y) && is_set (slice_get marks n))) (none_deadlocked marks (n + 1) xs) h).1 k j x (omega (arith, e)) at

none-all : (marks : List Bool) (n : ℕ) (xs : List LocalAction)
    → ((k j : ℕ) (x : LocalAction) → j ≡ n + k → slice_get xs k ≡ Some x → not (not (is_idle x) && is_set (slice_get marks j)) ≡ true) → none_deadlocked marks n xs ≡ true
none-all marks n [] h = refl
none-all marks n (y ∷ xs) h =
    and_from (not (not (is_idle y) && is_set (slice_get marks n))) (none_deadlocked marks (n + 1) xs) (h 0 n y (omega arith) refl)
    (none-all marks (n + 1) xs (λ k j x e at. h (suc k) j x (omega (arith, e)) at))

settled-at : (ps : List Partner) (n : ℕ) (xs : List LocalAction) → all_settled ps n xs ≡ true → (k j : ℕ) (x : LocalAction) → j ≡ n + k → slice_get xs k ≡ Some x
    → is_settled x (slice_get ps j) ≡ true
settled-at ps n [] h k j x e at = none-some x at
settled-at ps n (y ∷ xs) h zero j x e at =
    let here : n ≡ j = omega (arith, e) in
    subst (λ (i : ℕ). is_settled x (slice_get ps i) ≡ true) here
    (subst (λ (z : LocalAction). is_settled z (slice_get ps n) ≡ true) (some-injective y x at)
    (and_parts (is_settled y (slice_get ps n)) (all_settled ps (n + 1) xs) h).0)
settled-at ps n (y ∷ xs) h (suc k) j x e at =
    settled-at ps (n + 1) xs (and_parts (is_settled y (slice_get ps n)) (all_settled ps (n + 1) xs) h).1 k j x (omega (arith, e)) at

settled-all : (ps : List Partner) (n : ℕ) (xs : List LocalAction)
    → ((k j : ℕ) (x : LocalAction) → j ≡ n + k → slice_get xs k ≡ Some x → is_settled x (slice_get ps j) ≡ true) → all_settled ps n xs ≡ true
settled-all ps n [] h = refl
settled-all ps n (y ∷ xs) h =
    and_from (is_settled y (slice_get ps n)) (all_settled ps (n + 1) xs) (h 0 n y (omega arith) refl)
    (settled-all ps (n + 1) xs (λ k j x e at. h (suc k) j x (omega (arith, e)) at))

-- one is starved
record Starved (m : AtMachine) (ps : List Partner) (n : ℕ) (xs : List LocalAction) : Type 0 where
  index : ℕ
  number : ℕ
  action : LocalAction
  same : number ≡ n + index
  at : slice_get xs index ≡ Some action
  starved : is_starved m action (slice_get ps number) ≡ true

starved-found : (m : AtMachine) (ps : List Partner) (n : ℕ) (xs : List LocalAction) → any_starved m ps n xs ≡ true → Starved m ps n xs
starved-found m ps n [] h = cc
starved-found m ps n (y ∷ xs) h = elim (or-parts (is_starved m y (slice_get ps n)) (any_starved m ps (n + 1) xs) h) [
  | inl here ↦ record { index = 0; number = n; action = y; same = omega arith; at = refl; starved = here }
  | inr later ↦
      let rest = starved-found m ps (n + 1) xs later in
      let e : rest.number ≡ (n + 1) + rest.index = rest.same in
      record { index = suc rest.index; number = rest.number; action = rest.action; same = omega (arith, e); at = rest.at; starved = rest.starved }
]

starved-any : (m : AtMachine) (ps : List Partner) (n : ℕ) (xs : List LocalAction) (k j : ℕ) (x : LocalAction) → j ≡ n + k → slice_get xs k ≡ Some x
    → is_starved m x (slice_get ps j) ≡ true → any_starved m ps n xs ≡ true
starved-any m ps n [] k j x e at h = none-some x at
starved-any m ps n (y ∷ xs) zero j x e at h =
    let here : j ≡ n = omega (arith, e) in
    or-left (is_starved m y (slice_get ps n)) (any_starved m ps (n + 1) xs)
    (subst (λ (i : ℕ). is_starved m y (slice_get ps i) ≡ true) here
    (subst (λ (z : LocalAction). is_starved m z (slice_get ps j) ≡ true) (sym (some-injective y x at)) h))
starved-any m ps n (y ∷ xs) (suc k) j x e at h =
    or-right (is_starved m y (slice_get ps n)) (any_starved m ps (n + 1) xs) (starved-any m ps (n + 1) xs k j x (omega (arith, e)) at h)

starved-parts : (m : AtMachine) (x : LocalAction) (p : Partner) → is_starved m x (Some p) ≡ true → (takes_input m x ≡ true) × (p ≡ partner.Gone)
starved-parts m x partner.Gone h = (h, refl)
starved-parts m x (partner.Behind a) h = cc
starved-parts m x partner.Open h = cc

-- ---- how it stands
stuck-is : (p : Progress) → is_stuck p ≡ true → p ≡ Stuck
stuck-is GoesOn h = cc
stuck-is Done h = cc
stuck-is Stuck h = refl

stands-stuck : (S : State) (p : Progress) → StandsLike S p → StandsLike S Stuck → is_stuck p ≡ true
stands-stuck S GoesOn h g = absurd (g.0 h.0 h.1)
stands-stuck S Done h g = absurd (true≢false (sym h.1 ∙ g.1))
stands-stuck S Stuck h g = refl

set-some : (o : Option Bool) → is_set o ≡ true → o ≡ Some true
set-some None h = cc
set-some (Some b) h = ap (λ (c : Bool). Some c) h

-- of a partner that is not known is
open-not : (o : Option Partner) → is_open o ≡ true → o ≡ Some partner.Open
open-not None h = cc
open-not (Some partner.Gone) h = cc
open-not (Some (partner.Behind a)) h = cc
open-not (Some partner.Open) h = refl

module _ (m : AtMachine) (S : State) (w : Waiting) (t : IsTold m S w) where
  partner-at : (k : ℕ) (x : LocalAction) → slice_get w.actions k ≡ Some x → slice_get w.partners.items k ≡ Some (partner_in S.residual x)
  partner-at k x at =
      ap (λ (qs : List Partner). slice_get qs k) t.partners ∙ slice_get-map (partner_in S.residual) w.actions k
      ∙ ap (λ (o : Option LocalAction). option_map (partner_in S.residual) o) at

  waits-at : (k : ℕ) (x : LocalAction) → slice_get w.actions k ≡ Some x → Waits S x
  waits-at k x at = (t.actions.exactly x).0 (got-in w.actions k x at)

  found : (x : LocalAction) → Waits S x → (k : ℕ) × (slice_get w.actions k ≡ Some x)
  found x waits = in-got w.actions x ((t.actions.exactly x).1 waits)

  free-of : none_deadlocked w.deadlocked.items 0 w.actions ≡ true → (x : LocalAction) → Waits S x → is_idle x ≡ false → IsDeadlockedIn m S x.place → ⊥
  free-of none x waits body dead =
      let at = found x waits in
      let on : slice_get w.deadlocked.items at.0 ≡ Some true = (t.deadlocked.1 at.0 x at.1).1 dead in
      true≢false
      (sym (none-at w.deadlocked.items 0 w.actions none at.0 at.0 x (omega arith) at.1)
      ∙ ap₂ (λ (b : Bool) (o : Option Bool). not (not b && is_set o)) body on)

  none-of : ((x : LocalAction) → Waits S x → is_idle x ≡ false → IsDeadlockedIn m S x.place → ⊥) → none_deadlocked w.deadlocked.items 0 w.actions ≡ true
  none-of free =
      none-all w.deadlocked.items 0 w.actions
      (λ k j x e at. elim (cases_Bool (is_idle x)) [
        | inl idle ↦ ap (λ (b : Bool). not (not b && is_set (slice_get w.deadlocked.items j))) idle
        | inr body ↦ elim (cases_Bool (is_set (slice_get w.deadlocked.items j))) [
          | inl on ↦
              let here : j ≡ k = omega (arith, e) in
              let mark : slice_get w.deadlocked.items k ≡ Some true =
              ap (slice_get w.deadlocked.items) (sym here) ∙ set-some (slice_get w.deadlocked.items j) on in
              absurd (free x (waits-at k x at) body ((t.deadlocked.1 k x at).0 mark))
          | inr off ↦ ap₂ (λ (b c : Bool). not (not b && c)) body off
        ]
      ])

  settled-of : all_settled w.partners.items 0 w.actions ≡ true → (x : LocalAction) → Waits S x → is_outlet x.action ≡ false → partner_in S.residual x ≡ partner.Open → ⊥
  settled-of all x waits inner unknown =
      let at = found x waits in
      true≢false
      (sym (settled-at w.partners.items 0 w.actions all at.0 at.0 x (omega arith) at.1)
      ∙ ap₂ (λ (b : Bool) (o : Option Partner). b || not (is_open o)) inner (partner-at at.0 x at.1 ∙ ap (λ (p : Partner). Some p) unknown))

  all-of : ((x : LocalAction) → Waits S x → is_outlet x.action ≡ false → partner_in S.residual x ≡ partner.Open → ⊥) → all_settled w.partners.items 0 w.actions ≡ true
  all-of settled =
      settled-all w.partners.items 0 w.actions
      (λ k j x e at. elim (cases_Bool (is_outlet x.action)) [
        | inl outer ↦ ap (λ (b : Bool). b || not (is_open (slice_get w.partners.items j))) outer
        | inr inner ↦ elim (cases_Bool (is_open (slice_get w.partners.items j))) [
          | inl on ↦
              let here : j ≡ k = omega (arith, e) in
              let unknown : partner_in S.residual x ≡ partner.Open =
              some-injective (partner_in S.residual x) partner.Open
              (sym (partner-at k x at) ∙ ap (slice_get w.partners.items) (sym here) ∙ open-not (slice_get w.partners.items j) on) in
              absurd (settled x (waits-at k x at) inner unknown)
          | inr off ↦ ap₂ (λ (b c : Bool). b || not c) inner off
        ]
      ])

  starved-of : any_starved m w.partners.items 0 w.actions ≡ true → (x : LocalAction) × Waits S x × (takes_input m x ≡ true) × (partner_in S.residual x ≡ partner.Gone)
  starved-of any =
      let one = starved-found m w.partners.items 0 w.actions any in
      let e : one.number ≡ 0 + one.index = one.same in
      let here : one.number ≡ one.index = omega (arith, e) in
      let at : slice_get w.partners.items one.number ≡ Some (partner_in S.residual one.action) =
      ap (slice_get w.partners.items) here ∙ partner-at one.index one.action one.at in
      let parts = starved-parts m one.action (partner_in S.residual one.action) (sym (ap (is_starved m one.action) at) ∙ one.starved) in
      (one.action, waits-at one.index one.action one.at, parts.0, parts.1)

  any-of : (x : LocalAction) → Waits S x → takes_input m x ≡ true → partner_in S.residual x ≡ partner.Gone → any_starved m w.partners.items 0 w.actions ≡ true
  any-of x waits takes gone =
      let at = found x waits in
      starved-any m w.partners.items 0 w.actions at.0 at.0 x (omega arith) at.1
      (ap (is_starved m x) (partner-at at.0 x at.1 ∙ ap (λ (p : Partner). Some p) gone) ∙ takes)

  meant : lacks_input m w ≡ true → LacksInput m S
  meant h =
      let all = and_parts (is_stuck w.progress && none_deadlocked w.deadlocked.items 0 w.actions && any_starved m w.partners.items 0 w.actions) (all_settled w.partners.items 0 w.actions) h in
      let any = and_parts (is_stuck w.progress && none_deadlocked w.deadlocked.items 0 w.actions) (any_starved m w.partners.items 0 w.actions) all.0 in
      let none = and_parts (is_stuck w.progress) (none_deadlocked w.deadlocked.items 0 w.actions) any.0 in record {
        stuck = subst (λ (p : Progress). StandsLike S p) (stuck-is w.progress none.0) t.progress;
        free = free-of none.1;
        starved = starved-of any.1;
        settled = settled-of all.1;
      }

  holds : LacksInput m S → lacks_input m w ≡ true
  holds l =
      let one = l.starved in
      and_from (is_stuck w.progress && none_deadlocked w.deadlocked.items 0 w.actions && any_starved m w.partners.items 0 w.actions) (all_settled w.partners.items 0 w.actions)
      (and_from (is_stuck w.progress && none_deadlocked w.deadlocked.items 0 w.actions) (any_starved m w.partners.items 0 w.actions)
      (and_from (is_stuck w.progress) (none_deadlocked w.deadlocked.items 0 w.actions) (stands-stuck S w.progress t.progress l.stuck) (none-of l.free))
      (any-of one.0 one.1 one.2 one.3))
      (all-of l.settled)

pub lacks-told : (m : AtMachine) (S : State) (w : Waiting) → IsTold m S w → (lacks_input m w ≡ true) ↔ LacksInput m S
lacks-told m S w t = (meant m S w t, holds m S w t)
