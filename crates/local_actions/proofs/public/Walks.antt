-- A walk: one down, what is listed there, and up again; and what was received on the way.
use Rattle.std.proofs.Common.{◌≡◌, ℕ, suc, ◌-◌, List, [], ◌∷◌, ◌++◌, length, take, false, Option, Some, None, MatchOption, refl, sym, ap, ap₂, ◌∙◌, arith}
use Rattle.std.proofs.lemmas.List.{append-nil, append_assoc}
use Rattle.address.specs.declared.Entry.{Entry}
use Rattle.system.specs.Expression.{Expression, Decision, by_guards, variables, decision_variables}
use Rattle.runs.specs.Moves.{Place}
use Rattle.process_tree.specs.Remaining.{Received}
use Rattle.process_tree.specs.internal.Received.{puts_value, puts_decision}
use Rattle.local_actions.specs.Walk.{Walk, action_at, below, added, down, up, without_last, outside, received_onto}
use Rattle.local_actions.specs.internal.Listed.{behind}
use Rattle.local_actions.specs.internal.Walk.{put_each, put_each_decision}
use Rattle.local_actions.specs.declared.around.Arrived.{Arrived}
use Rattle.local_actions.specs.declared.action.LocalAction.{LocalAction}

-- walks with the same parts
pub walk-is : (a b : Place) (r t : Received) (xs ys : List LocalAction) → a ≡ b → r ≡ t → xs ≡ ys
    → ◌≡◌ {A = Walk} (record { place = a; received = r; actions = xs }) (record { place = b; received = t; actions = ys })
walk-is a b r t xs ys e f g = λ i. record { place = e i; received = f i; actions = g i }

-- the last is the last
pub last-gone : {X : Type 0} (xs : List X) (x : X) → without_last (xs ++ x ∷ []) ≡ xs
last-gone [] x = refl
last-gone (y ∷ []) x = refl
last-gone (y ∷ z ∷ xs) x = ap (λ l. y ∷ l) (last-gone (z ∷ xs) x)

-- below a place and an entry
pub below-behind : (p : Place) (x : Entry) (rs : List LocalAction) → below (p ++ x ∷ []) rs ≡ below p (behind x rs)
below-behind p x [] = refl
below-behind p x (r ∷ rs) = ap₂ (λ (a : Place) (l : List LocalAction). action_at a r.action ∷ l) (append_assoc p (x ∷ []) r.place) (below-behind p x rs)

pub below-both : (p : Place) (xs ys : List LocalAction) → below p (xs ++ ys) ≡ below p xs ++ below p ys
below-both p [] ys = refl
below-both p (x ∷ xs) ys = ap (λ l. action_at (p ++ x.place) x.action ∷ l) (below-both p xs ys)

-- down, with more actions, and up again
pub through : (x : Entry) (rs : List LocalAction) (w : Walk) → up (added rs (down x w)) ≡ added (behind x rs) w
through x rs w = walk-is (without_last (w.place ++ x ∷ [])) w.place w.received w.received _ _ (last-gone w.place x) refl (ap (λ l. w.actions ++ l) (below-behind w.place x rs))

-- nothing more
pub added-none : (w : Walk) → added [] w ≡ w
added-none w = walk-is w.place w.place w.received w.received (w.actions ++ []) w.actions refl refl (append-nil w.actions)

-- more, and more again
pub added-both : (xs ys : List LocalAction) (w : Walk) → added ys (added xs w) ≡ added (xs ++ ys) w
added-both xs ys w =
    walk-is w.place w.place w.received w.received _ _ refl refl
    (append_assoc w.actions (below w.place xs) (below w.place ys) ∙ ap (λ l. w.actions ++ l) (sym (below-both w.place xs ys)))

-- one action at the own place
pub added-here : (r : LocalAction) (w : Walk) → added (action_at [] r.action ∷ []) w ≡ record { place = w.place; received = w.received; actions = w.actions ++ action_at w.place r.action ∷ [] }
added-here r w =
    walk-is w.place w.place w.received w.received _ _ refl refl (ap (λ (a : Place). w.actions ++ action_at a r.action ∷ []) (append-nil w.place))

-- what came last stands first
pub received_last : (env : Received) (vs : List Arrived) (a : Arrived) → received_onto env (vs ++ a ∷ []) ≡ (a.channel, a.value) ∷ received_onto env vs
received_last env [] a = refl
received_last env (b ∷ vs) a = received_last ((b.channel, b.value) ∷ env) vs a

-- one less is without the last
pub take-less : {X : Type 0} (m : ℕ) (xs : List X) → m ≡ length xs - 1 → take m xs ≡ without_last xs
take-less m [] is = let none : m ≡ 0 = omega arith in ap (λ k. take k []) none
take-less m (x ∷ []) is = let none : m ≡ 0 = omega arith in ap (λ k. take k (x ∷ [])) none
take-less m (x ∷ y ∷ xs) is =
    let next : m ≡ suc (length xs) = omega arith in
    ap (λ k. take k (x ∷ y ∷ xs)) next ∙ ap (λ l. x ∷ l) (take-less (length xs) (y ∷ xs) (omega arith))

-- of what was received
pub gone-received : (vs us : List Arrived) (o : Option Arrived) → MatchOption o ((vs ≡ []) × (us ≡ [])) (λ last. vs ≡ us ++ last ∷ []) → received_onto [] us ≡ outside (received_onto [] vs)
gone-received vs us None h = ap (received_onto []) h.1 ∙ sym (ap (λ l. outside (received_onto [] l)) h.0)
gone-received vs us (Some x) h = sym (ap (λ l. outside (received_onto [] l)) h ∙ ap outside (received_last [] us x))

-- the values put one after another
put-each-onto : (env : Received) (vs : List Arrived) (e : Expression) → puts_value (received_onto env vs) e ≡ put_each vs (puts_value env e)
put-each-onto env [] e = refl
put-each-onto env (a ∷ vs) e = put-each-onto ((a.channel, a.value) ∷ env) vs e

pub put_each_is : (vs : List Arrived) (e : Expression) → put_each vs e ≡ puts_value (received_onto [] vs) e
put_each_is vs e = sym (put-each-onto [] vs e)

put-each-decision-onto : (env : Received) (vs : List Arrived) (d : Decision) → puts_decision (received_onto env vs) d ≡ put_each_decision vs (puts_decision env d)
put-each-decision-onto env [] d = refl
put-each-decision-onto env (a ∷ vs) d = put-each-decision-onto ((a.channel, a.value) ∷ env) vs d

pub put_each_decision_is : (vs : List Arrived) (d : Decision) → put_each_decision vs d ≡ puts_decision (received_onto [] vs) d
put_each_decision_is vs d = sym (put-each-decision-onto [] vs d)

-- what one guard reads
pub guard_reads : (e : Expression) → decision_variables (by_guards (e ∷ []) false) ≡ variables e
guard_reads e = append-nil (variables e)
