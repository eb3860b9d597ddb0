-- Where events stand, one behind another.
use Rattle.std.proofs.Common.{◌≡◌, ◌∙◌, ℕ, ◌+◌, ◌<◌, List, [], ◌∷◌, ◌++◌, length, get_or, take, Some, add-one, refl, sym, ap, subst, arith}
use Rattle.std.specs.Prelude.{slice_get}
use Rattle.std.proofs.lemmas.Option.{slice_get-get_or}
use Rattle.runs.specs.Live.{Live, events}
use Rattle.runs.specs.declared.event.Event.{Event}
use Rattle.dependence.proofs.public.ListPlaces.{take-all, take-next}
use Rattle.machine.specs.AtMachine.{AtMachine}
use Rattle.picture_lanes.specs.declared.lane.Lane.{Lane}
use Rattle.picture_data.specs.declared.actions.Actions.{Actions}
use Rattle.picture_data.specs.Shown.{EachStandsIn, StandsIn}

-- one more event
one-more-stands : (m : AtMachine) (lanes : List Lane) (es : List Event) (e : Event) (ss : List Actions) (s : Actions) →
    EachStandsIn m lanes es ss → StandsIn m lanes e s → EachStandsIn m lanes (es ++ e ∷ []) (ss ++ s ∷ [])
one-more-stands m lanes [] e [] s each one = (one, tt)
one-more-stands m lanes [] e (t ∷ ss) s each one = absurd each
one-more-stands m lanes (f ∷ es) e [] s each one = absurd each
one-more-stands m lanes (f ∷ es) e (t ∷ ss) s each one = (each.0, one-more-stands m lanes es e ss s each.1 one)

events-more : (l : Live) (x : ℕ × Event) → events (l ++ x ∷ []) ≡ events l ++ x.1 ∷ []
events-more [] x = refl
events-more (y ∷ l) x = ap (λ (es : List Event). y.1 ∷ es) (events-more l x)

-- the first of a list, and one more of them
pub one-more : {X : Type 0} (xs : List X) (i : ℕ) (x : X) → i < length xs → x ≡ get_or xs i x → take (i + 1) xs ≡ take i xs ++ x ∷ []
one-more {X} xs i x less here =
    ap (λ (k : ℕ). take k xs) (add-one i)
    ∙ take-next xs i x (slice_get-get_or xs i x less ∙ ap (λ (y : X). Some y) (sym here))

pub next-stands : (m : AtMachine) (lanes : List Lane) (es : List Event) (i : ℕ) (e : Event) (ss new : List Actions) (s : Actions) →
    i < length es → e ≡ get_or es i e → EachStandsIn m lanes (take i es) ss → StandsIn m lanes e s → new ≡ ss ++ s ∷ [] →
    EachStandsIn m lanes (take (i + 1) es) new
next-stands m lanes es i e ss new s less here each one is =
    subst (λ (xs : List Event). EachStandsIn m lanes xs new) (sym (one-more es i e less here))
    (subst (λ (ns : List Actions). EachStandsIn m lanes (take i es ++ e ∷ []) ns) (sym is)
    (one-more-stands m lanes (take i es) e ss s each one))

pub next-live-stands : (m : AtMachine) (lanes : List Lane) (l : Live) (i : ℕ) (x : ℕ × Event) (ss new : List Actions) (s : Actions) →
    slice_get l i ≡ Some x → EachStandsIn m lanes (events (take i l)) ss → StandsIn m lanes x.1 s → new ≡ ss ++ s ∷ [] →
    EachStandsIn m lanes (events (take (i + 1) l)) new
next-live-stands m lanes l i x ss new s at each one is =
    let more : take (i + 1) l ≡ take i l ++ x ∷ [] = ap (λ (k : ℕ). take k l) (add-one i) ∙ take-next l i x at in
    subst (λ (xs : List Event). EachStandsIn m lanes xs new) (sym (ap events more ∙ events-more (take i l) x))
    (subst (λ (ns : List Actions). EachStandsIn m lanes (events (take i l) ++ x.1 ∷ []) ns) (sym is)
    (one-more-stands m lanes (events (take i l)) x.1 ss s each one))

-- once none is left all stand there
pub all-stand : (m : AtMachine) (lanes : List Lane) (l : Live) (i : ℕ) (ss : List Actions) → i ≡ length l →
    EachStandsIn m lanes (events (take i l)) ss → EachStandsIn m lanes (events l) ss
all-stand m lanes l i ss all each =
    let whole : take i l ≡ l = take-all l i (omega (arith, all)) in subst (λ (xs : Live). EachStandsIn m lanes (events xs) ss) whole each
