-- Of two events of a run, each address of the later is after one of the earlier or in another branch of it,
-- so that no two are equal and no two have one acting address.
use Rattle.runs.proofs.public.Lists.{every-in, every-left, every-right, every-map}
use Rattle.std.proofs.Common.{◌≡◌, inl, inr, List, [], ◌∷◌, ◌++◌, Option, Some, None, refl, sym, ap, subst}
use Rattle.syntax.specs.Lists.{In, Every}
use Rattle.system.specs.Residual.{Residual}
use Rattle.runs.specs.Moves.{Place}
use Rattle.runs.specs.Events.{Located, places, acting, acting_at}
use Rattle.runs.specs.Steps.{State, Moves, Run}
use Rattle.runs.specs.Dependence.{Earlier}
use Rattle.runs.specs.declared.event.Event.{Event}
use Rattle.runs.specs.declared.event.Kind.{Kind}
use Rattle.runs.specs.declared.event.Kind.TheVariants.{Meet, Open, Close}
use Rattle.runs.proofs.public.WellFormed.{WellFormed}
use Rattle.runs.proofs.public.Kept.{formed}
use Rattle.runs.proofs.Clear.{Clear, ever, clear-irreflexive}
use Rattle.runs.proofs.public.Stepping.{place-moves}
use Rattle.runs.proofs.Swap.{step-formed}

-- moves, and then more
pub moves-join : (r t q : Residual) (ls ks : List Located) → Moves r ls t → Moves t ks q → Moves r (ls ++ ks) q
moves-join r t q [] ks h k = subst (λ (u : Residual). Moves u ks q) (sym h) k
moves-join r t q (l ∷ ls) ks h k = (h.0, h.1, moves-join h.0 t q ls ks h.2 k)

-- each of the first moves is before, or apart from, each of those after them
each-clear : (r q : Residual) (ls ks : List Located) → WellFormed r → Moves r (ls ++ ks) q →
    Every (λ l. Every (λ k. Clear l.place k.place) ks) ls
each-clear r q [] ks w h = tt
each-clear r q (l ∷ ls) ks w h = (
  every-right (λ k. Clear l.place k.place) ls ks (ever r q l (ls ++ ks) w h),
  each-clear h.0 q ls ks (formed r l.place l.move h.0 w h.1) h.2,
)

-- the moves of a run, and that each address of an event of it is the place of one
pub record AllMoves (S : State) (h : List Event) (T : State) : Type 1 where
  pub list : List Located
  pub moved : Moves S.residual list T.residual
  pub holds : (P : Place → Type 0) → Every (λ l. P l.place) list → Every (λ f. Every P (places f)) h

-- a run is a list of moves
all-moves : (S T : State) (h : List Event) → Run S h T → AllMoves S h T
all-moves S T [] r = record { list = []; moved = ap (λ U. U.residual) r; holds = λ P e. tt }
all-moves S T (e ∷ h) r =
    let rest = all-moves r.0 T h r.2 in
    record {
      list = r.1.moves ++ rest.list;
      moved = moves-join S.residual r.0.residual T.residual r.1.moves rest.list r.1.moved rest.moved;
      holds = λ P every. (
        place-moves S.store r.1.moves e P r.1.makes (every-left (λ l. P l.place) r.1.moves rest.list every),
        rest.holds P (every-right (λ l. P l.place) r.1.moves rest.list every),
      );
    }

-- an address of the first event is clear of each address of a later one
pub first-clear : (S U : State) (e f : Event) (h : List Event) → WellFormed S.residual → Run S (e ∷ h) U → In f h →
    (a b : Place) → In a (places e) → In b (places f) → Clear a b
first-clear S U e f h w r i a b ia ib =
    let rest = all-moves r.0 U h r.2 in
    let clear = each-clear S.residual U.residual r.1.moves rest.list w
    (moves-join S.residual r.0.residual U.residual r.1.moves rest.list r.1.moved rest.moved) in
    let from_e : Every (λ c. Every (λ f. Every (λ d. Clear c d) (places f)) h) (places e) =
    place-moves S.store r.1.moves e (λ c. Every (λ f. Every (λ d. Clear c d) (places f)) h) r.1.makes
    (every-map (λ l. Every (λ k. Clear l.place k.place) rest.list) (λ l. Every (λ f. Every (λ d. Clear l.place d) (places f)) h) r.1.moves
    (λ l every. rest.holds (λ d. Clear l.place d) every) clear) in
    every-in (λ d. Clear a d) (places f) b
    (every-in (λ f. Every (λ d. Clear a d) (places f)) h f (every-in (λ c. Every (λ f. Every (λ d. Clear c d) (places f)) h) (places e) a from_e ia) i) ib

-- an address of an event is clear of each address of a later one
pub clear-of : (S U : State) (e f : Event) (h : List Event) → WellFormed S.residual → Run S h U → Earlier h e f →
    (a b : Place) → In a (places e) → In b (places f) → Clear a b
clear-of S U e f [] w r i a b ia ib = absurd i
clear-of S U e f (x ∷ h) w r i a b ia ib =
    elim i [
      | inl u ↦ first-clear S U e f h w (subst (λ (y : Event). Run S (y ∷ h) U) u.0 r) u.1 a b ia ib
      | inr later ↦ clear-of r.0 U e f h (step-formed S r.0 x w r.1) r.2 later a b ia ib
    ]

-- the acting address is one of the addresses, by kind
acting-in : (k : Kind) (a : Place) (b : Option Place) → In (acting_at k a b) (a ∷ Rattle.runs.specs.Events.places_of b)
acting-in Meet a None = inl refl
acting-in Meet a (Some b) = inr (inl refl)
acting-in Open a None = inl refl
acting-in Open a (Some b) = inr (inl refl)
acting-in Close a None = inl refl
acting-in Close a (Some b) = inr (inl refl)
acting-in _ a b = inl refl

-- the acting address is one of the event's
pub acting-place : (e : Event) → In (acting e) (places e)
acting-place e = acting-in e.kind e.first e.second

-- no two events of a run have one acting address
pub acting-once : (S U : State) (e f : Event) (h : List Event) → WellFormed S.residual → Run S h U → Earlier h e f → acting e ≡ acting f → ⊥
acting-once S U e f h w r i same =
    clear-irreflexive (acting f)
    (subst (λ (a : Place). Clear a (acting f)) same (clear-of S U e f h w r i (acting e) (acting f) (acting-place e) (acting-place f)))

-- no event of a run is equal to a later one
pub events-differ : (S U : State) (e f : Event) (h : List Event) → WellFormed S.residual → Run S h U → Earlier h e f → e ≡ f → ⊥
events-differ S U e f h w r i same = acting-once S U e f h w r i (ap (λ x. acting x) same)
