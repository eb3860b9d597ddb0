-- Two neighbours of a run swap unless the second depends directly on the first.
use Rattle.runs.proofs.public.Lists.{every-map}
use Rattle.std.proofs.Common.{inl, inr, List, [], ◌∷◌, refl, sym, ◌∙◌, ap, subst}
use Rattle.syntax.specs.Lists.{In, Every}
use Rattle.runs.specs.Moves.{Place, Local}
use Rattle.address.specs.Places.{Before}
use Rattle.system.specs.Residual.{Residual}
use Rattle.system.specs.Expression.{get}
use Rattle.runs.specs.Events.{Located, places, store_after}
use Rattle.runs.specs.Steps.{State, Step, Moves}
use Rattle.runs.specs.Dependence.{Directly}
use Rattle.runs.specs.declared.event.Event.{Event}
use Rattle.runs.proofs.public.WellFormed.{WellFormed}
use Rattle.runs.proofs.public.Kept.{formed}
use Rattle.runs.proofs.Pair.{pair}
use Rattle.runs.proofs.public.Stores.{get-after, after-other}
use Rattle.runs.proofs.public.Stepping.{move-places, makes-agree}

-- moves keep a residual well formed
pub moves-formed : (r q : Residual) (ls : List Located) → WellFormed r → Moves r ls q → WellFormed q
moves-formed r q [] w h = subst WellFormed h w
moves-formed r q (l ∷ ls) w h = moves-formed h.0 q ls (formed r l.place l.move h.0 w h.1) h.2

-- a step keeps the residual well formed
pub step-formed : (S T : State) (e : Event) → WellFormed S.residual → Step S e T → WellFormed T.residual
step-formed S T e w h = moves-formed S.residual T.residual h.moves w h.moved

-- moves after a residual r, between which and q stands t
pub record Between (r : Residual) (ks ls : List Located) (q : Residual) : Type 0 where
  pub between : Residual
  pub first : Moves r ks between
  pub second : Moves between ls q

-- a move is made after others instead of before them, where its place is before none of theirs
one-past : (r t q : Residual) (l : Located) (ks : List Located) → WellFormed r → Local r l.place l.move t → Moves t ks q →
    Every (λ k. Before l.place k.place → ⊥) ks → Between r ks (l ∷ []) q
one-past r t q l [] w h k none = record { between = r; first = refl; second = (t, h, k) }
one-past r t q l (k ∷ ks) w h moved none =
    elim (pair r l.place k.place l.move k.move t moved.0 w h moved.1) [
      | inl early ↦ absurd (none.0 early)
      | inr s ↦ let rest = one-past s.between moved.0 q l ks (formed r k.place k.move s.between w s.first) s.second moved.2 none.1 in
          record { between = rest.between; first = (s.between, s.first, rest.first); second = rest.second }
    ]

-- moves are made after others instead of before them
all-past : (r t q : Residual) (ls ks : List Located) → WellFormed r → Moves r ls t → Moves t ks q →
    Every (λ l. Every (λ k. Before l.place k.place → ⊥) ks) ls → Between r ks ls q
all-past r t q [] ks w h moved none = record { between = q; first = subst (λ (u : Residual). Moves u ks q) (sym h) moved; second = refl }
all-past r t q (l ∷ ls) ks w h moved none =
    let later = all-past h.0 t q ls ks (formed r l.place l.move h.0 w h.1) h.2 moved none.1 in
    let rest = one-past r h.0 later.between l ks w h.1 later.first none.0 in
    record {
      between = rest.between;
      first = rest.first;
      second = (rest.second.0, rest.second.1, subst (λ (u : Residual). Moves u ls q) (sym rest.second.2) later.second);
    }

-- the events f and then e lead from S to U
pub record Turned (S : State) (f e : Event) (U : State) : Type 0 where
  pub between : State
  pub first : Step S f between
  pub second : Step between e U

-- what is so of all addresses of two events is so of the places of their moves
each-pair : (ls ks : List Located) (P : Place → Place → Type 0) (xs ys : List Place) →
    ((a b : Place) → In a xs → In b ys → P a b) → Every (λ l. In l.place xs) ls → Every (λ k. In k.place ys) ks →
    Every (λ l. Every (λ k. P l.place k.place) ks) ls
each-pair ls ks P xs ys h ins outs =
    every-map (λ l. In l.place xs) (λ l. Every (λ k. P l.place k.place) ks) ls
    (λ l i. every-map (λ k. In k.place ys) (λ k. P l.place k.place) ks (λ k j. h l.place k.place i j) outs) ins

-- the next event is taken first, unless it depends directly on the one before it
pub swap : (S T U : State) (e f : Event) → WellFormed S.residual → Step S e T → Step T f U → (Directly e f → ⊥) → Turned S f e U
swap S T U e f w se sf free =
    let moved = all-past S.residual T.residual U.residual se.moves sf.moves w se.moved sf.moved
    (each-pair se.moves sf.moves (λ a b. Before a b → ⊥) (places e) (places f) (λ a b i j early. free (inl (a, b, i, j, early)))
    (move-places S.store se.moves e se.makes) (move-places T.store sf.moves f sf.makes)) in
    let M : State = record { residual = moved.between; store = store_after f S.store } in
    record {
      between = M;
      first = record {
        moves = sf.moves;
        makes = makes-agree T.store S.store sf.moves f sf.makes
            (λ x i. ap (λ s. get s x) se.stored ∙ get-after S.store e x (λ writes. free (inr (inr (inl (x, writes, inl i))))));
        moved = moved.first;
        stored = refl;
      };
      second = record {
        moves = se.moves;
        makes = makes-agree S.store M.store se.moves e se.makes
            (λ x i. sym (get-after S.store f x (λ writes. free (inr (inr (inr (x, writes, inl i)))))));
        moved = moved.second;
        stored = sf.stored ∙ ap (λ s. store_after f s) se.stored
            ∙ after-other S.store e f (λ x we wf. free (inr (inr (inl (x, we, inr wf)))));
      };
    }
