-- The variables that an expression names are those of its value.
use Rattle.std.proofs.Common.{◌≡◌, ◌⊎◌, inl, inr, ⊎_elim, ℕ, List, [], ◌∷◌, ◌++◌, map, refl, sym, subst, false}
use Rattle.syntax.specs.Lists.{In}
use Rattle.system.specs.Expression as model
use Rattle.system.specs.Translation.{expression_of, expression_layer}
use Rattle.system.specs.declared.expression.Use.{Use}
use Rattle.system.specs.declared.expression.Expression.{Expression}
use Rattle.system.specs.declared.expression.Expression.TheOpen.{Expression-F}
use Rattle.system.specs.declared.expression.Expression.TheFolds.{map-Expression, fold-roll-Expression, ind-Expression}
use Rattle.system.specs.declared.expression.Expression.TheViews.{roll-Expression}
use Rattle.sharing_check.specs.Uses.{here, named, named_layer, reads}
use Rattle.sharing_check.proofs.FitsParts.{Used}

-- a variable that is in the first list or in the second
abbrev Named : ℕ → List Use → Type 0
Named x us = (u : Use) × In u us × (u.number ≡ x)

named_left : (x : ℕ) (us vs : List Use) → Named x us → Named x (us ++ vs)
named_left x us vs h = (h.0, left h.0 us h.1, h.2)
  where
    left : (u : Use) (us : List Use) → In u us → In u (us ++ vs)
    left u [] h = absurd h
    left u (y ∷ us) (inl e) = inl e
    left u (y ∷ us) (inr h) = inr (left u us h)

named_right : (x : ℕ) (us vs : List Use) → Named x vs → Named x (us ++ vs)
named_right x [] vs h = h
named_right x (y ∷ us) vs h = let k = named_right x us vs h in (k.0, inr k.1, k.2)

-- an element of both lists is in one of them
in_both : (x : ℕ) (ns ms : List ℕ) → In x (ns ++ ms) → In x ns ⊎ In x ms
in_both x [] ms h = inr h
in_both x (n ∷ ns) ms (inl e) = inl (inl e)
in_both x (n ∷ ns) ms (inr h) = ⊎_elim (λ k. inl (inr k)) (λ k. inr k) (in_both x ns ms h)

-- what the value of an expression reads is named in it
abbrev Reads : ℕ → Expression → Type 0
Reads x e = In x (model.variables (expression_of e)) → Named x (named e)

abbrev WithReads : ℕ → Type 0
WithReads x = (e : Expression) × Reads x e

layer-reads : (x : ℕ) (y : Expression-F (WithReads x)) →
    In x (model.variables (expression_layer (map-Expression Expression model.Expression expression_of (map-Expression (WithReads x) Expression (λ e. e.0) y)))) →
    Named x (named_layer (map-Expression Expression (List Use) named (map-Expression (WithReads x) Expression (λ e. e.0) y)))
layer-reads x (Expression-F.Constant v) h = absurd h
layer-reads x (Expression-F.Variable u w) (inl e) = (u, inl refl, sym e)
layer-reads x (Expression-F.Variable u w) (inr h) = absurd h
layer-reads x (Expression-F.Received c w) h = absurd h
layer-reads x (Expression-F.Binary op a b) h =
    ⊎_elim (λ k. named_left x (named a.0) (named b.0) (a.1 k)) (λ k. named_right x (named a.0) (named b.0) (b.1 k))
    (in_both x (model.variables (expression_of a.0)) (model.variables (expression_of b.0)) h)
layer-reads x (Expression-F.Not a) h = a.1 h
layer-reads x (Expression-F.Cast a w) h = a.1 h

expression-reads : (x : ℕ) (e : Expression) → Reads x e
expression-reads x =
    ind-Expression (Reads x)
    (λ z y e. subst (λ z. Reads x (roll-Expression z)) e
    (λ h. subst (λ us. Named x us) (sym (fold-roll-Expression (List Use) named_layer _))
    (layer-reads x y (subst (λ e. In x (model.variables e)) (fold-roll-Expression model.Expression expression_layer _) h))))

-- a variable that is named is read
named-read : (x : ℕ) (us : List Use) → Named x us → Used x (map (λ u. here u false) us)
named-read x [] h = absurd h.1
named-read x (y ∷ us) (u, inl e, is) = (here y false, inl refl, subst (λ (z : Use). z.number ≡ x) e is)
named-read x (y ∷ us) (u, inr h, is) = let k = named-read x us (u, h, is) in (k.0, inr k.1, k.2)

-- what an expression reads is among its uses
pub reads-used : (x : ℕ) (e : Expression) → In x (model.variables (expression_of e)) → Used x (reads e)
reads-used x e h = named-read x (named e) (expression-reads x e h)
