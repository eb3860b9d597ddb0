-- The laws of the canonical order.
use Rattle.std.proofs.Common.{◌≡◌, inl, inr, List, [], ◌∷◌, ◌++◌, refl, sym, ap, ◌∙◌, subst}
use Rattle.std.specs.declared.cmp.Ordering.TheVariants.{Less}
use Rattle.address.proofs.public.Total.{order-total}
use Rattle.address.specs.Order.{order_of}
use Rattle.syntax.specs.Lists.{In}
use Rattle.runs.specs.Dependence.{Directly, Earlier, Rearranged, Respecting}
use Rattle.runs.specs.Events.{acting}
use Rattle.runs.specs.Moves.{Place}
use Rattle.runs.specs.declared.event.Event.{Event}
use Rattle.runs.proofs.public.Elements.{Distinct, rearranged-in, in-rearranged, rearranged-turned, rearranged-distinct, earlier-more, earlier-before, earlier-first, earlier-second}
use Rattle.runs.proofs.public.Lists.{in-right}
use Rattle.runs.proofs.public.FromOpening.{acting_once, respecting_orders}
use Rattle.trace_file.specs.Canonical.{Free, LeastFree, IsCanonicalOrder}
use Rattle.trace_file.specs.CanonicalLaws.{CanonicalRespects, CanonicalRuns, OrdersAgree, OneCanonicalOrder, IsItsOwnOrder}
use Rattle.trace_file.proofs.Orders.{ActsOnce, once-distinct, once-less, earlier-parts, earlier-less, in-less, in-more, other-than, same-acting}

-- what is free in one list is free in another that keeps the causes
pub free-in : (h g : List Event) (e : Event) → In e g → ((x y : Event) → Earlier g x y → Directly x y → Earlier h x y) → Free h e → Free g e
free-in h g e i keeps f = record {
  inside = i;
  no_cause = λ x before direct. f.no_cause x (keeps x e before direct) direct;
}

-- the canonical order is a rearrangement
pub canonical-rearranged : (h g : List Event) → IsCanonicalOrder h g → Rearranged g h
canonical-rearranged h [] c = c
canonical-rearranged h (e ∷ g) c = (c.0, c.1, c.2, canonical-rearranged (c.0 ++ c.1) g c.4)

-- it keeps the order of each directly dependent pair
pub canonical-keeps : (h g : List Event) → IsCanonicalOrder h g → (x y : Event) → Earlier h x y → Directly x y → Earlier g x y
canonical-keeps h [] c x y i direct = subst (λ (l : List Event). Earlier l x y) c i
canonical-keeps h (e ∷ g) c x y i direct =
    elim (earlier-parts e x y c.0 c.1 (subst (λ (l : List Event). Earlier l x y) c.2 i)) [
      | inl u ↦ inr (canonical-keeps (c.0 ++ c.1) g c.4 x y u direct)
      | inr (inl u) ↦ inl (u.0, rearranged-in g (c.0 ++ c.1) y (canonical-rearranged (c.0 ++ c.1) g c.4) (in-right y c.0 c.1 u.1))
      | inr (inr u) ↦ absurd (c.3.free.no_cause x
          (subst (λ (l : List Event). Earlier l x e) (sym c.2) (earlier-before e x c.0 c.1 u.1))
          (subst (λ (z : Event). Directly x z) u.0 direct))
    ]

-- it is a respecting order
pub canonical-respects : CanonicalRespects
canonical-respects h g c = record {
  rearranged = rearranged-turned g h (canonical-rearranged h g c);
  keeps = canonical-keeps h g c;
}

-- so it runs
pub canonical-runs : CanonicalRuns
canonical-runs system h g T r c = respecting_orders system h g T r (canonical-respects h g c)

-- the first of the canonical order is the least in it, too
own-first : (h g : List Event) (e : Event) → Distinct h → IsCanonicalOrder h (e ∷ g) → LeastFree (e ∷ g) e
own-first h g e d c =
    let once : Distinct (e ∷ g) = rearranged-distinct h (e ∷ g) (rearranged-turned (e ∷ g) h (canonical-rearranged h (e ∷ g) c)) d in
    record {
      free = record {
        inside = inl refl;
        no_cause = λ f i direct. once e (inl (refl, elim i [ inl u ↦ u.1 | inr u ↦ earlier-second g f e u ]));
      };
      least = λ f free. c.3.least f
          (free-in (e ∷ g) h f (in-rearranged (e ∷ g) h f (canonical-rearranged h (e ∷ g) c) free.inside) (canonical-keeps h (e ∷ g) c) free);
    }

-- the canonical order is its own
own-order : (h g : List Event) → ActsOnce h → IsCanonicalOrder h g → IsCanonicalOrder g g
own-order h [] d c = refl
own-order h (e ∷ g) d c = (
  [],
  g,
  refl,
  own-first h g e (once-distinct h d) c,
  own-order (c.0 ++ c.1) g (once-less e c.0 c.1 (subst ActsOnce c.2 d)) c.4,
)

pub is-its-own-order : IsItsOwnOrder
is-its-own-order system h g T r c = own-order h g (λ e f i. acting_once system h T e f r i) c

-- two lists of the same events that keep each other's causes
pub record Alike (h g : List Event) : Type 0 where
  pub there : (e : Event) → In e h → In e g
  pub back : (e : Event) → In e g → In e h
  pub keeps : (e f : Event) → Earlier h e f → Directly e f → Earlier g e f
  pub keeps_back : (e f : Event) → Earlier g e f → Directly e f → Earlier h e f

-- they are alike without one event
alike-less : (e : Event) (b a p q : List Event) → Distinct (b ++ e ∷ a) → Distinct (p ++ e ∷ q) → Alike (b ++ e ∷ a) (p ++ e ∷ q) → Alike (b ++ a) (p ++ q)
alike-less e b a p q d n s = record {
  there = λ x i. in-less e x p q (other-than e x b a d i) (s.there x (in-more e x b a i));
  back = λ x i. in-less e x b a (other-than e x p q n i) (s.back x (in-more e x p q i));
  keeps = λ x y i direct. earlier-less e x y p q (other-than e x b a d (earlier-first (b ++ a) x y i)) (other-than e y b a d (earlier-second (b ++ a) x y i))
      (s.keeps x y (earlier-more e x y b a i) direct);
  keeps_back = λ x y i direct. earlier-less e x y b a (other-than e x p q n (earlier-first (p ++ q) x y i)) (other-than e y p q n (earlier-second (p ++ q) x y i))
      (s.keeps_back x y (earlier-more e x y p q i) direct);
}

-- of two addresses neither of which is less, one is the other
tied : (a b : Place) → (order_of a b ≡ Less → ⊥) → (order_of b a ≡ Less → ⊥) → a ≡ b
tied a b n m = elim (order-total a b) [ inl u ↦ absurd (n u) | inr (inl u) ↦ absurd (m u) | inr (inr u) ↦ u ]

-- lists that are alike have one canonical order
same-order : (h k a b : List Event) → ActsOnce h → ActsOnce k → Alike h k → IsCanonicalOrder h a → IsCanonicalOrder k b → a ≡ b
same-order h k [] [] d n s c o = refl
same-order h k [] (f ∷ b) d n s c o = absurd (subst (λ (l : List Event). In f l) c (s.back f o.3.free.inside))
same-order h k (e ∷ a) [] d n s c o = absurd (subst (λ (l : List Event). In e l) o (s.there e c.3.free.inside))
same-order h k (e ∷ a) (f ∷ b) d n s c o =
    let e_free : Free k e = free-in h k e (s.there e c.3.free.inside) s.keeps_back c.3.free in
    let f_free : Free h f = free-in k h f (s.back f o.3.free.inside) s.keeps o.3.free in
    let acts : acting e ≡ acting f = tied (acting e) (acting f) (o.3.least e e_free) (c.3.least f f_free) in
    let same : e ≡ f = same-acting h e f d c.3.free.inside f_free.inside acts in
    let h_once : ActsOnce (c.0 ++ e ∷ c.1) = subst ActsOnce c.2 d in
    let k_is : k ≡ o.0 ++ e ∷ o.1 = o.2 ∙ ap (λ (x : Event). o.0 ++ x ∷ o.1) (sym same) in
    let k_once : ActsOnce (o.0 ++ e ∷ o.1) = subst ActsOnce k_is n in
    let alike : Alike (c.0 ++ e ∷ c.1) (o.0 ++ e ∷ o.1) =
    subst (λ (l : List Event). Alike (c.0 ++ e ∷ c.1) l) k_is (subst (λ (l : List Event). Alike l k) c.2 s) in
    let rest : a ≡ b =
    same-order (c.0 ++ c.1) (o.0 ++ o.1) a b (once-less e c.0 c.1 h_once) (once-less e o.0 o.1 k_once)
    (alike-less e c.0 c.1 o.0 o.1 (once-distinct (c.0 ++ e ∷ c.1) h_once) (once-distinct (o.0 ++ e ∷ o.1) k_once) alike) c.4 o.4 in
    ap (λ (x : Event). x ∷ a) same ∙ ap (λ (l : List Event). f ∷ l) rest

-- respecting orders of each other are alike
respecting-alike : (h k : List Event) → Respecting h k → Respecting k h → Alike h k
respecting-alike h k r q = record {
  there = λ e i. in-rearranged h k e r.rearranged i;
  back = λ e i. rearranged-in h k e r.rearranged i;
  keeps = r.keeps;
  keeps_back = q.keeps;
}

-- a list is like itself
alike-itself : (h : List Event) → Alike h h
alike-itself h = record {
  there = λ e i. i;
  back = λ e i. i;
  keeps = λ e f i direct. i;
  keeps_back = λ e f i direct. i;
}

pub orders-agree : OrdersAgree
orders-agree system h k a b T r there back c o =
    same-order h k a b (λ e f i. acting_once system h T e f r i)
    (λ e f i. acting_once system k T e f (respecting_orders system h k T r there) i)
    (respecting-alike h k there back) c o

pub one-canonical-order : OneCanonicalOrder
one-canonical-order system h a b T r c o =
    let once : ActsOnce h = λ e f i. acting_once system h T e f r i in
    same-order h h a b once once (alike-itself h) c o
