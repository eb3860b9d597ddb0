-- What the tests of equality tell, and that the test of events is an equivalence: the laws that `==` cites.
-- No reader has to believe it: it is proofs, of the tests in `Tests.antt`.
use Rattle.std.proofs.Common.{◌≡◌, ℕ, ◌==◌, List, [], ◌∷◌, Bool, true, false, ◌&&◌, Option, Some, None, Decides, refl, sym, ap}
use Rattle.std.proofs.lemmas.Bool.Decides.{Decides-eqb, Decides-and, Decides-like}
use Rattle.std.specs.Cmp.{IsEquivalence}
use Rattle.address.specs.declared.Entry.{Entry}
use Rattle.address.specs.declared.Entry.TheVariants.{Ordered, Branch}
use Rattle.value.specs.Word.{Word}
use Rattle.runs.specs.declared.event.Kind.{Kind}
use Rattle.runs.specs.declared.event.Kind.TheVariants.{Assign, Test, Turn, Meet, Open, Close, Sync}
use Rattle.runs.specs.declared.event.Event.{Event}
use Rattle.runs.specs.Moves.{Place}
use Rattle.runs.specs.Tests.{same_list, same_option, same_entry, same_place, same_word, same_kind, same_event}

module _ {X : Type 0} (same : X → X → Bool) (tells : (x y : X) → Decides (same x y) (x ≡ y)) where
  -- the test of lists decides whether they are equal
  pub same_list-decides : (xs ys : List X) → Decides (same_list same xs ys) (xs ≡ ys)
  same_list-decides [] [] = (λ e. refl, λ e. refl)
  same_list-decides [] (y ∷ ys) = (λ e. cc, λ e. cc)
  same_list-decides (x ∷ xs) [] = (λ e. cc, λ e. cc)
  same_list-decides (x ∷ xs) (y ∷ ys) =
      Decides-like (same x y && same_list same xs ys) (λ h. let p = h.0 in let q = h.1 in cc) (λ h. (cc, cc))
      (Decides-and (same x y) (same_list same xs ys) (tells x y) (same_list-decides xs ys))

  -- the test of options decides whether they are equal
  pub same_option-decides : (x y : Option X) → Decides (same_option same x y) (x ≡ y)
  same_option-decides None None = (λ e. refl, λ e. refl)
  same_option-decides None (Some y) = (λ e. cc, λ e. cc)
  same_option-decides (Some x) None = (λ e. cc, λ e. cc)
  same_option-decides (Some x) (Some y) = Decides-like (same x y) (λ h. cc) (λ h. cc) (tells x y)

-- the test of entries decides whether they are equal
pub same_entry-decides : (x y : Entry) → Decides (same_entry x y) (x ≡ y)
same_entry-decides (Ordered i) (Ordered j) = Decides-like (i == j) (λ h. cc) (λ h. cc) (Decides-eqb i j)
same_entry-decides (Ordered i) (Branch j) = (λ e. cc, λ e. cc)
same_entry-decides (Branch i) (Ordered j) = (λ e. cc, λ e. cc)
same_entry-decides (Branch i) (Branch j) = Decides-like (i == j) (λ h. cc) (λ h. cc) (Decides-eqb i j)

-- the test of places decides whether they are equal
pub same_place-decides : (a b : Place) → Decides (same_place a b) (a ≡ b)
same_place-decides a b = same_list-decides same_entry same_entry-decides a b

-- two words are equal where bits and width are
word-by_parts : (v u : Word) → (v.bits ≡ u.bits) × (v.width ≡ u.width) → v ≡ u
word-by_parts v u h = λ i. record { bits = h.0 i; width = h.1 i }

-- the test of words decides whether they are equal
pub same_word-decides : (v u : Word) → Decides (same_word v u) (v ≡ u)
same_word-decides v u =
    Decides-like ((v.bits == u.bits) && (v.width == u.width)) (word-by_parts v u)
    (λ e. (ap (λ (x : Word). x.bits) e, ap (λ (x : Word). x.width) e))
    (Decides-and (v.bits == u.bits) (v.width == u.width) (Decides-eqb v.bits u.bits) (Decides-eqb v.width u.width))

-- the test of kinds decides whether they are equal
pub same_kind-decides : (x y : Kind) → Decides (same_kind x y) (x ≡ y)
same_kind-decides Assign Assign = (λ e. refl, λ e. refl)
same_kind-decides Test Test = (λ e. refl, λ e. refl)
same_kind-decides Turn Turn = (λ e. refl, λ e. refl)
same_kind-decides Meet Meet = (λ e. refl, λ e. refl)
same_kind-decides Open Open = (λ e. refl, λ e. refl)
same_kind-decides Close Close = (λ e. refl, λ e. refl)
same_kind-decides Sync Sync = (λ e. refl, λ e. refl)
same_kind-decides _ _ = (λ e. cc, λ e. cc)

-- the test of optional numbers decides whether they are equal
pub same_number-decides : (x y : Option ℕ) → Decides (same_option ◌==◌ x y) (x ≡ y)
same_number-decides x y = same_option-decides ◌==◌ Decides-eqb x y

-- that all parts of two events are equal, in the order of the test
EqualParts : Event → Event → Type 0
EqualParts e f =
    (e.kind ≡ f.kind) × ((e.first ≡ f.first) × ((e.second ≡ f.second) × ((e.arm ≡ f.arm) × ((e.channel ≡ f.channel)
    × ((e.value ≡ f.value) × ((e.written ≡ f.written) × (e.read ≡ f.read)))))))

-- two events are equal where their parts are
event-by_parts : (e f : Event) → EqualParts e f → e ≡ f
unfolding EqualParts
event-by_parts e f h = λ i. record {
  kind = h.0 i;
  first = h.1.0 i;
  second = h.1.1.0 i;
  arm = h.1.1.1.0 i;
  channel = h.1.1.1.1.0 i;
  value = h.1.1.1.1.1.0 i;
  written = h.1.1.1.1.1.1.0 i;
  read = h.1.1.1.1.1.1.1 i;
}

-- equal events have equal parts
parts-of_event : (e f : Event) → e ≡ f → EqualParts e f
unfolding EqualParts
parts-of_event e f p = (
  λ i. (p i).kind,
  (
    λ i. (p i).first,
    (
      λ i. (p i).second,
      (
        λ i. (p i).arm,
        (
          λ i. (p i).channel,
          (λ i. (p i).value, (λ i. (p i).written, λ i. (p i).read)),
        ),
      ),
    ),
  ),
)

-- the test of events decides whether they are equal
pub same_event-decides : (e f : Event) → Decides (same_event e f) (e ≡ f)
unfolding EqualParts
same_event-decides e f =
    Decides-like (same_event e f) (event-by_parts e f) (parts-of_event e f)
    (Decides-and _ _ (same_kind-decides e.kind f.kind)
    (Decides-and _ _ (same_place-decides e.first f.first)
    (Decides-and _ _ (same_option-decides same_place same_place-decides e.second f.second)
    (Decides-and _ _ (same_number-decides e.arm f.arm)
    (Decides-and _ _ (same_number-decides e.channel f.channel)
    (Decides-and _ _ (same_option-decides same_word same_word-decides e.value f.value)
    (Decides-and _ _ (same_number-decides e.written f.written)
    (same_list-decides ◌==◌ Decides-eqb e.read f.read))))))))

-- two tests that decide one fact are equal
pub decided : (b c : Bool) (P : Type 0) → Decides b P → Decides c P → b ≡ c
decided true true P h g = refl
decided true false P h g = sym (g.1 (h.0 refl))
decided false true P h g = h.1 (g.0 refl)
decided false false P h g = refl

-- the test of events is reflexive, symmetric and transitive
pub same_event-equivalence : IsEquivalence same_event
same_event-equivalence = record {
  refl = λ e. (same_event-decides e e).1 refl;
  symm = λ e f. decided (same_event e f) (same_event f e) (e ≡ f) (same_event-decides e f)
      (λ h. sym ((same_event-decides f e).0 h), λ h. (same_event-decides f e).1 (sym h));
  congr = λ e f g h. ap (λ x. same_event x g) ((same_event-decides e f).0 h);
}
