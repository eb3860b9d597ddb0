-- Two lists are compared event by event.
use Rattle.std.proofs.Common.{◌≡◌, ◌⊎◌, ◌↔◌, inl, inr, ℕ, ◌<◌, ◌≤◌, List, [], ◌∷◌, ◌++◌, length, take, true, false, Option, Some, None, is_some, MatchOption, refl, sym, ap, subst, ◌∙◌, true≢false, arith, slice_get}
use Rattle.syntax.specs.Lists.{In}
use Rattle.dependence.specs.LastEvents as last
use Rattle.dependence.specs.declared.uses.UseTable.{UseTable}
use Rattle.runs.specs.Dependence.{OnOneVariable, Earlier}
use Rattle.runs.specs.declared.event.Event.{Event}
use Rattle.runs.proofs.public.Lists.{in-left, in-right, in-parts}
use Rattle.runs.proofs.public.Elements.{in-rearranged}
use Rattle.calculus.specs.declared.uses.Uses.{Uses}
use Rattle.calculus.specs.internal.Comparing.{ActsOnce, Alike, AllBefore, UsesPut, NoUses}
use Rattle.calculus.proofs.ListPlaces.{get-within, got-in, in-got, less-or, before-at, at-before, one-place, distinct-of, rearranged-of, earlier-last, taken-before}

-- e reads or writes the variable x
abbrev pub Touches : Event → ℕ → Type 0
Touches e x = In x e.read ⊎ (e.written ≡ Some x)

-- the events of `done` are in b, in one order where they are on one variable; and u has their uses by their places in b
pub record Follows (done b : List Event) (u : Uses) : Type 0 where
  pub inside : (e : Event) → In e done → In e b
  pub one_order : (e f : Event) → Earlier done e f → OnOneVariable e f → Earlier b e f
  pub writers : (x t : ℕ) → last.Uses u.writers x t ↔ ((e : Event) × In e done × (slice_get b t ≡ Some e) × (e.written ≡ Some x))
  pub users : (x t : ℕ) → last.Uses u.users x t ↔ ((e : Event) × In e done × (slice_get b t ≡ Some e) × Touches e x)

pub follows-none : (b : List Event) (u : Uses) → NoUses u → Follows [] b u
follows-none b u none = record {
  inside = λ e i. absurd i;
  one_order = λ e f i v. absurd i;
  writers = λ x t. (λ used. absurd (none.0 x t used), λ h. absurd h.1);
  users = λ x t. (λ used. absurd (none.1 x t used), λ h. absurd h.1);
}

-- what uses a variable of e stands before it in b
used-before : (done b : List Event) (u : Uses) (e d : Event) (p : ℕ) → Follows done b u → slice_get b p ≡ Some e → AllBefore u e p (length b) →
    In d done → OnOneVariable d e → Earlier b d e
used-before done b u e d p follows at all i on =
    let found = in-got b d (follows.inside d i) in
    let within : found.0 < length b = get-within b found.0 d found.1 in
    let less : found.0 < p = elim on [
      | inl (x, written, inl read) ↦ all.read x found.0 read ((follows.writers x found.0).1 (d, i, found.1, written)) within
      | inl (x, written, inr rewritten) ↦ all.written x found.0 rewritten ((follows.users x found.0).1 (d, i, found.1, inr written)) within
      | inr (x, written, touched) ↦ all.written x found.0 written ((follows.users x found.0).1 (d, i, found.1, touched)) within
    ] in
    before-at b found.0 p d e found.1 at less

-- one more use in a table
put-one : (done b : List Event) (e : Event) (p : ℕ) (P : Event → Type 0) (Old New : ℕ → Type 0) → slice_get b p ≡ Some e →
    ((t : ℕ) → slice_get b t ≡ Some e → t ≡ p) →
    ((t : ℕ) → Old t ↔ ((d : Event) × In d done × (slice_get b t ≡ Some d) × P d)) → ((t : ℕ) → New t ↔ (Old t ⊎ (P e × (t ≡ p)))) →
    (t : ℕ) → New t ↔ ((d : Event) × In d (done ++ e ∷ []) × (slice_get b t ≡ Some d) × P d)
put-one done b e p P Old New at one was now t = (
  λ new. elim ((now t).0 new) [
    | inl old ↦ let h = (was t).0 old in (h.0, in-left h.0 done (e ∷ []) h.1, h.2, h.3)
    | inr (here, is) ↦ (e, in-right e done (e ∷ []) (inl refl), ap (λ (n : ℕ). slice_get b n) is ∙ at, here)
  ],
  λ h. elim (in-parts h.0 done (e ∷ []) h.1) [
    | inl i ↦ (now t).1 (inl ((was t).1 (h.0, i, h.2, h.3)))
    | inr (inl is) ↦ (now t).1 (inr (subst P is h.3, one t (h.2 ∙ ap (λ (x : Event). Some x) is)))
    | inr (inr i) ↦ absurd i
  ],
)

-- one more event is in b, and what used its variables stands before it there
pub follows-more : (done b : List Event) (u v : Uses) (e : Event) (p : ℕ) → ActsOnce b → Follows done b u → slice_get b p ≡ Some e →
    AllBefore u e p (length b) → UsesPut u e p v → Follows (done ++ e ∷ []) b v
follows-more done b u v e p once follows at all put = record {
  inside = λ d i. elim (in-parts d done (e ∷ []) i) [
    | inl j ↦ follows.inside d j
    | inr (inl is) ↦ subst (λ (x : Event). In x b) (sym is) (got-in b p e at)
    | inr (inr j) ↦ absurd j
  ];
  one_order = λ d f i on. elim (earlier-last done e d f i) [
    | inl j ↦ follows.one_order d f j on
    | inr (j, is) ↦
        subst (λ (x : Event). Earlier b d x) (sym is)
        (used-before done b u e d p follows at all j (subst (λ (x : Event). OnOneVariable d x) is on))
  ];
  writers = λ x.
      put-one done b e p (λ (d : Event). d.written ≡ Some x) (λ t. last.Uses u.writers x t) (λ t. last.Uses v.writers x t) at
      (λ t there. one-place b t p e e once there at refl) (follows.writers x) (put.writers x);
  users = λ x.
      put-one done b e p (λ (d : Event). Touches d x) (λ t. last.Uses u.users x t) (λ t. last.Uses v.users x t) at
      (λ t there. one-place b t p e e once there at refl) (follows.users x) (put.users x);
}

-- in a list that is alike, what used a variable of e stands before it
earlier-place : (a b : List Event) (i : ℕ) (e d : Event) (p t : ℕ) → ActsOnce b → Alike a b → slice_get a i ≡ Some e → slice_get b p ≡ Some e →
    In d (take i a) → slice_get b t ≡ Some d → OnOneVariable d e → t < p
earlier-place a b i e d p t once alike here at j there on =
    let found = at-before b d e (alike.one_order d e (taken-before a i e d here j) on) in
    let first : found.0 ≡ t = one-place b found.0 t d d once found.2 there refl in
    let second : found.1 ≡ p = one-place b found.1 p e e once found.3 at refl in
    let less : found.0 < found.1 = found.4 in
    omega arith

pub all-before : (a b : List Event) (u : Uses) (i : ℕ) (e : Event) (p : ℕ) → ActsOnce b → Follows (take i a) b u → Alike a b →
    slice_get a i ≡ Some e → slice_get b p ≡ Some e → AllBefore u e p (length b)
all-before a b u i e p once follows alike here at = record {
  read = λ x t read used less.
      let w = (follows.writers x t).0 used in
      earlier-place a b i e w.0 p t once alike here at w.1 w.2 (inl (x, w.3, inl read));
  written = λ x t written used less.
      let w = (follows.users x t).0 used in
      earlier-place a b i e w.0 p t once alike here at w.1 w.2 (inr (x, written, w.3));
}

-- what stands in one of two lists that are alike stands in the other
pub alike-inside : (a b : List Event) (i : ℕ) (e : Event) → Alike a b → slice_get a i ≡ Some e → In e b
alike-inside a b i e alike here = in-rearranged a b e alike.same_events (got-in a i e here)

-- all events have been compared
pub alike-of : (a b : List Event) (u : Uses) → ActsOnce a → length a ≡ length b → Follows a b u → Alike a b
alike-of a b u once long follows = record {
  same_events = rearranged-of a b (distinct-of a once) long follows.inside;
  one_order = follows.one_order;
}

-- ---- tables of uses
-- where there is a use from the place p on, the first is one
pub some-from : (uses : UseTable) (x p n : ℕ) (o : Option ℕ) → MatchOption o ((t : ℕ) → last.Uses uses x t → p ≤ t → t < n → ⊥) (last.FirstUse uses x p n) →
    is_some o ≡ true → (t : ℕ) × last.FirstUse uses x p n t
some-from uses x p n None first some = absurd (true≢false (sym some))
some-from uses x p n (Some t) first some = (t, first)

-- where there is none, all are before it
pub none-past : (uses : UseTable) (x p n : ℕ) (o : Option ℕ) → MatchOption o ((t : ℕ) → last.Uses uses x t → p ≤ t → t < n → ⊥) (last.FirstUse uses x p n) →
    is_some o ≡ false → (t : ℕ) → last.Uses uses x t → t < n → t < p
none-past uses x p n None first none t used less = elim (less-or t p) [
  | inl before ↦ before
  | inr (inl is) ↦ absurd (first t used (omega arith) less)
  | inr (inr after) ↦ absurd (first t used (omega arith) less)
]
none-past uses x p n (Some t) first none u used less = absurd (true≢false none)

-- one more variable, whose uses are all before the place
pub all-past : (uses : UseTable) (xs : List ℕ) (y p n : ℕ) → ((x t : ℕ) → In x xs → last.Uses uses x t → t < n → t < p) →
    ((t : ℕ) → last.Uses uses y t → t < n → t < p) → (x t : ℕ) → In x (xs ++ y ∷ []) → last.Uses uses x t → t < n → t < p
all-past uses xs y p n before now x t i used less = elim (in-parts x xs (y ∷ []) i) [
  | inl j ↦ before x t j used less
  | inr (inl is) ↦ now t (subst (λ (z : ℕ). last.Uses uses z t) is used) less
  | inr (inr j) ↦ absurd j
]

-- one more variable is put
pub put-more : (old middle new : UseTable) (xs : List ℕ) (y p : ℕ) → ((x t : ℕ) → last.Uses middle x t ↔ (last.Uses old x t ⊎ (In x xs × (t ≡ p)))) →
    ((x t : ℕ) → last.Uses new x t ↔ (last.Uses middle x t ⊎ ((x ≡ y) × (t ≡ p)))) →
    (x t : ℕ) → last.Uses new x t ↔ (last.Uses old x t ⊎ (In x (xs ++ y ∷ []) × (t ≡ p)))
put-more old middle new xs y p before now x t = (
  λ used. elim ((now x t).0 used) [
    | inl u ↦ elim ((before x t).0 u) [ inl v ↦ inl v | inr v ↦ inr (in-left x xs (y ∷ []) v.0, v.1) ]
    | inr u ↦ inr (in-right x xs (y ∷ []) (inl u.0), u.1)
  ],
  λ h. elim h [
    | inl u ↦ (now x t).1 (inl ((before x t).1 (inl u)))
    | inr (i, is) ↦ elim (in-parts x xs (y ∷ []) i) [
      | inl j ↦ (now x t).1 (inl ((before x t).1 (inr (j, is))))
      | inr (inl here) ↦ (now x t).1 (inr (here, is))
      | inr (inr j) ↦ absurd j
    ]
  ],
)
