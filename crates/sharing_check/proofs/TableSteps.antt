-- One step along the entries of a table.
use Rattle.std.proofs.Common.{◌≡◌, ℕ, ◌+◌, ◌<◌, length, drop, ◌∷◌, cond, nat_eq, Bool, true, false, Option, None, Some, unwrap_or, slice_get, refl, sym, ap, ◌∙◌, subst, [], List}
use Rattle.std.proofs.lemmas.List.{at_drop_more}
use Rattle.std.proofs.lemmas.Option.{slice_get_within, get_or_from_slice_get, slice_get-get_or}
use Rattle.std.specs.Map.{lookup, set_value}
use Rattle.indexmap.specs.IndexMap.{insert_entry}
use Rattle.system.specs.declared.system.Variable.{Variable}
use Rattle.sharing_check.specs.declared.touched.Touched.{Touched}
use Rattle.sharing_check.specs.internal.Crossing.{Table, together, nowhere, touched_at, with_touched, noted_all, clash, with_clash, least_with}

-- what is put in the place of an entry's value is inserted
set_inserts : (x : ℕ) (v w : Touched) (t : Table) → lookup (nat_eq x) t ≡ Some v → set_value (nat_eq x) t w ≡ insert_entry nat_eq t x w
set_inserts x v w [] found = absurd (cc)
set_inserts x v w (e ∷ t) found = go (λ here. set_inserts x v w t here) (nat_eq x e.0) refl
  where
    go : (lookup (nat_eq x) t ≡ Some v → set_value (nat_eq x) t w ≡ insert_entry nat_eq t x w) → (b : Bool) → nat_eq x e.0 ≡ b
        → set_value (nat_eq x) (e ∷ t) w ≡ insert_entry nat_eq (e ∷ t) x w
    go rest true same = rw same refl
    go rest false apart = rw apart (ap (λ es. e ∷ es) (rest (rw apart at found)))

-- where a variable was touched before, more is noted in its place
pub added_in_place : (old new : Table) (x : ℕ) (s before both : Touched) (found : Option Touched)
    → new ≡ set_value (nat_eq x) old both → both ≡ together before s → found ≡ lookup (nat_eq x) old → found ≡ Some before → new ≡ with_touched old x s
added_in_place old new x s before both found e is at some =
    e
    ∙ (set_inserts x before both old (sym at ∙ some)
    ∙ ap (λ v. insert_entry nat_eq old x v) (is ∙ ap (λ o. together (unwrap_or o nowhere) s) (sym some ∙ at)))

-- what is left of a table begins with the entry at the place
drop_entry : (es : Table) (i : ℕ) (e : ℕ × Touched) → slice_get es i ≡ Some e → drop i es ≡ e ∷ drop (i + 1) es
drop_entry es i e h =
    at_drop_more (λ xs. xs) es i e (slice_get_within es i e h)
    ∙ ap (λ d. d ∷ drop (i + 1) es) (get_or_from_slice_get es i e e h)

pub noted_step : (es old new : Table) (i x : ℕ) (s : Touched) → slice_get es i ≡ Some (x, s) → new ≡ with_touched old x s
    → noted_all (drop (i + 1) es) new ≡ noted_all (drop i es) old
noted_step es old new i x s h is =
    ap (noted_all (drop (i + 1) es)) is ∙ ap (λ xs. noted_all xs old) (sym (drop_entry es i (x, s) h))

pub least_step : (variables : List Variable) (es old new : Table) (i x : ℕ) (s before : Touched) (offset least less : Option ℕ)
    → slice_get es i ≡ Some (x, s) → new ≡ with_touched old x s → before ≡ touched_at old x → offset ≡ clash before s
    → less ≡ with_clash variables x offset least
    → least_with variables (drop (i + 1) es) new less ≡ least_with variables (drop i es) old least
least_step variables es old new i x s before offset least less h is at clashes lesser =
    ap (λ t. least_with variables (drop (i + 1) es) t less) is
    ∙ (ap (least_with variables (drop (i + 1) es) (with_touched old x s))
    (lesser ∙ ap (λ o. with_clash variables x o least) (clashes ∙ ap (λ b. clash b s) at))
    ∙ ap (λ xs. least_with variables xs old least) (sym (drop_entry es i (x, s) h)))

-- there is an entry at each place before the end
pub no_entry : (es : Table) (i n : ℕ) (found : Option (ℕ × Touched)) → i < n → n ≡ length es → found ≡ slice_get es i → found ≡ None → ⊥
no_entry es i n found less is at none = differ (sym (slice_get-get_or es i (0, nowhere) (subst (λ m. i < m) is less)) ∙ (sym at ∙ none))
  where
    differ : {e : ℕ × Touched} → Some e ≡ None → ⊥
    differ h = cc
