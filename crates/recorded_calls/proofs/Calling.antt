-- The steps at a seat whose view is known by an equation, and what the calls add up to.
use Rattle.std.proofs.Common.{◌≡◌, ℕ, ◌+◌, ◌%◌, ◌^◌, ◌≤◌, ◌<◌, List, [], ◌∷◌, ◌++◌, length, ap, sym, ◌∙◌, subst}
use mathlib.Core.Option.{none}
use mathlib.Core.List.{IsPrefix}
use Rattle.atomic_table.specs.Table.{Me, step, Allows, Splits, Joins}
use Rattle.atomic_table.specs.Seated.{TableId}
use Rattle.recorded_calls.specs.declared.entry.Entry.{Entry}
use Rattle.recorded_calls.specs.declared.view.View.{View}
use Rattle.recorded_calls.specs.declared.view.View.TheVariants.{Nobody, Letter, Claim}
use Rattle.recorded_calls.specs.declared.view.Claimed.{Claimed}
use Rattle.recorded_calls.specs.declared.board.Pass.{Pass}
use Rattle.recorded_calls.specs.History.{calls_by, IsLegal}
use Rattle.recorded_calls.specs.Kept.{Kept}
use Rattle.recorded_calls.specs.Steps.{keeper_at, pass_at, one_more, new_pass_of, reads, hears, Announces, Records, Confirms, Adopts, Looks, Takes}
use Rattle.recorded_calls.specs.Seats.{seen_in, own_in, told_in, number_in, IsPassOf}
use Rattle.recorded_calls.proofs.public.Beginnings.{prefix_both, calls_prefix, calls_here}
use Rattle.recorded_calls.proofs.StepLaws.{saying, hearing, makes, reads_letter, hears_claim, announces, records, confirms, adopts, looks, takes}

module _ {O C R : Type 0} (performs : O → ℕ → C → R → O → Type 0) (opening : O) where
  pub makes_at : (id : ℕ) (v : View O C R) (o : O) (made : ℕ) (noted : List (Entry C R)) → v ≡ keeper_at o made noted → Splits (Kept performs opening) id v (one_more v) (new_pass_of v)
  makes_at id v o made noted is = subst (λ (u : View O C R). Splits (Kept performs opening) id u (one_more u) (new_pass_of u)) (sym is) (makes performs opening id (record { opening = o; made = made; noted = noted; claim = record { number = 0; seen = []; own = []; says = [] } }))

  pub reads_at : (id : ℕ) (v : View O C R) (o : O) (n : ℕ) (seen own said told : List (Entry C R)) (other : ℕ) (u : View O C R) (letter : List (Entry C R)) → v ≡ saying performs opening o n seen own said told → u ≡ Letter letter
      → Joins (Kept performs opening) id v other u (reads v u) Nobody
  reads_at id v o n seen own said told other u letter is from =
      subst (λ (x : View O C R). Joins (Kept performs opening) id x other u (reads x u) Nobody) (sym is)
      (subst (λ (y : View O C R). Joins (Kept performs opening) id (saying performs opening o n seen own said told) other y (reads (saying performs opening o n seen own said told) y) Nobody) (sym from)
      (reads_letter performs opening id (record { opening = o; number = n; seen = seen; own = own; announced = said; told = told }) other letter))

  pub hears_at : (id : ℕ) (v : View O C R) (o : O) (made : ℕ) (noted : List (Entry C R)) (other : ℕ) (u : View O C R) (c : Claimed C R) → v ≡ keeper_at o made noted → u ≡ Claim c
      → Joins (Kept performs opening) id v other u (hears v u) Nobody
  hears_at id v o made noted other u c is from =
      subst (λ (x : View O C R). Joins (Kept performs opening) id x other u (hears x u) Nobody) (sym is)
      (subst (λ (y : View O C R). Joins (Kept performs opening) id (keeper_at o made noted) other y (hears (keeper_at o made noted) y) Nobody) (sym from)
      (hears_claim performs opening id (record { opening = o; made = made; noted = noted; claim = record { number = 0; seen = []; own = []; says = [] } }) other c))

  pub announces_at : (slots id : ℕ) (me : Me ℕ (View O C R)) (o : O) (n : ℕ) (seen own told entries : List (Entry C R)) → length entries ≤ 1 → me ≡ (saying performs opening o n seen own [] told, [])
      → Allows (Kept performs opening) slots id me 0 (λ x. x) (Announces entries (step slots 0 0 0 none) me)
  announces_at slots id me o n seen own told entries few is =
      subst (λ (m : Me ℕ (View O C R)). Allows (Kept performs opening) slots id m 0 (λ x. x) (Announces entries (step slots 0 0 0 none) m)) (sym is) (announces performs opening slots id o n seen own told entries few)

  pub records_at : (slots id : ℕ) (me : Me ℕ (View O C R)) (o : O) (made : ℕ) (noted : List (Entry C R)) (n : ℕ) (seen own says : List (Entry C R)) (e : Entry C R) → says ≡ e ∷ [] → n ≡ e.pass
      → IsLegal performs opening (noted ++ says) → IsPrefix (calls_by n noted) own → length noted < 2 ^ 63 → me ≡ (hearing performs opening o made noted n seen own says, [])
      → Allows (Kept performs opening) slots id me 0 (λ x. (x + 1) % 2 ^ 64) (Records (step slots 0 1 0 none) me)
  records_at slots id me o made noted n seen own says e one by legal told room is =
      let legal' : IsLegal performs opening (noted ++ e ∷ []) = subst (λ (l : List (Entry C R)). IsLegal performs opening (noted ++ l)) one legal in
      let told' : IsPrefix (calls_by e.pass noted) own = subst (λ (k : ℕ). IsPrefix (calls_by k noted) own) by told in
      let is' : me ≡ (hearing performs opening o made noted e.pass seen own (e ∷ []), []) = is ∙ (λ i. (hearing performs opening o made noted (by i) seen own (one i), [])) in
      subst (λ (m : Me ℕ (View O C R)). Allows (Kept performs opening) slots id m 0 (λ x. (x + 1) % 2 ^ 64) (Records (step slots 0 1 0 none) m)) (sym is') (records performs opening slots id o made noted seen own e legal' told' room)

  pub confirms_at : (slots id : ℕ) (me : Me ℕ (View O C R)) (o : O) (made : ℕ) (noted : List (Entry C R)) (n : ℕ) (seen own says : List (Entry C R)) → me ≡ (hearing performs opening o made noted n seen own says, [])
      → Allows (Kept performs opening) slots id me 0 (λ x. x) (Confirms (step slots 0 0 0 none) me)
  confirms_at slots id me o made noted n seen own says is =
      subst (λ (m : Me ℕ (View O C R)). Allows (Kept performs opening) slots id m 0 (λ x. x) (Confirms (step slots 0 0 0 none) m)) (sym is) (confirms performs opening slots id o made noted n seen own says)

  pub adopts_at : (slots id : ℕ) (me : Me ℕ (View O C R)) (o : O) (n : ℕ) (seen own said told : List (Entry C R)) → calls_by n told ≡ own ++ said → me ≡ (saying performs opening o n seen own said told, [])
      → Allows (Kept performs opening) slots id me 0 (λ x. x) (Adopts (step slots 0 0 0 none) me)
  adopts_at slots id me o n seen own said told all is =
      subst (λ (m : Me ℕ (View O C R)). Allows (Kept performs opening) slots id m 0 (λ x. x) (Adopts (step slots 0 0 0 none) m)) (sym is) (adopts performs opening slots id o n seen own said told all)

  pub looks_at : (slots id : ℕ) (me : Me ℕ (View O C R)) (o : O) (n : ℕ) (seen own told : List (Entry C R)) → me ≡ (saying performs opening o n seen own [] told, [])
      → Allows (Kept performs opening) slots id me 0 (λ x. x) (Looks performs (step slots 0 0 0 none) me)
  looks_at slots id me o n seen own told is =
      subst (λ (m : Me ℕ (View O C R)). Allows (Kept performs opening) slots id m 0 (λ x. x) (Looks performs (step slots 0 0 0 none) m)) (sym is) (looks performs opening slots id o n seen own told)

  pub takes_at : (slots id : ℕ) (me : Me ℕ (View O C R)) (o : O) (n : ℕ) (seen own told : List (Entry C R)) → me ≡ (saying performs opening o n seen own [] told, [])
      → Allows (Kept performs opening) slots id me 0 (λ x. x) (Takes (step slots 0 0 0 none) me)
  takes_at slots id me o n seen own told is =
      subst (λ (m : Me ℕ (View O C R)). Allows (Kept performs opening) slots id m 0 (λ x. x) (Takes (step slots 0 0 0 none) m)) (sym is) (takes performs opening slots id o n seen own told)

module _ {C R : Type 0} where
  -- what has been seen and all that was told have the same calls of the pass
  pub calls_same : (n : ℕ) (seen noted own : List (Entry C R)) → calls_by n seen ≡ own → IsPrefix seen noted → IsPrefix (calls_by n noted) own → calls_by n noted ≡ own
  calls_same n seen noted own is before told =
      prefix_both (calls_by n noted) own told (subst (λ (l : List (Entry C R)). IsPrefix l (calls_by n noted)) is (calls_prefix n seen noted before))

  pub calls_recorded : (n : ℕ) (seen noted own says : List (Entry C R)) (e : Entry C R) → says ≡ e ∷ [] → n ≡ e.pass → calls_by n seen ≡ own → IsPrefix seen noted → IsPrefix (calls_by n noted) own
      → calls_by n (noted ++ says) ≡ own ++ says
  calls_recorded n seen noted own says e one by is before told =
      let all = calls_same n seen noted own is before told in
      ap (λ (l : List (Entry C R)). calls_by n (noted ++ l)) one ∙ calls_here n noted e by ∙ (λ i. all i ++ sym one i)

module _ {O C R : Type 0} where
  pub is_pass : (table : TableId) (o : O) (p : Pass O C R) (n : ℕ) (seen own told : List (Entry C R)) → p.seat.table_id ≡ table → p.seat.me ≡ (pass_at o n seen own told, []) → calls_by n seen ≡ own → IsPassOf table o p
  is_pass table o p n seen own told at is calls =
      record {
        of_table = at;
        rests = is ∙ sym (ap (λ (m : Me ℕ (View O C R)). (pass_at o (number_in m.0) (seen_in m.0) (own_in m.0) (told_in m.0), [])) is);
        own_calls = subst (λ (m : Me ℕ (View O C R)). calls_by (number_in m.0) (seen_in m.0) ≡ own_in m.0) (sym is) calls;
      }
