-- Each step keeps the rule.
use Rattle.std.proofs.Common.{◌≡◌, ◌≢◌, ◌⊎◌, inl, inr, ℕ, ◌+◌, ◌%◌, ◌^◌, ◌≤◌, ◌<◌, List, [], ◌∷◌, ◌++◌, length, set, refl, ap, sym, ◌∙◌, subst, ⊎_elim, arith, append-nil, length-append}
use Rattle.std.specs.Prelude.{slice_index, slice_set}
use mathlib.Core.Option.{Option, some, none, some-ne-none}
use mathlib.Core.List.{IsPrefix}
use mathlib.Core.Logic.{dite}
use native.Mathlib.Decide.{ℕ_discrete}
use lib.ListN.{get_elem?}
use Rattle.atomic_table.proofs.Lists.{at_set, set_again, set_here, set_else, at_longer}
use Rattle.atomic_table.specs.Table.{State, keeps, step, Allows, Splits, Joins, opening as at_opening}
use Rattle.recorded_calls.specs.declared.entry.Entry.{Entry}
use Rattle.recorded_calls.specs.declared.view.View.{View}
use Rattle.recorded_calls.specs.declared.view.View.TheVariants.{Nobody, Keeper, Speaker, Letter, Claim}
use Rattle.recorded_calls.specs.declared.view.Keeping.{Keeping}
use Rattle.recorded_calls.specs.declared.view.Passing.{Passing}
use Rattle.recorded_calls.specs.declared.view.Claimed.{Claimed}
use Rattle.recorded_calls.specs.History.{calls_by, IsLegal}
use Rattle.recorded_calls.specs.Kept.{Account, SpeakerFits, Fits, Kept}
use Rattle.recorded_calls.specs.Steps.{no_claim, keeper_at, pass_at, one_more, new_pass_of, letter_of, with_letter, claim_of, with_claim, Announces, Records, Confirms, Adopts, Looks, Takes}
use Rattle.recorded_calls.proofs.public.Beginnings.{prefix_same, prefix_trans, prefix_more, prefix_length, prefix_both, calls_prefix, calls_here, calls_else, changed, changed_here, changed_else, next_said}
use Rattle.recorded_calls.proofs.public.Seating.{at_below, set_length, at_one, all_set, all_more}

module _ {O C R : Type 0} where
  abbrev IsKeeper : View O C R → Type 0
  IsKeeper (Keeper k) = Unit {0}
  IsKeeper v = ⊥

  -- where a seat was the keeper's, it stays it
  abbrev StaysKeeper : View O C R → View O C R → Type 0
  StaysKeeper v w = (k : Keeping O C R) → v ≡ Keeper k → (k' : Keeping O C R) × (w ≡ Keeper k')

  no_keeper : (v w : View O C R) → (IsKeeper v → ⊥) → StaysKeeper v w
  no_keeper v w not k e = absurd (not (subst IsKeeper (sym e) tt))

  keeper_after : (views : List (View O C R)) (keeper id : ℕ) (v w : View O C R) → ((k : Keeping O C R) × (get_elem? views keeper ≡ some (Keeper k))) → get_elem? views id ≡ some v → StaysKeeper v w
      → (k : Keeping O C R) × (get_elem? (set views id w) keeper ≡ some (Keeper k))
  keeper_after views keeper id v w is at stays =
      dite (ℕ_discrete id keeper)
      (λ e.
      let same : v ≡ Keeper is.0 = at_one views id v (Keeper is.0) at (subst (λ (i : ℕ). get_elem? views i ≡ some (Keeper is.0)) (sym e) is.1) in
      let after = stays is.0 same in
      (after.0, subst (λ (i : ℕ). get_elem? (set views id w) i ≡ some (Keeper after.0)) e (set_here views id w (at_below views id v at) ∙ ap some after.1)))
      (λ ne. (is.0, set_else views id keeper w (λ q. ne (sym q)) ∙ is.1))

module _ {O C R : Type 0} (performs : O → ℕ → C → R → O → Type 0) (opening : O) where
  after_set : (s : State ℕ (View O C R)) (kept : Kept performs opening s) (id : ℕ) (v w : View O C R) → get_elem? s.views id ≡ some v
      → (a : Account C R) (words : List ℕ) (homes : List (Option ℕ)) → words ≡ length a.log ∷ [] → IsLegal performs opening a.log → a.keeper ≡ kept.account.keeper → StaysKeeper v w
      → ((n : ℕ) → a.made ≤ n → (a.said n ≡ []) × (calls_by n a.log ≡ []))
      → ((j : ℕ) (u : View O C R) → j ≢ id → Fits opening kept.account j u → Fits opening a j u) → Fits opening a id w
      → Kept performs opening (record { words = words; homes = homes; views = set s.views id w })
  after_set s kept id v w at a words homes word legal same stays nothing others mine =
      record {
        account = a;
        word = word;
        legal = legal;
        keeper_is = subst (λ (i : ℕ). (k : Keeping O C R) × (get_elem? (set s.views id w) i ≡ some (Keeper k))) (sym same) (keeper_after s.views kept.account.keeper id v w kept.keeper_is at stays);
        no_others = nothing;
        each = all_set (Fits opening a) s.views id w (λ j u ne e. others j u ne (kept.each j u e)) mine;
      }

  after_more : (s : State ℕ (View O C R)) (kept : Kept performs opening s) (w : View O C R) → Fits opening kept.account (length s.views) w
      → Kept performs opening (record { words = s.words; homes = s.homes; views = s.views ++ w ∷ [] })
  after_more s kept w mine =
      record {
        account = kept.account;
        word = kept.word;
        legal = kept.legal;
        keeper_is = (kept.keeper_is.0, at_longer s.views (w ∷ []) kept.account.keeper (Keeper kept.keeper_is.0) kept.keeper_is.1);
        no_others = kept.no_others;
        each = all_more (Fits opening kept.account) s.views w kept.each mine;
      }

  -- the seat keeps its view, and one more comes
  split_same : (s : State ℕ (View O C R)) (kept : Kept performs opening s) (id : ℕ) (v w : View O C R) → get_elem? s.views id ≡ some v → Fits opening kept.account (length s.views) w
      → Kept performs opening (record { words = s.words; homes = s.homes; views = set s.views id v ++ w ∷ [] })
  split_same s kept id v w at mine =
      subst (λ (l : List (View O C R)). Kept performs opening (record { words = s.words; homes = s.homes; views = l ++ w ∷ [] })) (sym (set_again s.views id v at)) (after_more s kept w mine)

  -- the seat's view changes, and nothing else
  set_same : (s : State ℕ (View O C R)) (kept : Kept performs opening s) (id : ℕ) (v w : View O C R) → get_elem? s.views id ≡ some v → (words : List ℕ) (homes : List (Option ℕ)) → words ≡ s.words
      → StaysKeeper v w → Fits opening kept.account id w → Kept performs opening (record { words = words; homes = homes; views = set s.views id w })
  set_same s kept id v w at words homes same stays mine =
      after_set s kept id v w at kept.account words homes (same ∙ kept.word) kept.legal refl stays kept.no_others (λ j u ne f. f) mine

  -- two seats' views change, the second to nobody's
  join_same : (s : State ℕ (View O C R)) (kept : Kept performs opening s) (id : ℕ) (v w : View O C R) (other : ℕ) (u : View O C R) → get_elem? s.views id ≡ some v
      → ¬ (other ≡ id) → get_elem? (set s.views id w) other ≡ some u → StaysKeeper v w → (IsKeeper u → ⊥) → Fits opening kept.account id w
      → Kept performs opening (record { words = s.words; homes = s.homes; views = set (set s.views id w) other Nobody })
  join_same s kept id v w other u at apart there stays not mine =
      let middle : State ℕ (View O C R) = record { words = s.words; homes = s.homes; views = set s.views id w } in
      set_same middle (set_same s kept id v w at s.words s.homes refl stays mine) other u Nobody there s.words s.homes refl (no_keeper u Nobody not) tt

  -- the seat that came second has what it had
  came : (s : State ℕ (View O C R)) (kept : Kept performs opening s) (id other : ℕ) (w u : View O C R) → ¬ (other ≡ id) → get_elem? (set s.views id w) other ≡ some u → Fits opening kept.account other u
  came s kept id other w u apart there =
      ⊎_elim (λ (x : (other ≡ id) × (w ≡ u)). absurd (apart x.0)) (λ (x : (other ≢ id) × (get_elem? s.views other ≡ some u)). kept.each other u x.1) (at_set s.views id other w u there)

  -- a load leaves the word
  loaded : (s : State ℕ (View O C R)) → Kept performs opening s → slice_set s.words 0 (slice_index s.words 0) ≡ s.words
  loaded s kept = ap (λ (ws : List ℕ). slice_set ws 0 (slice_index ws 0)) kept.word ∙ sym kept.word

  pub begins : Kept performs opening (at_opening (0 ∷ []) [] (keeper_at opening 0 []))
  begins =
      record {
        account = record { log = []; keeper = 0; made = 0; seat = λ n. 0; said = λ n. [] };
        word = refl;
        legal = (opening, refl);
        keeper_is = (record { opening = opening; made = 0; noted = []; claim = no_claim }, refl);
        no_others = λ n le. (refl, refl);
        each = all_more (Fits opening (record { log = []; keeper = 0; made = 0; seat = λ n. 0; said = λ n. [] })) [] (keeper_at opening 0 []) (λ j u e. absurd (some-ne-none u (sym e)))
            (record { opened = refl; one = refl; count = refl; notes = refl; claim_holds = record { seen_before = ([], refl); said_before = ([], refl) } });
      }

  letter_fits : (a : Account C R) (id j : ℕ) (v : View O C R) → Fits opening a id v → Fits opening a j (letter_of v)
  letter_fits a id j Nobody f = tt
  letter_fits a id j (Keeper k) f = prefix_same k.noted a.log f.notes
  letter_fits a id j (Speaker p) f = f.saw
  letter_fits a id j (Letter told) f = tt
  letter_fits a id j (Claim c) f = tt

  pub tells : (id : ℕ) (v : View O C R) → Splits (Kept performs opening) id v v (letter_of v)
  tells id v s kept at = split_same s kept id v (letter_of v) at (letter_fits kept.account id (length s.views) v (kept.each id v at))

  claim_fits : (a : Account C R) (id j : ℕ) (v : View O C R) → Fits opening a id v → Fits opening a j (claim_of v)
  claim_fits a id j Nobody f = tt
  claim_fits a id j (Keeper k) f = tt
  claim_fits a id j (Speaker p) f = record { seen_before = f.saw; said_before = prefix_same (p.own ++ p.announced) (a.said p.number) (sym f.all_said) }
  claim_fits a id j (Letter told) f = tt
  claim_fits a id j (Claim c) f = tt

  pub claims : (id : ℕ) (v : View O C R) → Splits (Kept performs opening) id v v (claim_of v)
  claims id v s kept at = split_same s kept id v (claim_of v) at (claim_fits kept.account id (length s.views) v (kept.each id v at))

  pub reads_letter : (id : ℕ) (p : Passing O C R) (other : ℕ) (told : List (Entry C R)) → Joins (Kept performs opening) id (Speaker p) other (Letter told) (with_letter p (Letter told)) Nobody
  reads_letter id p other told s kept at apart there =
      let w = with_letter p (Letter told) in
      let f = kept.each id (Speaker p) at in
      join_same s kept id (Speaker p) w other (Letter told) at apart there (no_keeper (Speaker p) w (λ x. x)) (λ x. x)
      (record {
        opened = f.opened;
        one = f.one;
        counted = f.counted;
        all_said = f.all_said;
        at_most_one = f.at_most_one;
        saw = f.saw;
        was_told = came s kept id other w (Letter told) apart there;
        stands = f.stands;
      })

  pub hears_claim : (id : ℕ) (k : Keeping O C R) (other : ℕ) (c : Claimed C R) → Joins (Kept performs opening) id (Keeper k) other (Claim c) (with_claim k (Claim c)) Nobody
  hears_claim id k other c s kept at apart there =
      let w = with_claim k (Claim c) in
      let f = kept.each id (Keeper k) at in
      join_same s kept id (Keeper k) w other (Claim c) at apart there (λ k' e. (record { opening = k.opening; made = k.made; noted = k.noted; claim = c }, refl)) (λ x. x)
      (record { opened = f.opened; one = f.one; count = f.count; notes = f.notes; claim_holds = came s kept id other w (Claim c) apart there })

  -- one more pass
  abbrev more_passes : (a : Account C R) (place : ℕ) → Account C R
  more_passes a place = record { log = a.log; keeper = a.keeper; made = a.made + 1; seat = changed a.seat a.made place; said = a.said }

  more_fits : (a : Account C R) (place id j : ℕ) (u : View O C R) → id ≡ a.keeper → j ≢ id → Fits opening a j u → Fits opening (more_passes a place) j u
  more_fits a place id j Nobody is ne f = tt
  more_fits a place id j (Keeper k) is ne f = absurd (ne (f.one ∙ sym is))
  more_fits a place id j (Speaker p) is ne f =
      record {
        opened = f.opened;
        one = f.one ∙ sym (changed_else a.seat a.made place p.number (λ e. let c = f.counted in omega arith));
        counted = let c = f.counted in omega arith;
        all_said = f.all_said;
        at_most_one = f.at_most_one;
        saw = f.saw;
        was_told = f.was_told;
        stands = f.stands;
      }
  more_fits a place id j (Letter told) is ne f = f
  more_fits a place id j (Claim c) is ne f = record { seen_before = f.seen_before; said_before = f.said_before }

  pub makes : (id : ℕ) (k : Keeping O C R) → Splits (Kept performs opening) id (Keeper k) (one_more (Keeper k)) (new_pass_of (Keeper k))
  unfolding after_set
  makes id k s kept at =
      let a = kept.account in
      let f = kept.each id (Keeper k) at in
      let a' = more_passes a (length s.views) in
      let w = one_more (Keeper k) in
      let nothing = kept.no_others k.made (let c = f.count in omega arith) in
      let middle : State ℕ (View O C R) = record { words = s.words; homes = s.homes; views = set s.views id w } in
      let kept' = after_set s kept id (Keeper k) w at a' s.words s.homes kept.word kept.legal refl
      (λ k' e. (record { opening = k.opening; made = k.made + 1; noted = k.noted; claim = k.claim }, refl))
      (λ n le. kept.no_others n (omega arith))
      (λ j u ne g. more_fits a (length s.views) id j u f.one ne g)
      (record { opened = f.opened; one = f.one; count = ap (λ (n : ℕ). n + 1) f.count; notes = f.notes; claim_holds = record { seen_before = f.claim_holds.seen_before; said_before = f.claim_holds.said_before } }) in
      after_more middle kept' (new_pass_of (Keeper k))
      (record {
        opened = f.opened;
        one = set_length s.views id w ∙ sym (changed_here a.seat a.made (length s.views) k.made f.count);
        counted = let c = f.count in omega arith;
        all_said = nothing.0;
        at_most_one = omega arith;
        saw = (a.log, refl);
        was_told = (a.log, refl);
        stands = inl nothing.1;
      })

  -- announce
  abbrev more_said : (a : Account C R) (n : ℕ) (all : List (Entry C R)) → Account C R
  more_said a n all = record { log = a.log; keeper = a.keeper; made = a.made; seat = a.seat; said = changed a.said n all }

  said_grows : (a : Account C R) (n : ℕ) (all : List (Entry C R)) → IsPrefix (a.said n) all → (m : ℕ) (xs : List (Entry C R)) → IsPrefix xs (a.said m) → IsPrefix xs (changed a.said n all m)
  said_grows a n all longer m xs p =
      dite (ℕ_discrete m n)
      (λ e. subst (λ (l : List (Entry C R)). IsPrefix xs l) (sym (changed_here a.said n all m e)) (prefix_trans xs (a.said n) all (subst (λ (i : ℕ). IsPrefix xs (a.said i)) e p) longer))
      (λ ne. subst (λ (l : List (Entry C R)). IsPrefix xs l) (sym (changed_else a.said n all m ne)) p)

  said_fits : (a : Account C R) (n : ℕ) (all : List (Entry C R)) → IsPrefix (a.said n) all → (id j : ℕ) (u : View O C R) → id ≡ a.seat n → j ≢ id → Fits opening a j u → Fits opening (more_said a n all) j u
  said_fits a n all longer id j Nobody is ne f = tt
  said_fits a n all longer id j (Keeper k) is ne f =
      record {
        opened = f.opened;
        one = f.one;
        count = f.count;
        notes = f.notes;
        claim_holds = record { seen_before = f.claim_holds.seen_before; said_before = said_grows a n all longer k.claim.number (k.claim.own ++ k.claim.says) f.claim_holds.said_before };
      }
  said_fits a n all longer id j (Speaker p) is ne f =
      record {
        opened = f.opened;
        one = f.one;
        counted = f.counted;
        all_said = changed_else a.said n all p.number (λ e. ne (f.one ∙ ap a.seat e ∙ sym is)) ∙ f.all_said;
        at_most_one = f.at_most_one;
        saw = f.saw;
        was_told = f.was_told;
        stands = f.stands;
      }
  said_fits a n all longer id j (Letter told) is ne f = f
  said_fits a n all longer id j (Claim c) is ne f = record { seen_before = f.seen_before; said_before = said_grows a n all longer c.number (c.own ++ c.says) f.said_before }

  -- the view of a pass that has announced these
  abbrev pub saying : O → ℕ → List (Entry C R) → List (Entry C R) → List (Entry C R) → List (Entry C R) → View O C R
  saying o n seen own said told = Speaker (record { opening = o; number = n; seen = seen; own = own; announced = said; told = told })

  pub announces : (slots id : ℕ) (o : O) (n : ℕ) (seen own told entries : List (Entry C R)) → length entries ≤ 1
      → Allows (Kept performs opening) slots id (saying o n seen own [] told, []) 0 (λ x. x) (Announces entries (step slots 0 0 0 none) (saying o n seen own [] told, []))
  announces slots id o n seen own told entries few s kept len at bound =
      let a = kept.account in
      let v = saying o n seen own [] told in
      let w = saying o n seen own entries told in
      let f = kept.each id v at in
      let is : calls_by n a.log ≡ own = ⊎_elim (λ c. c) (λ c. c ∙ append-nil own) f.stands in
      let all = own ++ entries in
      let was : a.said n ≡ own = f.all_said ∙ append-nil own in
      let longer : IsPrefix (a.said n) all = subst (λ (l : List (Entry C R)). IsPrefix l all) (sym was) (entries, refl) in (
        w,
        keeps,
        tt,
        after_set s kept id v w at (more_said a n all) (slice_set s.words 0 (slice_index s.words 0)) s.homes (loaded s kept ∙ kept.word) kept.legal refl (no_keeper v w (λ x. x))
            (λ m le. (changed_else a.said n all m (λ e. let c = f.counted in omega arith) ∙ (kept.no_others m le).0, (kept.no_others m le).1))
            (λ j u ne g. said_fits a n all longer id j u f.one ne g)
            (record {
              opened = f.opened;
              one = f.one;
              counted = f.counted;
              all_said = changed_here a.said n all n refl;
              at_most_one = few;
              saw = f.saw;
              was_told = f.was_told;
              stands = inl is;
            }),
        (refl, subst (λ (l : List (Entry C R)). IsPrefix (calls_by n told) l) is (calls_prefix n told a.log f.was_told)),
      )

  -- record
  abbrev longer_log : (a : Account C R) (says : List (Entry C R)) → Account C R
  longer_log a says = record { log = a.log ++ says; keeper = a.keeper; made = a.made; seat = a.seat; said = a.said }

  module _ (a : Account C R) (own : List (Entry C R)) (e : Entry C R) (said_before : IsPrefix (own ++ e ∷ []) (a.said e.pass)) (told_all : IsPrefix (calls_by e.pass a.log) own) where
    speaker_recorded : (j : ℕ) (p : Passing O C R) → SpeakerFits opening a j p → Dec (p.number ≡ e.pass)
        → (calls_by p.number (a.log ++ e ∷ []) ≡ p.own) ⊎ (calls_by p.number (a.log ++ e ∷ []) ≡ p.own ++ p.announced)
    speaker_recorded j p f (yes is) =
        let pre : IsPrefix (own ++ e ∷ []) (p.own ++ p.announced) = subst (λ (l : List (Entry C R)). IsPrefix (own ++ e ∷ []) l) (ap a.said (sym is) ∙ f.all_said) said_before in
        let told : IsPrefix (calls_by p.number a.log) own = subst (λ (n : ℕ). IsPrefix (calls_by n a.log) own) (sym is) told_all in
        let r = next_said own (e ∷ []) p.own p.announced (calls_by p.number a.log) e refl pre f.at_most_one f.stands told in
        inr (calls_here p.number a.log e is ∙ ap (λ (l : List (Entry C R)). l ++ e ∷ []) r.0 ∙ sym r.2)
    speaker_recorded j p f (no ne) = ⊎_elim (λ c. inl (calls_else p.number a.log e ne ∙ c)) (λ c. inr (calls_else p.number a.log e ne ∙ c)) f.stands

    recorded_fits : (id j : ℕ) (u : View O C R) → id ≡ a.keeper → j ≢ id → Fits opening a j u → Fits opening (longer_log a (e ∷ [])) j u
    recorded_fits id j Nobody is ne f = tt
    recorded_fits id j (Keeper k) is ne f = absurd (ne (f.one ∙ sym is))
    recorded_fits id j (Speaker p) is ne f =
        record {
          opened = f.opened;
          one = f.one;
          counted = f.counted;
          all_said = f.all_said;
          at_most_one = f.at_most_one;
          saw = prefix_more p.seen a.log (e ∷ []) f.saw;
          was_told = prefix_more p.told a.log (e ∷ []) f.was_told;
          stands = speaker_recorded j p f (ℕ_discrete p.number e.pass);
        }
    recorded_fits id j (Letter told) is ne f = prefix_more told a.log (e ∷ []) f
    recorded_fits id j (Claim c) is ne f = record { seen_before = prefix_more c.seen a.log (e ∷ []) f.seen_before; said_before = f.said_before }

    others_none : ((n : ℕ) → a.made ≤ n → (a.said n ≡ []) × (calls_by n a.log ≡ [])) → (n : ℕ) → a.made ≤ n → (a.said n ≡ []) × (calls_by n (a.log ++ e ∷ []) ≡ [])
    others_none nothing n le =
        let ne : n ≢ e.pass = λ is. let long = prefix_length (own ++ e ∷ []) (a.said e.pass) said_before in let l = length-append own (e ∷ []) in let z : length (a.said e.pass) ≡ 0 = ap length (ap a.said (sym is) ∙ (nothing n le).0) in omega arith in
        ((nothing n le).0, calls_else n a.log e ne ∙ (nothing n le).1)

  -- the view of the keeper's seat with a claim
  abbrev pub hearing : O → ℕ → List (Entry C R) → ℕ → List (Entry C R) → List (Entry C R) → List (Entry C R) → View O C R
  hearing o made noted n seen own says = Keeper (record { opening = o; made = made; noted = noted; claim = record { number = n; seen = seen; own = own; says = says } })

  pub records : (slots id : ℕ) (o : O) (made : ℕ) (noted seen own : List (Entry C R)) (e : Entry C R) → IsLegal performs opening (noted ++ e ∷ []) → IsPrefix (calls_by e.pass noted) own → length noted < 2 ^ 63
      → Allows (Kept performs opening) slots id (hearing o made noted e.pass seen own (e ∷ []), []) 0 (λ x. (x + 1) % 2 ^ 64) (Records (step slots 0 1 0 none) (hearing o made noted e.pass seen own (e ∷ []), []))
  records slots id o made noted seen own e legal told room s kept len at bound =
      let a = kept.account in
      let v = hearing o made noted e.pass seen own (e ∷ []) in
      let w = keeper_at o made (noted ++ e ∷ []) in
      let f = kept.each id v at in
      let told' : IsPrefix (calls_by e.pass a.log) own = subst (λ (l : List (Entry C R)). IsPrefix (calls_by e.pass l) own) f.notes told in
      let same : length noted ≡ length a.log = ap length f.notes in
      let counts : (length a.log + 1) % 2 ^ 64 ≡ length (a.log ++ e ∷ []) = omega (arith, length-append a.log (e ∷ [])) in (
        w,
        keeps,
        tt,
        after_set s kept id v w at (longer_log a (e ∷ [])) (slice_set s.words 0 ((slice_index s.words 0 + 1) % 2 ^ 64)) s.homes
            (ap (λ (ws : List ℕ). slice_set ws 0 ((slice_index ws 0 + 1) % 2 ^ 64)) kept.word ∙ ap (λ (n : ℕ). n ∷ []) counts)
            (subst (λ (l : List (Entry C R)). IsLegal performs opening (l ++ e ∷ [])) f.notes legal)
            refl
            (λ k' q. (record { opening = o; made = made; noted = noted ++ e ∷ []; claim = no_claim }, refl))
            (others_none a own e f.claim_holds.said_before told' kept.no_others)
            (λ j u ne g. recorded_fits a own e f.claim_holds.said_before told' id j u f.one ne g)
            (record {
              opened = f.opened;
              one = f.one;
              count = f.count;
              notes = ap (λ (l : List (Entry C R)). l ++ e ∷ []) f.notes;
              claim_holds = record { seen_before = (a.log ++ e ∷ [], refl); said_before = (a.said 0, refl) };
            }),
        (
          refl,
          subst (λ (l : List (Entry C R)). IsPrefix seen l) (sym f.notes) f.claim_holds.seen_before,
          λ n le.
              let nobody = others_none a own e f.claim_holds.said_before told' kept.no_others n (subst (λ (m : ℕ). m ≤ n) f.count le) in
              subst (λ (l : List (Entry C R)). calls_by n (l ++ e ∷ []) ≡ []) (sym f.notes) nobody.1,
        ),
      )

  -- confirm
  pub confirms : (slots id : ℕ) (o : O) (made : ℕ) (noted : List (Entry C R)) (n : ℕ) (seen own says : List (Entry C R))
      → Allows (Kept performs opening) slots id (hearing o made noted n seen own says, []) 0 (λ x. x) (Confirms (step slots 0 0 0 none) (hearing o made noted n seen own says, []))
  confirms slots id o made noted n seen own says s kept len at bound =
      let a = kept.account in
      let v = hearing o made noted n seen own says in
      let w = keeper_at o made noted in
      let f = kept.each id v at in (
        w,
        keeps,
        tt,
        set_same s kept id v w at (slice_set s.words 0 (slice_index s.words 0)) s.homes (loaded s kept)
            (λ k' q. (record { opening = o; made = made; noted = noted; claim = no_claim }, refl))
            (record {
              opened = f.opened;
              one = f.one;
              count = f.count;
              notes = f.notes;
              claim_holds = record { seen_before = (a.log, refl); said_before = (a.said 0, refl) };
            }),
        (refl, subst (λ (l : List (Entry C R)). IsPrefix seen l) (sym f.notes) f.claim_holds.seen_before),
      )

  -- adopt
  pub adopts : (slots id : ℕ) (o : O) (n : ℕ) (seen own said told : List (Entry C R)) → calls_by n told ≡ own ++ said
      → Allows (Kept performs opening) slots id (saying o n seen own said told, []) 0 (λ x. x) (Adopts (step slots 0 0 0 none) (saying o n seen own said told, []))
  adopts slots id o n seen own said told is s kept len at bound =
      let a = kept.account in
      let v = saying o n seen own said told in
      let w = pass_at o n told (own ++ said) [] in
      let f = kept.each id v at in
      let less : IsPrefix (own ++ said) (calls_by n a.log) = subst (λ (l : List (Entry C R)). IsPrefix l (calls_by n a.log)) is (calls_prefix n told a.log f.was_told) in
      let more : IsPrefix (calls_by n a.log) (own ++ said) = ⊎_elim (λ c. subst (λ (l : List (Entry C R)). IsPrefix l (own ++ said)) (sym c) (said, refl)) (λ c. prefix_same (calls_by n a.log) (own ++ said) c) f.stands in (
        w,
        keeps,
        tt,
        set_same s kept id v w at (slice_set s.words 0 (slice_index s.words 0)) s.homes (loaded s kept) (no_keeper v w (λ x. x))
            (record {
              opened = f.opened;
              one = f.one;
              counted = f.counted;
              all_said = f.all_said ∙ sym (append-nil (own ++ said));
              at_most_one = omega arith;
              saw = f.was_told;
              was_told = (a.log, refl);
              stands = inl (prefix_both (calls_by n a.log) (own ++ said) more less);
            }),
        refl,
      )

  -- look
  pub looks : (slots id : ℕ) (o : O) (n : ℕ) (seen own told : List (Entry C R))
      → Allows (Kept performs opening) slots id (saying o n seen own [] told, []) 0 (λ x. x) (Looks performs (step slots 0 0 0 none) (saying o n seen own [] told, []))
  looks slots id o n seen own told s kept len at bound =
      let a = kept.account in
      let v = saying o n seen own [] told in
      let w = pass_at o n a.log own [] in
      let f = kept.each id v at in
      let is : calls_by n a.log ≡ own = ⊎_elim (λ c. c) (λ c. c ∙ append-nil own) f.stands in (
        w,
        keeps,
        tt,
        set_same s kept id v w at (slice_set s.words 0 (slice_index s.words 0)) s.homes (loaded s kept) (no_keeper v w (λ x. x))
            (record {
              opened = f.opened;
              one = f.one;
              counted = f.counted;
              all_said = f.all_said;
              at_most_one = f.at_most_one;
              saw = prefix_same a.log a.log refl;
              was_told = (a.log, refl);
              stands = inl is;
            }),
        (a.log, refl, sym (ap (λ (ws : List ℕ). slice_index ws 0) kept.word), subst (λ (x : O). IsLegal performs x a.log) (sym f.opened) kept.legal, f.saw, f.was_told, is),
      )

  -- take
  pub takes : (slots id : ℕ) (o : O) (n : ℕ) (seen own told : List (Entry C R))
      → Allows (Kept performs opening) slots id (saying o n seen own [] told, []) 0 (λ x. x) (Takes (step slots 0 0 0 none) (saying o n seen own [] told, []))
  takes slots id o n seen own told s kept len at bound =
      let a = kept.account in
      let v = saying o n seen own [] told in
      let w = pass_at o n told (own ++ []) [] in
      let f = kept.each id v at in
      let is : calls_by n a.log ≡ own = ⊎_elim (λ c. c) (λ c. c ∙ append-nil own) f.stands in (
        w,
        keeps,
        tt,
        set_same s kept id v w at (slice_set s.words 0 (slice_index s.words 0)) s.homes (loaded s kept) (no_keeper v w (λ x. x))
            (record {
              opened = f.opened;
              one = f.one;
              counted = f.counted;
              all_said = f.all_said ∙ sym (append-nil (own ++ []));
              at_most_one = f.at_most_one;
              saw = f.was_told;
              was_told = (a.log, refl);
              stands = inl (is ∙ sym (append-nil own));
            }),
        (refl, subst (λ (l : List (Entry C R)). IsPrefix (calls_by n told) l) is (calls_prefix n told a.log f.was_told)),
      )
