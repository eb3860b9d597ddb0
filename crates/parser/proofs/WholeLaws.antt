-- From the laws of a first rule: what is read is what the grammar has, and reading stops at the first fault.
use Rattle.std.proofs.Common.{◌≡◌, ◌⊎◌, inl, inr, ℕ, zero, suc, ◌+◌, ◌-◌, ◌≤◌, Bool, true, false, List, [], ◌∷◌, ◌++◌, length, refl, sym, ◌∙◌, ap, subst, append_assoc, arith}
use Rattle.std.specs.Prelude.{if◌then◌else◌}
use Rattle.std.proofs.lemmas.Bool.{cases_Bool, cases_lt}
use Rattle.std.proofs.lemmas.List.{append-nil}
use Rattle.lexer.specs.declared.token.Kind.{Kind}
use Rattle.lexer.specs.declared.token.Kind.TheVariants.{End}
use Rattle.lexer.specs.declared.token.Token.{Token}
use Rattle.parser.specs.Input.{Input, input, next, is_one_of, same_kind}
use Rattle.parser.specs.Rules.{Rule}
use Rattle.parser.specs.internal.Readers.{Reader, Outcome, read, unexpected, too_deep, and_then, whole}
use Rattle.parser.specs.Sentences.{Spells, GoesOn, GoesOnWith, StopsAt, StopsForGood, StopsForLevels}
use Rattle.parser.proofs.Laws.{up, Completed, Taken, at_unexpected, at_too_deep, Halted, Deeper, Traced, Alike, Full}
use Rattle.parser.proofs.Membership.{same}
use Rattle.parser.proofs.BindLaws.{alike_second, begun_or}
use Rattle.parser.proofs.ChoiceLaws.{alike_if}

-- what `whole` does behind the reader
abbrev at_end : {A : Type 0} → A → Reader A
at_end a j = if same_kind (next j.tokens) End then read a j else unexpected j.tokens

whole_is : {A : Type 0} (r : Reader A) (i : Input) → whole r i ≡ and_then (r i) at_end
unfolding whole
whole_is r i = refl

end_is_end : (tokens : List Token) → next tokens ≡ End → same_kind (next tokens) End ≡ true
unfolding same_kind
end_is_end tokens e = rw e refl

-- ---- what reading comes to, in terms of what the reader comes to

pub data Came {A : Type 0} (o : Outcome A) : Outcome A → Type 0 where
  came_whole : (a : A) (j : Input) → o ≡ read a j → next j.tokens ≡ End → Came o (read a j)
  came_short : (a : A) (j : Input) → o ≡ read a j → same_kind (next j.tokens) End ≡ false → Came o (unexpected j.tokens)
  came_unexpected : (rest : List Token) → o ≡ unexpected rest → Came o (unexpected rest)
  came_too_deep : (rest : List Token) → o ≡ too_deep rest → Came o (too_deep rest)

came : {A : Type 0} (o : Outcome A) → Came o (and_then o at_end)
came (read a j) = elim (cases_Bool (same_kind (next j.tokens) End)) [
  | inl ends ↦ subst (λ b. Came (read a j) (if b then read a j else unexpected j.tokens)) (sym ends) (came_whole a j refl (same (next j.tokens) End ends))
  | inr other ↦ subst (λ b. Came (read a j) (if b then read a j else unexpected j.tokens)) (sym other) (came_short a j refl other)
]
came (unexpected rest) = came_unexpected rest refl
came (too_deep rest) = came_too_deep rest refl

abbrev rest_of : {A : Type 0} → Outcome A → List Token
rest_of (read a j) = j.tokens
rest_of (unexpected rest) = rest
rest_of (too_deep rest) = rest

came_read : {A : Type 0} (o p : Outcome A) (a : A) (j : Input) → Came o p → p ≡ read a j → (o ≡ read a j) × (next j.tokens ≡ End)
came_read o p a j (came_whole b k e ends) q = (e ∙ q, ap (λ o. next (rest_of o)) (sym q) ∙ ends)
came_read o p a j (came_short b k e other) q = absurd (cc)
came_read o p a j (came_unexpected rest e) q = absurd (cc)
came_read o p a j (came_too_deep rest e) q = absurd (cc)

-- the reader stopped, or what it read doesn't end there
came_stopped :
    {A : Type 0} (o p : Outcome A) (rest : List Token) → Came o p → p ≡ unexpected rest →
    (o ≡ unexpected rest) ⊎ ((a : A) × (j : Input) × (o ≡ read a j) × (j.tokens ≡ rest) × (same_kind (next j.tokens) End ≡ false))
came_stopped o p rest (came_whole b k e ends) q = absurd (cc)
came_stopped o p rest (came_short b k e other) q = inr (b, k, e, ap rest_of q, other)
came_stopped o p rest (came_unexpected before e) q = inl (e ∙ q)
came_stopped o p rest (came_too_deep before e) q = absurd (cc)

came_deep : {A : Type 0} (o p : Outcome A) (rest : List Token) → Came o p → p ≡ too_deep rest → o ≡ too_deep rest
came_deep o p rest (came_whole b k e ends) q = absurd (cc)
came_deep o p rest (came_short b k e other) q = absurd (cc)
came_deep o p rest (came_unexpected before e) q = absurd (cc)
came_deep o p rest (came_too_deep before e) q = e ∙ q

end_read : {A : Type 0} (a : A) (j : Input) → next j.tokens ≡ End → at_end a j ≡ read a j
end_read a j e = rw (end_is_end j.tokens e) refl

end_other : {A : Type 0} (a : A) (j : Input) → same_kind (next j.tokens) End ≡ false → at_end a j ≡ unexpected j.tokens
end_other a j e = rw e refl

-- ---- numbers of levels

abbrev beyond : ℕ → ℕ → ℕ
beyond zero n = n
beyond (suc k) n = suc (beyond k n)

beyond_is : (k n : ℕ) → beyond k n ≡ k + n
beyond_is zero n = omega arith
beyond_is (suc k) n = let before : beyond k n ≡ k + n = beyond_is k n in omega arith

beyond_to : (n m : ℕ) → n ≤ m → beyond (m - n) n ≡ m
beyond_to n m e = let sum : beyond (m - n) n ≡ (m - n) + n = beyond_is (m - n) n in omega arith

-- ---- fronts of one list

split : (front other rest beyond : List Token) → front ++ rest ≡ other ++ beyond → length front ≤ length other → (more : List Token) × (other ≡ front ++ more) × (rest ≡ more ++ beyond)
split [] other rest beyond e shorter = (other, refl, e)
split (a ∷ front) [] rest beyond e shorter = absurd (omega arith)
split (a ∷ front) (b ∷ other) rest beyond e shorter =
    let tails : front ++ rest ≡ other ++ beyond = cc in
    let first : a ≡ b = cc in
    let parts = split front other rest beyond tails (omega arith) in
    let step : other ≡ front ++ parts.0 = parts.1 in
    (parts.0, cc, parts.2)

module _ {A : Type 0} (rule : ℕ → Rule A) where
  with_other : (m : ℕ) (front rest : List Token) → GoesOnWith rule m front rest → (other : List Token) × (next other ≡ next rest) × (a : A) × Spells rule m (front ++ other) a
  with_other m front [] s = ([], refl, s.0, subst (λ t. Spells rule m t s.0) (sym (append-nil front)) s.1)
  with_other m front (token ∷ rest) g = (token ∷ g.tail, refl, g.whole, subst (λ t. Spells rule m t g.whole) (append_assoc front (token ∷ []) g.tail) g.spells)

  goes_with : (m : ℕ) (front more : List Token) (token : Token) (a : A) → Spells rule m (front ++ (token ∷ more)) a → GoesOn rule m (front ++ token ∷ [])
  goes_with m front more token a s = record { tail = more; whole = a; spells = subst (λ t. Spells rule m t a) (sym (append_assoc front (token ∷ []) more)) s }

  never_whole : (n : ℕ) (tokens front rest : List Token) (a : A) → tokens ≡ front ++ rest → Spells rule n tokens a → GoesOnWith rule n front rest
  never_whole n tokens front [] a e s = (a, subst (λ t. Spells rule n t a) (e ∙ append-nil front) s)
  never_whole n tokens front (token ∷ rest) a e s = goes_with n front rest token a (subst (λ t. Spells rule n t a) e s)

  module _ (n : ℕ) (tokens front rest front2 rest2 : List Token) (stops : StopsAt rule n tokens front rest) (stops2 : StopsAt rule n tokens front2 rest2) where
    same_stop : (more : List Token) → front2 ≡ front ++ more → rest ≡ more ++ rest2 → (front ≡ front2) × (rest ≡ rest2)
    same_stop [] e f = (sym (append-nil front) ∙ sym e, f)
    same_stop (token ∷ more) e f =
        let longer = stops2.goes_on in
        let spelled : Spells rule n (front ++ (token ∷ (more ++ longer.tail))) longer.whole =
        subst (λ t. Spells rule n t longer.whole) (ap (λ t. t ++ longer.tail) e ∙ append_assoc front (token ∷ more) longer.tail) longer.spells in
        let on : GoesOn rule n (front ++ token ∷ []) = goes_with n front (more ++ longer.tail) token longer.whole spelled in
        absurd (stops.no_further (subst (λ t. GoesOnWith rule n front t) (sym f) on))

    stop_before : length front ≤ length front2 → (front ≡ front2) × (rest ≡ rest2)
    stop_before shorter = let parts = split front front2 rest rest2 (sym stops.whole ∙ stops2.whole) shorter in same_stop parts.0 parts.1 parts.2

  one_stop :
      (n : ℕ) (tokens front rest front2 rest2 : List Token) → StopsAt rule n tokens front rest → StopsAt rule n tokens front2 rest2 → (front ≡ front2) × (rest ≡ rest2)
  one_stop n tokens front rest front2 rest2 stops stops2 = elim (cases_lt (length front) (length front2)) [
    | inl less ↦ stop_before n tokens front rest front2 rest2 stops stops2 (omega arith)
    | inr other ↦ (let e = stop_before n tokens front2 rest2 front rest stops2 stops (omega arith) in (sym e.0, sym e.1))
  ]

-- ---- the theorem

module _ {A : Type 0} (rule : ℕ → Rule A) (reader : ℕ → Reader A) {start follow : List Kind} {empty : Bool}
    (laws : (n : ℕ) → Full (reader n) (reader (suc n)) (rule n) (rule (suc n)) start empty follow) (ends : is_one_of follow End ≡ false) where
  abbrev reading : ℕ → List Token → Outcome A
  reading n tokens = whole (reader n) (input n tokens)

  traced : (n : ℕ) (tokens : List Token) (o : Outcome A) → reader n (input n tokens) ≡ o → Traced (reader n) (rule n) (rule (suc n)) (input n tokens) o
  traced n tokens o e = subst (λ o. Traced (reader n) (rule n) (rule (suc n)) (input n tokens) o) e ((laws n).laws.trace.trace (input n tokens))

  came_so : (n : ℕ) (tokens : List Token) → Came (reader n (input n tokens)) (reading n tokens)
  unfolding whole
  came_so n tokens = came (reader n (input n tokens))

  goes_so : (n : ℕ) (tokens : List Token) (o : Outcome A) → reader n (input n tokens) ≡ o → reading n tokens ≡ and_then o at_end
  unfolding whole
  goes_so n tokens o e = ap (λ o. and_then o at_end) e

  -- what is read is a sentence
  pub read_sentence : (n : ℕ) (tokens : List Token) (a : A) (j : Input) → reading n tokens ≡ read a j → Spells rule n tokens a
  read_sentence n tokens a j e =
      let parts = came_read (reader n (input n tokens)) (reading n tokens) a j (came_so n tokens) e in
      let t : Taken (reader n) (rule n) (input n tokens) a j = traced n tokens (read a j) parts.0 in
      record {
        rest = j.tokens;
        at_end = parts.1;
        unclosed = j.levels;
        spelled = subst (λ t. rule n (input n t) a (input j.levels j.tokens)) (sym t.is_front) (t.spelled j.tokens);
      }

  -- a sentence is read
  pub sentence_read : (n : ℕ) (tokens : List Token) (a : A) (s : Spells rule n tokens a) → reading n tokens ≡ read a (input s.unclosed s.rest)
  sentence_read n tokens a s =
      goes_so n tokens (read a (input s.unclosed s.rest)) ((laws n).laws.complete.complete (input n tokens) a (input s.unclosed s.rest) s.spelled (ap (is_one_of follow) s.at_end ∙ ends))
      ∙ end_read a (input s.unclosed s.rest) s.at_end

  one_more : (n : ℕ) (tokens : List Token) → Alike (reading n tokens) (reading (suc n) tokens)
  unfolding whole
  one_more n tokens =
      alike_second at_end at_end (reader n (input n tokens)) (reader (suc n) (input (suc n) tokens)) ((laws n).laws.grows.reads (input n tokens))
      (λ a j e. alike_if (same_kind (next j.tokens) End) (read a j) (unexpected j.tokens) (read a (up j)) (unexpected j.tokens) refl refl)

  read_beyond : (k n : ℕ) (tokens : List Token) (a : A) (j : Input) → reading n tokens ≡ read a j → (l : Input) × (reading (beyond k n) tokens ≡ read a l)
  read_beyond zero n tokens a j e = (j, e)
  read_beyond (suc k) n tokens a j e =
      let before = read_beyond k n tokens a j e in
      (up before.0, subst (λ o. Alike o (reading (suc (beyond k n)) tokens)) before.1 (one_more (beyond k n) tokens))

  unexpected_beyond : (k n : ℕ) (tokens rest : List Token) → reading n tokens ≡ unexpected rest → reading (beyond k n) tokens ≡ unexpected rest
  unexpected_beyond zero n tokens rest e = e
  unexpected_beyond (suc k) n tokens rest e = subst (λ o. Alike o (reading (suc (beyond k n)) tokens)) (unexpected_beyond k n tokens rest e) (one_more (beyond k n) tokens)

  -- what is unexpected at one number of levels is no sentence at any other
  never_both : (n m : ℕ) (tokens rest : List Token) (a : A) → reading n tokens ≡ unexpected rest → Spells rule m tokens a → ⊥
  never_both n m tokens rest a e s = elim (cases_lt n m) [
    | inl less ↦
        (let there : reading m tokens ≡ unexpected rest = subst (λ k. reading k tokens ≡ unexpected rest) (beyond_to n m (omega arith)) (unexpected_beyond (m - n) n tokens rest e) in
        let no : read a (input s.unclosed s.rest) ≡ unexpected rest = sym (sentence_read m tokens a s) ∙ there in cc)
    | inr other ↦
        (let found = read_beyond (n - m) m tokens a (input s.unclosed s.rest) (sentence_read m tokens a s) in
        let there : reading n tokens ≡ read a found.0 = subst (λ k. reading k tokens ≡ read a found.0) (beyond_to m n (omega arith)) found.1 in
        let no : read a found.0 ≡ unexpected rest = sym there ∙ e in cc)
  ]

  completed_on : (n : ℕ) (front : List Token) → Completed (rule n) n front → GoesOn rule n front
  completed_on n front c = record { tail = c.tail ++ []; whole = c.value; spells = record { rest = []; at_end = refl; unclosed = c.unclosed; spelled = c.spelled [] } }

  unexpected_from : (n : ℕ) (tokens rest front : List Token) → tokens ≡ front ++ rest → GoesOn rule n front → ((other : List Token) → next other ≡ next rest → reading n (front ++ other) ≡ unexpected other) → StopsForGood rule n tokens front rest
  unexpected_from n tokens rest front e on local = record {
    stops = record { whole = e; goes_on = on; no_further = never n };
    for_good = never;
  }
    where
      never : (m : ℕ) → GoesOnWith rule m front rest → ⊥
      never m g = let found = with_other rule m front rest g in never_both n m (front ++ found.0) found.0 found.2 (local found.0 found.1) found.3

  -- where reading meets what is unexpected
  pub stops_for_good : (n : ℕ) (tokens rest : List Token) → reading n tokens ≡ unexpected rest → (front : List Token) × StopsForGood rule n tokens front rest
  stops_for_good n tokens rest e = elim (came_stopped (reader n (input n tokens)) (reading n tokens) rest (came_so n tokens) e) [
    | inl stopped ↦
        (let t : Halted (reader n) (rule n) (input n tokens) at_unexpected rest = traced n tokens (unexpected rest) stopped in (
          t.front,
          unexpected_from n tokens rest t.front t.is_front (completed_on n t.front (begun_or (rule n) n t.front t.begun (laws n).here))
              (λ other same. goes_so n (t.front ++ other) (unexpected other) (t.local other same)),
        ))
    | inr short ↦
        (let t : Taken (reader n) (rule n) (input n tokens) short.0 short.1 = traced n tokens (read short.0 short.1) short.2 in (
          t.front,
          unexpected_from n tokens rest t.front (t.is_front ∙ ap (λ r. t.front ++ r) short.3)
              (record { tail = []; whole = short.0; spells = record { rest = []; at_end = refl; unclosed = (short.1).levels; spelled = t.spelled [] } })
              (λ other same. goes_so n (t.front ++ other) (read short.0 (input (short.1).levels other)) (t.local other (same ∙ ap next (sym short.3)))
              ∙ end_other short.0 (input (short.1).levels other) (ap (λ k. same_kind k End) (same ∙ ap next (sym short.3)) ∙ short.4)),
        ))
  ]

  -- where reading meets what is too deep
  pub stops_for_levels : (n : ℕ) (tokens rest : List Token) → reading n tokens ≡ too_deep rest → (front : List Token) × StopsForLevels rule n tokens front rest
  stops_for_levels n tokens rest e =
      let deep : Deeper (reader n) (rule n) (rule (suc n)) (input n tokens) rest =
      traced n tokens (too_deep rest) (came_deep (reader n (input n tokens)) (reading n tokens) rest (came_so n tokens) e) in
      let t : Halted (reader n) (rule n) (input n tokens) at_too_deep rest = deep.halt in (
        t.front,
        record {
          stops = record {
            whole = t.is_front;
            goes_on = completed_on n t.front (begun_or (rule n) n t.front t.begun (laws n).here);
            no_further = λ g.
                let found = with_other rule n t.front rest g in
                let no : read found.2 (input (found.3).unclosed (found.3).rest) ≡ too_deep found.0 =
                sym (sentence_read n (t.front ++ found.0) found.2 found.3) ∙ goes_so n (t.front ++ found.0) (too_deep found.0) (t.local found.0 found.1) in
                cc;
          };
          with_one_more = subst (λ r. GoesOnWith rule (suc n) t.front r) (sym deep.is_rest) (completed_on (suc n) (t.front ++ deep.token ∷ []) deep.completed);
        },
      )

  -- The other way round: a stop for good is met as what is unexpected.
  pub good_stop_read : (n : ℕ) (tokens front rest : List Token) → StopsForGood rule n tokens front rest → reading n tokens ≡ unexpected rest
  good_stop_read n tokens front rest s = go (reading n tokens) refl
    where
      go : (o : Outcome A) → reading n tokens ≡ o → reading n tokens ≡ unexpected rest
      go (read a j) e = absurd (s.stops.no_further (never_whole rule n tokens front rest a s.stops.whole (read_sentence n tokens a j e)))
      go (unexpected before) e =
          let found = stops_for_good n tokens before e in
          e ∙ ap (λ r. unexpected r) (one_stop rule n tokens found.0 before front rest (found.1).stops s.stops).1
      go (too_deep before) e =
          let found = stops_for_levels n tokens before e in
          let same = one_stop rule n tokens found.0 before front rest (found.1).stops s.stops in
          absurd (s.for_good (suc n) (subst (λ r. GoesOnWith rule (suc n) front r) same.1 (subst (λ f. GoesOnWith rule (suc n) f before) same.0 (found.1).with_one_more)))

  pub deep_stop_read : (n : ℕ) (tokens front rest : List Token) → StopsForLevels rule n tokens front rest → reading n tokens ≡ too_deep rest
  deep_stop_read n tokens front rest s = go (reading n tokens) refl
    where
      go : (o : Outcome A) → reading n tokens ≡ o → reading n tokens ≡ too_deep rest
      go (read a j) e = absurd (s.stops.no_further (never_whole rule n tokens front rest a s.stops.whole (read_sentence n tokens a j e)))
      go (unexpected before) e =
          let found = stops_for_good n tokens before e in
          let same = one_stop rule n tokens front rest found.0 before s.stops (found.1).stops in
          absurd ((found.1).for_good (suc n) (subst (λ r. GoesOnWith rule (suc n) found.0 r) same.1 (subst (λ f. GoesOnWith rule (suc n) f rest) same.0 s.with_one_more)))
      go (too_deep before) e =
          let found = stops_for_levels n tokens before e in
          e ∙ ap (λ r. too_deep r) (one_stop rule n tokens found.0 before front rest (found.1).stops s.stops).1
