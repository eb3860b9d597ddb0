-- What is read of a nested comment up to a position decides about what stands behind it.
use Rattle.std.proofs.Common.{◌≡◌, ◌≢◌, ℕ, zero, suc, ◌+◌, ◌-◌, ◌≤◌, ◌<◌, true, false, [], ◌∷◌, ◌++◌, length, take, drop, get_or, inl, inr, refl, ap, ◌∙◌, arith}
use Rattle.std.proofs.lemmas.Bool.{false≢true, both_ways, and_left, and_right, and_parts, cases_Bool, cases_lt}
use Rattle.std.specs.Prelude.{slice_index}
use Rattle.std.proofs.lemmas.List.{drop-drop, drop_all, get_or-drop, length-drop}
use Rattle.syntax.specs.Texts.{Text}
use Rattle.lexer.specs.Comment.{is_opening, is_closing, closes, is_nested_comment}
use Rattle.lexer.proofs.MarkLemmas.{mark_fits, other_mark, short_of_mark}

-- With `before` open comments no front of fewer than `k` bytes closes them, and after these `k` bytes
-- `after` are open.
record Steps (k before after : ℕ) (text : Text) : Type 0 where
  pub short : (n : ℕ) → n < k → closes before (take n text) ≡ false
  pub further : (n : ℕ) → closes before (take (k + n) text) ≡ closes after (take n (drop k text))

one_more : (n : ℕ) → 1 + n ≡ suc n
one_more n = omega arith

three_more : (n : ℕ) → 3 + n ≡ suc (suc (suc n))
three_more n = omega arith

-- a front of fewer than three bytes closes nothing
short_front : (depth : ℕ) (text : Text) (n : ℕ) → n < 3 → closes (suc depth) (take n text) ≡ false
short_front depth [] zero h = refl
short_front depth [] (suc n) h = refl
short_front depth (a ∷ text) zero h = refl
short_front depth (a ∷ []) (suc zero) h = refl
short_front depth (a ∷ []) (suc (suc n)) h = refl
short_front depth (a ∷ b ∷ text) (suc zero) h = refl
short_front depth (a ∷ b ∷ text) (suc (suc zero)) h = refl
short_front depth (a ∷ b ∷ text) (suc (suc (suc n))) h = absurd (omega arith)

-- `(--` opens one more comment
opening_steps : (depth : ℕ) (text : Text) → is_opening text ≡ true → Steps 3 (suc depth) (suc (suc depth)) text
opening_steps depth [] e = absurd (false≢true e)
opening_steps depth (a ∷ []) e = absurd (omega (arith, mark_fits (40 ∷ 45 ∷ 45 ∷ []) (a ∷ []) e))
opening_steps depth (a ∷ b ∷ []) e = absurd (omega (arith, mark_fits (40 ∷ 45 ∷ 45 ∷ []) (a ∷ b ∷ []) e))
opening_steps depth (a ∷ b ∷ c ∷ rest) e = record {
  short = short_front depth (a ∷ b ∷ c ∷ rest);
  further = λ n. rw (three_more n, e) refl;
}

-- `--)` closes one
closing_steps : (depth : ℕ) (text : Text) → is_opening text ≡ false → is_closing text ≡ true → Steps 3 (suc depth) depth text
closing_steps depth [] still e = absurd (false≢true e)
closing_steps depth (a ∷ []) still e = absurd (omega (arith, mark_fits (45 ∷ 45 ∷ 41 ∷ []) (a ∷ []) e))
closing_steps depth (a ∷ b ∷ []) still e = absurd (omega (arith, mark_fits (45 ∷ 45 ∷ 41 ∷ []) (a ∷ b ∷ []) e))
closing_steps depth (a ∷ b ∷ c ∷ rest) still e = record {
  short = short_front depth (a ∷ b ∷ c ∷ rest);
  further = λ n. rw (three_more n, still, e) refl;
}

-- another byte changes nothing
byte_further : (depth b : ℕ) (text : Text) → is_opening (b ∷ text) ≡ false → is_closing (b ∷ text) ≡ false → (n : ℕ) → closes (suc depth) (b ∷ take n text) ≡ closes (suc depth) (take n text)
byte_further depth b [] still e zero = refl
byte_further depth b [] still e (suc n) = refl
byte_further depth b (c ∷ text) still e zero = refl
byte_further depth b (c ∷ []) still e (suc zero) = refl
byte_further depth b (c ∷ []) still e (suc (suc n)) = refl
byte_further depth b (c ∷ d ∷ text) still e (suc zero) = refl
byte_further depth b (c ∷ d ∷ text) still e (suc (suc n)) = rw (still, e) refl

byte_steps : (depth : ℕ) (text : Text) → 1 ≤ length text → is_opening text ≡ false → is_closing text ≡ false → Steps 1 (suc depth) (suc depth) text
byte_steps depth [] some still e = absurd (omega arith)
byte_steps depth (b ∷ text) some still e = record {
  short = λ n h. let none : n ≡ 0 = omega arith in rw none refl;
  further = λ n. rw (one_more n) (byte_further depth b text still e n);
}

-- the same at a depth that is no successor in its text
opening_from : (depth : ℕ) (text : Text) → 1 ≤ depth → is_opening text ≡ true → Steps 3 depth (depth + 1) text
opening_from zero text h e = absurd (omega arith)
opening_from (suc depth) text h e = let more : suc depth + 1 ≡ suc (suc depth) = omega arith in rw more (opening_steps depth text e)

closing_from : (depth : ℕ) (text : Text) → 1 ≤ depth → is_opening text ≡ false → is_closing text ≡ true → Steps 3 depth (depth - 1) text
closing_from zero text h still e = absurd (omega arith)
closing_from (suc depth) text h still e = let less : suc depth - 1 ≡ depth = omega arith in rw less (closing_steps depth text still e)

byte_from : (depth : ℕ) (text : Text) → 1 ≤ depth → 1 ≤ length text → is_opening text ≡ false → is_closing text ≡ false → Steps 1 depth depth text
byte_from zero text h some still e = absurd (omega arith)
byte_from (suc depth) text h some still e = byte_steps depth text some still e

-- So many bytes of a nested comment are read: no front of fewer bytes is whole, and a front is whole where
-- what it has behind these bytes closes the comments that are open.
pub record IsInside (text : Text) (read depth : ℕ) : Type 0 where
  pub within : read ≤ length text
  pub shallow : depth ≤ read
  pub short : (n : ℕ) → n < read → is_nested_comment (take n text) ≡ false
  pub further : (n : ℕ) → is_nested_comment (take (read + n) text) ≡ closes depth (take n (drop read text))

-- behind its `(--` a comment is open
pub opened : (text : Text) → is_opening text ≡ true → IsInside text 3 1
opened [] e = absurd (false≢true e)
opened (a ∷ []) e = absurd (omega (arith, mark_fits (40 ∷ 45 ∷ 45 ∷ []) (a ∷ []) e))
opened (a ∷ b ∷ []) e = absurd (omega (arith, mark_fits (40 ∷ 45 ∷ 45 ∷ []) (a ∷ b ∷ []) e))
opened (a ∷ b ∷ c ∷ rest) e = record {
  within = omega arith;
  shallow = omega arith;
  short = λ n h. and_left _ _ (short_of_mark (40 ∷ 45 ∷ 45 ∷ []) (a ∷ b ∷ c ∷ rest) n h);
  further = λ n. rw (three_more n, e) refl;
}

-- reading goes on by a step
proceed : (text : Text) (read depth k after : ℕ) → IsInside text read depth → Steps k depth after (drop read text) → read + k ≤ length text → after ≤ read + k → IsInside text (read + k) after
proceed text read depth k after inside steps within shallow = record {
  within = within;
  shallow = shallow;
  short = λ n h. elim (cases_lt n read) [
    | inl before ↦ inside.short n before
    | inr behind ↦
        let e : n ≡ read + (n - read) = omega arith in
        rw e (inside.further (n - read) ∙ steps.short (n - read) (omega arith))
  ];
  further = λ n.
      let e : read + k + n ≡ read + (k + n) = omega arith in
      rw (e, ← drop-drop k read text) (inside.further (k + n) ∙ steps.further n);
}

-- reading goes on by `(--`
pub after_opening : (text : Text) (at depth : ℕ) → IsInside text at depth → 1 ≤ depth → is_opening (drop at text) ≡ true → IsInside text (at + 3) (depth + 1)
after_opening text at depth inside some opens =
    let fits = mark_fits (40 ∷ 45 ∷ 45 ∷ []) (drop at text) opens in
    let shallow = inside.shallow in
    proceed text at depth 3 (depth + 1) inside (opening_from depth (drop at text) some opens) (omega (arith, fits, length-drop at text)) (omega (arith, shallow))

-- reading goes on by `--)`
pub after_closing : (text : Text) (at depth : ℕ) → IsInside text at depth → 1 ≤ depth → is_opening (drop at text) ≡ false → is_closing (drop at text) ≡ true → IsInside text (at + 3) (depth - 1)
after_closing text at depth inside some still shuts =
    let fits = mark_fits (45 ∷ 45 ∷ 41 ∷ []) (drop at text) shuts in
    let shallow = inside.shallow in
    proceed text at depth 3 (depth - 1) inside (closing_from depth (drop at text) some still shuts) (omega (arith, fits, length-drop at text)) (omega (arith, shallow))

-- reading goes on by another byte
pub after_byte : (text : Text) (at depth : ℕ) → IsInside text at depth → 1 ≤ depth → at < length text → is_opening (drop at text) ≡ false → is_closing (drop at text) ≡ false → IsInside text (at + 1) depth
after_byte text at depth inside some more still other =
    let shallow = inside.shallow in
    let left : 1 ≤ length (drop at text) = omega (arith, length-drop at text) in
    proceed text at depth 1 depth inside (byte_from depth (drop at text) some left still other) (omega arith) (omega (arith, shallow))

-- the same of a byte with which no mark begins
pub after_other : (text : Text) (at depth : ℕ) → IsInside text at depth → 1 ≤ depth → at < length text → get_or text at 0 ≢ 40 → get_or text at 0 ≢ 45 → IsInside text (at + 1) depth
after_other text at depth inside some more opens closes =
    let same : at + 0 ≡ at = omega arith in
    let first : slice_index (drop at text) 0 ≡ get_or text at 0 = get_or-drop at text 0 0 ∙ ap (λ n. get_or text n 0) same in
    let still = other_mark 40 (45 ∷ 45 ∷ []) (drop at text) (rw first opens) in
    let other = other_mark 45 (45 ∷ 41 ∷ []) (drop at text) (rw first closes) in
    after_byte text at depth inside some more still other

-- where none is open, the comment is whole
pub whole : (text : Text) (read : ℕ) → IsInside text read 0 → is_nested_comment (take read text) ≡ true
whole text read inside = let e : read + 0 ≡ read = omega arith in rw e at (inside.further 0)

-- nothing closes nothing
closes_nil : (depth n : ℕ) → closes (suc depth) (take n []) ≡ false
closes_nil depth zero = refl
closes_nil depth (suc n) = refl

-- where the text ends with some open, no front is whole
pub never_closed : (text : Text) (read depth : ℕ) → IsInside text read depth → 1 ≤ depth → length text ≤ read → (n : ℕ) → is_nested_comment (take n text) ≢ true
never_closed text read zero inside some end n is_whole = absurd (omega arith)
never_closed text read (suc depth) inside some end n is_whole = elim (cases_lt n read) [
  | inl before ↦ both_ways _ (inside.short n before) is_whole
  | inr behind ↦
      let e : read + (n - read) ≡ n = omega arith in
      let rest = closes_nil depth (n - read) in
      let open_still : is_nested_comment (take n text) ≡ false = rw (← e) (inside.further (n - read) ∙ rw (drop_all read text end) rest) in
      both_ways _ open_still is_whole
]

-- what closes all that is open does not with more behind it
pub closes_once : (depth : ℕ) (text : Text) (m : ℕ) (more : Text) → closes depth text ≡ true → closes depth (text ++ m ∷ more) ≡ false
closes_once zero [] m more e = refl
closes_once zero (b ∷ text) m more e = absurd (false≢true e)
closes_once (suc depth) [] m more e = absurd (false≢true e)
closes_once (suc depth) (a ∷ []) m more e = absurd (false≢true e)
closes_once (suc depth) (a ∷ b ∷ []) m more e = absurd (false≢true e)
closes_once (suc depth) (a ∷ b ∷ c ∷ text) m more e =
    elim (cases_Bool (is_opening (a ∷ b ∷ c ∷ text))) [
      | inl opens ↦ rw opens (closes_once (suc (suc depth)) text m more (rw opens at e))
      | inr still ↦ elim (cases_Bool (is_closing (a ∷ b ∷ c ∷ text))) [
        | inl shuts ↦ rw (still, shuts) (closes_once depth text m more (rw (still, shuts) at e))
        | inr other ↦ rw (still, other) (closes_once (suc depth) (b ∷ c ∷ text) m more (rw (still, other) at e))
      ]
    ]

-- a whole comment with more behind it is none
pub whole_once : (text : Text) (m : ℕ) (more : Text) → is_nested_comment text ≡ true → is_nested_comment (text ++ m ∷ more) ≡ false
whole_once [] m more e = absurd (false≢true e)
whole_once (a ∷ []) m more e = absurd (omega (arith, mark_fits (40 ∷ 45 ∷ 45 ∷ []) (a ∷ []) (and_parts _ _ e).0))
whole_once (a ∷ b ∷ []) m more e = absurd (omega (arith, mark_fits (40 ∷ 45 ∷ 45 ∷ []) (a ∷ b ∷ []) (and_parts _ _ e).0))
whole_once (a ∷ b ∷ c ∷ rest) m more e = and_right _ _ (closes_once 1 rest m more (and_parts _ _ e).1)
