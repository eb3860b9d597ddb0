-- Signs under characters, texts in turn, and rows one behind the other.
use Rattle.std.proofs.Common.{◌≡◌, ◌+◌, ◌-◌, ◌<◌, ◌≤◌, ◌++◌, ◌∷◌, [], ℕ, zero, suc, Bool, true, false, List, length, take, drop, refl, sym, ◌∙◌, ap, subst, arith, append-nil, append_assoc}
use Rattle.std.specs.Prelude.{◌||◌, nat_lt, sum_by, replicate, flat_map, encode_utf8}
use Rattle.std.proofs.lemmas.List.{drop-drop, drop_all, length-drop, replicate-append-replicate, take-append-drop}
use Rattle.std.proofs.lemmas.List.Concat.{flat_map-append}
use Rattle.std.proofs.lemmas.List.Sums.{sum_by-cons}
use Rattle.marked_lines.specs.Marks.{columns, signs}
use Rattle.marked_lines.specs.Rows.{AddsRow, AreRows, IsRow, marks_in}
use Rattle.marked_lines.specs.declared.marks.Mark.{Mark}

-- ---- columns

-- what begins with a character that takes a column takes one
pub some_columns : (whole : ℕ) (chars rest : List ℕ) (one wide : ℕ) → sum_by columns chars ≡ whole → chars ≡ one ∷ rest
    → wide ≡ columns one → 0 < wide → nat_lt 0 whole ≡ true
some_columns whole chars rest one wide sum e w some =
    let counted : sum_by columns chars ≡ columns one + sum_by columns rest =
    ap (λ z. sum_by columns z) e ∙ sum_by-cons columns one rest in
    let less : 0 < whole = omega (arith, sum, counted, w, some) in grind arith

-- behind one that takes none it takes as many
pub no_columns : (whole : ℕ) (chars rest : List ℕ) (one wide : ℕ) → sum_by columns chars ≡ whole → chars ≡ one ∷ rest
    → wide ≡ columns one → wide ≤ 0 → sum_by columns rest ≡ whole
no_columns whole chars rest one wide sum e w none =
    let counted : sum_by columns chars ≡ columns one + sum_by columns rest =
    ap (λ z. sum_by columns z) e ∙ sum_by-cons columns one rest in
    omega (arith, sum, counted, w, none)

-- ---- texts in turn

push : (old a b x y : List ℕ) → x ≡ old ++ a → y ≡ x ++ b → y ≡ old ++ (a ++ b)
push old a b x y e f = f ∙ ap (λ z. z ++ b) e ∙ append_assoc old a b

pub in_turn : (old blanks cut told note rows n1 n2 n3 n4 n5 n6 gut part end : List ℕ)
    → n1 ≡ old ++ gut ++ part ++ end → n2 ≡ n1 ++ blanks → n3 ≡ n2 ++ cut → n4 ≡ n3 ++ told → n5 ≡ n4 ++ note ++ end
    → n6 ≡ n5 ++ rows
    → n6 ≡ old ++ (gut ++ part ++ end ++ blanks ++ cut ++ told ++ note ++ end ++ rows)
in_turn old blanks cut told note rows n1 n2 n3 n4 n5 n6 gut part end e1 e2 e3 e4 e5 e6 =
    let s1 : n1 ≡ old ++ (gut ++ part ++ end) =
    push old (gut ++ part) end (old ++ gut ++ part) n1 (append_assoc old gut part) e1 in
    let s2 : n2 ≡ old ++ (gut ++ part ++ end ++ blanks) = push old (gut ++ part ++ end) blanks n1 n2 s1 e2 in
    let s3 : n3 ≡ old ++ (gut ++ part ++ end ++ blanks ++ cut) =
    push old (gut ++ part ++ end ++ blanks) cut n2 n3 s2 e3 in
    let s4 : n4 ≡ old ++ (gut ++ part ++ end ++ blanks ++ cut ++ told) =
    push old (gut ++ part ++ end ++ blanks ++ cut) told n3 n4 s3 e4 in
    let s5 : n5 ≡ old ++ (gut ++ part ++ end ++ blanks ++ cut ++ told ++ note ++ end) =
    push old (gut ++ part ++ end ++ blanks ++ cut ++ told ++ note) end (n4 ++ note) n5
    (push old (gut ++ part ++ end ++ blanks ++ cut ++ told) note n4 (n4 ++ note) s4 refl) e5 in
    push old (gut ++ part ++ end ++ blanks ++ cut ++ told ++ note ++ end) rows n5 n6 s5 e6

-- ---- rows

-- the marks of rows with one more
marks_more : (rows : List (List Mark)) (row : List Mark) → marks_in (rows ++ row ∷ []) ≡ marks_in rows ++ row
marks_more [] row = append-nil row
marks_more (one ∷ rows) row = ap (λ z. one ++ z) (marks_more rows row) ∙ sym (append_assoc one (marks_in rows) row)

-- a row behind others
rows_more : (text : List ℕ) (keeps : Bool) (wide : ℕ) (rows : List (List Mark)) (told : List ℕ) (row later : List Mark) (more : List ℕ)
    → AreRows text keeps wide rows (row ++ later) told → IsRow text keeps wide row later more
    → AreRows text keeps wide (rows ++ row ∷ []) later (told ++ more)
rows_more text keeps wide [] told row later more none is =
    (more, [], ap (λ z. z ++ more) none ∙ sym (append-nil more), is, refl)
rows_more text keeps wide (one ∷ rows) told row later more all is = (
  all.0,
  all.1 ++ more,
  ap (λ z. z ++ more) all.2 ∙ append_assoc all.0 all.1 more,
  subst (λ z. IsRow text keeps wide one z all.0)
      (sym (append_assoc (marks_in rows) row later) ∙ ap (λ z. z ++ later) (sym (marks_more rows row))) all.3,
  rows_more text keeps wide rows all.1 row later more all.4 is,
)

-- the first n marks are shown
abbrev pub Shown : List ℕ → Bool → ℕ → List Mark → ℕ → List ℕ → List ℕ → Type 0
Shown text keeps wide marks n old new =
    (all : List (List Mark)) × (told : List ℕ) × (n ≤ length marks) × (marks_in all ++ drop n marks ≡ marks)
    × AreRows text keeps wide all (drop n marks) told × (new ≡ old ++ told)

pub none_shown : (text : List ℕ) (keeps : Bool) (wide : ℕ) (marks : List Mark) (old : List ℕ) → Shown text keeps wide marks 0 old old
none_shown text keeps wide marks old = ([], [], omega arith, refl, refl, sym (append-nil old))

pub more_shown : (text : List ℕ) (keeps : Bool) (wide : ℕ) (marks rest : List Mark) (n count : ℕ) (old new more : List ℕ)
    → Shown text keeps wide marks n old new → rest ≡ drop n marks → count ≤ length rest
    → AddsRow text keeps wide (take count rest) (drop count rest) new more → Shown text keeps wide marks (n + count) old more
more_shown text keeps wide marks rest n count old new more shown is fits row =
    let front = marks_in shown.0 in
    let next = take count rest in
    let behind : drop (n + count) marks ≡ drop count rest =
    sym (drop-drop count n marks) ∙ ap (λ z. drop count z) (sym is) in
    let long : length rest ≡ length marks - n = ap length is ∙ length-drop n marks in
    let within : n ≤ length marks = shown.2 in
    let split : drop n marks ≡ next ++ drop (n + count) marks =
    sym is ∙ sym (take-append-drop count rest) ∙ ap (λ z. next ++ z) (sym behind) in (
      shown.0 ++ next ∷ [],
      shown.1 ++ row.0,
      omega (arith, fits, long, within),
      ap (λ z. z ++ drop (n + count) marks) (marks_more shown.0 next) ∙ append_assoc front next (drop (n + count) marks)
          ∙ ap (λ z. front ++ (next ++ z)) behind ∙ ap (λ z. front ++ z) (take-append-drop count rest ∙ is) ∙ shown.3,
      rows_more text keeps wide shown.0 shown.1 next (drop (n + count) marks) row.0
          (subst (λ z. AreRows text keeps wide shown.0 z shown.1) split shown.4)
          (subst (λ z. IsRow text keeps wide next z row.0) (sym behind) row.1),
      row.2 ∙ ap (λ z. z ++ row.0) shown.5 ∙ append_assoc old shown.1 row.0,
    )

pub all_shown : (text : List ℕ) (keeps : Bool) (wide : ℕ) (marks : List Mark) (n : ℕ) (old new : List ℕ) → length marks ≤ n
    → Shown text keeps wide marks n old new
    → (all : List (List Mark)) × (told : List ℕ) × (marks_in all ≡ marks) × AreRows text keeps wide all [] told
    × (new ≡ old ++ told)
all_shown text keeps wide marks n old new end shown = (
  shown.0,
  shown.1,
  sym (append-nil (marks_in shown.0)) ∙ ap (λ z. marks_in shown.0 ++ z) (sym (drop_all n marks end)) ∙ shown.3,
  subst (λ z. AreRows text keeps wide shown.0 z shown.1) (drop_all n marks end) shown.4,
  shown.5,
)
