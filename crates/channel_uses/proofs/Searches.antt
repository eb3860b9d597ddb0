-- The search of the next child that uses a channel.
use Rattle.std.proofs.Common.{◌≡◌, ◌⊎◌, ◌↔◌, inl, inr, ℕ, zero, suc, ◌+◌, ◌<◌, ◌≤◌, List, [], ◌∷◌, ◌++◌, length, length-append, Some, None, Option, slice_get, get_or, true, false, Bor, refl, sym, ap, ◌∙◌, subst, arith}
use Rattle.std.proofs.lemmas.Bool.{cases_lt, leb-true, leb-false, le-leb}
use Rattle.std.proofs.lemmas.Option.{slice_get-get_or}
use Rattle.std.specs.Option.{option_copied}
use Rattle.syntax.specs.Lists.{In}
use Rattle.runs.proofs.public.Options.{none-some, some-injective}
use Rattle.process_tree.specs.Code.{Codes, no_code, code, code_at}
use Rattle.dependence.specs.LastEvents.{Uses, FirstUse}
use Rattle.dependence.specs.declared.uses.UseTable.{UseTable}
use Rattle.channel_uses.specs.Uses.{HoldsExactly, used, all_used}
use Rattle.channel_uses.specs.internal.Parts.{first, end, ends_before, AreParts, EndAt, InTable, LiesIn, UnusedFrom, UnusedBetween, UsedIn}
use Rattle.channel_uses.specs.declared.part.Part.{Part}
use Rattle.channel_uses.proofs.Parts.{part-spans}

-- ---- the table
-- the first n of the channels are in the table
abbrev pub HoldsFirst : UseTable → List ℕ → ℕ → Type 0
HoldsFirst table channels n = (c i : ℕ) → Uses table c i ↔ ((i < n) × (slice_get channels i ≡ Some c))

-- what is there is within
pub get-within : {X : Type 0} (xs : List X) (i : ℕ) (x : X) → slice_get xs i ≡ Some x → i < length xs
get-within [] i x h = none-some x h
get-within (y ∷ xs) zero x h = omega arith
get-within (y ∷ xs) (suc i) x h = let less : i < length xs = get-within xs i x h in omega arith

-- by whether it is the last
last-or-before : (old : UseTable) (channels : List ℕ) (n channel c i : ℕ) → HoldsFirst old channels n → slice_get channels n ≡ Some channel → i < n + 1 → slice_get channels i ≡ Some c
    → Uses old c i ⊎ ((c ≡ channel) × (i ≡ n))
last-or-before old channels n channel c i h here less is = elim (cases_lt i n) [
  | inl below ↦ inl ((h c i).1 (below, is))
  | inr above ↦ let at : i ≡ n = omega arith in inr (some-injective c channel (sym is ∙ ap (slice_get channels) at ∙ here), at)
]

-- one more channel
pub holds-more : (old new : UseTable) (channels : List ℕ) (n channel : ℕ) → HoldsFirst old channels n → slice_get channels n ≡ Some channel
    → ((x t : ℕ) → Uses new x t ↔ (Uses old x t ⊎ ((x ≡ channel) × (t ≡ n)))) → HoldsFirst new channels (n + 1)
holds-more old new channels n channel h here put c i = (
  λ u. elim ((put c i).0 u) [
    | inl was ↦ let told = (h c i).0 was in let less : i < n = told.0 in (omega arith, told.1)
    | inr is ↦ let at : i ≡ n = is.1 in (omega arith, subst (λ k. slice_get channels k ≡ Some c) (sym is.1) (here ∙ ap Some (sym is.0)))
  ],
  λ u. (put c i).1 (last-or-before old channels n channel c i h here u.0 u.1),
)

-- none yet
pub holds-none : (table : UseTable) (channels : List ℕ) → ((x t : ℕ) → Uses table x t → ⊥) → HoldsFirst table channels 0
holds-none table channels h c i = (λ u. absurd (h c i u), λ u. let less : i < 0 = u.0 in absurd (omega arith))

-- all
pub holds-all : (table : UseTable) (channels : List ℕ) (n : ℕ) → HoldsFirst table channels n → length channels ≤ n → HoldsExactly table channels
holds-all table channels n h all c i = (
  λ u. ((h c i).0 u).1,
  λ is. let less : i < length channels = get-within channels i c is in (h c i).1 (omega arith, is),
)

-- ---- uses within parts
-- a use of the command of number i lies in its part
pub record UseAt (cs : Codes) (n : ℕ) (ps : List Part) (i e : ℕ) : Type 0 where
  pub part : Part
  pub number : ℕ
  pub there : slice_get ps i ≡ Some part
  pub is : slice_get (all_used cs) number ≡ Some e
  pub from : first part ≤ n + number
  pub below : n + number < end part

-- an element has an index
index-of : (e : ℕ) (xs : List ℕ) → In e xs → (t : ℕ) × (slice_get xs t ≡ Some e)
index-of e [] i = absurd i
index-of e (x ∷ xs) i = elim i [ inl is ↦ (zero, ap Some (sym is)) | inr later ↦ let rest = index-of e xs later in (suc rest.0, rest.1) ]

pub get-first : (xs ys : List ℕ) (t e : ℕ) → slice_get xs t ≡ Some e → slice_get (xs ++ ys) t ≡ Some e
get-first [] ys t e h = none-some e h
get-first (x ∷ xs) ys zero e h = h
get-first (x ∷ xs) ys (suc t) e h = get-first xs ys t e h

pub get-second : (xs ys : List ℕ) (t : ℕ) → slice_get (xs ++ ys) (length xs + t) ≡ slice_get ys t
get-second [] ys t = let z : length {A = ℕ} [] + t ≡ t = omega arith in ap (slice_get ys) z
get-second (x ∷ xs) ys t = let z : length (x ∷ xs) + t ≡ suc (length xs + t) = omega arith in ap (slice_get (x ∷ (xs ++ ys))) z ∙ get-second xs ys t

pub use-at : (cs : Codes) (n : ℕ) (ps : List Part) (i e : ℕ) → AreParts cs n ps → In e (used (code_at cs i)) → UseAt cs n ps i e
use-at no_code n ps i e h u = absurd u
use-at (code c cs) n [] i e h u = absurd h
use-at (code c cs) n (p ∷ ps) zero e h u =
    let at = index-of e (used c) u in
    let less : at.0 < length (used c) = get-within (used c) at.0 e at.1 in
    let spans = part-spans c n p h.0 in
    let begins : first p ≡ n = spans.0 in
    let ends : end p ≡ n + length (used c) = spans.1 in
    record { part = p; number = at.0; there = refl; is = get-first (used c) (all_used cs) at.0 e at.1; from = omega arith; below = omega arith }
use-at (code c cs) n (p ∷ ps) (suc i) e h u =
    let rest = use-at cs (n + length (used c)) ps i e h.1 u in
    let low : first rest.part ≤ n + length (used c) + rest.number = rest.from in
    let high : n + length (used c) + rest.number < end rest.part = rest.below in
    record {
      part = rest.part;
      number = length (used c) + rest.number;
      there = rest.there;
      is = get-second (used c) (all_used cs) rest.number ∙ rest.is;
      from = omega arith;
      below = omega arith;
    }

-- parts begin in order
begins-from : (cs : Codes) (n : ℕ) (ps : List Part) (i : ℕ) (p : Part) → AreParts cs n ps → slice_get ps i ≡ Some p → n ≤ first p
begins-from no_code n ps i p h is = none-some p (subst (λ qs. slice_get qs i ≡ Some p) h is)
begins-from (code c cs) n [] i p h is = absurd h
begins-from (code c cs) n (q ∷ ps) zero p h is =
    let begins : first q ≡ n = (part-spans c n q h.0).0 in
    subst (λ x. n ≤ first x) (some-injective q p is) (omega arith)
begins-from (code c cs) n (q ∷ ps) (suc i) p h is = let later : n + length (used c) ≤ first p = begins-from cs (n + length (used c)) ps i p h.1 is in omega arith

firsts-rise : (cs : Codes) (n : ℕ) (ps : List Part) (i j : ℕ) (p q : Part) → AreParts cs n ps → slice_get ps i ≡ Some p → slice_get ps j ≡ Some q → i ≤ j → first p ≤ first q
firsts-rise no_code n ps i j p q h is at l = none-some p (subst (λ rs. slice_get rs i ≡ Some p) h is)
firsts-rise (code c cs) n [] i j p q h is at l = absurd h
firsts-rise (code c cs) n (r ∷ ps) zero j p q h is at l =
    let begins : first r ≡ n = (part-spans c n r h.0).0 in
    let later : n ≤ first q = begins-from (code c cs) n (r ∷ ps) j q h at in
    subst (λ x. first x ≤ first q) (some-injective r p is) (omega arith)
firsts-rise (code c cs) n (r ∷ ps) (suc i) zero p q h is at l = absurd (omega arith)
firsts-rise (code c cs) n (r ∷ ps) (suc i) (suc j) p q h is at l = firsts-rise cs (n + length (used c)) ps i j p q h.1 is at (omega arith)

-- and end in order
ends-from : (cs : Codes) (n : ℕ) (ps : List Part) (i : ℕ) (d : Part) → AreParts cs n ps → i < length ps → n ≤ end (get_or ps i d)
ends-from no_code n ps i d h l = let none : length ps ≡ 0 = ap length h in absurd (omega arith)
ends-from (code c cs) n [] i d h l = absurd h
ends-from (code c cs) n (q ∷ ps) zero d h l = let ends : end q ≡ n + length (used c) = (part-spans c n q h.0).1 in omega arith
ends-from (code c cs) n (q ∷ ps) (suc i) d h l = let later : n + length (used c) ≤ end (get_or ps i d) = ends-from cs (n + length (used c)) ps i d h.1 (omega arith) in omega arith

pub ends-rise : (cs : Codes) (n : ℕ) (ps : List Part) (i j : ℕ) (d : Part) → AreParts cs n ps → i ≤ j → j < length ps → end (get_or ps i d) ≤ end (get_or ps j d)
ends-rise no_code n ps i j d h l m = let none : length ps ≡ 0 = ap length h in absurd (omega arith)
ends-rise (code c cs) n [] i j d h l m = absurd h
ends-rise (code c cs) n (q ∷ ps) zero zero d h l m = omega arith
ends-rise (code c cs) n (q ∷ ps) zero (suc j) d h l m =
    let ends : end q ≡ n + length (used c) = (part-spans c n q h.0).1 in
    let later : n + length (used c) ≤ end (get_or ps j d) = ends-from cs (n + length (used c)) ps j d h.1 (omega arith) in omega arith
ends-rise (code c cs) n (q ∷ ps) (suc i) zero d h l m = absurd (omega arith)
ends-rise (code c cs) n (q ∷ ps) (suc i) (suc j) d h l m = ends-rise cs (n + length (used c)) ps i j d h.1 (omega arith) (omega arith)

-- ---- the next child
-- past the last nothing is used
pub unused-past : (cs : Codes) (n : ℕ) (ps : List Part) (e child : ℕ) → AreParts cs n ps → length ps ≤ child → UnusedFrom e cs child
unused-past cs n ps e child h past i low u =
    let at = use-at cs n ps i e h u in
    let less : i < length ps = get-within ps i at.part at.there in omega arith

-- where no use is from the child on, none of the later ones uses the channel
pub unused-none : (table : UseTable) (cs : Codes) (n : ℕ) (ps : List Part) (e child below : ℕ) (q : Part) → InTable table n (all_used cs) → AreParts cs n ps → below ≡ n + length (all_used cs)
    → slice_get ps child ≡ Some q → ((u : ℕ) → Uses table e u → first q ≤ u → u < below → ⊥) → UnusedFrom e cs child
unused-none table cs n ps e child below q told h is there none i low u =
    let at = use-at cs n ps i e h u in
    let rise : first q ≤ first at.part = firsts-rise cs n ps child i q at.part h there at.there low in
    let from : first at.part ≤ n + at.number = at.from in
    let less : at.number < length (all_used cs) = get-within (all_used cs) at.number e at.is in
    none (n + at.number) (told e at.number at.is) (omega arith) (omega arith)

-- before the first use none does
pub unused-before : (table : UseTable) (cs : Codes) (n : ℕ) (ps : List Part) (e child below found k : ℕ) (q : Part) → InTable table n (all_used cs) → AreParts cs n ps
    → below ≡ n + length (all_used cs) → slice_get ps child ≡ Some q → FirstUse table e (first q) below found → EndAt ps found k → UnusedBetween e cs child k
unused-before table cs n ps e child below found k q told h is there hit ended i low high u =
    let at = use-at cs n ps i e h u in
    let rise : first q ≤ first at.part = firsts-rise cs n ps child i q at.part h there at.there low in
    let from : first at.part ≤ n + at.number = at.from in
    let behind : n + at.number < end at.part = at.below in
    let less : at.number < length (all_used cs) = get-within (all_used cs) at.number e at.is in
    let over : end at.part ≤ found = ended.before i at.part high at.there in
    let least : found ≤ n + at.number = hit.first (n + at.number) (told e at.number at.is) (omega arith) (omega arith) in omega arith

-- the parts before one that ends at the use or before it do so too
pub ends-parted : (cs : Codes) (n u : ℕ) (ps : List Part) (i j : ℕ) (d : Part) → AreParts cs n ps → i ≤ j → j < length ps → ends_before u (get_or ps j d) ≡ true → ends_before u (get_or ps i d) ≡ true
ends-parted cs n u ps i j d h l m e =
    let rise : end (get_or ps i d) ≤ end (get_or ps j d) = ends-rise cs n ps i j d h l m in
    let low : end (get_or ps j d) ≤ u = leb-true (end (get_or ps j d)) u e in
    le-leb (end (get_or ps i d)) u (omega arith)

-- by their numbers
pub ended-at : (u k : ℕ) (ps : List Part) → ((j : ℕ) (d : Part) → 0 ≤ j → j < k → ends_before u (get_or ps j d) ≡ true)
    → ((j : ℕ) (d : Part) → k ≤ j → j < length ps → ends_before u (get_or ps j d) ≡ false) → EndAt ps u k
ended-at u k ps h later = record {
  before = λ j p less is.
      let within : j < length ps = get-within ps j p is in
      let at : get_or ps j p ≡ p = some-injective (get_or ps j p) p (sym (slice_get-get_or ps j p within) ∙ is) in
      let low : end (get_or ps j p) ≤ u = leb-true (end (get_or ps j p)) u (h j p (omega arith) less) in
      subst (λ q. end q ≤ u) at low;
  behind = λ p is.
      let within : k < length ps = get-within ps k p is in
      let at : get_or ps k p ≡ p = some-injective (get_or ps k p) p (sym (slice_get-get_or ps k p within) ∙ is) in
      let high : u < end (get_or ps k p) = leb-false (end (get_or ps k p)) u (later k p (omega arith) within) in
      subst (λ q. u < end q) at high;
}

-- ---- the child that is found
-- a use of the row lies in one of the parts
part-with : (cs : Codes) (n u : ℕ) (ps : List Part) → AreParts cs n ps → n ≤ u → u < n + length (all_used cs) → (k : ℕ) × LiesIn ps u k
part-with no_code n u ps h low high = absurd (omega arith)
part-with (code c cs) n u [] h low high = absurd h
part-with (code c cs) n u (p ∷ ps) h low high =
    let spans = part-spans c n p h.0 in
    let begins : first p ≡ n = spans.0 in
    let ends : end p ≡ n + length (used c) = spans.1 in
    let long : length (used c ++ all_used cs) ≡ length (used c) + length (all_used cs) = length-append (used c) (all_used cs) in
    elim (cases_lt u (n + length (used c))) [
      | inl below ↦ (zero, record { part = p; there = refl; from = omega arith; below = omega arith })
      | inr above ↦
          let rest = part-with cs (n + length (used c)) u ps h.1 above (omega arith) in
          (suc rest.0, record { part = rest.1.part; there = rest.1.there; from = rest.1.from; below = rest.1.below })
    ]

-- of two parts the first ends before the second begins
apart : (cs : Codes) (n : ℕ) (ps : List Part) (i j : ℕ) (p q : Part) → AreParts cs n ps → slice_get ps i ≡ Some p → slice_get ps j ≡ Some q → i < j → end p ≤ first q
apart no_code n ps i j p q h is at l = none-some p (subst (λ rs. slice_get rs i ≡ Some p) h is)
apart (code c cs) n [] i j p q h is at l = absurd h
apart (code c cs) n (r ∷ ps) zero zero p q h is at l = absurd (omega arith)
apart (code c cs) n (r ∷ ps) zero (suc j) p q h is at l =
    let ends : end r ≡ n + length (used c) = (part-spans c n r h.0).1 in
    let later : n + length (used c) ≤ first q = begins-from cs (n + length (used c)) ps j q h.1 at in
    subst (λ x. end x ≤ first q) (some-injective r p is) (omega arith)
apart (code c cs) n (r ∷ ps) (suc i) zero p q h is at l = absurd (omega arith)
apart (code c cs) n (r ∷ ps) (suc i) (suc j) p q h is at l = apart cs (n + length (used c)) ps i j p q h.1 is at (omega arith)

-- the part behind those that end at a use or before it has the use
lies-there : (cs : Codes) (n u k i : ℕ) (ps : List Part) → AreParts cs n ps → EndAt ps u k → LiesIn ps u i → i ≡ k
lies-there cs n u k i ps h ended w = elim (cases_lt i k) [
  | inl less ↦ let over : end w.part ≤ u = ended.before i w.part less w.there in let below : u < end w.part = w.below in absurd (omega arith)
  | inr above ↦ elim (cases_lt k i) [
    | inl less ↦
        let last : i < length ps = get-within ps i w.part w.there in
        let is : slice_get ps k ≡ Some (get_or ps k w.part) = slice_get-get_or ps k w.part (omega arith) in
        let behind : u < end (get_or ps k w.part) = ended.behind (get_or ps k w.part) is in
        let gap : end (get_or ps k w.part) ≤ first w.part = apart cs n ps k i (get_or ps k w.part) w.part h is w.there less in
        let from : first w.part ≤ u = w.from in absurd (omega arith)
    | inr below ↦ omega arith
  ]
]

-- the first use from a child on lies in the part that is found
lies-found : (table : UseTable) (cs : Codes) (n : ℕ) (ps : List Part) (e child below found k : ℕ) (q : Part) → AreParts cs n ps → below ≡ n + length (all_used cs)
    → slice_get ps child ≡ Some q → FirstUse table e (first q) below found → EndAt ps found k → LiesIn ps found k
lies-found table cs n ps e child below found k q h is there hit ended =
    let low : n ≤ first q = begins-from cs n ps child q h there in
    let from : first q ≤ found = hit.starts in
    let high : found < below = hit.less in
    let one = part-with cs n found ps h (omega arith) (omega arith) in
    subst (λ i. LiesIn ps found i) (lies-there cs n found k one.0 ps h ended one.1) one.1

pub used-found : (table : UseTable) (cs : Codes) (n : ℕ) (ps : List Part) (e child below found k : ℕ) (q : Part) → AreParts cs n ps → below ≡ n + length (all_used cs)
    → slice_get ps child ≡ Some q → FirstUse table e (first q) below found → EndAt ps found k → UsedIn table e ps k
used-found table cs n ps e child below found k q h is there hit ended = (found, hit.uses, lies-found table cs n ps e child below found k q h is there hit ended)

-- and that is no earlier child
pub none-earlier : (table : UseTable) (cs : Codes) (n : ℕ) (ps : List Part) (e child below found k : ℕ) (q : Part) → AreParts cs n ps → below ≡ n + length (all_used cs)
    → slice_get ps child ≡ Some q → FirstUse table e (first q) below found → EndAt ps found k → k < child → ⊥
none-earlier table cs n ps e child below found k q h is there hit ended less =
    let at = lies-found table cs n ps e child below found k q h is there hit ended in
    let gap : end at.part ≤ first q = apart cs n ps k child at.part q h at.there there less in
    let in_it : found < end at.part = at.below in
    let from : first q ≤ found = hit.starts in omega arith

-- what is not there is past the last
pub none-past : (ps : List Part) (i : ℕ) (o : Option (Bor Part)) → o ≡ None → option_copied o ≡ slice_get ps i → length ps ≤ i
none-past ps i o none is = past ps i (sym is ∙ ap option_copied none)
  where
    past : (ps : List Part) (i : ℕ) → slice_get ps i ≡ None → length ps ≤ i
    past [] i h = omega arith
    past (p ∷ ps) zero h = none-some p (sym h)
    past (p ∷ ps) (suc i) h = let less : length ps ≤ i = past ps i h in omega arith
