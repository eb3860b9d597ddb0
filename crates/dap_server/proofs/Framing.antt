-- The frame that stands first in some bytes.
use Rattle.std.proofs.Common.{◌≡◌, ◌≢◌, ◌⊎◌, ◌+◌, ◌-◌, ◌<◌, ◌≤◌, ℕ, zero, suc, Bool, true, false, cond, ◌&&◌, List, [], ◌∷◌, ◌++◌, length, take, drop, slice_range, Option, Some, None, nat_eq, inl, inr, refl, sym, ap, ◌∙◌, subst, append_assoc, append-nil, arith, length-append, length-drop, length-take-le, take-append-drop, drop-drop}
use Rattle.dap_frames.specs.Header.{ends_here, header_length, header_length_from, Tells}
use Rattle.dap_frames.specs.Unframing.{Unframes}
use Rattle.dap_frames.specs.declared.body.Unframed.{Unframed}
use Rattle.dap_frames.specs.declared.body.TheConstants.{MOST_BODY}
use Rattle.std.specs.Io.KnownBytes.{Consumes}
use Rattle.dap_server.specs.Heard.{StandsFirst}
use Rattle.dap_server.specs.declared.input.Input.{Input}
use Rattle.dap_server.specs.declared.input.Next.{Next}
use Rattle.dap_server.specs.internal.Reading.{IsBody, IsLarge, IsNext, held}
use Rattle.dap_server.proofs.Sessions.{consumes_none, consumes_then}

second : (x y : Bool) → x && y ≡ true → y ≡ true
second true y h = h
second false y h = let both : true ≡ false = sym h in absurd (cc)

-- four bytes stand where a header ends
ends_long : (xs : List ℕ) → ends_here xs ≡ true → 4 ≤ length xs
ends_long [] h = let both : true ≡ false = sym h in absurd (cc)
ends_long (a ∷ []) h = let both : false ≡ true = second (nat_eq 13 a) false h in absurd (cc)
ends_long (a ∷ b ∷ []) h = let both : false ≡ true = second (nat_eq 10 b) false (second (nat_eq 13 a) _ h) in absurd (cc)
ends_long (a ∷ b ∷ c ∷ []) h =
    let both : false ≡ true = second (nat_eq 13 c) false (second (nat_eq 10 b) _ (second (nat_eq 13 a) _ h)) in absurd (cc)
ends_long (a ∷ b ∷ c ∷ d ∷ xs) h = omega arith

-- and no others tell whether it does
ends_cut : (xs : List ℕ) (n : ℕ) → 4 ≤ n → ends_here (take n xs) ≡ ends_here xs
ends_cut xs zero h = absurd (omega arith)
ends_cut xs (suc zero) h = absurd (omega arith)
ends_cut xs (suc (suc zero)) h = absurd (omega arith)
ends_cut xs (suc (suc (suc zero))) h = absurd (omega arith)
ends_cut [] (suc (suc (suc (suc n)))) h = refl
ends_cut (a ∷ []) (suc (suc (suc (suc n)))) h = refl
ends_cut (a ∷ b ∷ []) (suc (suc (suc (suc n)))) h = refl
ends_cut (a ∷ b ∷ c ∷ []) (suc (suc (suc (suc n)))) h = refl
ends_cut (a ∷ b ∷ c ∷ d ∷ xs) (suc (suc (suc (suc n)))) h = refl

-- where a header ends
bounds_at : (b : Bool) (x : ℕ) (xs : List ℕ) (n k : ℕ) → ends_here (x ∷ xs) ≡ b
    → ((m : ℕ) → header_length_from m xs ≡ Some k → (m + 4 ≤ k) × (k ≤ m + length xs))
    → cond b (Some (n + 4)) (header_length_from (n + 1) xs) ≡ Some k → (n + 4 ≤ k) × (k ≤ n + length (x ∷ xs))
bounds_at true x xs n k ends later h =
    let both : Some (n + 4) ≡ Some k = h in let is : n + 4 ≡ k = cc in let long = ends_long (x ∷ xs) ends in (omega arith, omega arith)
bounds_at false x xs n k ends later h = let rest = later (n + 1) h in (omega arith, omega arith)

header_bounds : (xs : List ℕ) (n k : ℕ) → header_length_from n xs ≡ Some k → (n + 4 ≤ k) × (k ≤ n + length xs)
header_bounds [] n k h = absurd (cc)
header_bounds (x ∷ xs) n k h = bounds_at (ends_here (x ∷ xs)) x xs n k refl (λ m. header_bounds xs m k) h

-- it ends there too where nothing follows
cut_at : (b : Bool) (x : ℕ) (xs : List ℕ) (n s : ℕ) → ends_here (x ∷ xs) ≡ b
    → ((m t : ℕ) → header_length_from m xs ≡ Some (m + t) → header_length_from m (take t xs) ≡ Some (m + t))
    → cond b (Some (n + 4)) (header_length_from (n + 1) xs) ≡ Some (n + s) → header_length_from n (take s (x ∷ xs)) ≡ Some (n + s)
cut_at true x xs n s ends later h =
    let both : Some (n + 4) ≡ Some (n + s) = h in
    let sum : n + 4 ≡ n + s = cc in
    let four : 4 ≡ s = omega arith in
    let here : ends_here (take 4 (x ∷ xs)) ≡ true = ends_cut (x ∷ xs) 4 (omega arith) ∙ ends in
    subst (λ (k : ℕ). header_length_from n (take k (x ∷ xs)) ≡ Some (n + k)) four
    (ap (λ (b : Bool). cond b (Some (n + 4)) (header_length_from (n + 1) (take 3 xs))) here)
cut_at false x xs n zero ends later h = let low = (header_bounds xs (n + 1) (n + 0) h).0 in absurd (omega arith)
cut_at false x xs n (suc t) ends later h =
    let low = (header_bounds xs (n + 1) (n + suc t) h).0 in
    let moved : n + suc t ≡ n + 1 + t = omega arith in
    let found : header_length_from (n + 1) (take t xs) ≡ Some (n + 1 + t) =
    later (n + 1) t (h ∙ ap (λ (k : ℕ). Some k) moved) in
    let here : ends_here (take (suc t) (x ∷ xs)) ≡ false = ends_cut (x ∷ xs) (suc t) (omega arith) ∙ ends in
    ap (λ (b : Bool). cond b (Some (n + 4)) (header_length_from (n + 1) (take t xs))) here ∙ found ∙ ap (λ (k : ℕ). Some k) (sym moved)

header_cut : (xs : List ℕ) (n s : ℕ) → header_length_from n xs ≡ Some (n + s) → header_length_from n (take s xs) ≡ Some (n + s)
header_cut [] n s h = absurd (cc)
header_cut (x ∷ xs) n s h = cut_at (ends_here (x ∷ xs)) x xs n s refl (λ m t. header_cut xs m t) h

-- the header is one by itself
header_alone : (bytes : List ℕ) (start : ℕ) → header_length bytes ≡ Some start → start ≤ length bytes →
    header_length (take start bytes) ≡ Some (length (take start bytes))
header_alone bytes start found within =
    let long : length (take start bytes) ≡ start = length-take-le start bytes within in
    header_cut bytes 0 start (found ∙ ap (λ (k : ℕ). Some k) (omega arith)) ∙ ap (λ (k : ℕ). Some k) (omega arith)

-- a header, then a body, and then the rest
first_of : (bytes body rest : List ℕ) (start : ℕ) → header_length bytes ≡ Some start → start ≤ length bytes → Tells (take start bytes) (length body)
    → drop start bytes ≡ body ++ rest → StandsFirst bytes body rest
first_of bytes body rest start found within tells behind = record {
  header = take start bytes;
  ends = header_alone bytes start found within;
  tells = tells;
  whole = sym (take-append-drop start bytes) ∙ ap (λ (t : List ℕ). take start bytes ++ t) behind;
}

-- the bytes between two indexes
length-range : (bytes : List ℕ) (from to : ℕ) → from ≤ to → to ≤ length bytes → length (slice_range bytes from to) ≡ to - from
length-range bytes from to rises within =
    let left : length (drop from bytes) ≡ length bytes - from = length-drop from bytes in
    length-take-le (to - from) (drop from bytes) (omega arith)

range-rest : (bytes : List ℕ) (from to : ℕ) → from ≤ to → drop from bytes ≡ slice_range bytes from to ++ drop to bytes
range-rest bytes from to rises =
    let same : from + (to - from) ≡ to = omega arith in
    sym (take-append-drop (to - from) (drop from bytes))
    ∙ ap (λ (t : List ℕ). slice_range bytes from to ++ t) (drop-drop (to - from) from bytes ∙ ap (λ (k : ℕ). drop k bytes) same)

-- a whole frame stands first
pub record IsWhole (bytes : List ℕ) (from to : ℕ) : Type 0 where
  pub rises : from ≤ to
  pub within : to ≤ length bytes
  pub some : 0 < to
  pub small : length (slice_range bytes from to) ≤ MOST_BODY
  pub first : StandsFirst bytes (slice_range bytes from to) (drop to bytes)

whole_at : (bytes : List ℕ) (start from to : ℕ) → header_length bytes ≡ Some start → from ≡ start → Tells (take start bytes) (to - from)
    → from ≤ to → to ≤ length bytes → to ≤ start + MOST_BODY → IsWhole bytes from to
whole_at bytes start from to found same tells rises within reach =
    let size : length (slice_range bytes from to) ≡ to - from = length-range bytes from to rises within in record {
      rises = rises;
      within = within;
      some = (let bounds = header_bounds bytes 0 start found in omega arith);
      small = omega arith;
      first = first_of bytes (slice_range bytes from to) (drop to bytes) start found (omega arith)
          (subst (λ (n : ℕ). Tells (take start bytes) n) (sym size) tells)
          (ap (λ (k : ℕ). drop k bytes) (sym same) ∙ range-rest bytes from to rises);
    }

pub whole_is : (bytes : List ℕ) (from to : ℕ) → Unframes bytes (Unframed.Whole from to) → IsWhole bytes from to
whole_is bytes from to (inl (none, other)) = absurd other
whole_is bytes from to (inr (inl (start, found, short, body))) =
    whole_at bytes start from to found body.0 body.1 body.2 body.3 body.4
whole_is bytes from to (inr (inr (start, found, far, other))) = absurd (cc)

-- a header stands first that tells of a body that is larger than it may be
pub record IsTooLarge (bytes : List ℕ) (from count : ℕ) : Type 0 where
  pub within : from ≤ length bytes
  pub large : MOST_BODY < count
  pub found : header_length bytes ≡ Some from
  pub tells : Tells (take from bytes) count

pub large_is : (bytes : List ℕ) (from count : ℕ) → Unframes bytes (Unframed.Large from count) → IsTooLarge bytes from count
large_is bytes from count (inl (none, other)) = absurd other
large_is bytes from count (inr (inl (start, found, short, body))) =
    let bounds = header_bounds bytes 0 start found in let same : from ≡ start = body.0 in record {
      within = omega arith;
      large = body.2;
      found = found ∙ ap (λ (k : ℕ). Some k) (sym same);
      tells = subst (λ (k : ℕ). Tells (take k bytes) count) (sym same) body.1;
    }
large_is bytes from count (inr (inr (start, found, far, other))) = absurd (cc)

-- the body of a whole frame that is taken
pub body_taken : (before after : Input) (from to first last : ℕ) → Unframes (held before) (Unframed.Whole from to)
    → first ≡ before.start + from → last ≡ before.start + to → after.bytes.items ≡ before.bytes.items → after.start ≡ last
    → IsBody first last after (held before)
body_taken before after from to first last h a b kept start =
    let w = whole_is (held before) from to h in
    let left : length (held before) ≡ length before.bytes.items - before.start = length-drop before.start before.bytes.items in
    let rises : from ≤ to = w.rises in
    let within : to ≤ length (held before) = w.within in
    let some : 0 < to = w.some in
    let all : length after.bytes.items ≡ length before.bytes.items = ap length kept in
    let sizes : last - first ≡ to - from = omega arith in
    let range : slice_range after.bytes.items first last ≡ slice_range (held before) from to =
    ap (λ (xs : List ℕ). slice_range xs first last) kept ∙ ap (λ (k : ℕ). take k (drop first before.bytes.items)) sizes
    ∙ ap (λ (k : ℕ). take (to - from) (drop k before.bytes.items)) a
    ∙ ap (λ (xs : List ℕ). take (to - from) xs) (sym (drop-drop from before.start before.bytes.items)) in
    let rest : held after ≡ drop to (held before) =
    ap (λ (xs : List ℕ). drop after.start xs) kept ∙ ap (λ (k : ℕ). drop k before.bytes.items) (start ∙ b)
    ∙ sym (drop-drop to before.start before.bytes.items) in record {
      rises = omega arith;
      within = omega arith;
      small = subst (λ (xs : List ℕ). length xs ≤ MOST_BODY) (sym range) w.small;
      first = subst (λ (xs : List ℕ). StandsFirst (held before) xs (held after)) (sym range)
          (subst (λ (xs : List ℕ). StandsFirst (held before) (slice_range (held before) from to) xs) (sym rest) w.first);
    }

-- a body that was too large is passed over
pub large_passed : (before after : Input) (mid came passed : List ℕ) (from count : ℕ) → Unframes (held before) (Unframed.Large from count)
    → mid ≡ drop from (held before) → mid ++ came ≡ passed ++ held after → length passed ≡ count → IsLarge after (held before ++ came)
large_passed before after mid came passed from count h is joined size =
    let l = large_is (held before) from count h in
    let bytes : List ℕ = held before in
    let over : MOST_BODY < count = l.large in (
      passed,
      omega arith,
      record {
        header = take from bytes;
        ends = header_alone bytes from l.found l.within;
        tells = subst (λ (k : ℕ). Tells (take from bytes) k) (sym size) l.tells;
        whole = ap (λ (t : List ℕ). t ++ came) (sym (take-append-drop from bytes)) ∙ append_assoc (take from bytes) (drop from bytes) came
            ∙ ap (λ (t : List ℕ). take from bytes ++ (t ++ came)) (sym is) ∙ ap (λ (t : List ℕ). take from bytes ++ t) joined;
      },
    )

-- what was read so far, and is held
abbrev pub ReadSoFar : Option (List ℕ) → Option (List ℕ) → Input → Input → Type 0
ReadSoFar r s before after = (came : List ℕ) × Consumes r s came × (held before ++ came ≡ held after)

pub read_none : (r : Option (List ℕ)) (input : Input) → ReadSoFar r r input input
read_none r input = ([], consumes_none r, append-nil (held input))

pub read_then : (r s t : Option (List ℕ)) (before mid after : Input) → ReadSoFar r s before mid
    → (came : List ℕ) × Consumes s t came × (held after ≡ held mid ++ came) → ReadSoFar r t before after
read_then r s t before mid after h k = (
  h.0 ++ k.0,
  consumes_then r s t h.0 k.0 h.1 k.1,
  sym (append_assoc (held before) h.0 k.0) ∙ ap (λ (xs : List ℕ). xs ++ k.0) h.2 ∙ sym k.2,
)

-- what comes next in what was held comes next in what was read
pub next_whole : (r s : Option (List ℕ)) (before mid after : Input) (next : Next) → ReadSoFar r s before mid → IsNext next after (held mid)
    → (came : List ℕ) × Consumes r s came × IsNext next after (held before ++ came)
next_whole r s before mid after next h is = (h.0, h.1, subst (λ (bytes : List ℕ). IsNext next after bytes) (sym h.2) is)

pub next_large : (r s t : Option (List ℕ)) (before mid after : Input) (next : Next) → ReadSoFar r s before mid
    → (came : List ℕ) × Consumes s t came × IsNext next after (held mid ++ came)
    → (came : List ℕ) × Consumes r t came × IsNext next after (held before ++ came)
next_large r s t before mid after next h k = (
  h.0 ++ k.0,
  consumes_then r s t h.0 k.0 h.1 k.1,
  subst (λ (bytes : List ℕ). IsNext next after bytes)
      (ap (λ (xs : List ℕ). xs ++ k.0) (sym h.2) ∙ append_assoc (held before) h.0 k.0) k.2,
)

pub next_ended : (r s t : Option (List ℕ)) (before mid after : Input) (next : Next) → ReadSoFar r s before mid
    → (came : List ℕ) × Consumes s t came × (held after ≡ held mid ++ came) → (next ≡ Next.End) × (held after ≡ [])
    → (came : List ℕ) × Consumes r t came × IsNext next after (held before ++ came)
next_ended r s t before mid after next h k e =
    let read = read_then r s t before mid after h k in (
      read.0,
      read.1,
      subst (λ (x : Next). IsNext x after (held before ++ read.0)) (sym e.0) (read.2 ∙ e.1, e.1),
    )

-- so many bytes are passed over
abbrev pub PassedSoFar : Option (List ℕ) → Option (List ℕ) → Input → Input → ℕ → Type 0
PassedSoFar r s before after count =
    (came : List ℕ) × (passed : List ℕ) × Consumes r s came × (held before ++ came ≡ passed ++ held after) × (length passed ≡ count)

pub passed_none : (r : Option (List ℕ)) (input : Input) → PassedSoFar r r input input 0
passed_none r input = ([], [], consumes_none r, append-nil (held input), refl)

pub passed_more : (r s : Option (List ℕ)) (before mid after : Input) (count more total : ℕ) → PassedSoFar r s before mid count
    → held after ≡ drop more (held mid) → more ≤ length (held mid) → total ≡ count + more → PassedSoFar r s before after total
passed_more r s before mid after count more total h is within sum =
    let cut : length (take more (held mid)) ≡ more = length-take-le more (held mid) within in
    let both : length (h.1 ++ take more (held mid)) ≡ length h.1 + length (take more (held mid)) = length-append h.1 (take more (held mid)) in
    let so_far : length h.1 ≡ count = h.4 in (
      h.0,
      h.1 ++ take more (held mid),
      h.2,
      h.3 ∙ ap (λ (xs : List ℕ). h.1 ++ xs) (sym (take-append-drop more (held mid)))
          ∙ sym (append_assoc h.1 (take more (held mid)) (drop more (held mid)))
          ∙ ap (λ (xs : List ℕ). (h.1 ++ take more (held mid)) ++ xs) (sym is),
      omega arith,
    )

pub passed_read : (r s t : Option (List ℕ)) (before mid after : Input) (count : ℕ) → PassedSoFar r s before mid count
    → (came : List ℕ) × Consumes s t came × (held after ≡ held mid ++ came) → PassedSoFar r t before after count
passed_read r s t before mid after count h k = (
  h.0 ++ k.0,
  h.1,
  consumes_then r s t h.0 k.0 h.2 k.1,
  sym (append_assoc (held before) h.0 k.0) ∙ ap (λ (xs : List ℕ). xs ++ k.0) h.3 ∙ append_assoc h.1 (held mid) k.0
      ∙ ap (λ (xs : List ℕ). h.1 ++ xs) (sym k.2),
  h.4,
)
