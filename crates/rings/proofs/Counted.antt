-- Ends that are counted: those of a part of a tree from those of its parts.
use Rattle.std.proofs.Common.{◌≡◌, List, [], ◌∷◌, ◌++◌, Bool, true, false, ◌||◌, ◌&&◌, cond, Option, Some, None, refl, sym, ap, ap₂, ◌∙◌, eqb-true, eq-eqb, true≢false}
use Rattle.address.specs.declared.Entry.{Entry}
use Rattle.address.specs.declared.Entry.TheVariants.{Ordered, Branch}
use Rattle.runs.specs.Moves.{Place}
use Rattle.runs.specs.Tests.{same_entry, same_place}
use Rattle.local_actions.proofs.public.PlacedActions.{place-itself}
use Rattle.rings.specs.Partners.{Standing, nowhere, never, behind, at_hand, is_found, below, partner_standing}
use Rattle.rings.specs.declared.ends.Kind.{Kind}
use Rattle.rings.specs.declared.ends.Kind.TheVariants.{There, Later, Within}
use Rattle.rings.specs.declared.partner.Partner.{Partner}
use Rattle.rings.specs.declared.partner.Partner.TheVariants.{Behind, Gone, Open}
use Rattle.rings.specs.declared.sought.Sought.{Sought}
use Rattle.rings.specs.declared.sought.Sought.TheVariants as sought
use Rattle.rings.specs.internal.Placed.{Placed}
use Rattle.rings.specs.internal.Ends.{same_sought, has, clear, counts, behind_both, behind_too, or_end, or_end_if, with_end, counted, under, soughts, is_among, behind_entry, later, all_here, here, gathered, Sum, finished, working}

-- ---- tests
pub entry-itself : (x : Entry) → same_entry x x ≡ true
entry-itself (Ordered i) = eq-eqb i i refl
entry-itself (Branch i) = eq-eqb i i refl

pub or-false : (a b : Bool) → (a || b) ≡ false → (a ≡ false) × (b ≡ false)
or-false true b h = cc
or-false false b h = (refl, h)

pub same-sought-true : (s t : Sought) → same_sought s t ≡ true → s ≡ t
same-sought-true (sought.Receiver d) (sought.Receiver c) h = ap sought.Receiver (eqb-true d c h)
same-sought-true (sought.Sender d) (sought.Receiver c) h = cc
same-sought-true (sought.Partner d) (sought.Receiver c) h = cc
same-sought-true (sought.Close d) (sought.Receiver c) h = cc
same-sought-true (sought.Receiver d) (sought.Sender c) h = cc
same-sought-true (sought.Sender d) (sought.Sender c) h = ap sought.Sender (eqb-true d c h)
same-sought-true (sought.Partner d) (sought.Sender c) h = cc
same-sought-true (sought.Close d) (sought.Sender c) h = cc
same-sought-true (sought.Receiver d) (sought.Partner c) h = cc
same-sought-true (sought.Sender d) (sought.Partner c) h = cc
same-sought-true (sought.Partner d) (sought.Partner c) h = ap sought.Partner (eqb-true d c h)
same-sought-true (sought.Close d) (sought.Partner c) h = cc
same-sought-true (sought.Receiver d) (sought.Close c) h = cc
same-sought-true (sought.Sender d) (sought.Close c) h = cc
same-sought-true (sought.Partner d) (sought.Close c) h = cc
same-sought-true (sought.Close d) (sought.Close c) h = ap sought.Close (eqb-true d c h)

-- ---- one end more
-- one that is not what is sought
pub other-end : (s : Sought) (own : Option Place) (e : Placed) (r : Partner) → same_sought s e.sought ≡ false → with_end s own e r ≡ r
other-end s own e r h = ap (λ (b : Bool). or_end_if b (counts own e.kind e.place) e.kind e.place r) h

-- one that does not count
pub passed-end : (m l : Bool) (k : Kind) (p : Place) (r : Partner) → l ≡ false → or_end_if m l k p r ≡ r
passed-end true true k p r h = cc
passed-end true false k p r h = refl
passed-end false l k p r h = refl

or-end-there : (k : Kind) (p : Place) (r : Partner) → or_end k p r ≡ Gone → ⊥
or-end-there There p r h = cc
or-end-there Later p Gone h = cc
or-end-there Later p (Behind q) h = pick (same_place p q) h
  where
    pick : (b : Bool) → cond b (Behind q) Open ≡ Gone → ⊥
    pick true g = cc
    pick false g = cc
or-end-there Later p Open h = cc
or-end-there Within p Gone h = cc
or-end-there Within p (Behind q) h = pick (same_place p q) h
  where
    pick : (b : Bool) → cond b (Behind q) Open ≡ Gone → ⊥
    pick true g = cc
    pick false g = cc
or-end-there Within p Open h = cc

pub or-end-open : (m l : Bool) (k : Kind) (p : Place) → or_end_if m l k p Open ≡ Open
or-end-open true true There p = refl
or-end-open true true Later p = refl
or-end-open true true Within p = refl
or-end-open true false k p = refl
or-end-open false l k p = refl

-- ---- whether there is one
pub none-counted : (s : Sought) (own : Option Place) (es : List Placed) → has s es ≡ false → counted s own es ≡ Gone
none-counted s own [] h = refl
none-counted s own (e ∷ es) h =
    let both = or-false (same_sought s e.sought) (has s es) h in
    other-end s own e (counted s own es) both.0 ∙ none-counted s own es both.1

pub some-counted : (s : Sought) (es : List Placed) → has s es ≡ true → counted s None es ≡ Gone → ⊥
some-counted s [] h g = cc
some-counted s (e ∷ es) h g = pick (λ t n. some-counted s es t n) (same_sought s e.sought) refl h g
  where
    pick : (has s es ≡ true → counted s None es ≡ Gone → ⊥) → (b : Bool) → same_sought s e.sought ≡ b → (b || has s es) ≡ true → or_end_if b true e.kind e.place (counted s None es) ≡ Gone → ⊥
    pick rest true i t n = or-end-there e.kind e.place (counted s None es) n
    pick rest false i t n = rest t n

-- how a part shows itself that has this partner and never ends or may
abbrev pub gone_as : Bool → Standing
gone_as true = never
gone_as false = nowhere

abbrev pub shown : Bool → Partner → Standing
shown e Gone = gone_as e
shown e (Behind p) = behind p
shown e Open = at_hand

pub shown-partner : (e : Bool) (r : Partner) → partner_standing (shown e r) ≡ r
shown-partner true Gone = refl
shown-partner false Gone = refl
shown-partner e (Behind p) = refl
shown-partner e Open = refl

found-gone : (e : Bool) → is_found (gone_as e) ≡ false
found-gone true = refl
found-gone false = refl

found-some : (e : Bool) (r : Partner) → (r ≡ Gone → ⊥) → is_found (shown e r) ≡ true
found-some e Gone h = absurd (h refl)
found-some e (Behind p) h = refl
found-some e Open h = refl

pub found-has : (e : Bool) (s : Sought) (es : List Placed) → has s es ≡ is_found (shown e (counted s None es))
found-has e s es = pick (has s es) refl
  where
    pick : (b : Bool) → has s es ≡ b → b ≡ is_found (shown e (counted s None es))
    pick true h = sym (found-some e (counted s None es) (some-counted s es h))
    pick false h = sym (ap (λ (r : Partner). is_found (shown e r)) (none-counted s None es h) ∙ found-gone e)

-- ---- in the child at an entry
abbrev pub pre : Entry → Partner → Partner
pre x Gone = Gone
pre x (Behind p) = Behind (x ∷ p)
pre x Open = Open

pub below-itself : (x : Entry) (b : Place) → below (Some (x ∷ b)) x ≡ Some b
below-itself x b = ap (λ (t : Bool). cond t (Some b) None) (entry-itself x)

below-counts : (y : Entry) (a : Place) (x : Entry) (p : Place) (b : Bool) → cond b (clear p a) true ≡ counts (cond b (Some a) None) There p
below-counts y a x p true = refl
below-counts y a x p false = refl

below-counts-later : (a : Place) (p : Place) (b : Bool) → cond b (clear p a) true ≡ counts (cond b (Some a) None) Later p
below-counts-later a p true = refl
below-counts-later a p false = refl

below-counts-within : (a : Place) (p : Place) (b : Bool) → true ≡ counts (cond b (Some a) None) Within p
below-counts-within a p true = refl
below-counts-within a p false = refl

counts-under : (own : Option Place) (k : Kind) (x : Entry) (p : Place) → counts own k (x ∷ p) ≡ counts (below own x) k p
counts-under None k x p = refl
counts-under (Some []) There x p = refl
counts-under (Some []) Later x p = refl
counts-under (Some []) Within x p = refl
counts-under (Some (y ∷ a)) There x p = below-counts y a x p (same_entry y x)
counts-under (Some (y ∷ a)) Later x p = below-counts-later a p (same_entry y x)
counts-under (Some (y ∷ a)) Within x p = below-counts-within a p (same_entry y x)

cond-pre : (x : Entry) (q : Place) (b : Bool) → cond b (Behind (x ∷ q)) Open ≡ pre x (cond b (Behind q) Open)
cond-pre x q true = refl
cond-pre x q false = refl

behind-pre : (x : Entry) (p : Place) (r : Partner) → behind_too (x ∷ p) (pre x r) ≡ pre x (behind_too p r)
behind-pre x p Gone = refl
behind-pre x p (Behind q) =
    ap (λ (b : Bool). cond (b && same_place p q) (Behind (x ∷ q)) Open) (entry-itself x) ∙ cond-pre x q (same_place p q)
behind-pre x p Open = refl

end-pre : (x : Entry) (m l : Bool) (k : Kind) (p : Place) (r : Partner) → or_end_if m l k (x ∷ p) (pre x r) ≡ pre x (or_end_if m l k p r)
end-pre x true true There p r = refl
end-pre x true true Later p r = behind-pre x p r
end-pre x true true Within p r = behind-pre x p r
end-pre x true false k p r = refl
end-pre x false l k p r = refl

pub counted-under : (s : Sought) (x : Entry) (own : Option Place) (es : List Placed) → counted s own (under x es) ≡ pre x (counted s (below own x) es)
counted-under s x own [] = refl
counted-under s x own (e ∷ es) =
    ap₂ (λ (l : Bool) (r : Partner). or_end_if (same_sought s e.sought) l e.kind (x ∷ e.place) r) (counts-under own e.kind x e.place) (counted-under s x own es)
    ∙ end-pre x (same_sought s e.sought) (counts (below own x) e.kind e.place) e.kind e.place (counted s (below own x) es)

-- ---- what stands behind a child
pub among-soughts : (s : Sought) (es : List Placed) → is_among s (soughts es) ≡ has s es
among-soughts s [] = refl
among-soughts s (e ∷ es) = ap (λ (b : Bool). same_sought s e.sought || b) (among-soughts s es)

pub among-append : (s : Sought) (ss ts : List Sought) → is_among s (ss ++ ts) ≡ (is_among s ss || is_among s ts)
among-append s [] ts = refl
among-append s (t ∷ ss) ts = ap (λ (b : Bool). same_sought s t || b) (among-append s ss ts) ∙ assoc (same_sought s t)
  where
    assoc : (a : Bool) → (a || (is_among s ss || is_among s ts)) ≡ ((a || is_among s ss) || is_among s ts)
    assoc true = refl
    assoc false = refl

-- ---- behind the child at an entry
module _ (s : Sought) (x : Entry) (es : List Placed) (K : List Placed) where
  -- what is in the child is not sought behind it
  pub later-held : (own : Option Place) (ss : List Sought) → has s es ≡ true → counted s own (later x es ss ++ K) ≡ counted s own K
  later-held own [] h = refl
  later-held own (r ∷ ss) h = pick (later-held own ss h) (has r es) refl
    where
      pick : counted s own (later x es ss ++ K) ≡ counted s own K → (b : Bool) → has r es ≡ b → counted s own (cond b (later x es ss) (behind_entry x r ∷ later x es ss) ++ K) ≡ counted s own K
      pick rest true i = rest
      pick rest false i =
          other-end s own (behind_entry x r) (counted s own (later x es ss ++ K)) (apart (same_sought s r) refl) ∙ rest
        where
          apart : (m : Bool) → same_sought s r ≡ m → m ≡ false
          apart true g = absurd (true≢false (sym h ∙ ap (λ (t : Sought). has t es) (same-sought-true s r g) ∙ i))
          apart false g = refl

  pub later-none : (own : Option Place) (ss : List Sought) → is_among s ss ≡ false → counted s own (later x es ss ++ K) ≡ counted s own K
  later-none own [] h = refl
  later-none own (r ∷ ss) h = pick (later-none own ss (or-false (same_sought s r) (is_among s ss) h).1) (has r es)
    where
      pick : counted s own (later x es ss ++ K) ≡ counted s own K → (b : Bool) → counted s own (cond b (later x es ss) (behind_entry x r ∷ later x es ss) ++ K) ≡ counted s own K
      pick rest true = rest
      pick rest false =
          other-end s own (behind_entry x r) (counted s own (later x es ss ++ K)) (or-false (same_sought s r) (is_among s ss) h).0 ∙ rest

  behind-again : behind_too (x ∷ []) (Behind (x ∷ [])) ≡ Behind (x ∷ [])
  behind-again = ap (λ (b : Bool). cond b (Behind (x ∷ [])) Open) (place-itself (x ∷ []))

  pub later-some : (ss : List Sought) → has s es ≡ false → counted s None K ≡ Gone → is_among s ss ≡ true → counted s None (later x es ss ++ K) ≡ Behind (x ∷ [])
  later-some [] h g t = cc
  later-some (r ∷ ss) h g t =
      pick (λ k. later-some ss h g k) (rest (λ k. later-some ss h g k) (is_among s ss) refl) (same_sought s r) refl (has r es) refl t
    where
      rest : (is_among s ss ≡ true → counted s None (later x es ss ++ K) ≡ Behind (x ∷ [])) → (b : Bool) → is_among s ss ≡ b
          → behind_too (x ∷ []) (counted s None (later x es ss ++ K)) ≡ Behind (x ∷ [])
      rest more true i = ap (behind_too (x ∷ [])) (more i) ∙ behind-again
      rest more false i = ap (behind_too (x ∷ [])) (later-none None ss i ∙ g)

      pick : (is_among s ss ≡ true → counted s None (later x es ss ++ K) ≡ Behind (x ∷ []))
          → behind_too (x ∷ []) (counted s None (later x es ss ++ K)) ≡ Behind (x ∷ []) → (m : Bool) → same_sought s r ≡ m → (b : Bool) → has r es ≡ b → (m || is_among s ss) ≡ true
          → counted s None (cond b (later x es ss) (behind_entry x r ∷ later x es ss) ++ K) ≡ Behind (x ∷ [])
      pick more again true i true j n = absurd (true≢false (sym j ∙ ap (λ (z : Sought). has z es) (sym (same-sought-true s r i)) ∙ h))
      pick more again true i false j n = ap (λ (m : Bool). or_end_if m true Later (x ∷ []) (counted s None (later x es ss ++ K))) i ∙ again
      pick more again false i true j n = more n
      pick more again false i false j n =
          other-end s None (behind_entry x r) (counted s None (later x es ss ++ K)) i ∙ more n

  clear-itself : (b : Place) → clear (x ∷ []) (x ∷ b) ≡ false
  clear-itself b = ap (λ (t : Bool). cond t false true) (entry-itself x)

  -- for an action in the child nothing behind it counts
  pub later-own : (b : Place) (ss : List Sought) → counted s (Some (x ∷ b)) (later x es ss ++ K) ≡ counted s (Some (x ∷ b)) K
  later-own b [] = refl
  later-own b (r ∷ ss) = pick (later-own b ss) (has r es)
    where
      pick : counted s (Some (x ∷ b)) (later x es ss ++ K) ≡ counted s (Some (x ∷ b)) K → (t : Bool) → counted s (Some (x ∷ b)) (cond t (later x es ss) (behind_entry x r ∷ later x es ss) ++ K) ≡ counted s (Some (x ∷ b)) K
      pick rest true = rest
      pick rest false =
          passed-end (same_sought s r) (clear (x ∷ []) (x ∷ b)) Later (x ∷ []) (counted s (Some (x ∷ b)) (later x es ss ++ K)) (clear-itself b)
          ∙ rest

-- ---- side by side
abbrev pub tog : Partner → Partner → Partner
tog Gone r = r
tog (Behind p) Gone = Behind p
tog (Behind p) (Behind q) = Open
tog (Behind p) Open = Open
tog Open r = Open

-- a place does not begin with an entry
abbrev pub StartsApart : Entry → Place → Type 0
StartsApart x [] = ⊥
StartsApart x (y ∷ p) = (same_entry x y ≡ false) × (same_entry y x ≡ false)

abbrev pub AllApart : Entry → List Placed → Type 0
AllApart x [] = Unit {0}
AllApart x (e ∷ es) = StartsApart x e.place × AllApart x es

apart-both : (x : Entry) (q p : Place) → StartsApart x q → behind_both q (x ∷ p) ≡ Open
apart-both x [] p h = absurd h
apart-both x (y ∷ q) p h = ap (λ (b : Bool). cond (b && same_place q p) (Behind (x ∷ p)) Open) h.1

cond-open : (p q : Place) (b : Bool) → Open ≡ tog (Behind p) (cond b (Behind q) Open)
cond-open p q true = refl
cond-open p q false = refl

behind-tog : (x : Entry) (p q : Place) (r : Partner) → StartsApart x q → behind_too q (tog (Behind (x ∷ p)) r) ≡ tog (Behind (x ∷ p)) (behind_too q r)
behind-tog x p q Gone h = apart-both x q p h
behind-tog x p q (Behind z) h = cond-open (x ∷ p) z (same_place q z)
behind-tog x p q Open h = refl

end-tog : (x : Entry) (c : Partner) (m l : Bool) (k : Kind) (q : Place) (r : Partner) → StartsApart x q → or_end_if m l k q (tog (pre x c) r) ≡ tog (pre x c) (or_end_if m l k q r)
end-tog x Gone m l k q r h = refl
end-tog x (Behind p) true true There q r h = refl
end-tog x (Behind p) true true Later q r h = behind-tog x p q r h
end-tog x (Behind p) true true Within q r h = behind-tog x p q r h
end-tog x (Behind p) true false k q r h = refl
end-tog x (Behind p) false l k q r h = refl
end-tog x Open m l k q r h = or-end-open m l k q

tog-gone : (r : Partner) → tog r Gone ≡ r
tog-gone Gone = refl
tog-gone (Behind p) = refl
tog-gone Open = refl

pub counted-beside : (s : Sought) (x : Entry) (own : Option Place) (es rs : List Placed) → AllApart x rs
    → counted s own (rs ++ under x es) ≡ tog (pre x (counted s (below own x) es)) (counted s own rs)
counted-beside s x own es [] h = counted-under s x own es ∙ sym (tog-gone (pre x (counted s (below own x) es)))
counted-beside s x own es (r ∷ rs) h =
    ap (or_end_if (same_sought s r.sought) (counts own r.kind r.place) r.kind r.place) (counted-beside s x own es rs h.1)
    ∙ end-tog x (counted s (below own x) es) (same_sought s r.sought) (counts own r.kind r.place) r.kind r.place (counted s own rs) h.0

apart-counts : (x : Entry) (b : Place) (k : Kind) (p : Place) → StartsApart x p → counts (Some (x ∷ b)) k p ≡ true
apart-counts x b There [] h = absurd h
apart-counts x b There (y ∷ p) h = ap (λ (t : Bool). cond t (clear p b) true) h.0
apart-counts x b Later [] h = absurd h
apart-counts x b Later (y ∷ p) h = ap (λ (t : Bool). cond t (clear p b) true) h.0
apart-counts x b Within p h = refl

-- an action elsewhere keeps nothing from counting
pub counted-apart : (s : Sought) (x : Entry) (b : Place) (rs : List Placed) → AllApart x rs → counted s (Some (x ∷ b)) rs ≡ counted s None rs
counted-apart s x b [] h = refl
counted-apart s x b (r ∷ rs) h =
    ap₂ (λ (l : Bool) (z : Partner). or_end_if (same_sought s r.sought) l r.kind r.place z) (apart-counts x b r.kind r.place h.0) (counted-apart s x b rs h.1)

-- ---- somewhere here
abbrev pub AllAt : Kind → List Placed → Type 0
AllAt k [] = Unit {0}
AllAt k (e ∷ es) = (e.place ≡ []) × (e.kind ≡ k) × AllAt k es

pub append-at : (k : Kind) (es fs : List Placed) → AllAt k es → AllAt k fs → AllAt k (es ++ fs)
append-at k [] fs h g = g
append-at k (e ∷ es) fs h g = (h.0, h.1, append-at k es fs h.2 g)

pub all-here-at : (k : Kind) (es : List Placed) → AllAt k (all_here k es)
all-here-at k [] = tt
all-here-at k (e ∷ es) = (refl, refl, all-here-at k es)

pub here-at : (k : Kind) (x : Sum) → AllAt k (here k x)
here-at k finished = tt
here-at k (working e es) = all-here-at k es

pub gathered-at : (k : Kind) (xs : List Sum) → AllAt k (gathered k xs)
gathered-at k [] = tt
gathered-at k (x ∷ xs) = append-at k (here k x) (gathered k xs) (here-at k x) (gathered-at k xs)

pub has-append : (s : Sought) (es fs : List Placed) → has s (es ++ fs) ≡ (has s es || has s fs)
has-append s [] fs = refl
has-append s (e ∷ es) fs = ap (λ (b : Bool). same_sought s e.sought || b) (has-append s es fs) ∙ assoc (same_sought s e.sought)
  where
    assoc : (a : Bool) → (a || (has s es || has s fs)) ≡ ((a || has s es) || has s fs)
    assoc true = refl
    assoc false = refl

pub has-here : (k : Kind) (s : Sought) (es : List Placed) → has s (all_here k es) ≡ has s es
has-here k s [] = refl
has-here k s (e ∷ es) = ap (λ (b : Bool). same_sought s e.sought || b) (has-here k s es)

-- how what comes from somewhere here counts
abbrev pub here_if : Bool → Partner
here_if true = Behind []
here_if false = Gone

or-here : (m h : Bool) → or_end_if m true Within [] (here_if h) ≡ here_if (m || h)
or-here true true = refl
or-here true false = refl
or-here false h = refl

or-later : (m h : Bool) → or_end_if m true Later [] (here_if h) ≡ here_if (m || h)
or-later true true = refl
or-later true false = refl
or-later false h = refl

counts-within : (own : Option Place) → counts own Within [] ≡ true
counts-within None = refl
counts-within (Some a) = refl

pub within-all : (s : Sought) (own : Option Place) (es : List Placed) → AllAt Within es → counted s own es ≡ here_if (has s es)
within-all s own [] h = refl
within-all s own (e ∷ es) h =
    ap₂ (λ (k : Kind) (p : Place). or_end_if (same_sought s e.sought) (counts own k p) k p (counted s own es)) h.1 h.0
    ∙ ap₂ (λ (l : Bool) (r : Partner). or_end_if (same_sought s e.sought) l Within [] r) (counts-within own) (within-all s own es h.2)
    ∙ or-here (same_sought s e.sought) (has s es)

pub later-all : (s : Sought) (es fs : List Placed) → AllAt Later es → counted s None fs ≡ Gone → counted s None (es ++ fs) ≡ here_if (has s es)
later-all s [] fs h g = g
later-all s (e ∷ es) fs h g =
    ap₂ (λ (k : Kind) (p : Place). or_end_if (same_sought s e.sought) true k p (counted s None (es ++ fs))) h.1 h.0
    ∙ ap (or_end_if (same_sought s e.sought) true Later []) (later-all s es fs h.2 g)
    ∙ or-later (same_sought s e.sought) (has s es)

pub open-more : (s : Sought) (own : Option Place) (es fs : List Placed) → counted s own fs ≡ Open → counted s own (es ++ fs) ≡ Open
open-more s own [] fs g = g
open-more s own (e ∷ es) fs g =
    ap (or_end_if (same_sought s e.sought) (counts own e.kind e.place) e.kind e.place) (open-more s own es fs g)
    ∙ or-end-open (same_sought s e.sought) (counts own e.kind e.place) e.kind e.place

pub later-here : (s : Sought) (a : Place) (es fs : List Placed) → AllAt Later es → counted s (Some a) fs ≡ Gone → counted s (Some a) (es ++ fs) ≡ Gone
later-here s a [] fs h g = g
later-here s a (e ∷ es) fs h g =
    ap₂ (λ (k : Kind) (p : Place). or_end_if (same_sought s e.sought) (counts (Some a) k p) k p (counted s (Some a) (es ++ fs))) h.1 h.0
    ∙ passed-end (same_sought s e.sought) false Later [] (counted s (Some a) (es ++ fs)) refl
    ∙ later-here s a es fs h.2 g
