-- What a walk finds for all that is sought at once tells of each action that is offered where its partner stands.
use Rattle.std.proofs.Common.{◌≡◌, ◌⊎◌, inl, inr, ℕ, ◌+◌, ◌*◌, List, [], ◌∷◌, ◌++◌, Bool, true, false, ◌||◌, cond, is_none, Option, Some, None, refl, sym, ap, ap₂, ◌∙◌, subst, true≢false}
use Rattle.address.specs.declared.Entry.{Entry}
use Rattle.address.specs.declared.Entry.TheVariants.{Ordered, Branch}
use Rattle.system.specs.Expression.{Expression}
use Rattle.system.specs.Residual.{done, beside, closing}
use Rattle.runs.specs.Moves.{Place}
use Rattle.process_tree.specs.Code.{Once, assigning, receiving, Sender, sending, syncing, Code, continues, halts, moves_once, may_be_held, repeats, decides, awaits, in_turn, side_by_side, drains, Codes, no_code, code}
use Rattle.process_tree.specs.Remaining.{with_value, puts, again, residual}
use Rattle.process_tree.specs.Proc.{waiting, holding, past, Proc, idle, stopped, once, sender, fresh, turn, ended_at_once, ended, untested, skipped, took, unopened, entered, closed, sequence, parallel, drained, Procs, no_procs, proc, started, all_started}
use Rattle.rings.specs.Partners as standing
use Rattle.rings.specs.Partners.{Standing, over, nowhere, never, behind, at_hand, is_receive, is_sync, is_close, is_arm, has_channel, is_found, below, there, ahead, at_arms, in_branch, together, stands, partner_standing}
use Rattle.rings.specs.declared.ends.Kind.{Kind}
use Rattle.rings.specs.declared.ends.Kind.TheVariants.{There, Later, Within}
use Rattle.rings.specs.declared.partner.Partner.{Partner}
use Rattle.rings.specs.declared.partner.Partner.TheVariants as partner
use Rattle.rings.specs.declared.sought.Sought.{Sought}
use Rattle.rings.specs.declared.sought.Sought.TheVariants as sought
use Rattle.rings.specs.internal.Ends as sums
use Rattle.rings.specs.internal.Placed.{Placed}
use Rattle.rings.specs.internal.Ends.{channel_of, same_sought, has, wants, or_end_if, counted, under, Tail, no_tail, tail, soughts, is_among, tail_of, tail_before, later, here, gathered, Sum, finished, working, in_row, after, in_turns, one, once_sum, sync_sum, sender_sum, arm_ends, tested, armed, tail_in_turn, sum_in_turn, sum_abreast, code_sum, codes_sum, again_sum, proc_sum, procs_sum}
use Rattle.rings.specs.internal.Seen.{Walk, is_once, is_sender, walk_in_turn, walk_abreast, any_found, code_seen, codes_seen, again_seen, seen, procs_seen}
use Rattle.rings.proofs.Counted.{same-sought-true, none-counted, some-counted, gone_as, shown, shown-partner, found-has, among-soughts, among-append, pre, below-itself, counted-under, later-held, later-none, later-some, later-own, tog, AllApart, counted-beside, counted-apart, AllAt, here-at, gathered-at, has-append, has-here, here_if, within-all, later-all, open-more, later-here}
use Rattle.rings.proofs.Standings.{is_over, not-over, over-shown, inner, after-endless, after-last, after-held, after-none, tog-standing, tog-over, tog-last, tog-shown, Fronts, FrontsInTurn, FrontsAbreast, alive, enter-child, enter-turn, enter-branch, ApartIn, apart-abreast}

-- what is found is where it stands, for an action that stands elsewhere, and as far as its partner goes for one that is
-- offered here
abbrev pub Tells : Sum → Sought → Option Place → Standing → Type 0
Tells finished s own y = y ≡ over
Tells (working e es) s None y = y ≡ shown e (counted s None es)
Tells (working e es) s (Some a) y = (partner_standing y ≡ counted s (Some a) es) × (is_over y ≡ false)

abbrev pub Fits : (Place → Type 0) → Option Place → Type 0
Fits F None = Unit {0}
Fits F (Some a) = F a

abbrev pub Walks : Type 0
Walks = Sought → Walk

module _ (w : List Bool) where
  -- what is found tells of each that is wanted where it stands
  abbrev pub Sums : Sum → (Place → Type 0) → Walks → Type 0
  Sums x F walk = (s : Sought) → wants w (channel_of s) ≡ true → (own : Option Place) → Fits F own → Tells x s own (walk s own)

  -- ---- a child and what comes behind it
  abbrev Enters : Entry → Walks → (Place → Type 0) → (Place → Type 0) → (Place → Type 0) → Type 0
  Enters x f Fc Fr F =
      (a : Place) → F a
      → ((b : Place) × (a ≡ x ∷ b) × Fc b) ⊎ (((s : Sought) (own : Option Place) → f s own ≡ over) × Fr a)

  abbrev Alive : Walks → (Place → Type 0) → Type 0
  Alive f Fc = (b : Place) → Fc b → (s : Sought) → f s (Some b) ≡ over → ⊥

  -- with what is found in the child, and perhaps more that does not count for an action there
  held-after : (x : Entry) (f g : Walks) (Fc Fr F : Place → Type 0) (e d : Bool) (es all : List Placed) (s : Sought) (a : Place)
      → Enters x f Fc Fr F → Sums (working e es) Fc f → wants w (channel_of s) ≡ true → F a
      → ((b : Place) → counted s (Some (x ∷ b)) all ≡ counted s (Some (x ∷ b)) (under x es))
      → Tells (working d all) s (Some a) (standing.after x (below (Some a) x) (f s (below (Some a) x)) (g s (Some a)))
  held-after x f g Fc Fr F e d es all s a enters sc h fa same = elim (enters a fa) [
    | inl in_child ↦
        let b : Place = in_child.0 in
        let tells = sc s h (Some b) in_child.2 in
        let moved = inner x b (f s (Some b)) (g s (Some (x ∷ b))) tells.1 in
        subst (λ (z : Place). Tells (working d all) s (Some z) (standing.after x (below (Some z) x) (f s (below (Some z) x)) (g s (Some z)))) (sym in_child.1)
        (subst (λ (o : Option Place). (partner_standing (standing.after x o (f s o) (g s (Some (x ∷ b)))) ≡ counted s (Some (x ∷ b)) all)
        × (is_over (standing.after x o (f s o) (g s (Some (x ∷ b)))) ≡ false)) (sym (below-itself x b))
        (moved.0 ∙ ap (pre x) tells.0 ∙ ap (λ (o : Option Place). pre x (counted s o es)) (sym (below-itself x b)) ∙ sym (counted-under s x (Some (x ∷ b)) es) ∙ sym (same b), moved.1))
    | inr passed ↦ absurd (over-shown e (counted s None es) (sym (sc s h None tt) ∙ passed.0 s None))
  ]

  -- what stands behind a child tells of each that is wanted whether it comes there
  abbrev TellsTail : Tail → Sought → Standing → Type 0
  TellsTail no_tail s z = z ≡ over
  TellsTail (tail e ss) s z = (is_among s ss ≡ is_found z) × (is_found z ≡ false → z ≡ gone_as e)

  abbrev Tails : Tail → Walks → Type 0
  Tails t walk = (s : Sought) → wants w (channel_of s) ≡ true → TellsTail t s (walk s None)

  tail-tells : (e : Bool) (s : Sought) (c : Partner) (ss : List Sought) (z : Standing) → z ≡ shown e c → is_among s ss ≡ is_found (shown e c) → TellsTail (tail e ss) s z
  tail-tells e s c ss z is found = (found ∙ sym (ap is_found is), λ h. is ∙ lost e c (sym (ap is_found is) ∙ h))
    where
      lost : (e : Bool) (c : Partner) → is_found (shown e c) ≡ false → shown e c ≡ gone_as e
      lost e partner.Gone h = refl
      lost e (partner.Behind p) h = absurd (true≢false h)
      lost e partner.Open h = absurd (true≢false h)

  found-pre : (x : Entry) (e : Bool) (c : Partner) → is_found (shown e c) ≡ is_found (shown e (pre x c))
  found-pre x e partner.Gone = refl
  found-pre x e (partner.Behind p) = refl
  found-pre x e partner.Open = refl

  -- of one part alone
  tail-alone : (r : Sum) (F : Place → Type 0) (g : Walks) → Sums r F g → Tails (tail_of r) g
  tail-alone finished F g sr s h = sr s h None tt
  tail-alone (working e es) F g sr s h =
      tail-tells e s (counted s None es) (soughts es) (g s None) (sr s h None tt) (among-soughts s es ∙ found-has e s es)

  later-found : (x : Entry) (z : Standing) → is_found z ≡ true → standing.later x None z ≡ behind (x ∷ [])
  later-found x over h = absurd (true≢false (sym h))
  later-found x nowhere h = absurd (true≢false (sym h))
  later-found x never h = absurd (true≢false (sym h))
  later-found x (behind a) h = refl
  later-found x at_hand h = refl

  found-later : (x : Entry) (z : Standing) → is_found z ≡ is_found (standing.later x None z)
  found-later x over = refl
  found-later x nowhere = refl
  found-later x never = refl
  found-later x (behind a) = refl
  found-later x at_hand = refl

  -- a child before it
  longer-tells : (x : Entry) (f : Bool) (es : List Placed) (ss : List Sought) (s : Sought) (y z : Standing) → y ≡ shown false (counted s None es)
      → TellsTail (tail f ss) s z → TellsTail (tail f (ss ++ soughts es)) s (standing.after x None y z)
  longer-tells x f es ss s y z here tells = pick (has s es) refl
    where
      both : is_among s (ss ++ soughts es) ≡ (is_found z || has s es)
      both = among-append s ss (soughts es) ∙ ap₂ (λ (a b : Bool). a || b) tells.0 (among-soughts s es)

      or-true : (a : Bool) → (a || true) ≡ true
      or-true true = refl
      or-true false = refl

      or-none : (a : Bool) → (a || false) ≡ a
      or-none true = refl
      or-none false = refl

      pick : (b : Bool) → has s es ≡ b → TellsTail (tail f (ss ++ soughts es)) s (standing.after x None y z)
      pick true h =
          tail-tells f s (pre x (counted s None es)) (ss ++ soughts es) (standing.after x None y z)
          (ap (λ (t : Standing). standing.after x None t z) here ∙ after-held x f (counted s None es) z (some-counted s es h))
          (both ∙ ap (λ (b : Bool). is_found z || b) h ∙ or-true (is_found z) ∙ sym h ∙ found-has f s es ∙ found-pre x f (counted s None es))
      pick false h =
          let moved : standing.after x None y z ≡ standing.later x None z =
          ap (λ (t : Standing). standing.after x None t z) (here ∙ ap (shown false) (none-counted s None es h)) in (
            both ∙ ap (λ (b : Bool). is_found z || b) h ∙ or-none (is_found z) ∙ found-later x z ∙ sym (ap is_found moved),
            λ g. moved
                ∙ ap (standing.later x None) (tells.1 (found-later x z ∙ sym (ap is_found moved) ∙ g))
                ∙ after-none x f,
          )

  tail-longer : (x : Entry) (f g : Walks) (F : Place → Type 0) (c : Sum) (t : Tail) → Sums c F f → Tails t g
      → Tails (tail_before c t) (λ s own. standing.after x (below own x) (f s (below own x)) (g s own))
  tail-longer x f g F finished t sc st s h =
      subst (λ (y : Standing). TellsTail t s (standing.after x None y (g s None))) (sym (sc s h None tt)) (st s h)
  tail-longer x f g F (working true es) t sc st s h =
      tail-tells true s (pre x (counted s None es)) (soughts es) (standing.after x None (f s None) (g s None))
      (ap (λ (y : Standing). standing.after x None y (g s None)) (sc s h None tt) ∙ after-endless x (counted s None es) (g s None))
      (among-soughts s es ∙ found-has true s es ∙ found-pre x true (counted s None es))
  tail-longer x f g F (working false es) no_tail sc st s h =
      tail-tells false s (pre x (counted s None es)) (soughts es) (standing.after x None (f s None) (g s None))
      (ap₂ (standing.after x None) (sc s h None tt) (st s h) ∙ after-last x (counted s None es))
      (among-soughts s es ∙ found-has false s es ∙ found-pre x false (counted s None es))
  tail-longer x f g F (working false es) (tail e ss) sc st s h = longer-tells x e es ss s (f s None) (g s None) (sc s h None tt) (st s h)

  two-after : (x : Entry) (s : Sought) (f : Bool) (es : List Placed) (ss : List Sought) (y z : Standing) → y ≡ shown false (counted s None es) → TellsTail (tail f ss) s z
      → standing.after x None y z ≡ shown f (counted s None (later x es ss ++ under x es))
  two-after x s f es ss y z here tells =
      ap (λ (t : Standing). standing.after x None t z) here ∙ pick (has s es) refl (is_found z) refl
    where
      pick : (b : Bool) → has s es ≡ b → (t : Bool) → is_found z ≡ t
          → standing.after x None (shown false (counted s None es)) z ≡ shown f (counted s None (later x es ss ++ under x es))
      pick true h t k =
          after-held x f (counted s None es) z (some-counted s es h)
          ∙ ap (shown f) (sym (later-held s x es (under x es) None ss h ∙ counted-under s x None es))
      pick false h true k =
          ap (λ (c : Partner). standing.after x None (shown false c) z) (none-counted s None es h)
          ∙ later-found x z k
          ∙ ap (shown f) (sym (later-some s x es (under x es) ss h (counted-under s x None es ∙ ap (pre x) (none-counted s None es h)) (tells.0 ∙ k)))
      pick false h false k =
          ap₂ (λ (c : Partner) (r : Standing). standing.after x None (shown false c) r) (none-counted s None es h) (tells.1 k)
          ∙ after-none x f
          ∙ ap (shown f) (sym (later-none s x es (under x es) None ss (tells.0 ∙ k) ∙ counted-under s x None es ∙ ap (pre x) (none-counted s None es h)))

  row-sums : (x : Entry) (f g : Walks) (Fc Fr F : Place → Type 0) → Enters x f Fc Fr F → Alive f Fc → (c r : Sum) (t : Tail) → Sums c Fc f → Sums r Fr g → Tails t g
      → Sums (in_row x c r t) F (λ s own. standing.after x (below own x) (f s (below own x)) (g s own))
  row-sums x f g Fc Fr F enters alive finished r t sc sr st s h None fit =
      subst (λ (z : Standing). Tells r s None (standing.after x None z (g s None))) (sym (sc s h None tt)) (sr s h None tt)
  row-sums x f g Fc Fr F enters alive finished r t sc sr st s h (Some a) fit = elim (enters a fit) [
    | inl in_child ↦ absurd (alive in_child.0 in_child.2 s (sc s h (Some in_child.0) in_child.2))
    | inr passed ↦
        subst (λ (z : Standing). Tells r s (Some a) (standing.after x (below (Some a) x) z (g s (Some a)))) (sym (passed.0 s (below (Some a) x))) (sr s h (Some a) passed.1)
  ]
  row-sums x f g Fc Fr F enters alive (working true es) r t sc sr st s h None fit =
      ap (λ (z : Standing). standing.after x None z (g s None)) (sc s h None tt)
      ∙ after-endless x (counted s None es) (g s None) ∙ ap (shown true) (sym (counted-under s x None es))
  row-sums x f g Fc Fr F enters alive (working true es) r t sc sr st s h (Some a) fit =
      held-after x f g Fc Fr F true true es (under x es) s a enters sc h fit (λ b. refl)
  row-sums x f g Fc Fr F enters alive (working false es) r no_tail sc sr st s h None fit =
      ap₂ (standing.after x None) (sc s h None tt) (st s h) ∙ after-last x (counted s None es) ∙ ap (shown false) (sym (counted-under s x None es))
  row-sums x f g Fc Fr F enters alive (working false es) r no_tail sc sr st s h (Some a) fit =
      held-after x f g Fc Fr F false false es (under x es) s a enters sc h fit (λ b. refl)
  row-sums x f g Fc Fr F enters alive (working false es) r (tail d ss) sc sr st s h None fit =
      two-after x s d es ss (f s None) (g s None) (sc s h None tt) (st s h)
  row-sums x f g Fc Fr F enters alive (working false es) r (tail d ss) sc sr st s h (Some a) fit =
      held-after x f g Fc Fr F false d es (later x es ss ++ under x es) s a enters sc h fit (λ b. later-own s x es (under x es) b ss)

  after-sums : (x : Entry) (f g : Walks) (Fc Fr F : Place → Type 0) → Enters x f Fc Fr F → Alive f Fc → (c r : Sum) → Sums c Fc f → Sums r Fr g
      → Sums (after x c r) F (λ s own. standing.after x (below own x) (f s (below own x)) (g s own))
  after-sums x f g Fc Fr F enters alive c r sc sr = row-sums x f g Fc Fr F enters alive c r (tail_of r) sc sr (tail-alone r Fr g sr)

  -- ---- a branch and those beside it
  abbrev EntersBranch : Entry → Walks → (Place → Type 0) → (Place → Type 0) → (Place → Type 0) → Type 0
  EntersBranch x g Fc Fr F =
      (a : Place) → F a
      → ((b : Place) × (a ≡ x ∷ b) × Fc b × ((s : Sought) → g s (Some a) ≡ g s None)) ⊎ ((below (Some a) x ≡ None) × Fr a)

  -- a part as one that waits sees it
  seen-by : (e : Bool) (es : List Placed) (s : Sought) (y : Standing) → y ≡ shown e (counted s None es) → (partner_standing y ≡ counted s None es) × (is_over y ≡ false)
  seen-by e es s y h = (ap partner_standing h ∙ shown-partner e (counted s None es), ap is_over h ∙ not-over e (counted s None es))

  -- the child, for an action there or beside it
  child-by : (x : Entry) (f g : Walks) (Fc Fr F : Place → Type 0) (e : Bool) (es : List Placed) (s : Sought) (a : Place)
      → EntersBranch x g Fc Fr F → Sums (working e es) Fc f → wants w (channel_of s) ≡ true → F a
      → (partner_standing (f s (below (Some a) x)) ≡ counted s (below (Some a) x) es) × (is_over (f s (below (Some a) x)) ≡ false)
  child-by x f g Fc Fr F e es s a enters sc h fa = elim (enters a fa) [
    | inl in_child ↦
        subst (λ (z : Place). (partner_standing (f s (below (Some z) x)) ≡ counted s (below (Some z) x) es) × (is_over (f s (below (Some z) x)) ≡ false)) (sym in_child.1)
        (subst (λ (o : Option Place). (partner_standing (f s o) ≡ counted s o es) × (is_over (f s o) ≡ false)) (sym (below-itself x in_child.0)) (sc s h (Some in_child.0) in_child.2))
    | inr other ↦
        subst (λ (o : Option Place). (partner_standing (f s o) ≡ counted s o es) × (is_over (f s o) ≡ false)) (sym other.0) (seen-by e es s (f s None) (sc s h None tt))
  ]

  -- those beside it, for either
  rest-by : (x : Entry) (g : Walks) (Fc Fr F : Place → Type 0) (d : Bool) (rs : List Placed) (s : Sought) (a : Place)
      → EntersBranch x g Fc Fr F → Sums (working d rs) Fr g → AllApart x rs → wants w (channel_of s) ≡ true → F a
      → partner_standing (g s (Some a)) ≡ counted s (Some a) rs
  rest-by x g Fc Fr F d rs s a enters sr apart h fa = elim (enters a fa) [
    | inl in_child ↦
        ap partner_standing (in_child.3 s) ∙ (seen-by d rs s (g s None) (sr s h None tt)).0 ∙ sym (counted-apart s x in_child.0 rs apart)
        ∙ ap (λ (z : Place). counted s (Some z) rs) (sym in_child.1)
    | inr other ↦ (sr s h (Some a) other.1).0
  ]

  rest-over : (x : Entry) (g : Walks) (Fc Fr F : Place → Type 0) (s : Sought) (a : Place) → EntersBranch x g Fc Fr F → Sums finished Fr g → wants w (channel_of s) ≡ true → F a
      → g s (Some a) ≡ over
  rest-over x g Fc Fr F s a enters sr h fa = elim (enters a fa) [
    | inl in_child ↦ in_child.3 s ∙ sr s h None tt
    | inr other ↦ sr s h (Some a) other.1
  ]

  gone-pre : (x : Entry) (c : Partner) → tog (pre x c) partner.Gone ≡ pre x c
  gone-pre x partner.Gone = refl
  gone-pre x (partner.Behind p) = refl
  gone-pre x partner.Open = refl

  beside-sums : (x : Entry) (f g : Walks) (Fc Fr F : Place → Type 0) → EntersBranch x g Fc Fr F → Alive f Fc → (c r : Sum) → ApartIn x r → Sums c Fc f → Sums r Fr g
      → Sums (sums.beside x c r) F (λ s own. together (in_branch x (f s (below own x))) (g s own))
  beside-sums x f g Fc Fr F enters alive finished r apart sc sr s h None fit =
      subst (λ (z : Standing). Tells r s None (together (in_branch x z) (g s None))) (sym (sc s h None tt)) (sr s h None tt)
  beside-sums x f g Fc Fr F enters alive finished r apart sc sr s h (Some a) fit = elim (enters a fit) [
    | inl in_child ↦ absurd (alive in_child.0 in_child.2 s (sc s h (Some in_child.0) in_child.2))
    | inr other ↦
        subst (λ (z : Standing). Tells r s (Some a) (together (in_branch x z) (g s (Some a)))) (sym (ap (f s) other.0 ∙ sc s h None tt)) (sr s h (Some a) other.1)
  ]
  beside-sums x f g Fc Fr F enters alive (working e es) finished apart sc sr s h None fit =
      ap₂ (λ (y z : Standing). together (in_branch x y) z) (sc s h None tt) (sr s h None tt)
      ∙ tog-last x e (counted s None es) ∙ ap (shown e) (sym (counted-under s x None es))
  beside-sums x f g Fc Fr F enters alive (working e es) finished apart sc sr s h (Some a) fit =
      let child = child-by x f g Fc Fr F e es s a enters sc h fit in
      let rest = rest-over x g Fc Fr F s a enters sr h fit in (
        tog-standing x (f s (below (Some a) x)) (g s (Some a))
            ∙ ap₂ (λ (c r : Partner). tog (pre x c) r) child.0 (ap partner_standing rest)
            ∙ gone-pre x (counted s (below (Some a) x) es) ∙ sym (counted-under s x (Some a) es),
        tog-over x (f s (below (Some a) x)) (g s (Some a)) child.1,
      )
  beside-sums x f g Fc Fr F enters alive (working e es) (working d rs) apart sc sr s h None fit =
      ap₂ (λ (y z : Standing). together (in_branch x y) z) (sc s h None tt) (sr s h None tt)
      ∙ tog-shown x e d (counted s None es) (counted s None rs) ∙ ap (shown (e || d)) (sym (counted-beside s x None es rs apart))
  beside-sums x f g Fc Fr F enters alive (working e es) (working d rs) apart sc sr s h (Some a) fit =
      let child = child-by x f g Fc Fr F e es s a enters sc h fit in
      let rest = rest-by x g Fc Fr F d rs s a enters sr apart h fit in (
        tog-standing x (f s (below (Some a) x)) (g s (Some a))
            ∙ ap₂ (λ (c r : Partner). tog (pre x c) r) child.0 rest ∙ sym (counted-beside s x (Some a) es rs apart),
        tog-over x (f s (below (Some a) x)) (g s (Some a)) child.1,
      )

  -- ---- leaves
  abbrev Nowhere : Place → Type 0
  Nowhere a = ⊥

  not-wanted : (s t : Sought) (c : ℕ) → wants w (channel_of s) ≡ true → wants w c ≡ false → channel_of t ≡ c → same_sought s t ≡ false
  not-wanted s t c h g is = pick (same_sought s t) refl
    where
      pick : (b : Bool) → same_sought s t ≡ b → b ≡ false
      pick true k = absurd (true≢false (sym h ∙ ap (λ (z : Sought). wants w (channel_of z)) (same-sought-true s t k) ∙ ap (wants w) is ∙ g))
      pick false k = refl

  there-tells : (s t : Sought) (own : Option Place) (b : Bool) → same_sought s t ≡ b → Tells (working false (sums.there t ∷ [])) s own (there own b)
  there-tells s t None true h = ap (λ (m : Bool). shown false (or_end_if m true There [] partner.Gone)) (sym h)
  there-tells s t None false h = ap (λ (m : Bool). shown false (or_end_if m true There [] partner.Gone)) (sym h)
  there-tells s t (Some a) b h = (sym (gone (same_sought s t)), refl)
    where
      gone : (m : Bool) → or_end_if m false There [] partner.Gone ≡ partner.Gone
      gone true = refl
      gone false = refl

  nothing-tells : (s : Sought) (own : Option Place) → Tells (working false []) s own nowhere
  nothing-tells s None = refl
  nothing-tells s (Some a) = (refl, refl)

  there-false : (own : Option Place) → there own false ≡ nowhere
  there-false None = refl
  there-false (Some a) = refl

  one-sums : (F : Place → Type 0) (c : ℕ) (t : Sought) (f : Sought → Bool) → channel_of t ≡ c → ((s : Sought) → f s ≡ same_sought s t) → Sums (one w c t) F (λ s own. there own (f s))
  one-sums F c t f is same s h own fit = pick (wants w c) refl
    where
      pick : (b : Bool) → wants w c ≡ b → Tells (working false (cond b (sums.there t ∷ []) [])) s own (there own (f s))
      pick true k = there-tells s t own (f s) (sym (same s))
      pick false k =
          subst (λ (y : Standing). Tells (working false []) s own y) (sym (ap (there own) (same s ∙ not-wanted s t c h k is) ∙ there-false own)) (nothing-tells s own)

  both-counted : (s : Sought) (c : ℕ) (l : Bool)
      → or_end_if (same_sought s (sought.Sender c)) l There [] (or_end_if (same_sought s (sought.Partner c)) l There [] partner.Gone) ≡ or_end_if (is_sync s c) l There [] partner.Gone
  both-counted (sought.Receiver d) c l = refl
  both-counted (sought.Sender d) c l = refl
  both-counted (sought.Partner d) c l = refl
  both-counted (sought.Close d) c l = refl

  sync-wanted : (s : Sought) (c : ℕ) → wants w (channel_of s) ≡ true → wants w c ≡ false → is_sync s c ≡ false
  sync-wanted (sought.Receiver d) c h g = refl
  sync-wanted (sought.Sender d) c h g = not-wanted (sought.Sender d) (sought.Sender c) c h g refl
  sync-wanted (sought.Partner d) c h g = not-wanted (sought.Partner d) (sought.Partner c) c h g refl
  sync-wanted (sought.Close d) c h g = refl

  sync-tells : (s : Sought) (c : ℕ) (own : Option Place) (b : Bool) → is_sync s c ≡ b
      → Tells (working false (sums.there (sought.Sender c) ∷ sums.there (sought.Partner c) ∷ [])) s own (there own b)
  sync-tells s c None true h = ap (shown false) (sym (both-counted s c true ∙ ap (λ (m : Bool). or_end_if m true There [] partner.Gone) h))
  sync-tells s c None false h = ap (shown false) (sym (both-counted s c true ∙ ap (λ (m : Bool). or_end_if m true There [] partner.Gone) h))
  sync-tells s c (Some a) b h = (sym (both-counted s c false ∙ gone (is_sync s c)), refl)
    where
      gone : (m : Bool) → or_end_if m false There [] partner.Gone ≡ partner.Gone
      gone true = refl
      gone false = refl

  sync-sums : (F : Place → Type 0) (c : ℕ) → Sums (sync_sum w c) F (λ s own. there own (is_sync s c))
  sync-sums F c s h own fit = pick (wants w c) refl
    where
      pick : (b : Bool) → wants w c ≡ b → Tells (working false (cond b (sums.there (sought.Sender c) ∷ sums.there (sought.Partner c) ∷ []) [])) s own (there own (is_sync s c))
      pick true k = sync-tells s c own (is_sync s c) refl
      pick false k =
          subst (λ (y : Standing). Tells (working false []) s own y) (sym (ap (there own) (sync-wanted s c h k) ∙ there-false own)) (nothing-tells s own)

  once-sums : (F : Place → Type 0) (o : Once) → Sums (once_sum w o) F (λ s own. there own (is_once s o))
  once-sums F (assigning x v e) s h own fit = subst (λ (y : Standing). Tells (working false []) s own y) (sym (there-false own)) (nothing-tells s own)
  once-sums F (receiving c x) s h own fit = one-sums F c (sought.Receiver c) (λ t. is_receive t c) refl (λ t. refl) s h own fit

  sender-sums : (F : Place → Type 0) (x : Sender) → Sums (sender_sum w x) F (λ s own. there own (is_sender s x))
  sender-sums F (sending c v e) s h own fit = one-sums F c (sought.Sender c) (λ t. standing.is_send t c) refl (λ t. refl) s h own fit
  sender-sums F (syncing c) s h own fit = sync-sums F c s h own fit

  -- ---- loops, tests and arms
  -- in such a part all that is found counts for each action
  within-tells : (e : Bool) (es : List Placed) (s : Sought) (own : Option Place) (y : Standing) → AllAt Within es → y ≡ shown e (here_if (has s es)) → Tells (working e es) s own y
  within-tells e es s None y all h = h ∙ ap (shown e) (sym (within-all s None es all))
  within-tells e es s (Some a) y all h =
      (ap partner_standing h ∙ shown-partner e (here_if (has s es)) ∙ sym (within-all s (Some a) es all), ap is_over h ∙ not-over e (here_if (has s es)))

  has-sum : (x : Sum) (f : Walks) (s : Sought) (k : Kind) → Sums x Nowhere f → wants w (channel_of s) ≡ true → has s (here k x) ≡ is_found (f s None)
  has-sum finished f s k sf h = sym (ap is_found (sf s h None tt))
  has-sum (working e es) f s k sf h = has-here k s es ∙ found-has e s es ∙ sym (ap is_found (sf s h None tt))

  turns-shown : (e b : Bool) → standing.in_turns e b ≡ shown e (here_if b)
  turns-shown true true = refl
  turns-shown true false = refl
  turns-shown false true = refl
  turns-shown false false = refl

  turns-sums : (F : Place → Type 0) (e : Bool) (x : Sum) (f : Walks) → Sums x Nowhere f → Sums (in_turns e x) F (λ s own. standing.in_turns e (is_found (f s None)))
  turns-sums F e x f sf s h own fit =
      within-tells e (here Within x) s own (standing.in_turns e (is_found (f s None))) (here-at Within x)
      (ap (standing.in_turns e) (sym (has-sum x f s Within sf h)) ∙ turns-shown e (has s (here Within x)))

  ahead-shown : (b : Bool) → ahead b ≡ shown false (here_if b)
  ahead-shown true = refl
  ahead-shown false = refl

  abbrev open_if : Bool → Partner
  open_if true = partner.Open
  open_if false = partner.Gone

  or-open : (m b : Bool) → or_end_if m true There [] (open_if b) ≡ open_if (m || b)
  or-open true b = refl
  or-open false b = refl

  or-gone : (m : Bool) (r : Partner) → or_end_if m false There [] r ≡ r
  or-gone true r = refl
  or-gone false r = refl

  two-arms : (s : Sought) (d : ℕ) (ds : List ℕ) (r : Partner) → r ≡ open_if (is_arm s ds)
      → or_end_if (same_sought s (sought.Receiver d)) true There [] (or_end_if (same_sought s (sought.Partner d)) true There [] r) ≡ open_if (is_arm s (d ∷ ds))
  two-arms (sought.Receiver c) d ds r h = ap (or_end_if (is_receive (sought.Receiver c) d) true There []) h ∙ or-open (is_receive (sought.Receiver c) d) (has_channel c ds)
  two-arms (sought.Sender c) d ds r h = h
  two-arms (sought.Partner c) d ds r h = ap (or_end_if (same_sought (sought.Partner c) (sought.Partner d)) true There []) h ∙ or-open (same_sought (sought.Partner c) (sought.Partner d)) (has_channel c ds)
  two-arms (sought.Close c) d ds r h = h

  no-arms : (s : Sought) (d : ℕ) (ds : List ℕ) → wants w (channel_of s) ≡ true → wants w d ≡ false → is_arm s ds ≡ is_arm s (d ∷ ds)
  no-arms (sought.Receiver c) d ds h g = sym (ap (λ (b : Bool). b || has_channel c ds) (not-wanted (sought.Receiver c) (sought.Receiver d) d h g refl))
  no-arms (sought.Sender c) d ds h g = refl
  no-arms (sought.Partner c) d ds h g = sym (ap (λ (b : Bool). b || has_channel c ds) (not-wanted (sought.Partner c) (sought.Partner d) d h g refl))
  no-arms (sought.Close c) d ds h g = refl

  arms-elsewhere : (s : Sought) (ds : List ℕ) → wants w (channel_of s) ≡ true → counted s None (arm_ends w ds) ≡ open_if (is_arm s ds)
  arms-elsewhere (sought.Receiver c) [] h = refl
  arms-elsewhere (sought.Sender c) [] h = refl
  arms-elsewhere (sought.Partner c) [] h = refl
  arms-elsewhere (sought.Close c) [] h = refl
  arms-elsewhere s (d ∷ ds) h = pick (arms-elsewhere s ds h) (wants w d) refl
    where
      pick : counted s None (arm_ends w ds) ≡ open_if (is_arm s ds) → (b : Bool) → wants w d ≡ b → counted s None (cond b (sums.there (sought.Receiver d) ∷ sums.there (sought.Partner d) ∷ []) [] ++ arm_ends w ds) ≡ open_if (is_arm s (d ∷ ds))
      pick rest true k = two-arms s d ds (counted s None (arm_ends w ds)) rest
      pick rest false k = rest ∙ ap open_if (no-arms s d ds h k)

  arms-there : (s : Sought) (a : Place) (ds : List ℕ) → counted s (Some a) (arm_ends w ds) ≡ partner.Gone
  arms-there s a [] = refl
  arms-there s a (d ∷ ds) = pick (arms-there s a ds) (wants w d)
    where
      pick : counted s (Some a) (arm_ends w ds) ≡ partner.Gone → (b : Bool) → counted s (Some a) (cond b (sums.there (sought.Receiver d) ∷ sums.there (sought.Partner d) ∷ []) [] ++ arm_ends w ds) ≡ partner.Gone
      pick rest true =
          or-gone (same_sought s (sought.Receiver d)) (or_end_if (same_sought s (sought.Partner d)) false There [] (counted s (Some a) (arm_ends w ds)))
          ∙ or-gone (same_sought s (sought.Partner d)) (counted s (Some a) (arm_ends w ds)) ∙ rest
      pick rest false = rest

  armed-tells : (s : Sought) (own : Option Place) (es : List Placed) (ds : List ℕ) → AllAt Later es → wants w (channel_of s) ≡ true
      → Tells (working false (es ++ arm_ends w ds)) s own (at_arms own (is_arm s ds) (has s es))
  armed-tells s None es ds all h = pick (is_arm s ds) refl
    where
      pick : (b : Bool) → is_arm s ds ≡ b → at_arms None b (has s es) ≡ shown false (counted s None (es ++ arm_ends w ds))
      pick true k = ap (shown false) (sym (open-more s None es (arm_ends w ds) (arms-elsewhere s ds h ∙ ap open_if k)))
      pick false k = ahead-shown (has s es) ∙ ap (shown false) (sym (later-all s es (arm_ends w ds) all (arms-elsewhere s ds h ∙ ap open_if k)))
  armed-tells s (Some a) es ds all h = (sym (later-here s a es (arm_ends w ds) all (arms-there s a ds)), refl)

  within-gathered : (cs : Codes) (s : Sought) (own : Option Place) (b : Bool) → has s (gathered Within (codes_sum w cs)) ≡ b → Tells (tested (codes_sum w cs)) s own (ahead b)
  within-gathered cs s own b h =
      within-tells false (gathered Within (codes_sum w cs)) s own (ahead b) (gathered-at Within (codes_sum w cs))
      (ap ahead (sym h) ∙ ahead-shown (has s (gathered Within (codes_sum w cs))))

  later-gathered : (ds : List ℕ) (cs : Codes) (s : Sought) → wants w (channel_of s) ≡ true → (own : Option Place) (b : Bool) → has s (gathered Later (codes_sum w cs)) ≡ b
      → Tells (armed w ds (codes_sum w cs)) s own (at_arms own (is_arm s ds) b)
  later-gathered ds cs s h own b is =
      subst (λ (t : Bool). Tells (armed w ds (codes_sum w cs)) s own (at_arms own (is_arm s ds) t)) is
      (armed-tells s own (gathered Later (codes_sum w cs)) ds (gathered-at Later (codes_sum w cs)) h)

  -- ---- commands
  mutual
    code-sums : (c : Code) → Sums (code_sum w c) Nowhere (λ s. code_seen s c)
    code-sums continues s h own fit = refl
    code-sums halts s h None fit = refl
    code-sums halts s h (Some a) fit = absurd fit
    code-sums (moves_once o) s h own fit = once-sums Nowhere o s h own fit
    code-sums (may_be_held x) s h own fit = sender-sums Nowhere x s h own fit
    code-sums (repeats g c) s h own fit = turns-sums Nowhere (is_none g) (code_sum w c) (λ t. code_seen t c) (code-sums c) s h own fit
    code-sums (decides d cs) s h own fit = within-gathered cs s own (any_found (codes_seen s cs)) (gathered-has Within cs s h)
    code-sums (awaits ds cs) s h own fit = later-gathered ds cs s h own (any_found (codes_seen s cs)) (gathered-has Later cs s h)
    code-sums (in_turn cs) s h own fit = turn-codes cs 0 s h own fit
    code-sums (side_by_side cs) s h own fit = abreast-codes cs 0 s h own fit
    code-sums (drains c) s h own fit = one-sums Nowhere c (sought.Receiver c) (λ t. is_receive t c) refl (λ t. refl) s h own fit

    gathered-has : (k : Kind) (cs : Codes) (s : Sought) → wants w (channel_of s) ≡ true → has s (gathered k (codes_sum w cs)) ≡ any_found (codes_seen s cs)
    gathered-has k no_code s h = refl
    gathered-has k (code c cs) s h =
        has-append s (here k (code_sum w c)) (gathered k (codes_sum w cs))
        ∙ ap₂ (λ (a b : Bool). a || b) (has-sum (code_sum w c) (λ t. code_seen t c) s k (code-sums c) h) (gathered-has k cs s h)

    turn-codes : (cs : Codes) (n : ℕ) → Sums (sum_in_turn n (codes_sum w cs)) Nowhere (λ s. walk_in_turn n (codes_seen s cs))
    turn-codes no_code n s h own fit = refl
    turn-codes (code c cs) n s h own fit =
        row-sums (Ordered n) (λ t. code_seen t c) (λ t. walk_in_turn (n + 1) (codes_seen t cs)) Nowhere Nowhere Nowhere (λ a f. absurd f) (λ b f t k. f)
        (code_sum w c) (sum_in_turn (n + 1) (codes_sum w cs)) (tail_in_turn (codes_sum w cs)) (code-sums c) (turn-codes cs (n + 1)) (tail-codes cs (n + 1)) s h own fit

    tail-codes : (cs : Codes) (n : ℕ) → Tails (tail_in_turn (codes_sum w cs)) (λ s. walk_in_turn n (codes_seen s cs))
    tail-codes no_code n s h = refl
    tail-codes (code c cs) n s h =
        tail-longer (Ordered n) (λ t. code_seen t c) (λ t. walk_in_turn (n + 1) (codes_seen t cs)) Nowhere (code_sum w c) (tail_in_turn (codes_sum w cs))
        (code-sums c) (tail-codes cs (n + 1)) s h

    abreast-codes : (cs : Codes) (n : ℕ) → Sums (sum_abreast n (codes_sum w cs)) Nowhere (λ s. walk_abreast n (codes_seen s cs))
    abreast-codes no_code n s h own fit = refl
    abreast-codes (code c cs) n s h own fit =
        beside-sums (Branch n) (λ t. code_seen t c) (λ t. walk_abreast (n + 1) (codes_seen t cs)) Nowhere Nowhere Nowhere (λ a f. absurd f) (λ b f t k. f)
        (code_sum w c) (sum_abreast (n + 1) (codes_sum w cs)) (apart-abreast n (codes_sum w cs)) (code-sums c) (abreast-codes cs (n + 1)) s h own fit

  tests-tell : (cs : Codes) (s : Sought) → wants w (channel_of s) ≡ true → (own : Option Place) → Tells (tested (codes_sum w cs)) s own (ahead (any_found (codes_seen s cs)))
  tests-tell cs s h own = within-gathered cs s own (any_found (codes_seen s cs)) (gathered-has Within cs s h)

  arms-tell : (ds : List ℕ) (cs : Codes) (s : Sought) → wants w (channel_of s) ≡ true → (own : Option Place)
      → Tells (armed w ds (codes_sum w cs)) s own (at_arms own (is_arm s ds) (any_found (codes_seen s cs)))
  arms-tell ds cs s h own = later-gathered ds cs s h own (any_found (codes_seen s cs)) (gathered-has Later cs s h)

  again-sums : (g : Option Expression) (c : Code) (F : Place → Type 0) → Sums (again_sum w g c) F (λ s own. again_seen s g c)
  again-sums g c F s h own fit = turns-sums F (is_none g) (code_sum w c) (λ t. code_seen t c) (code-sums c) s h own fit

  abbrev Anywhere : Place → Type 0
  Anywhere a = Unit {0}

  over-sums : (F : Place → Type 0) → Sums finished F (λ s own. over)
  over-sums F s h own fit = refl

  -- ---- processes
  mutual
    pub proc-sums : (p : Proc) → Sums (proc_sum w p) (Fronts p) (λ s. seen s p)
    proc-sums idle s h own fit = refl
    proc-sums stopped s h None fit = refl
    proc-sums stopped s h (Some a) fit = absurd fit.3
    proc-sums (once o true) s h own fit = refl
    proc-sums (once o false) s h own fit = once-sums (Fronts (once o false)) o s h own fit
    proc-sums (sender x waiting) s h own fit = sender-sums (Fronts (sender x waiting)) x s h own fit
    proc-sums (sender x holding) s h own fit = nothing-tells s own
    proc-sums (sender x past) s h own fit = refl
    proc-sums (fresh g c) s h own fit = again-sums g c (Fronts (fresh g c)) s h own fit
    proc-sums (turn g c n q) s h own fit =
        after-sums (Ordered (2 * n + 1)) (λ t. seen t q) (λ t o. again_seen t g c) (Fronts q) Anywhere (Fronts (turn g c n q))
        (λ a f. enter-child (2 * n + 1) q a f.0 f.1 (puts f.0 (again (n + 1) g (residual c))) f.2 f.3) (alive q) (proc_sum w q) (again_sum w g c) (proc-sums q) (again-sums g c Anywhere) s h own fit
    proc-sums (ended_at_once g c) s h own fit = refl
    proc-sums (ended g c n q) s h own fit = refl
    proc-sums (untested d cs) s h own fit = tests-tell cs s h own
    proc-sums (skipped d cs) s h own fit = refl
    proc-sums (took d cs j q) s h own fit =
        after-sums (Ordered 1) (λ t. seen t q) (λ t o. over) (Fronts q) Anywhere (Fronts (took d cs j q))
        (λ a f. enter-child 1 q a f.0 f.1 done f.2 f.3) (alive q) (proc_sum w q) finished (proc-sums q) (over-sums Anywhere) s h own fit
    proc-sums (unopened ds cs) s h own fit = arms-tell ds cs s h own
    proc-sums (entered ds cs c v q) s h own fit =
        after-sums (Ordered 1) (λ t. seen t q) (λ t o. there o (is_close t c)) (Fronts q) Anywhere (Fronts (entered ds cs c v q))
        (λ a f. enter-child 1 q a (with_value c v f.0) f.1 (closing c) f.2 f.3) (alive q) (proc_sum w q) (one w c (sought.Close c)) (proc-sums q)
        (one-sums Anywhere c (sought.Close c) (λ t. is_close t c) refl (λ t. refl)) s h own fit
    proc-sums (closed ds cs c v q) s h own fit = refl
    proc-sums (sequence ps) s h own fit = turn-procs ps 0 s h own fit
    proc-sums (parallel ps) s h own fit = abreast-procs ps 0 s h own fit
    proc-sums (drained c n) s h own fit = one-sums (Fronts (drained c n)) c (sought.Receiver c) (λ t. is_receive t c) refl (λ t. refl) s h own fit

    turn-procs : (ps : Procs) (n : ℕ) → Sums (sum_in_turn n (procs_sum w ps)) (FrontsInTurn n ps) (λ s. walk_in_turn n (procs_seen s ps))
    turn-procs no_procs n s h own fit = refl
    turn-procs (proc p ps) n s h own fit =
        row-sums (Ordered n) (λ t. seen t p) (λ t. walk_in_turn (n + 1) (procs_seen t ps)) (Fronts p) (FrontsInTurn (n + 1) ps) (FrontsInTurn n (proc p ps))
        (λ a f. enter-turn n p ps a f) (alive p) (proc_sum w p) (sum_in_turn (n + 1) (procs_sum w ps)) (tail_in_turn (procs_sum w ps)) (proc-sums p)
        (turn-procs ps (n + 1)) (tail-procs ps (n + 1)) s h own fit

    tail-procs : (ps : Procs) (n : ℕ) → Tails (tail_in_turn (procs_sum w ps)) (λ s. walk_in_turn n (procs_seen s ps))
    tail-procs no_procs n s h = refl
    tail-procs (proc p ps) n s h =
        tail-longer (Ordered n) (λ t. seen t p) (λ t. walk_in_turn (n + 1) (procs_seen t ps)) (Fronts p) (proc_sum w p) (tail_in_turn (procs_sum w ps))
        (proc-sums p) (tail-procs ps (n + 1)) s h

    abreast-procs : (ps : Procs) (n : ℕ) → Sums (sum_abreast n (procs_sum w ps)) (FrontsAbreast n ps) (λ s. walk_abreast n (procs_seen s ps))
    abreast-procs no_procs n s h own fit = refl
    abreast-procs (proc p ps) n s h own fit =
        beside-sums (Branch n) (λ t. seen t p) (λ t. walk_abreast (n + 1) (procs_seen t ps)) (Fronts p) (FrontsAbreast (n + 1) ps) (FrontsAbreast n (proc p ps))
        (λ a f. enter-branch n p ps a f) (alive p) (proc_sum w p) (sum_abreast (n + 1) (procs_sum w ps)) (apart-abreast n (procs_sum w ps)) (proc-sums p)
        (abreast-procs ps (n + 1)) s h own fit

-- before its first move the same is found in a process as in its command
mutual
  pub started-sum : (w : List Bool) (c : Code) → proc_sum w (started c) ≡ code_sum w c
  started-sum w continues = refl
  started-sum w halts = refl
  started-sum w (moves_once o) = refl
  started-sum w (may_be_held x) = refl
  started-sum w (repeats g c) = refl
  started-sum w (decides d cs) = refl
  started-sum w (awaits ds cs) = refl
  started-sum w (in_turn cs) = ap (sum_in_turn 0) (started-sums w cs)
  started-sum w (side_by_side cs) = ap (sum_abreast 0) (started-sums w cs)
  started-sum w (drains c) = refl

  started-sums : (w : List Bool) (cs : Codes) → procs_sum w (all_started cs) ≡ codes_sum w cs
  started-sums w no_code = refl
  started-sums w (code c cs) = ap₂ (λ (x : Sum) (xs : List Sum). x ∷ xs) (started-sum w c) (started-sums w cs)
