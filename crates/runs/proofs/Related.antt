-- The ordering law: of two related events of one run, the earlier has an address before an address of the later.
use Rattle.std.proofs.Common.{◌≡◌, ◌⊎◌, ℕ, ◌+◌, ◌≤◌, List, [], ◌∷◌, ◌++◌, Some, true, false, Bool, inl, inr, ⊎_elim, sym, refl, subst, arith, le_trans, append_assoc}
use Rattle.syntax.specs.Lists.{In}
use Rattle.address.specs.Places.{Before, Apart}
use Rattle.system.specs.Residual.{Residual}
use Rattle.runs.specs.Events.{Located, Makes, places}
use Rattle.runs.specs.Steps.{State, Moves, Step, Run}
use Rattle.system.specs.Expression.{Store}
use Rattle.runs.specs.Dependence.{SomeBefore}
use Rattle.sharing_rule.specs.Measure.{Measure, amount, sending, syncing}
use Rattle.runs.proofs.public.SharingWidths.{on_variable, KeepsSharing}
use Rattle.runs.specs.Related.{WritesOwn, Related}
use Rattle.runs.specs.declared.event.Event.{Event}
use Rattle.runs.proofs.public.WellFormed.{WellFormed}
use Rattle.runs.proofs.Clear.{Clear, ever}
use Rattle.runs.proofs.Adding.{AddsUp, sums, variables_add_up}
use Rattle.runs.proofs.Amounts.{kept}
use Rattle.runs.proofs.public.Kept.{formed}
use Rattle.runs.proofs.public.Once.{moves-join}
use Rattle.runs.proofs.public.Lists.{every-in, in-right}
use Rattle.runs.proofs.Later.{later_of}
use Rattle.runs.proofs.Clash.{count, clash}
use Rattle.runs.proofs.Three.{three}
use Rattle.runs.proofs.public.AtOnce.{offered_before}
use Rattle.runs.proofs.Uses.{Uses, sender, two, writer, user}

-- the first move is before a later one, or their counts add up
first_clash : (M : Measure) → AddsUp M.together → (x : Located) (zs : List Located) (r q : Residual) → WellFormed r → Moves r (x ∷ zs) q →
    (k : Located) → In k zs → Before x.place k.place ⊎ (M.together (count M x.move) (count M k.move) ≤ amount M r)
first_clash M A x zs r q w (t, h, hs) k j =
    let later = later_of t q zs k hs j in
    ⊎_elim inl
    (λ p. inr (clash M A r x.place x.move t (x ∷ later.0) k.place k.move w h (t, h, later.1) p))
    (every-in (λ y. Clear x.place y.place) zs k (ever r q x zs w (t, h, hs)) j)

-- a move of the first list is before one of the second, or their counts add up
pub pair_clash : (M : Measure) → AddsUp M.together → (xs ys : List Located) (r q : Residual) → WellFormed r → Moves r (xs ++ ys) q →
    (l k : Located) → In l xs → In k ys → Before l.place k.place ⊎ (M.together (count M l.move) (count M k.move) ≤ amount M r)
pair_clash M A [] ys r q w h l k i j = elim i [ ]
pair_clash M A (x ∷ xs) ys r q w h l k (inl e) j =
    subst (λ y. Before y.place k.place ⊎ (M.together (count M y.move) (count M k.move) ≤ amount M r)) (sym e)
    (first_clash M A x (xs ++ ys) r q w h k (in-right k xs ys j))
pair_clash M A (x ∷ xs) ys r q w (t, h, hs) l k (inr i) j =
    ⊎_elim inl (λ n. inr (le_trans n (kept M A r x.place x.move t h)))
    (pair_clash M A xs ys t q (formed r x.place x.move t w h) hs l k i j)

-- one of two moves apart is before a later one, or the counts of the three add up
three_clash : (d : ℕ) (x y : Located) (zs : List Located) (r q : Residual) → WellFormed r → Moves r (x ∷ y ∷ zs) q → Apart x.place y.place →
    (k : Located) → In k zs →
    Before x.place k.place ⊎ Before y.place k.place ⊎ (count (syncing d) x.move + count (syncing d) y.move + count (syncing d) k.move ≤ amount (syncing d) r)
three_clash d x y zs r q w (t, h, (s, g, hs)) p k j =
    let later = later_of s q zs k hs j in
    let now = offered_before r t s x y w p h g in
    ⊎_elim inl
    (λ p'. ⊎_elim (λ b. inr (inl b))
    (λ p''. inr (inr (three d r x.place x.move t y.place y.move now.0 (x ∷ y ∷ later.0) k.place k.move w h now.1 (t, h, (s, g, later.1)) p p' p'')))
    (every-in (λ z. Clear y.place z.place) zs k (ever t q y zs (formed r x.place x.move t w h) (s, g, hs)) j))
    (every-in (λ z. Clear x.place z.place) (y ∷ zs) k (ever r q x (y ∷ zs) w (t, h, (s, g, hs))) (inr j))

-- of a use by f and a later use by e, one is before the other, or their counts add up
uses_clash : (M : Measure) → AddsUp M.together → (xs ys : List Located) (r q : Residual) (f e : Event) (n k : ℕ) →
    WellFormed r → Moves r (xs ++ ys) q → Uses M xs f n → ((l : Located) × In l ys × In l.place (places e) × (k ≤ count M l.move)) →
    SomeBefore f e ⊎ (M.together n k ≤ amount M r)
uses_clash M A xs ys r q f e n k w h u v =
    ⊎_elim (λ b. inl (u.0.place, v.0.place, u.2, v.2, b)) (λ c. inr (le_trans (A.more _ _ _ _ u.3 v.3) c))
    (pair_clash M A xs ys r q w h u.0 v.0 u.1 v.1)

-- the moves of an event e that a run of h from S comes to
pub record Comes (S : State) (e : Event) : Type 0 where
  pub state : State
  pub before : List Located
  pub own : List Located
  pub last : Residual
  pub makes : Makes state.store own e
  pub moved : Moves S.residual (before ++ own) last

-- each event of a run has moves that the run comes to
pub comes : (h : List Event) (S T : State) (e : Event) → Run S h T → In e h → Comes S e
comes [] S T e run i = elim i [ ]
comes (x ∷ h) S T e (U, step, run) (inl same) =
    record { state = S; before = []; own = step.moves; last = U.residual; makes = subst (Makes S.store step.moves) (sym same) step.makes; moved = step.moved }
comes (x ∷ h) S T e (U, step, run) (inr i) =
    let c = comes h U T e run i in
    record {
      state = c.state;
      before = step.moves ++ c.before;
      own = c.own;
      last = c.last;
      makes = c.makes;
      moved = subst (λ ls. Moves S.residual ls c.last) (sym (append_assoc step.moves c.before c.own))
          (moves-join S.residual U.residual c.last step.moves (c.before ++ c.own) step.moved c.moved);
    }

-- a use by e among the moves of the run
coming : (M : Measure) (before own : List Located) (e : Event) (k : ℕ) → Uses M own e k → Uses M (before ++ own) e k
coming M before own e k u = (u.0, in-right u.0 before own u.1, u.2, u.3)

-- a data channel: a sender is before the next
on_data : (is_sync is_shared : ℕ → Bool) (r q : Residual) (s u : Store) (ls ks ms : List Located) (f e : Event) (c : ℕ) →
    KeepsSharing is_sync is_shared r → WellFormed r → is_sync c ≡ false → Makes s ls f → Makes u ks e → Moves r (ls ++ (ms ++ ks)) q →
    f.channel ≡ Some c → e.channel ≡ Some c → SomeBefore f e
on_data is_sync is_shared r q s u ls ks ms f e c K w with_data m n h p p' =
    ⊎_elim (λ b. b) (λ many. let limit = (K.data_channels c with_data).one_sender in absurd (omega arith))
    (uses_clash (sending c) sums ls (ms ++ ks) r q f e 1 1 w h (sender s ls f c m p) (coming (sending c) ms ks e 1 (sender u ks e c n p')))

-- a channel without data: one of two users is before the third
on_sync : (is_sync is_shared : ℕ → Bool) (r q : Residual) (s u : Store) (ls ks ms : List Located) (f e : Event) (c : ℕ) →
    KeepsSharing is_sync is_shared r → WellFormed r → is_sync c ≡ true → Makes s ls f → Makes u ks e → Moves r (ls ++ (ms ++ ks)) q →
    f.channel ≡ Some c → e.channel ≡ Some c → SomeBefore f e
on_sync is_sync is_shared r q s u ls ks ms f e c K w none m n h p p' =
    let t = two s ls f c m p in
    let t' = two u ks e c n p' in
    ⊎_elim (λ b. (t.one.place, t'.one.place, t.of_one, t'.of_one, b))
    (⊎_elim (λ b. (t.other.place, t'.one.place, t.of_other, t'.of_one, b))
    (λ many.
    let limit = K.sync_channels c none in
    let one = t.counts_one in
    let other = t.counts_other in
    let third = t'.counts_one in
    absurd (omega arith)))
    (three_clash c t.one t.other (ms ++ ks) r q w (subst (λ l. Moves r (l ++ (ms ++ ks)) q) t.both h) t.apart
    t'.one (in-right t'.one ms ks (subst (In t'.one) (sym t'.both) (inl refl))))

-- a channel of either kind
on_channel : (is_sync is_shared : ℕ → Bool) (r q : Residual) (s u : Store) (ls ks ms : List Located) (f e : Event) (c : ℕ) →
    KeepsSharing is_sync is_shared r → WellFormed r → (b : Bool) → is_sync c ≡ b → Makes s ls f → Makes u ks e → Moves r (ls ++ (ms ++ ks)) q →
    f.channel ≡ Some c → e.channel ≡ Some c → SomeBefore f e
on_channel is_sync is_shared r q s u ls ks ms f e c K w true kind = on_sync is_sync is_shared r q s u ls ks ms f e c K w kind
on_channel is_sync is_shared r q s u ls ks ms f e c K w false kind = on_data is_sync is_shared r q s u ls ks ms f e c K w kind

-- a variable that is not shared: a writer is before another user, and a user before a writer
on_variable_first : (is_sync is_shared : ℕ → Bool) (r q : Residual) (s u : Store) (ls ks ms : List Located) (f e : Event) →
    KeepsSharing is_sync is_shared r → WellFormed r → Makes s ls f → Makes u ks e → Moves r (ls ++ (ms ++ ks)) q → WritesOwn is_shared f e → SomeBefore f e
on_variable_first is_sync is_shared r q s u ls ks ms f e K w m n h (x, own, writes, uses) =
    ⊎_elim (λ b. b) (λ many. let limit = K.variables x own in absurd (omega arith))
    (uses_clash (on_variable x) variables_add_up ls (ms ++ ks) r q f e 2 1 w h (writer s ls f x m writes)
    (coming (on_variable x) ms ks e 1 (user u ks e x n uses)))

-- and the other way round
on_variable_second : (is_sync is_shared : ℕ → Bool) (r q : Residual) (s u : Store) (ls ks ms : List Located) (f e : Event) →
    KeepsSharing is_sync is_shared r → WellFormed r → Makes s ls f → Makes u ks e → Moves r (ls ++ (ms ++ ks)) q → WritesOwn is_shared e f → SomeBefore f e
on_variable_second is_sync is_shared r q s u ls ks ms f e K w m n h (x, own, writes, uses) =
    ⊎_elim (λ b. b) (λ many. let limit = K.variables x own in absurd (omega arith))
    (uses_clash (on_variable x) variables_add_up ls (ms ++ ks) r q f e 1 2 w h (user s ls f x m uses)
    (coming (on_variable x) ms ks e 2 (writer u ks e x n writes)))

-- an event that is possible now has an address before an address of each later event to which it is related
pub ordered_now : (is_sync is_shared : ℕ → Bool) (S T U : State) (h : List Event) (f e : Event) →
    KeepsSharing is_sync is_shared S.residual → WellFormed S.residual → Step S f U → Run U h T → In e h → Related is_shared f e → SomeBefore f e
ordered_now is_sync is_shared S T U h f e K w step run i related =
    let c = comes h U T e run i in
    let all = moves-join S.residual U.residual c.last step.moves (c.before ++ c.own) step.moved c.moved in
    ⊎_elim
    (λ p. on_channel is_sync is_shared S.residual c.last S.store c.state.store step.moves c.own c.before f e p.0 K w
    (is_sync p.0) refl step.makes c.makes all p.1 p.2)
    (⊎_elim
    (λ v. on_variable_first is_sync is_shared S.residual c.last S.store c.state.store step.moves c.own c.before f e K w step.makes c.makes all v)
    (λ v. on_variable_second is_sync is_shared S.residual c.last S.store c.state.store step.moves c.own c.before f e K w step.makes c.makes all v))
    related
