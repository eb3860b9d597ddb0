-- Tree, values and inverses stand for the run of the live events: at the beginning, with one event more, and with one less.
use Rattle.std.proofs.Common.{◌≡◌, inl, inr, ℕ, suc, ◌+◌, ◌<◌, ◌≤◌, List, [], ◌∷◌, ◌++◌, length, take, drop, get_or, Option, Some, IsSome, refl, sym, ◌∙◌, ap, subst, slice_get, arith, length-append}
use Rattle.std.proofs.lemmas.List.{length_push, length-take-le}
use Rattle.syntax.specs.Lists.{In}
use Rattle.sharing_check.specs.declared.checked.Checked.{Checked}
use Rattle.sharing_rule.specs.Rule.{SharesWell}
use Rattle.runs.specs.Dependence.{Directly}
use Rattle.runs.specs.Steps.{Allowed, opening}
use Rattle.runs.specs.Live.{Live, events, Rising, LiveAt, same, later, NoDependent, WithoutTickets}
use Rattle.runs.specs.Object.{Object, Reaches, most_live, last_ticket, with_event}
use Rattle.runs.specs.declared.event.Event.{Event}
use Rattle.runs.specs.Commands.{Command, Reply}
use Rattle.runs.proofs.public.Effects.{added, effect-sound, does-sound, reaches-more, sound-formed}
use Rattle.runs.proofs.public.Orders.{run-formed}
use Rattle.runs.proofs.public.ReadyLists.{ready-list}
use Rattle.runs.specs.Ready.{ReadyList}
use Rattle.runs.proofs.public.Tickets.{events-join, in-event, rising-in, rising-one, rising-parts}
use Rattle.runs.proofs.public.Lists.{in-right}
use Rattle.runs.proofs.public.ObjectLaws.{begins-sound}
use Rattle.system.specs.Translation.{opening_store}
use Rattle.process_tree.specs.Proc.{started}
use Rattle.process_tree.specs.Tidy.{Tidy}
use Rattle.channel_uses.specs.StemsFrom.{StemsFrom}
use Rattle.channel_uses.specs.declared.table.ChannelUses.{ChannelUses}
use Rattle.channel_uses.proofs.public.RunStems.{runs-keep-origin}
use Rattle.process_tree.specs.Translation.{system_code}
use Rattle.event_inverse.specs.Grown.{TreeAndStore, Taken, Records, StandFor, state_of_tree, opening_tree, applied}
use Rattle.event_inverse.specs.Laws.{UndoneBy}
use Rattle.event_inverse.specs.View.{inverse_view}
use Rattle.event_inverse.specs.declared.record.Inverse.{Inverse}
use Rattle.event_inverse.specs.internal.Reverted.{reverted}
use Rattle.event_inverse.proofs.public.FromOpening.{trees-open-alike, one-more, undone-by-records}
use Rattle.event_inverse.proofs.public.Neighbours.{applies, reverts}
use Rattle.event_inverse.proofs.public.TidyRuns.{runs-are-tidy}
use Rattle.dependence.specs.Behind.{ComesBehind}
use Rattle.dependence.proofs.public.RunOrder.{last-comes-behind}
use Rattle.machine.specs.internal.Histories.{tree_of, with_inverses, Stands, Holds, KnowsUses, IsSearched}
use Rattle.machine.specs.declared.history.History.{History}
use Rattle.machine.proofs.public.Entries.{parts-at, item-at, within-at}
use Rattle.machine.proofs.Withouts.{without-entry, one-left}

-- lists of events with their inverses, joined
with-join : (es fs : List Event) (is js : List Inverse) → length is ≡ length es → with_inverses (es ++ fs) (is ++ js) ≡ with_inverses es is ++ with_inverses fs js
with-join [] fs [] js h = refl
with-join [] fs (i ∷ is) js h = absurd (omega arith)
with-join (e ∷ es) fs [] js h = absurd (omega arith)
with-join (e ∷ es) fs (i ∷ is) js h =
    let rest : length is ≡ length es = omega arith in ap (λ (k : Records). (e, inverse_view i) ∷ k) (with-join es fs is js rest)

with-length : (es : List Event) (is : List Inverse) → length is ≡ length es → length (with_inverses es is) ≡ length es
with-length [] is h = refl
with-length (e ∷ es) [] h = absurd (omega arith)
with-length (e ∷ es) (i ∷ is) h = let rest : length is ≡ length es = omega arith in ap suc (with-length es is rest)

events-length : (l : Live) → length (events l) ≡ length l
events-length [] = refl
events-length (x ∷ l) = ap suc (events-length l)

-- before the first event
pub stands-new : (checked : Checked) (T : TreeAndStore) (l : Live) (is : List Inverse) → T.proc ≡ started (system_code checked) → T.store ≡ opening_store checked →
    l ≡ [] → is ≡ [] → Stands checked T l is 1
stands-new checked T l is ip is_store il ii =
    let opens : opening_tree checked ≡ T = λ i. record { proc = sym ip i; store = sym is_store i } in
    let begun : Stands checked (opening_tree checked) [] [] 1 = record {
      sound = begins-sound checked;
      run = record { runs = sym (trees-open-alike checked); grows = refl };
      even = refl;
    } in
    subst (λ (m : Live). Stands checked T m is 1) (sym il)
    (subst (λ (js : List Inverse). Stands checked T [] js 1) (sym ii)
    (subst (λ (U : TreeAndStore). Stands checked U [] [] 1) opens begun))

-- the state of the tree is that to which the live events lead
pub stands-reaches : (checked : Checked) (T : TreeAndStore) (l : Live) (is : List Inverse) (n : ℕ) → Stands checked T l is n →
    Reaches (record { opening = opening checked; live = l; next = n }) (state_of_tree T)
stands-reaches checked T l is n s = s.run.runs

-- the tree is tidy
pub stands-tidy : (checked : Checked) (T : TreeAndStore) (l : Live) (is : List Inverse) (n : ℕ) → Stands checked T l is n → Tidy T.proc
stands-tidy checked T l is n s = runs-are-tidy checked (events l) T (with_inverses (events l) is) s.run

-- it stems from the command of the system
pub stands-stems : (checked : Checked) (T : TreeAndStore) (l : Live) (is : List Inverse) (n : ℕ) → Stands checked T l is n → StemsFrom T.proc (system_code checked)
stands-stems checked T l is n s = runs-keep-origin checked (events l) T (with_inverses (events l) is) s.run

-- so its events are found by the uses of channels
pub stands-searched : (checked : Checked) (h : History) (uses : ChannelUses) → Holds checked h → KnowsUses checked uses → IsSearched h uses
stands-searched checked h uses s known = record {
  code = system_code checked;
  table = known;
  stems = stands-stems checked (tree_of h) h.live.live h.inverses h.next s;
  tidy = stands-tidy checked (tree_of h) h.live.live h.inverses h.next s;
}

-- there is a list of what is ready
pub stands-ready : (checked : Checked) (T : TreeAndStore) (l : Live) (is : List Inverse) (n : ℕ) → Stands checked T l is n → (es : List Event) × ReadyList (state_of_tree T) es
stands-ready checked T l is n s =
    ready-list (state_of_tree T) (run-formed (opening checked) (state_of_tree T) (events l)
    (sound-formed (record { opening = opening checked; live = l; next = n }) s.sound) s.run.runs)

-- an option with something in it
some-then : {X : Type 0} (o : Option X) (x : X) → o ≡ Some x → IsSome o
some-then {X = X} o x is = subst (λ (p : Option X). IsSome p) (sym is) refl

-- an event that is allowed is possible, and comes behind the live ones
pub allowed-applies : (T : TreeAndStore) (e : Event) → Allowed (state_of_tree T) e → IsSome (applied T e)
allowed-applies T e a = let x = applies T e a.0 a.1 in some-then (applied T e) x.0 x.1

pub allowed-behind : (checked : Checked) (T : TreeAndStore) (l : Live) (is : List Inverse) (n : ℕ) (e f : Event) → SharesWell checked → Stands checked T l is n →
    Allowed (state_of_tree T) e → f ≡ e → ComesBehind l f
allowed-behind checked T l is n e f shares s a one =
    subst (λ (g : Event). ComesBehind l g) (sym one) (last-comes-behind checked l n e a.0 shares
    (reaches-more (record { opening = opening checked; live = l; next = n }) e (state_of_tree T) a.0 s.run.runs a.1))

-- the event that was made last can be taken back
pub last-reverts : (S T : TreeAndStore) (e f : Event) (i : Inverse) → applied S e ≡ Some (T, inverse_view i) → f ≡ e → IsSome (reverted T f (inverse_view i))
last-reverts S T e f i made one =
    subst (λ (g : Event). IsSome (reverted T g (inverse_view i))) (sym one) (some-then (reverted T e (inverse_view i)) S (reverts S e (T, inverse_view i) made))

pub below-next : (checked : Checked) (T : TreeAndStore) (l : Live) (is : List Inverse) (n : ℕ) → Stands checked T l is n → (t : ℕ) (e : Event) → LiveAt l t e → t < n
below-next checked T l is n s t e i = (rising-in 1 n l t e s.sound.rising i).1

-- one event more
more-here : (checked : Checked) (T U : TreeAndStore) (l : Live) (is : List Inverse) (n : ℕ) (e : Event) (i : Inverse) → Stands checked T l is n →
    Allowed (state_of_tree T) e → length l < most_live → n ≤ last_ticket → applied T e ≡ Some (U, inverse_view i) →
    Stands checked U (l ++ (n, e) ∷ []) (is ++ i ∷ []) (suc n)
more-here checked T U l is n e i s a room unspent made =
    let o : Object = record { opening = opening checked; live = l; next = n } in
    let even : length is ≡ length (events l) = s.even ∙ sym (events-length l) in
    let run : StandFor checked (events l ++ e ∷ []) U (with_inverses (events l) is ++ (e, inverse_view i) ∷ []) =
    one-more checked (events l) T (with_inverses (events l) is) e (U, inverse_view i) s.run a made in
    let joined : StandFor checked (events l ++ e ∷ []) U (with_inverses (events l ++ e ∷ []) (is ++ i ∷ [])) =
    subst (λ (r : Records). StandFor checked (events l ++ e ∷ []) U r) (sym (with-join (events l) (e ∷ []) is (i ∷ []) even)) run in
    record {
      sound = effect-sound o (with_event o e) s.sound (added e (state_of_tree T) s.run.runs a room unspent refl);
      run = subst (λ (h : List Event). StandFor checked h U (with_inverses h (is ++ i ∷ []))) (sym (events-join l ((n, e) ∷ []))) joined;
      even = (let one = length_push is i in let other = length_push l (n, e) in let old = s.even in omega arith);
    }

pub stands-more : (checked : Checked) (T U V : TreeAndStore) (l l' : Live) (is is' : List Inverse) (n n' : ℕ) (e f : Event) (i : Inverse) → Stands checked T l is n →
    Allowed (state_of_tree T) e → length l < most_live → n ≤ last_ticket → applied T e ≡ Some (U, inverse_view i) →
    f ≡ e → V ≡ U → l' ≡ l ++ (n, f) ∷ [] → is' ≡ is ++ i ∷ [] → n' ≡ suc n → Stands checked V l' is' n'
stands-more checked T U V l l' is is' n n' e f i s a room unspent made ef eu el ei en =
    subst (λ (m : ℕ). Stands checked V l' is' m) (sym en)
    (subst (λ (js : List Inverse). Stands checked V l' js (suc n)) (sym ei)
    (subst (λ (k : Live). Stands checked V k (is ++ i ∷ []) (suc n)) (sym (el ∙ ap (λ (g : Event). l ++ (n, g) ∷ []) ef))
    (subst (λ (W : TreeAndStore). Stands checked W (l ++ (n, e) ∷ []) (is ++ i ∷ []) (suc n)) (sym eu) (more-here checked T U l is n e i s a room unspent made))))

-- the same, where nothing has changed
pub stands-same : (checked : Checked) (T U : TreeAndStore) (l l' : Live) (is is' : List Inverse) (n n' : ℕ) → Stands checked T l is n → U ≡ T → l' ≡ l → is' ≡ is → n' ≡ n →
    Stands checked U l' is' n'
stands-same checked T U l l' is is' n n' s eu el ei en =
    subst (λ (m : ℕ). Stands checked U l' is' m) (sym en)
    (subst (λ (js : List Inverse). Stands checked U l' js n) (sym ei)
    (subst (λ (k : Live). Stands checked U k is n) (sym el) (subst (λ (V : TreeAndStore). Stands checked V l is n) (sym eu) s)))

-- none behind the event of ticket t depends directly on it, where none depends on it
none-behind : (next : ℕ) (before after : Live) (t : ℕ) (e : Event) → Rising 1 (before ++ (t, e) ∷ after) next → NoDependent (before ++ (t, e) ∷ after) t →
    (f : Event) → In f (events after) → Directly e f → ⊥
none-behind next before after t e r alone f i d =
    let l : Live = before ++ (t, e) ∷ after in
    let at = in-event after f i in
    let u : ℕ = at.0 in
    let rest : Rising (suc t) after next = (rising-parts 1 next before ((t, e) ∷ after) r).2.1 in
    let above : suc t ≤ u = (rising-in (suc t) next after u f rest at.1).0 in
    let less : t < u = omega arith in
    let here : LiveAt l t e = in-right (t, e) before ((t, e) ∷ after) (inl refl) in
    let there : LiveAt l u f = in-right (u, f) before ((t, e) ∷ after) (inr at.1) in
    let is : u ≡ t = alone u f there (later e f same here there less d) in
    omega arith

-- the entry at a place
pub live-at : (l : Live) (t i : ℕ) (e : Event) → slice_get l i ≡ Some (t, e) → LiveAt l t e
live-at l t i e at =
    subst (λ (k : Live). LiveAt k t e) (sym (parts-at l i (t, e) at)) (in-right (t, e) (take i l) ((t, e) ∷ drop (suc i) l) (inl refl))

-- one event less: the lists split at its place
record Split (l k : Live) (is js : List Inverse) (t : ℕ) (e : Event) (x : Inverse) : Type 0 where
  pub before : Live
  pub after : Live
  pub earlier : List Inverse
  pub behind : List Inverse
  pub live : l ≡ before ++ (t, e) ∷ after
  pub left : k ≡ before ++ after
  pub inverses : is ≡ earlier ++ x ∷ behind
  pub others : js ≡ earlier ++ behind
  pub even : length earlier ≡ length before

parted : (checked : Checked) (T : TreeAndStore) (n t : ℕ) (e : Event) (x : Inverse) (before after : Live) (earlier behind : List Inverse) →
    Stands checked T (before ++ (t, e) ∷ after) (earlier ++ x ∷ behind) n → length earlier ≡ length (events before) →
    StandFor checked (events before ++ e ∷ events after) T (with_inverses (events before) earlier ++ (e, inverse_view x) ∷ with_inverses (events after) behind)
parted checked T n t e x before after earlier behind s sizes =
    let es : List Event = events before in
    let fs : List Event = events after in
    let split : StandFor checked (es ++ e ∷ fs) T (with_inverses (es ++ e ∷ fs) (earlier ++ x ∷ behind)) =
    subst (λ (h : List Event). StandFor checked h T (with_inverses h (earlier ++ x ∷ behind))) (events-join before ((t, e) ∷ after)) s.run in
    subst (λ (r : Records). StandFor checked (es ++ e ∷ fs) T r) (with-join es (e ∷ fs) earlier (x ∷ behind) sizes) split

less-here : (checked : Checked) (T U : TreeAndStore) (n t : ℕ) (e : Event) (x : Inverse) (before after : Live) (earlier behind : List Inverse) →
    Stands checked T (before ++ (t, e) ∷ after) (earlier ++ x ∷ behind) n → length earlier ≡ length before → NoDependent (before ++ (t, e) ∷ after) t →
    UndoneBy T (e, inverse_view x) U → StandFor checked (events (before ++ after)) U (with_inverses (events (before ++ after)) (earlier ++ behind))
less-here checked T U n t e x before after earlier behind s even alone undone =
    let es : List Event = events before in
    let fs : List Event = events after in
    let sizes : length earlier ≡ length es = even ∙ sym (events-length before) in
    let without : StandFor checked (es ++ fs) U (with_inverses es earlier ++ with_inverses fs behind) =
    undone checked es fs (with_inverses es earlier) (with_inverses fs behind) (parted checked T n t e x before after earlier behind s sizes)
    (with-length es earlier sizes) (none-behind n before after t e s.sound.rising alone) in
    subst (λ (h : List Event). StandFor checked h U (with_inverses h (earlier ++ behind))) (sym (events-join before after))
    (subst (λ (r : Records). StandFor checked (es ++ fs) U r) (sym (with-join es fs earlier behind sizes)) without)

-- equal lists agree at the same place
same-place : {X : Type 0} (us : List X) (v : X) (vs xs : List X) (y : X) (ys : List X) → length us ≡ length xs → xs ++ y ∷ ys ≡ us ++ v ∷ vs → y ≡ v
same-place [] v vs [] y ys l e = ap (λ zs. get_or zs 0 y) e
same-place [] v vs (x ∷ xs) y ys l e = absurd (omega (arith, l))
same-place (u ∷ us) v vs [] y ys l e = absurd (omega (arith, l))
same-place (u ∷ us) v vs (x ∷ xs) y ys l e = same-place us v vs xs y ys (omega (arith, l)) (ap (drop 1) e)

revert-here : (checked : Checked) (T : TreeAndStore) (n t : ℕ) (e : Event) (x : Inverse) (before after : Live) (earlier behind : List Inverse) →
    Stands checked T (before ++ (t, e) ∷ after) (earlier ++ x ∷ behind) n → length earlier ≡ length before → NoDependent (before ++ (t, e) ∷ after) t →
    IsSome (reverted T e (inverse_view x))
revert-here checked T n t e x before after earlier behind s even alone =
    let es : List Event = events before in
    let fs : List Event = events after in
    let sizes : length earlier ≡ length es = even ∙ sym (events-length before) in
    let records : Records = with_inverses es earlier ++ (e, inverse_view x) ∷ with_inverses fs behind in
    let u = undone-by-records checked es fs e T records (parted checked T n t e x before after earlier behind s sizes)
    (none-behind n before after t e s.sound.rising alone) in
    let one : (e, inverse_view x) ≡ (e, u.taken) =
    same-place u.earlier (e, u.taken) u.later (with_inverses es earlier) (e, inverse_view x) (with_inverses fs behind)
    (u.placed ∙ sym (with-length es earlier sizes)) u.found in
    some-then (reverted T e (inverse_view x)) u.tree (ap (λ (y : Event × Taken). reverted T e y.1) one ∙ u.reverts)

less-split : (checked : Checked) (T U : TreeAndStore) (l k : Live) (is js : List Inverse) (n t : ℕ) (e : Event) (x : Inverse) → Stands checked T l is n →
    (p : Split l k is js t e x) → NoDependent l t → WithoutTickets (λ v. v ≡ t) l k → LiveAt l t e → UndoneBy T (e, inverse_view x) U → Stands checked U k js n
less-split checked T U l k is js n t e x s p alone w i undone =
    let o : Object = record { opening = opening checked; live = l; next = n } in
    let o' : Object = record { opening = opening checked; live = k; next = n } in
    let there : Stands checked T (p.before ++ (t, e) ∷ p.after) (p.earlier ++ x ∷ p.behind) n = stands-same checked T T l _ is _ n n s refl (sym p.live) (sym p.inverses) refl in
    let run = less-here checked T U n t e x p.before p.after p.earlier p.behind there p.even (subst (λ (m : Live). NoDependent m t) p.live alone) undone in
    record {
      sound = does-sound o (Command.Undo t) (Reply.Undone t e) o' s.sound (refl, i, alone, (k, w, refl));
      run =
          subst (λ (m : Live). StandFor checked (events m) U (with_inverses (events m) js)) (sym p.left)
          (subst (λ (m : List Inverse). StandFor checked (events (p.before ++ p.after)) U (with_inverses (events (p.before ++ p.after)) m)) (sym p.others) run);
      even =
          (let one : length is ≡ length p.earlier + suc (length p.behind) = ap length p.inverses ∙ length-append p.earlier (x ∷ p.behind) in
          let two : length js ≡ length p.earlier + length p.behind = ap length p.others ∙ length-append p.earlier p.behind in
          let three : length l ≡ length p.before + suc (length p.after) = ap length p.live ∙ length-append p.before ((t, e) ∷ p.after) in
          let four : length k ≡ length p.before + length p.after = ap length p.left ∙ length-append p.before p.after in
          let old = s.even in
          let both = p.even in
          omega arith);
    }

-- the split at the place of the event
split-at : (checked : Checked) (T : TreeAndStore) (l k : Live) (is js : List Inverse) (n t place : ℕ) (e : Event) (x : Inverse) → Stands checked T l is n →
    slice_get l place ≡ Some (t, e) → x ≡ get_or is place x → k ≡ take place l ++ drop (suc place) l → js ≡ take place is ++ drop (suc place) is → Split l k is js t e x
split-at checked T l k is js n t place e x s at taken left others =
    let inside : place < length l = within-at l place (t, e) at in
    let even = s.even in
    let within : place < length is = omega arith in
    let near : place ≤ length l = omega arith in
    let close : place ≤ length is = omega arith in
    record {
      before = take place l;
      after = drop (suc place) l;
      earlier = take place is;
      behind = drop (suc place) is;
      live = parts-at l place (t, e) at;
      left = left;
      inverses = parts-at is place x (item-at is place x within taken);
      others = others;
      even = length-take-le place is close ∙ sym (length-take-le place l near);
    }

-- the event at the place is the one of the ticket
event-at : (l : Live) (n t place : ℕ) (e f : Event) → Rising 1 l n → slice_get l place ≡ Some (t, e) → LiveAt l t f → f ≡ e
event-at l n t place e f r at i = rising-one 1 n l t f e r i (live-at l t place e at)

-- its inverse can take it back
pub can-revert : (checked : Checked) (T : TreeAndStore) (l : Live) (is : List Inverse) (n t place : ℕ) (e f : Event) (x : Inverse) → Stands checked T l is n →
    slice_get l place ≡ Some (t, e) → NoDependent l t → LiveAt l t f → x ≡ get_or is place x → IsSome (reverted T f (inverse_view x))
can-revert checked T l is n t place e f x s at alone i taken =
    let p = split-at checked T l _ is _ n t place e x s at taken refl refl in
    let there : Stands checked T (p.before ++ (t, e) ∷ p.after) (p.earlier ++ x ∷ p.behind) n = stands-same checked T T l _ is _ n n s refl (sym p.live) (sym p.inverses) refl in
    subst (λ (g : Event). IsSome (reverted T g (inverse_view x))) (sym (event-at l n t place e f s.sound.rising at i))
    (revert-here checked T n t e x p.before p.after p.earlier p.behind there p.even (subst (λ (m : Live). NoDependent m t) p.live alone))

-- the list has its place
pub place-within : (checked : Checked) (T : TreeAndStore) (l : Live) (is : List Inverse) (n t place : ℕ) (e : Event) → Stands checked T l is n →
    slice_get l place ≡ Some (t, e) → place < length is
place-within checked T l is n t place e s at = let inside = within-at l place (t, e) at in let even = s.even in omega arith

pub stands-less : (checked : Checked) (T U : TreeAndStore) (l k : Live) (is js : List Inverse) (n t place : ℕ) (e f : Event) (x : Inverse) → Stands checked T l is n →
    slice_get l place ≡ Some (t, e) → NoDependent l t → WithoutTickets (λ v. v ≡ t) l k → LiveAt l t f → x ≡ get_or is place x →
    js ≡ take place is ++ drop (suc place) is → UndoneBy T (f, inverse_view x) U → Stands checked U k js n
stands-less checked T U l k is js n t place e f x s at alone w i taken rest undone =
    let parts = parts-at l place (t, e) at in
    let entry : WithoutTickets (λ v. v ≡ t) l (take place l ++ drop (suc place) l) =
    subst (λ (m : Live). WithoutTickets (λ v. v ≡ t) m (take place l ++ drop (suc place) l)) (sym parts)
    (without-entry 1 n (take place l) (drop (suc place) l) t e (subst (λ (m : Live). Rising 1 m n) parts s.sound.rising)) in
    less-split checked T U l k is js n t e x s
    (split-at checked T l k is js n t place e x s at taken (one-left (λ v. v ≡ t) l k (take place l ++ drop (suc place) l) w entry) rest)
    alone w (live-at l t place e at) (subst (λ (g : Event). UndoneBy T (g, inverse_view x) U) (event-at l n t place e f s.sound.rising at i) undone)
