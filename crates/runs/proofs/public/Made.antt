-- An event and the moves that make it determine each other.
use Rattle.std.proofs.Common.{◌≡◌, ℕ, ◌==◌, List, [], ◌∷◌, Bool, true, false, ◌&&◌, Option, Some, None, refl, ap, subst, subst₂, ◌∙◌}
use Rattle.std.proofs.lemmas.Bool.{eqb-true, eq-eqb, and_parts, and_from}
use Rattle.std.specs.Ordering.{is_lt}
use Rattle.std.specs.declared.cmp.Ordering.{Ordering}
use Rattle.std.specs.declared.cmp.Ordering.TheVariants.{Less, Equal, Greater}
use Rattle.runs.specs.Moves.{Place, Move, assigns, tests, turns, sends, receives, syncs, opens, releases, closes}
use Rattle.address.specs.Places.{Apart}
use Rattle.address.specs.Order.{order_of}
use Rattle.value.specs.Word.{Word}
use Rattle.system.specs.Expression.{Expression, Store, variables, decide, ascending}
use Rattle.runs.specs.Events.{Located, at, sent, Makes, assigning, testing, turning, meeting, opening, opening_without_data, shutting, syncing}
use Rattle.runs.specs.Asking.{asked}
use Rattle.runs.specs.internal.Made.{all_ask, event_of, made_alone, made_together, made_by_send, made_by_held_send, made_by_held_sync, made_by_release, made_by_sync}
use Rattle.runs.specs.internal.Below.{apart}
use Rattle.runs.specs.Tests.{same_option, same_word}
use Rattle.runs.proofs.public.Sameness.{apart-decides, same_number-decides, same_option-decides, same_word-decides}
use Rattle.runs.proofs.public.Options.{none-some, some-injective, cond-some, cond-at}
use Rattle.runs.specs.declared.event.Event.{Event}
use Rattle.runs.specs.declared.event.Kind.TheVariants.{Open}

-- an event asks for the moves that make it
pub asked-is : (s : Store) (ls : List Located) (e : Event) → Makes s ls e → asked e ≡ Some (all_ask ls)
asked-is s ls e (assigning a x w f) = refl
asked-is s ls e (testing a d k h) = refl
asked-is s ls e (turning a) = refl
asked-is s ls e (meeting a b c w f x h) = refl
asked-is s ls e (opening a b c w k f h) = refl
asked-is s ls e (opening_without_data a b c k h) = refl
asked-is s ls e (shutting a b c h) = refl
asked-is s ls e (syncing a b c h l) = refl

-- one channel, and one more test
on_channel : (c : ℕ) (t : Bool) → t ≡ true → ((c == c) && t) ≡ true
on_channel c t h = and_from (c == c) t (eq-eqb c c refl) h

-- an event is made by the moves that make it
pub made-found : (s : Store) (ls : List Located) (e : Event) → Makes s ls e → event_of s ls ≡ Some e
made-found s ls e (assigning a x w f) = refl
made-found s ls e (testing a d k h) = cond-at _ _ ((same_number-decides (decide s d) k).1 h)
made-found s ls e (turning a) = refl
made-found s ls e (meeting a b c w f x h) =
    cond-at _ _ ((apart-decides a b).1 h) ∙ cond-at _ _ (eq-eqb c c refl)
made-found s ls e (opening a b c w k f h) =
    cond-at _ _ ((apart-decides a b).1 h) ∙ cond-at _ _ (on_channel c _ ((same_word-decides (sent s w f) (sent s w f)).1 refl))
made-found s ls e (opening_without_data a b c k h) =
    cond-at _ _ ((apart-decides a b).1 h) ∙ cond-at _ _ (on_channel c true refl)
made-found s ls e (shutting a b c h) =
    cond-at _ _ ((apart-decides a b).1 h) ∙ cond-at _ _ (eq-eqb c c refl)
made-found s ls e (syncing a b c h l) =
    cond-at _ _ ((apart-decides a b).1 h) ∙ cond-at _ _ (on_channel c (is_lt (order_of a b)) (ap is_lt l))

-- the event made of one move
alone_only : (s : Store) (a : Place) (m : Move) (e : Event) → made_alone s a m ≡ Some e → Makes s (at a m ∷ []) e
alone_only s a (assigns x w f) e h = subst (Makes s (at a (assigns x w f) ∷ [])) (some-injective _ e h) (assigning a x w f)
alone_only s a (tests d k) e h =
    let g = cond-some (same_option ◌==◌ (decide s d) k) _ e h in
    subst (Makes s (at a (tests d k) ∷ [])) (some-injective _ e g.1) (testing a d k ((same_number-decides (decide s d) k).0 g.0))
alone_only s a turns e h = subst (Makes s (at a turns ∷ [])) (some-injective _ e h) (turning a)
alone_only s a _ e h = none-some e h

-- the event made of a send and its partner
send_only : (s : Store) (a : Place) (c w : ℕ) (f : Expression) (b : Place) (n : Move) (e : Event) → Apart a b
    → made_by_send s a c w f b n ≡ Some e → Makes s (at a (sends c w f false) ∷ at b n ∷ []) e
send_only s a c w f b (receives d x) e p h =
    let g = cond-some (c == d) _ e h in
    subst₂ (λ i z. Makes s (at a (sends c w f false) ∷ at b (receives i x) ∷ []) z)
    (eqb-true c d g.0) (some-injective _ e g.1) (meeting a b c w f x p)
send_only s a c w f b _ e p h = none-some e h

-- the event of an open, with a value
opening_event : Place → Place → ℕ → ℕ → Option Word → List ℕ → Event
opening_event a b c k v read =
    record { kind = Open; first = a; second = Some b; arm = Some k; channel = Some c; value = v; written = None; read = read }

-- the event made of a held send and its partner
held_send_only : (s : Store) (a : Place) (c w : ℕ) (f : Expression) (b : Place) (n : Move) (e : Event) → Apart a b
    → made_by_held_send s a c w f b n ≡ Some e → Makes s (at a (sends c w f true) ∷ at b n ∷ []) e
unfolding opening_event
held_send_only s a c w f b (opens d k v) e p h =
    let g = cond-some ((c == d) && same_option same_word (Some (sent s w f)) v) (Some (opening_event a b c k v (ascending (variables f)))) e h in
    let t = and_parts (c == d) (same_option same_word (Some (sent s w f)) v) g.0 in
    let u : Some (sent s w f) ≡ v = (same_option-decides same_word same_word-decides (Some (sent s w f)) v).0 t.1 in
    let o : Makes s (at a (sends c w f true) ∷ at b (opens d k v) ∷ []) (opening_event a b c k v (ascending (variables f))) =
    subst₂ (λ i z. Makes s (at a (sends c w f true) ∷ at b (opens i k z) ∷ []) (opening_event a b c k z (ascending (variables f))))
    (eqb-true c d t.0) u (opening a b c w k f p) in
    subst (Makes s (at a (sends c w f true) ∷ at b (opens d k v) ∷ [])) (some-injective _ e g.1) o
held_send_only s a c w f b _ e p h = none-some e h

-- the event made of a held handshake and its partner
held_sync_only : (s : Store) (a : Place) (c : ℕ) (b : Place) (n : Move) (e : Event) → Apart a b
    → made_by_held_sync a c b n ≡ Some e → Makes s (at a (syncs c true) ∷ at b n ∷ []) e
unfolding opening_event
held_sync_only s a c b (opens d k v) e p h =
    let g = cond-some ((c == d) && same_option same_word None v) (Some (opening_event a b c k v [])) e h in
    let t = and_parts (c == d) (same_option same_word None v) g.0 in
    let u : None ≡ v = (same_option-decides same_word same_word-decides None v).0 t.1 in
    let o : Makes s (at a (syncs c true) ∷ at b (opens d k v) ∷ []) (opening_event a b c k v []) =
    subst₂ (λ i z. Makes s (at a (syncs c true) ∷ at b (opens i k z) ∷ []) (opening_event a b c k z []))
    (eqb-true c d t.0) u (opening_without_data a b c k p) in
    subst (Makes s (at a (syncs c true) ∷ at b (opens d k v) ∷ [])) (some-injective _ e g.1) o
held_sync_only s a c b _ e p h = none-some e h

-- the event made of a release and its partner
release_only : (s : Store) (a : Place) (c : ℕ) (b : Place) (n : Move) (e : Event) → Apart a b
    → made_by_release a c b n ≡ Some e → Makes s (at a (releases c) ∷ at b n ∷ []) e
release_only s a c b (closes d) e p h =
    let g = cond-some (c == d) _ e h in
    subst₂ (λ i z. Makes s (at a (releases c) ∷ at b (closes i) ∷ []) z)
    (eqb-true c d g.0) (some-injective _ e g.1) (shutting a b c p)
release_only s a c b _ e p h = none-some e h

-- the test for `Less` tells that it is
less : (o : Ordering) → is_lt o ≡ true → o ≡ Less
less Less h = refl
less Equal h = cc
less Greater h = cc

-- the event made of two handshakes
sync_only : (s : Store) (a : Place) (c : ℕ) (b : Place) (n : Move) (e : Event) → Apart a b
    → made_by_sync a c b n ≡ Some e → Makes s (at a (syncs c false) ∷ at b n ∷ []) e
sync_only s a c b (syncs d false) e p h =
    let g = cond-some ((c == d) && is_lt (order_of a b)) _ e h in
    let t = and_parts (c == d) (is_lt (order_of a b)) g.0 in
    subst₂ (λ i z. Makes s (at a (syncs c false) ∷ at b (syncs i false) ∷ []) z)
    (eqb-true c d t.0) (some-injective _ e g.1) (syncing a b c p (less (order_of a b) t.1))
sync_only s a c b _ e p h = none-some e h

-- the event made of two moves
together_only : (s : Store) (a : Place) (m : Move) (b : Place) (n : Move) (e : Event) → Apart a b
    → made_together s a m b n ≡ Some e → Makes s (at a m ∷ at b n ∷ []) e
together_only s a (sends c w f false) b n e p h = send_only s a c w f b n e p h
together_only s a (sends c w f true) b n e p h = held_send_only s a c w f b n e p h
together_only s a (syncs c false) b n e p h = sync_only s a c b n e p h
together_only s a (syncs c true) b n e p h = held_sync_only s a c b n e p h
together_only s a (releases c) b n e p h = release_only s a c b n e p h
together_only s a _ b n e p h = none-some e h

-- what the function makes of moves they make
pub made-only : (s : Store) (ls : List Located) (e : Event) → event_of s ls ≡ Some e → Makes s ls e
made-only s [] e h = none-some e h
made-only s (l ∷ []) e h = alone_only s l.place l.move e h
made-only s (l ∷ n ∷ []) e h =
    let g = cond-some (apart l.place n.place) (made_together s l.place l.move n.place n.move) e h in
    together_only s l.place l.move n.place n.move e ((apart-decides l.place n.place).0 g.0) g.1
made-only s (l ∷ n ∷ o ∷ ls) e h = none-some e h
