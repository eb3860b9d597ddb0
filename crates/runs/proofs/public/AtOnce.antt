-- What a residual offers at once: two moves are at one place or apart, and the moves of an event are offered before any of them is made.
use Rattle.std.proofs.Common.{◌≡◌, ◌⊎◌, ℕ, ◌+◌, [], ◌∷◌, inl, inr, sym, refl, subst, arith, List}
use Rattle.address.specs.declared.Entry.{Entry}
use Rattle.address.specs.declared.Entry.TheVariants.{Ordered, Branch}
use Rattle.runs.specs.Moves.{Place, Move, Local}
use Rattle.address.specs.Places.{Apart}
use Rattle.system.specs.Residual.{Residual, done, halted, inside, beside, assign, send, receive, sync, held, loop, while, test, choose, closing, drain}
use Rattle.runs.proofs.public.WellFormed.{WellFormed}
use Rattle.system.specs.Expression.{Store}
use Rattle.runs.specs.Events.{Located, Makes, assigning, testing, turning, meeting, opening, opening_without_data, shutting, syncing}
use Rattle.runs.specs.Steps.{Moves}
use Rattle.runs.specs.declared.event.Event.{Event}
use Rattle.address.proofs.public.Places.{before-not-apart}
use Rattle.runs.specs.Laws.{ApartMovesWereOffered}
use Rattle.runs.proofs.Pair.{pair}
use Rattle.runs.proofs.public.Kept.{branches-place}

-- r offers the move
abbrev pub Offers : Residual → Located → Type 0
Offers r l = (t : Residual) × Local r l.place l.move t

-- r offers each of these moves, before any of them is made
abbrev pub OffersAll : Residual → List Located → Type 0
OffersAll r [] = Unit {0}
OffersAll r (l ∷ ls) = Offers r l × OffersAll r ls

-- a move that is made after one at a place apart was offered before it
pub offered_before : (r s q : Residual) (l k : Located) → WellFormed r → Apart l.place k.place
    → Local r l.place l.move s → Local s k.place k.move q → Offers r k
offered_before r s q l k w p h g =
    elim (pair r l.place k.place l.move k.move s q w h g) [
      | inl b ↦ absurd (before-not-apart l.place k.place b p)
      | inr x ↦ (x.between, x.first)
    ]

-- the same, in the words of the law
pub was_offered : ApartMovesWereOffered
was_offered r a b m n s q w p h g =
    offered_before r s q (record { place = a; move = m }) (record { place = b; move = n }) w p h g

-- two moves in turn, at places apart, are offered at once
two_offered : (r q : Residual) (l k : Located) → WellFormed r → Apart l.place k.place → Moves r (l ∷ k ∷ []) q
    → OffersAll r (l ∷ k ∷ [])
two_offered r q l k w p h =
    ((h.0, h.1), (offered_before r h.0 h.2.0 l k w p h.1 h.2.1, tt))

-- the moves of an event that is possible are offered at once
pub offered : (r q : Residual) (s : Store) (ls : List Located) (e : Event) → WellFormed r → Makes s ls e → Moves r ls q → OffersAll r ls
offered r q s ls e w (assigning a x v f) h = ((h.0, h.1), tt)
offered r q s ls e w (testing a d k p) h = ((h.0, h.1), tt)
offered r q s ls e w (turning a) h = ((h.0, h.1), tt)
offered r q s ls e w (meeting a b c v f x p) h = two_offered r q _ _ w p h
offered r q s ls e w (opening a b c v k f p) h = two_offered r q _ _ w p h
offered r q s ls e w (opening_without_data a b c k p) h = two_offered r q _ _ w p h
offered r q s ls e w (shutting a b c p) h = two_offered r q _ _ w p h
offered r q s ls e w (syncing a b c p l) h = two_offered r q _ _ w p h

-- two places in one child or branch
under_both : (x : Entry) (a b c d : Place) → a ≡ x ∷ c → b ≡ x ∷ d → (c ≡ d) ⊎ Apart c d → (Apart c d → Apart (x ∷ c) (x ∷ d)) → (a ≡ b) ⊎ Apart a b
under_both x a b c d e f (inl same) under = inl (cc)
under_both x a b c d e f (inr apart) under = inr (subst (Apart a) (sym f) (subst (λ v. Apart v (x ∷ d)) (sym e) (under apart)))

-- places in two branches are apart
other_branch : (k j : ℕ) (a b c d : Place) → a ≡ Branch k ∷ c → b ≡ Branch j ∷ d → (k ≡ j → ⊥) → Apart a b
other_branch k j a b c d e f other = subst (Apart a) (sym f) (subst (λ v. Apart v (Branch j ∷ d)) (sym e) (inl other))

-- a command that offers its moves at one place
one_place : (x a b : Place) → a ≡ x → b ≡ x → (a ≡ b) ⊎ Apart a b
one_place x a b e f = inl (cc)

-- two moves that are possible now are at one place or apart
pub apart_now : (r : Residual) (a : Place) (m : Move) (s : Residual) (b : Place) (n : Move) (q : Residual) →
    WellFormed r → Local r a m s → Local r b n q → (a ≡ b) ⊎ Apart a b
apart_now done a m s b n q w h k = elim h [ ]
apart_now halted a m s b n q w h k = elim h [ ]
apart_now (inside i child next) a m s b n q w (c, t, e, h, _) (d, u, f, k, _) =
    under_both (Ordered i) a b c d e f (apart_now child c m t d n u w.0 h k) (λ p. (refl, p))
apart_now (beside i child rest) a m s b n q w (inl (c, t, e, h, _)) (inl (d, u, f, k, _)) =
    under_both (Branch i) a b c d e f (apart_now child c m t d n u w.0 h k) (λ p. inr (refl, p))
apart_now (beside i child rest) a m s b n q w (inl (c, t, e, h, _)) (inr (u, k, _)) =
    let x = branches-place (i + 1) rest b n u w.2 w.1 k in
    let l = x.from in
    inr (other_branch i x.number a b c x.rest e x.is (λ g. omega arith))
apart_now (beside i child rest) a m s b n q w (inr (t, h, _)) (inl (d, u, f, k, _)) =
    let x = branches-place (i + 1) rest a m t w.2 w.1 h in
    let l = x.from in
    inr (other_branch x.number i a b x.rest d x.is f (λ g. omega arith))
apart_now (beside i child rest) a m s b n q w (inr (t, h, _)) (inr (u, k, _)) = apart_now rest a m t b n u w.1 h k
apart_now (assign x w e) a m s b n q _ (f, _, _) (g, _, _) = one_place _ a b f g
apart_now (send c w e) a m s b n q _ (f, _) (g, _) = one_place _ a b f g
apart_now (receive c x) a m s b n q w (f, _, _) (g, _, _) = one_place _ a b f g
apart_now (sync c) a m s b n q w (f, _) (g, _) = one_place _ a b f g
apart_now (held c) a m s b n q w (f, _, _) (g, _, _) = one_place _ a b f g
apart_now (loop i body) a m s b n q w (f, _, _) (g, _, _) = one_place _ a b f g
apart_now (while i e body) a m s b n q w (f, _) (g, _) = one_place _ a b f g
apart_now (test d arms) a m s b n q w (f, _) (g, _) = one_place _ a b f g
apart_now (choose channels arms) a m s b n q w (f, _, _, _, _, _, _) (g, _, _, _, _, _, _) = one_place _ a b f g
apart_now (closing c) a m s b n q w (f, _, _) (g, _, _) = one_place _ a b f g
apart_now (drain c i) a m s b n q w (f, _, _) (g, _, _) = one_place _ a b f g
