-- Of the events allowed in one state, no two have one acting address and open one arm.
use Rattle.std.proofs.Common.{◌≡◌, ℕ, ◌≤◌, List, [], ◌∷◌, Option, Some, None, true, false, Bool, inl, inr, sym, refl, ap, subst, ◌∙◌, arith}
use Rattle.address.specs.Places.{Apart}
use Rattle.address.proofs.public.Places.{apart-symmetric}
use Rattle.system.specs.Expression.{Store}
use Rattle.system.specs.Residual.{Residual}
use Rattle.sharing_rule.specs.Measure.{sending, syncing}
use Rattle.runs.proofs.public.SharingWidths.{KeepsSharing}
use Rattle.runs.specs.Moves.{Place, Move, sends, receives, syncs, opens, releases, closes}
use Rattle.runs.specs.Events.{Located, at, Makes, assigning, testing, turning, meeting, opening, opening_without_data, shutting, syncing as syncs_together, places, acting}
use Rattle.runs.specs.Steps.{State, Step}
use Rattle.runs.specs.declared.event.Event.{Event}
use Rattle.runs.specs.declared.event.Kind.{Kind}
use Rattle.runs.specs.declared.event.Kind.TheVariants.{Sync}
use Rattle.runs.proofs.public.WellFormed.{WellFormed}
use Rattle.runs.proofs.Adding.{sums}
use Rattle.runs.proofs.Most.{only_least}
use Rattle.runs.proofs.Clash.{count, clash}
use Rattle.runs.proofs.Three.{three}
use Rattle.runs.proofs.public.AtOnce.{Offers, OffersAll, offered, apart_now}
use Rattle.runs.proofs.Uses.{only_left}
use Rattle.runs.proofs.OneEvent.{OneArm, one_event}
use Rattle.runs.proofs.Acting.{one_acting}

-- the places of an event with two sides, by its acting place and the other
abbrev both_places : Kind → Place → Place → List Place
both_places Sync a b = a ∷ b ∷ []
both_places _ a b = b ∷ a ∷ []

-- the acting side of an event on channel c, and its partner, a sender
record Sides (r : Residual) (c : ℕ) (e : Event) : Type 0 where
  actor : Move
  partner : Located
  acts : Offers r (at (acting e) actor)
  meets : Offers r partner
  apart : Apart partner.place (acting e)
  at_places : places e ≡ both_places e.kind (acting e) partner.place
  sender : 1 ≤ count (sending c) partner.move
  one_user : 1 ≤ count (syncing c) partner.move
  other_user : 1 ≤ count (syncing c) actor

-- a receive uses its channel
receives_count : (c d : ℕ) (x : Option ℕ) → d ≡ c → 1 ≤ count (syncing c) (receives d x)
receives_count c d None e = only_least 1 c d e
receives_count c d (Some x) e = only_left 1 c d _ e

-- the sides of an event on a channel
sides : (r : Residual) (s : Store) (ls : List Located) (e : Event) (c : ℕ) → Makes s ls e → OffersAll r ls → e.channel ≡ Some c → Sides r c e
sides r s ls e c (assigning a x w g) h q = cc
sides r s ls e c (testing a d k p) h q = cc
sides r s ls e c (turning a) h q = cc
sides r s ls e c (meeting a b d w g x p) h q = record {
  actor = receives d x;
  partner = at a (sends d w g false);
  acts = h.1.0;
  meets = h.0;
  apart = p;
  at_places = refl;
  sender = only_left 1 c d _ (cc);
  one_user = only_left 1 c d _ (cc);
  other_user = receives_count c d x (cc);
}
sides r s ls e c (opening a b d w k g p) h q = record {
  actor = opens d k _;
  partner = at a (sends d w g true);
  acts = h.1.0;
  meets = h.0;
  apart = p;
  at_places = refl;
  sender = only_left 1 c d _ (cc);
  one_user = only_left 1 c d _ (cc);
  other_user = only_least 1 c d (cc);
}
sides r s ls e c (opening_without_data a b d k p) h q = record {
  actor = opens d k None;
  partner = at a (syncs d true);
  acts = h.1.0;
  meets = h.0;
  apart = p;
  at_places = refl;
  sender = only_least 1 c d (cc);
  one_user = only_least 1 c d (cc);
  other_user = only_least 1 c d (cc);
}
sides r s ls e c (shutting a b d p) h q = record {
  actor = closes d;
  partner = at a (releases d);
  acts = h.1.0;
  meets = h.0;
  apart = p;
  at_places = refl;
  sender = only_least 1 c d (cc);
  one_user = only_least 1 c d (cc);
  other_user = only_least 1 c d (cc);
}
sides r s ls e c (syncs_together a b d p l) h q = record {
  actor = syncs d false;
  partner = at b (syncs d false);
  acts = h.0;
  meets = h.1.0;
  apart = apart-symmetric a b p;
  at_places = refl;
  sender = only_least 1 c d (cc);
  one_user = only_least 1 c d (cc);
  other_user = only_least 1 c d (cc);
}

-- an event on no channel has its acting place alone
alone : (s : Store) (ls : List Located) (e : Event) → Makes s ls e → e.channel ≡ None → places e ≡ acting e ∷ []
alone s ls e (assigning a x w g) q = refl
alone s ls e (testing a d k p) q = refl
alone s ls e (turning a) q = refl
alone s ls e (meeting a b d w g x p) q = cc
alone s ls e (opening a b d w k g p) q = cc
alone s ls e (opening_without_data a b d k p) q = cc
alone s ls e (shutting a b d p) q = cc
alone s ls e (syncs_together a b d p l) q = cc

-- two events at one acting address on one channel have one partner: two at places apart would be too many
one_partner : (is_sync is_shared : ℕ → Bool) (r : Residual) (c : ℕ) (e f : Event) → KeepsSharing is_sync is_shared r → WellFormed r
    → (x : Sides r c e) (y : Sides r c f) → acting e ≡ acting f → x.partner.place ≡ y.partner.place
one_partner is_sync is_shared r c e f K w x y same =
    elim (apart_now r x.partner.place x.partner.move x.meets.0 y.partner.place y.partner.move y.meets.0 w x.meets.1 y.meets.1) [
      | inl p ↦ p
      | inr p ↦ go p (is_sync c) refl
    ]
  where
    go : Apart x.partner.place y.partner.place → (b : Bool) → is_sync c ≡ b → x.partner.place ≡ y.partner.place
    go p false kind =
        let many = clash (sending c) sums r x.partner.place x.partner.move x.meets.0 [] y.partner.place y.partner.move w x.meets.1 y.meets p in
        let limit = (K.data_channels c kind).one_sender in
        let one = x.sender in
        let two = y.sender in
        absurd (omega arith)
    go p true kind =
        let many = three c r x.partner.place x.partner.move x.meets.0 y.partner.place y.partner.move y.meets.0 [] (acting e) x.actor w x.meets.1 y.meets.1 x.acts
        p x.apart (subst (Apart y.partner.place) (sym same) y.apart) in
        let limit = K.sync_channels c kind in
        let one = x.one_user in
        let two = y.one_user in
        let third = x.other_user in
        absurd (omega arith)

-- of the events allowed in a state, two with one acting address, and one arm if they open, are one event
pub one_choice : (is_sync is_shared : ℕ → Bool) (S : State) (e f : Event) (T U : State) → KeepsSharing is_sync is_shared S.residual
    → WellFormed S.residual → Step S e T → Step S f U → acting e ≡ acting f → OneArm e f → e ≡ f
one_choice is_sync is_shared S e f T U K w h g same arms =
    one_event S e f T U w h g (at_places e.channel refl) arms
  where
    kinds : (e.kind ≡ f.kind) × (e.channel ≡ f.channel)
    kinds = one_acting S e f T U w h g same arms

    at_places : (c : Option ℕ) → e.channel ≡ c → places e ≡ places f
    at_places None p =
        alone S.store h.moves e h.makes p ∙ ap (λ a. a ∷ []) same ∙ sym (alone S.store g.moves f g.makes (sym kinds.1 ∙ p))
    at_places (Some c) p =
        let x = sides S.residual S.store h.moves e c h.makes (offered S.residual T.residual S.store h.moves e w h.makes h.moved) p in
        let y = sides S.residual S.store g.moves f c g.makes (offered S.residual U.residual S.store g.moves f w g.makes g.moved) (sym kinds.1 ∙ p) in
        let partners = one_partner is_sync is_shared S.residual c e f K w x y same in
        x.at_places ∙ (λ i. both_places (kinds.0 i) (same i) (partners i)) ∙ sym y.at_places
