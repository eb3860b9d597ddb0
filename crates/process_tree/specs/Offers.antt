-- What a tree offers: local moves that are possible, without their values.
use Rattle.std.specs.Prelude.{◌≡◌, ◌⊎◌, ◌↔◌, ℕ, ◌<◌, List}
use Rattle.std.specs.declared.cmp.Ordering.TheVariants.{Less}
use Rattle.address.specs.Order.{order_of}
use Rattle.syntax.specs.Lists.{In}
use Rattle.system.specs.Residual.{Residual}
use Rattle.runs.specs.Moves.{Move, Local, assigns, tests, turns, sends, receives, syncs, opens, releases, closes}
use Rattle.process_tree.specs.declared.offer.Offer.{Offer}
use Rattle.process_tree.specs.declared.offer.OfferKind.{OfferKind}
use Rattle.process_tree.specs.declared.offer.OfferKind.TheVariants.{Assigns, Tests, Turns, Sends, Receives, Syncs, Opens, Releases, Closes}

-- what a local move does; its values, and whether it is held, are not its place's matter alone
abbrev pub kind_of : Move → OfferKind
kind_of (assigns x w e) = Assigns x
kind_of (tests d k) = Tests
kind_of turns = Turns
kind_of (sends c w e held) = Sends c
kind_of (receives c x) = Receives c x
kind_of (syncs c held) = Syncs c
kind_of (opens c k v) = Opens c k
kind_of (releases c) = Releases c
kind_of (closes c) = Closes c

-- a local move of this kind is possible at the place
pub record Offers (r : Residual) (x : Offer) : Type 0 where
  pub move : Move
  pub after : Residual
  pub possible : Local r x.place move after
  pub shown : x.kind ≡ kind_of move

-- exactly these are possible
abbrev pub AreOffers : Residual → List Offer → Type 0
AreOffers r offers = (x : Offer) → In x offers ↔ Offers r x

-- the arm that opens, and 0 of what opens none
abbrev pub opened_arm : OfferKind → ℕ
opened_arm (Opens c k) = k
opened_arm kind = 0

-- x stands before y: at a lesser place, or at the same one with a lesser arm; so none precedes itself
abbrev pub PrecedesOffer : Offer → Offer → Type 0
PrecedesOffer x y =
    (order_of x.place y.place ≡ Less) ⊎ ((x.place ≡ y.place) × (opened_arm x.kind < opened_arm y.kind))
