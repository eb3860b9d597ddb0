-- The laws of places and of their text.
use Rattle.std.specs.Prelude.{◌≡◌, ◌↔◌, List}
use Rattle.address.specs.declared.Entry.{Entry}
use Rattle.address.specs.Places.{Before, Apart, OrderedFork, BranchFork}
use Rattle.address.specs.Text.{text_of}
use Rattle.address.specs.Reading.{NumbersFit}

-- one address is before another exactly where they fork at ordered entries, the first at the lesser number
abbrev pub BeforeIsFork : Type 0
BeforeIsFork = (a b : List Entry) → Before a b ↔ OrderedFork a b

-- two addresses are apart exactly where they fork at branch numbers
abbrev pub ApartIsFork : Type 0
ApartIsFork = (a b : List Entry) → Apart a b ↔ BranchFork a b

-- no address is before itself, and what is before one is before all that this one is before
abbrev pub BeforeIsStrictOrder : Type 0
BeforeIsStrictOrder =
    ((a : List Entry) → Before a a → ⊥) × ((a b c : List Entry) → Before a b → Before b c → Before a c)

-- no address is apart from itself, and of two that are apart each is apart from the other
abbrev pub ApartIsSymmetric : Type 0
ApartIsSymmetric = ((a : List Entry) → Apart a a → ⊥) × ((a b : List Entry) → Apart a b → Apart b a)

-- no address is both before another and apart from it
abbrev pub NeverBoth : Type 0
NeverBoth = (a b : List Entry) → Before a b → Apart a b → ⊥

-- addresses with one text are equal
abbrev pub TextsDiffer : Type 0
TextsDiffer = (a b : List Entry) → NumbersFit a → NumbersFit b → text_of a ≡ text_of b → a ≡ b
