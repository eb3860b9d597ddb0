-- Whether two events are equal, as a test.
use Rattle.std.specs.Prelude.{◌==◌, List, [], ◌∷◌, Bool, true, false, ◌&&◌, Option, Some, None}
use Rattle.address.specs.declared.Entry.{Entry}
use Rattle.address.specs.declared.Entry.TheVariants.{Ordered, Branch}
use Rattle.runs.specs.declared.event.Kind.{Kind}
use Rattle.runs.specs.declared.event.Kind.TheVariants.{Assign, Test, Turn, Meet, Open, Close, Sync}
use Rattle.runs.specs.declared.event.Event.{Event}
use Rattle.runs.specs.Moves.{Place}
use Rattle.value.specs.Word.{Word}

-- whether two lists are equal, by a test of their elements
abbrev pub same_list : {X : Type 0} → (X → X → Bool) → List X → List X → Bool
same_list same [] [] = true
same_list same [] (y ∷ ys) = false
same_list same (x ∷ xs) [] = false
same_list same (x ∷ xs) (y ∷ ys) = same x y && same_list same xs ys

-- whether two options are equal, by a test of what they hold
abbrev pub same_option : {X : Type 0} → (X → X → Bool) → Option X → Option X → Bool
same_option same None None = true
same_option same None (Some y) = false
same_option same (Some x) None = false
same_option same (Some x) (Some y) = same x y

-- whether two entries are equal
abbrev pub same_entry : Entry → Entry → Bool
same_entry (Ordered i) (Ordered j) = i == j
same_entry (Ordered i) (Branch j) = false
same_entry (Branch i) (Ordered j) = false
same_entry (Branch i) (Branch j) = i == j

-- whether two places are equal
abbrev pub same_place : Place → Place → Bool
same_place a b = same_list same_entry a b

-- whether two words are equal, in bits and in width
abbrev pub same_word : Word → Word → Bool
same_word v u = (v.bits == u.bits) && (v.width == u.width)

-- whether two kinds are equal
abbrev pub same_kind : Kind → Kind → Bool
same_kind Assign Assign = true
same_kind Test Test = true
same_kind Turn Turn = true
same_kind Meet Meet = true
same_kind Open Open = true
same_kind Close Close = true
same_kind Sync Sync = true
same_kind _ _ = false

-- whether two events are equal
abbrev pub same_event : Event → Event → Bool
same_event e f =
    same_kind e.kind f.kind
    && (same_place e.first f.first
    && (same_option same_place e.second f.second
    && (same_option ◌==◌ e.arm f.arm
    && (same_option ◌==◌ e.channel f.channel
    && (same_option same_word e.value f.value
    && (same_option ◌==◌ e.written f.written
    && same_list ◌==◌ e.read f.read))))))
