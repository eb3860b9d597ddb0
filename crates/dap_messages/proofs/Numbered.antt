-- One event more.
use Rattle.std.proofs.Common.{◌≡◌, ℕ, ◌+◌, List, [], ◌∷◌, ◌++◌, length, ap, refl, ◌∙◌, arith}
use Rattle.dap_messages.specs.Messages.{AreEvents, IsEvent}
use Rattle.dap_messages.specs.declared.answer.Note.{Note}
use Rattle.dap_messages.specs.declared.message.Message.{Message}

pub events-more : (next : ℕ) (notes : List Note) (ms : List Message) (note : Note) (m : Message) → AreEvents next notes ms →
    m.seq ≡ next + length ms → IsEvent note m → AreEvents next (notes ++ note ∷ []) (ms ++ m ∷ [])
events-more next [] [] note m all number is = (number ∙ omega arith, is, tt)
events-more next [] (other ∷ ms) note m all number is = absurd all
events-more next (one ∷ notes) [] note m all number is = absurd all
events-more next (one ∷ notes) (other ∷ ms) note m all number is =
    (all.0, all.1, events-more (next + 1) notes ms note m all.2 (number ∙ omega arith) is)

-- nothing is left where no item is
pub none_left : {X : Type 0} (xs : List X) → length xs ≡ 0 → xs ≡ []
none_left [] e = refl
none_left (x ∷ xs) e = absurd (omega arith)
