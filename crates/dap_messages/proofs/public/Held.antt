-- What was put among members is there, and stays where others are put.
use Rattle.std.proofs.Common.{◌≡◌, ℕ, List, true, false, Option, Some, bytes_eq, sym, ◌∙◌, ap}
use Rattle.std.proofs.lemmas.Slice.Eq.{bytes_eq-Decides}
use Rattle.serde_json.specs.Data.{Data, Members as Named}
use Rattle.serde_json.specs.Find.{get_member}
use Rattle.serde_json.specs.View.{members_view}
use Rattle.serde_json.proofs.Views.{get_member-put, get_member-put_other}
use Rattle.dap_messages.specs.Written.{Has, Holds, Puts}
use Rattle.dap_messages.specs.declared.members.Members.{Members}

-- names that differ, as a test tells
pub differ : (xs ys : List ℕ) → bytes_eq xs ys ≡ false → xs ≡ ys → ⊥
differ xs ys other same =
    let alike : bytes_eq xs ys ≡ true = (bytes_eq-Decides xs ys).1 same in
    let both : true ≡ false = sym alike ∙ other in absurd (cc)

-- what was put is there
pub has_put : (a b : Members) (name : List ℕ) (d : Data) → Puts a name d b → Has b name d
has_put a b name d h = λ full. ap (λ (ms : Named). get_member name ms) (h full).1 ∙ get_member-put name d (members_view a.made.entries)

-- what was there, or was not, stays so where another is put
pub holds_stays : (a b : Members) (name other : List ℕ) (found : Option Data) (e : Data) → bytes_eq name other ≡ false → Puts a other e b →
    Holds a name found → Holds b name found
holds_stays a b name other found e apart h k = λ full.
    ap (λ (ms : Named). get_member name ms) (h full).1
    ∙ get_member-put_other name other e (members_view a.made.entries) (differ name other apart)
    ∙ k (h full).0

pub has_stays : (a b : Members) (name other : List ℕ) (d e : Data) → bytes_eq name other ≡ false → Puts a other e b → Has a name d → Has b name d
has_stays a b name other d e apart h k = holds_stays a b name other (Some d) e apart h k
