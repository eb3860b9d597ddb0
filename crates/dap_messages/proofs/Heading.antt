-- Members of one name stay where others are put.
use Rattle.std.proofs.Common.{◌≡◌, ℕ, List, true, false, Option, None, Some, bytes_eq, sym, ◌∙◌, ap, subst, codes}
use Rattle.std.specs.Prelude.{option_and_then}
use Rattle.std.proofs.lemmas.Slice.Eq.{bytes_eq-Decides}
use Rattle.serde_json.specs.Data.{Data, Members as Named, no_members, number, object, put, unsigned}
use Rattle.serde_json.specs.Find.{get, get_member}
use Rattle.serde_json.specs.Read.{read}
use Rattle.serde_json.specs.View.{members_view, view}
use Rattle.serde_json.specs.declared.value.Value.{Value}
use Rattle.serde_json.proofs.Views.{get_member-put, get_member-put_other}
use Rattle.dap_messages.specs.Json.{IsJsonOf}
use Rattle.dap_messages.specs.Messages.{HasError}
use Rattle.dap_messages.specs.Written.{Has, Holds, Puts}
use Rattle.dap_messages.specs.internal.Heads.{KeepsHead}
use Rattle.dap_messages.specs.declared.members.Members.{Members}
use Rattle.dap_messages.specs.declared.message.Message.{Message}
pub use Rattle.dap_messages.proofs.public.Held.{has_put, has_stays, holds_stays}

-- at first there is none
pub holds_none : (a : Members) (name : List ℕ) → members_view a.made.entries ≡ no_members → Holds a name None
holds_none a name empty = λ full. ap (λ (ms : Named). get_member name ms) empty

-- so do the first members
pub keeps_put : (a b : Members) (other : List ℕ) (e : Data) → bytes_eq (codes "type") other ≡ false → bytes_eq (codes "request_seq") other ≡ false →
    bytes_eq (codes "command") other ≡ false → bytes_eq (codes "event") other ≡ false → Puts a other e b → KeepsHead a b
keeps_put a b other e one two three four h = record {
  type = λ d k. has_stays a b (codes "type") other d e one h k;
  request = λ d k. has_stays a b (codes "request_seq") other d e two h k;
  command = λ d k. has_stays a b (codes "command") other d e three h k;
  event = λ d k. has_stays a b (codes "event") other d e four h k;
}

pub keeps_same : (a : Members) → KeepsHead a a
keeps_same a = record { type = λ d k. k; request = λ d k. k; command = λ d k. k; event = λ d k. k }

pub keeps_on : (a m b : Members) → KeepsHead a m → KeepsHead m b → KeepsHead a b
keeps_on a m b h k = record {
  type = λ d x. k.type d (h.type d x);
  request = λ d x. k.request d (h.request d x);
  command = λ d x. k.command d (h.command d x);
  event = λ d x. k.event d (h.event d x);
}

-- there was no memory for what should have been put
pub lacks_put : (a b : Members) (name : List ℕ) (d : Data) → b.lacks ≡ true → Puts a name d b
lacks_put a b name d lacks = λ full. let both : true ≡ false = sym lacks ∙ full in absurd (cc)

pub lacks_whole : (a b : Members) → b.lacks ≡ true → b.lacks ≡ false → a.lacks ≡ false
lacks_whole a b lacks full = let both : true ≡ false = sym lacks ∙ full in absurd (cc)

-- the value that is put is that of these members
pub puts_view : (a b : Members) (name : List ℕ) (d e : Data) → d ≡ e → Puts a name d b → Puts a name e b
puts_view a b name d e same h = subst (λ (x : Data). Puts a name x b) same h

-- the number of an error in the body of its response
pub has_error : (error body before after : Members) (why : ℕ) → Has error (codes "id") (number (unsigned why)) →
    Has body (codes "error") (object (members_view error.made.entries)) → (body.lacks ≡ false → error.lacks ≡ false) →
    Puts before (codes "body") (object (members_view body.made.entries)) after → (after.lacks ≡ false → body.lacks ≡ false) → HasError after why
has_error error body before after why id there inner put_in whole = λ full.
    let full_body = whole full in (
      object (members_view body.made.entries),
      has_put before after (codes "body") (object (members_view body.made.entries)) put_in full,
      ap (λ (o : Option Data). option_and_then (get (codes "id")) o) (there full_body) ∙ id (inner full_body),
    )

-- the number is put, and then the whole is written
pub json_of : (m : Message) (with : Members) (value : Value) (bytes : List ℕ) → Puts m.members (codes "seq") (number (unsigned m.seq)) with →
    (with.lacks ≡ false) × (view value ≡ object (members_view with.made.entries)) →
    read bytes ≡ Some (view value) → IsJsonOf m bytes
json_of m with value bytes h k reads =
    let there = h k.0 in
    let members : Named = members_view m.members.made.entries in
    let whole : view value ≡ object (put (codes "seq") (number (unsigned m.seq)) members) = k.1 ∙ ap (λ (ms : Named). object ms) there.1 in
    record {
      object = view value;
      reads = reads;
      numbered = ap (λ (d : Data). get (codes "seq") d) whole ∙ get_member-put (codes "seq") (number (unsigned m.seq)) members;
      others = λ name other. ap (λ (d : Data). get name d) whole ∙ get_member-put_other name (codes "seq") (number (unsigned m.seq)) members other;
      full = there.0;
    }
