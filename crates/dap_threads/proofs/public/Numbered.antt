-- Lists of items that are numbered from 1 on.
use Rattle.std.proofs.Common.{◌≡◌, ◌+◌, ◌++◌, ◌∷◌, [], ◌∙◌, ℕ, suc, List, Option, Some, false, codes, map, option_and_then, ap, arith, sym}
use Rattle.std.proofs.lemmas.List.{map-append}
use Rattle.serde_json.specs.Data.{Data, number, object, unsigned}
use Rattle.serde_json.specs.Find.{as_number, as_u64}
use Rattle.serde_json.specs.View.{members_view, view}
use Rattle.dap_messages.specs.Arguments.{number_named}
use Rattle.dap_messages.specs.Written.{Has, Pushes}
use Rattle.dap_messages.specs.declared.members.Listed.{Listed}
use Rattle.dap_messages.specs.declared.members.Members.{Members}
use Rattle.dap_threads.specs.Given.{AreNumbered, numbers_to}

-- one item more is numbered
pub numbered_more : (before after : Listed) (ms : Members) (n : ℕ) → (before.lacks ≡ false → AreNumbered (map view before.made.items) (numbers_to n)) →
    Has ms (codes "id") (number (unsigned (n + 1))) → Pushes before ms after → after.lacks ≡ false →
    AreNumbered (map view after.made.items) (numbers_to (n + 1))
numbered_more before after ms n h has push full =
    let more = push full in
    let d = object (members_view ms.made.entries) in
    let id : number_named (codes "id") d ≡ Some (n + 1) =
    ap (λ (o : Option Data). option_and_then as_u64 (option_and_then as_number o)) (has more.1) in
    let next : suc n ≡ n + 1 = omega arith in
    ap (λ (ds : List Data). map (number_named (codes "id")) ds) more.2
    ∙ map-append (number_named (codes "id")) (map view before.made.items) (d ∷ [])
    ∙ ap (λ (xs : List (Option ℕ)). xs ++ number_named (codes "id") d ∷ []) (h more.0)
    ∙ ap (λ (x : Option ℕ). map (λ (k : ℕ). Some k) (numbers_to n) ++ x ∷ []) id
    ∙ sym (map-append (λ (k : ℕ). Some k) (numbers_to n) ((n + 1) ∷ []))
    ∙ ap (λ (k : ℕ). map (λ (j : ℕ). Some j) (numbers_to k)) next
