use Rattle.std.proofs.Common.{◌≡◌, ℕ, List, [], ◌∷◌, ◌++◌, ◌<◌, length, sym, arith, length-append, rules}
use Rattle.std.specs.Fmt.{decimal}
use Rattle.system.specs.internal.Hashing.{hash_of}
use Rattle.system.proofs.HashLemmas.{hash_onto-append}
use Rattle.system.proofs.prefix.Prefix.of_call.Goals as goal

-- a mark stands at the end
is-marked : (text digits : List ℕ) → text ≡ digits ++ 58 ∷ [] → 0 < length text
is-marked text digits is = rw is (omega (arith, length-append digits (58 ∷ [])))

pub invariant_of-result : goal.invariant_of-result
invariant_of-result c =
    let text : c.into_bytes-text.result.items ≡ decimal c.args.number ++ 58 ∷ [] = search rules in
    let hash : c.hash_onto-hash.result ≡ hash_of (c.args.self ++ c.into_bytes-text.result.items) =
    rw (c.hash_onto-hash.ensures, c.hash.ensures, c.as_slice.ensures.value)
    (sym (hash_onto-append c.args.self c.into_bytes-text.result.items 0)) in
    rw c.in_ok-new.ensures.ok (is-marked c.into_bytes-text.result.items (decimal c.args.number) text, hash)
