use Rattle.std.proofs.Common.{◌++◌, ℕ, List, ◌∙◌, string_bytes}
use Rattle.refusal_pages.proofs.PageLemmas.{no-part, some-part, then-added}
use Rattle.refusal_pages.proofs.page.add_part.Goals as goal

pub returns-then-is_empty : goal.returns-then-is_empty
returns-then-is_empty c =
    no-part (string_bytes c.args.text.now) c.args.before.now c.args.part.now c.args.behind.now c.is_empty.result
    c.is_empty.ensures c.if-is_empty.true

pub returns : goal.returns
returns c =
    let was : List ℕ = string_bytes c.args.text.now in
    let one =
    then-added _ _ (was ++ c.args.before.now) c.args.part.now c.in_ok-push_str.ensures.bytes
    c.in_ok-push_str-2.ensures.bytes in
    then-added _ _ (was ++ c.args.before.now ++ c.args.part.now) c.args.behind.now one c.in_ok-push_str-3.ensures.bytes
    ∙ some-part was c.args.before.now c.args.part.now c.args.behind.now c.is_empty.result c.is_empty.ensures
    c.if-is_empty.false
