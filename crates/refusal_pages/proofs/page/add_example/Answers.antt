use Rattle.std.proofs.Common.{◌++◌, ℕ, List, ◌∙◌, codes, string_bytes}
use Rattle.refusal_pages.specs.PageText.{indented}
use Rattle.refusal_pages.proofs.PageLemmas.{no-example, some-example, then-added}
use Rattle.refusal_pages.proofs.page.add_example.Goals as goal

pub returns-then-is_empty : goal.returns-then-is_empty
returns-then-is_empty c =
    no-example (string_bytes c.args.text.now) c.args.source.now c.args.told.now c.is_empty.result c.is_empty.ensures
    c.if-is_empty.true

pub returns : goal.returns
returns c =
    let was : List ℕ = string_bytes c.args.text.now in
    let one =
    then-added _ _ (was ++ codes "\n") (indented c.args.source.now) c.in_ok-push_str.ensures.bytes
    c.in_ok-add_indented.ensures in
    then-added _ _ (was ++ codes "\n" ++ indented c.args.source.now) (indented c.args.told.now) one
    c.in_ok-add_indented-2.ensures
    ∙ some-example was c.args.source.now c.args.told.now c.is_empty.result c.is_empty.ensures c.if-is_empty.false
