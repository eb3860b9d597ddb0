use Rattle.std.proofs.Common.{◌++◌, ℕ, List, [], codes}
use Rattle.std.specs.Fmt.{decimal}
use Rattle.refusal_pages.specs.PageText.{part, summary}
use Rattle.refusal_pages.proofs.PageLemmas.{then-added}
use Rattle.refusal_pages.proofs.page.summary.Goals as goal

pub returns : goal.returns
unfolding summary
returns c =
    let page = c.args.page.now in
    let first : List ℕ = codes "refused " ++ decimal page.number in
    let one =
    then-added _ _ first (part (codes " ") page.field.now []) c.in_ok-text.ensures.ok c.in_ok-add_part.ensures in
    let two =
    then-added _ _ (first ++ part (codes " ") page.field.now []) (codes ": ") one c.in_ok-push_str.ensures.bytes in
    let three =
    then-added _ _ (first ++ part (codes " ") page.field.now [] ++ codes ": ") page.name.now two
    c.in_ok-push_str-2.ensures.bytes in
    then-added _ _ (first ++ part (codes " ") page.field.now [] ++ codes ": " ++ page.name.now) (codes "\n") three
    c.in_ok-push_str-3.ensures.bytes
