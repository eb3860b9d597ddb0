use Rattle.std.proofs.Common.{◌++◌, codes}
use Rattle.refusal_pages.specs.PageText.{example, page_text, part, summary}
use Rattle.refusal_pages.proofs.PageLemmas.{then-added}
use Rattle.refusal_pages.proofs.page.page_text.Goals as goal

pub returns : goal.returns
unfolding page_text
returns c =
    let page = c.args.page.now in
    let one = then-added _ _ (summary page) (codes "\n") c.in_ok-text.ensures c.in_ok-push_str.ensures.bytes in
    let two = then-added _ _ (summary page ++ codes "\n") page.meaning.now one c.in_ok-push_str-2.ensures.bytes in
    let three =
    then-added _ _ (summary page ++ codes "\n" ++ page.meaning.now) (codes "\n") two c.in_ok-push_str-3.ensures.bytes in
    let four =
    then-added _ _ (summary page ++ codes "\n" ++ page.meaning.now ++ codes "\n")
    (example page.source.now page.told.now) three c.in_ok-add_example.ensures in
    then-added _ _
    (summary page ++ codes "\n" ++ page.meaning.now ++ codes "\n" ++ example page.source.now page.told.now)
    (part (codes "\nUsual causes: ") page.causes.now (codes "\n")) four c.in_ok-add_part.ensures
