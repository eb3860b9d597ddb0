use Rattle.std.proofs.Common.{◌≡◌, ◌∙◌, ℕ, suc, take, drop, ap, arith}
use Rattle.std.proofs.lemmas.Str.Pattern.{rfind_char}
use Rattle.dap_views.proofs.Naming.{own_at, own_nowhere, prefix_at, prefix_nowhere}
use Rattle.dap_views.proofs.index.parts_of.Goals as goal

pub returns-in-Some-split_at_checked-clause-prefix : goal.returns-in-Some-split_at_checked-clause-prefix
returns-in-Some-split_at_checked-clause-prefix c =
    let found = rfind_char 58 c.args.name.now c.rfind.result c.rfind.ensures.cases (omega arith) in
    let here = rw c.in-Some.is at found in
    let next : c.saturating_add.result ≡ suc c.in-Some.at = omega (arith, here.0, c.saturating_add.ensures) in
    c.in-Some-split_at_checked.ensures.front ∙ ap (λ (n : ℕ). take n c.args.name.now) next
    ∙ prefix_at c.args.name.now c.in-Some.at here.0 here.1 here.2

pub returns-in-Some-split_at_checked-clause-own : goal.returns-in-Some-split_at_checked-clause-own
returns-in-Some-split_at_checked-clause-own c =
    let found = rfind_char 58 c.args.name.now c.rfind.result c.rfind.ensures.cases (omega arith) in
    let here = rw c.in-Some.is at found in
    let next : c.saturating_add.result ≡ suc c.in-Some.at = omega (arith, here.0, c.saturating_add.ensures) in
    c.in-Some-split_at_checked.ensures.back ∙ ap (λ (n : ℕ). drop n c.args.name.now) next
    ∙ own_at c.args.name.now c.in-Some.at here.0 here.1 here.2

pub returns-in-None-clause-prefix : goal.returns-in-None-clause-prefix
returns-in-None-clause-prefix c =
    let found = rfind_char 58 c.args.name.now c.rfind.result c.rfind.ensures.cases (omega arith) in
    prefix_nowhere c.args.name.now (rw c.in-None.is at found)

pub returns-in-None-clause-own : goal.returns-in-None-clause-own
returns-in-None-clause-own c =
    let found = rfind_char 58 c.args.name.now c.rfind.result c.rfind.ensures.cases (omega arith) in
    own_nowhere c.args.name.now (rw c.in-None.is at found)
