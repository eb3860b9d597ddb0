use Rattle.std.proofs.Common.{List, ℕ, None, map, sym, ap, ◌∙◌, subst}
use Rattle.process_tree.specs.Code.{Code as Model}
use Rattle.process_tree.specs.Proc.{started, unopened}
use Rattle.process_tree.specs.Translation.{row_with}
use Rattle.process_tree.specs.View.{code_view}
use Rattle.process_tree.specs.declared.code.Await.{Await}
use Rattle.process_tree.proofs.public.Views.{code_await}
use Rattle.idle_branches.specs.internal.Sights.{Sees}
use Rattle.idle_branches.proofs.SightLemmas.{sees-unknown}
use Rattle.idle_branches.proofs.sight.sight_of_code.Goals as goal

pub returns-in-Await : goal.returns-in-Await
returns-in-Await c =
    let cs = row_with (map code_view c.in-Await.waiting.arms) None in
    subst (λ (k : Model). Sees c.sight_of_channels.result (started k)) (sym (ap code_view c.in-Await.is ∙ code_await c.in-Await.waiting))
    (subst (λ (ds : List ℕ). Sees c.sight_of_channels.result (unopened ds cs))
    (c.as_slice.ensures ∙ ap (λ (a : Await). a.channels) c.get-in-Await.ensures) (c.sight_of_channels.ensures cs))

pub returns-in_default : goal.returns-in_default
returns-in_default c = sees-unknown (started (code_view c.args.code.now))
