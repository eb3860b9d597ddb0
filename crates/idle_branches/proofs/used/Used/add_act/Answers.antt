use Rattle.std.proofs.Common.{ℕ, ◌<◌, ◌∷◌, [], ◌++◌, List, length, arith, refl, sym, ap, ◌∙◌}
use Rattle.std.specs.Prelude.{slice_set}
use Rattle.std.specs.Vec.{with_item}
use Rattle.idle_branches.proofs.GatherLemmas.{act-added, get-list, on-ok}
use Rattle.idle_branches.proofs.used.Used.add_act.Goals as goal

pub returns : goal.returns
returns c =
    let table = c.args.self.now.acting.items in
    let less : c.args.channel < length table = omega (arith, c.len.ensures) in
    on-ok c.push.result
    (λ more. act-added c.args.branch c.args.channel c.args.self.now
    (record { acting = with_item c.args.self.now.acting c.args.channel c.push.new.self; giving = c.args.self.now.giving }) less refl
    (ap (λ (w : List ℕ). slice_set table c.args.channel w)
    (more ∙ ap (λ (l : List ℕ). l ++ c.args.branch ∷ []) (sym (get-list table c.args.channel c.index_mut.result.now less c.index_mut.ensures.value)))))
    c.push.ensures.ok
