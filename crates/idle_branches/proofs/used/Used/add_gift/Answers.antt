use Rattle.std.proofs.Common.{ℕ, ◌<◌, ◌∷◌, [], ◌++◌, List, length, arith, refl, sym, ap, ◌∙◌}
use Rattle.std.specs.Prelude.{slice_set}
use Rattle.std.specs.Vec.{with_item}
use Rattle.idle_branches.proofs.GatherLemmas.{get-list, gift-added, on-ok}
use Rattle.idle_branches.proofs.used.Used.add_gift.Goals as goal

pub returns : goal.returns
returns c =
    let table = c.args.self.now.giving.items in
    let less : c.args.branch < length table = omega (arith, c.len.ensures) in
    on-ok c.push.result
    (λ more. gift-added c.args.branch c.args.channel c.args.self.now
    (record { acting = c.args.self.now.acting; giving = with_item c.args.self.now.giving c.args.branch c.push.new.self }) less refl
    (ap (λ (w : List ℕ). slice_set table c.args.branch w)
    (more ∙ ap (λ (l : List ℕ). l ++ c.args.channel ∷ []) (sym (get-list table c.args.branch c.index_mut.result.now less c.index_mut.ensures.value)))))
    c.push.ensures.ok
