use Rattle.std.proofs.Common.{◌≡◌, [], ap, sym, ◌∙◌, subst, arith, append-nil}
use mathlib.Core.List.{IsPrefix}
use Rattle.recorded_calls.specs.Seats.{seen_history, own, told_history, number, own_in, number_in}
use Rattle.recorded_calls.specs.Steps.{pass_at, adopted, OwnAreAll}
use Rattle.recorded_calls.proofs.Calling.{takes_at, calls_same, is_pass}
use Rattle.recorded_calls.proofs.board.Board.show.Goals as goal

pub load-requires : goal.load-requires
load-requires g c =
    let p = c.tell.new.pass in
    (c.tell.ensures.pass.0.of_table, omega (arith, c.args.self.now.one_word), takes_at _ _ _ _ _ c.args.self.now.table.shared.key (number p) (seen_history p) (own p) (told_history p) c.tell.ensures.pass.0.rests)

pub returns-clause-pass : goal.returns-clause-pass
returns-clause-pass g c =
    let p = c.tell.new.pass in
    let rests = c.tell.ensures.pass.0.rests in
    let took : c.load.new.seat.me ≡ (pass_at c.args.self.now.table.shared.key (number p) (told_history p) (own p) [], []) = c.load.ensures.2.0 ∙ ap (λ m. (adopted m.0, m.1)) rests ∙ (λ i. (pass_at c.args.self.now.table.shared.key (number p) (told_history p) (append-nil (own p) i) [], [])) in
    let all = subst (λ m. OwnAreAll m.0) rests c.load.ensures.2.1 in
    let before : IsPrefix (seen_history p) (told_history p) = subst (λ l. IsPrefix l (told_history p)) (sym c.tell.ensures.same.0) (subst (λ l. IsPrefix (seen_history c.args.pass.now) l) (sym c.tell.ensures.told) c.tell.ensures.before) in
    let calls = calls_same (number p) (seen_history p) (told_history p) (own p) c.tell.ensures.pass.0.own_calls before all in
    (is_pass _ _ _ (number p) (told_history p) (own p) [] (c.load.ensures.0 ∙ c.tell.ensures.pass.0.of_table) took calls, ap (λ m. number_in m.0) took ∙ c.tell.ensures.pass.1, ap (λ m. own_in m.0) took ∙ c.tell.ensures.same.1)
