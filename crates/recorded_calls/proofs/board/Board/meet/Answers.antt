use Rattle.std.proofs.Common.{◌≡◌, [], ap, ◌∙◌, subst, arith, append-nil}
use Rattle.recorded_calls.specs.Seats.{seen_history, own, told_history, number, own_in, number_in}
use Rattle.recorded_calls.specs.Steps.{pass_at, letter_of, reads, adopted, OwnAreAll, LooksAt}
use Rattle.recorded_calls.proofs.Calling.{reads_at, looks_at, takes_at, calls_same, is_pass}
use Rattle.recorded_calls.proofs.StepLaws.{tells, saying}
use Rattle.recorded_calls.proofs.board.Board.meet.Goals as goal

pub split_seat-letter-requires : goal.split_seat-letter-requires
split_seat-letter-requires g c =
    (c.requires.other.of_table, omega (arith, c.args.self.now.one_word), tells _ _ _ _)

pub join_seat-requires : goal.join_seat-requires
join_seat-requires g c =
    let x = c.args.one.now in
    let y = c.args.other.now in
    let letter = ap (λ m. m.0) c.split_seat-letter.ensures.4 ∙ ap (λ m. letter_of m.0) c.requires.other.rests in
    (c.requires.one.of_table, c.split_seat-letter.ensures.3 ∙ c.requires.other.of_table, ap (λ m. m.1) c.split_seat-letter.ensures.4, omega (arith, c.args.self.now.one_word), reads_at _ _ _ _ c.args.self.now.table.shared.key (number x) (seen_history x) (own x) [] (told_history x) _ _ (seen_history y) (ap (λ m. m.0) c.requires.one.rests) letter)

pub load-found-requires : goal.load-found-requires
load-found-requires g c =
    let x = c.args.one.now in
    let y = c.args.other.now in
    let letter = ap (λ m. m.0) c.split_seat-letter.ensures.4 ∙ ap (λ m. letter_of m.0) c.requires.other.rests in
    let read : c.join_seat.new.seat.me ≡ (saying g.P.Sequential.performs c.args.self.now.table.shared.key c.args.self.now.table.shared.key (number x) (seen_history x) (own x) [] (seen_history y), []) = c.join_seat.ensures.2 ∙ (λ i. (reads ((c.requires.one.rests i).0) (letter i), (c.requires.one.rests i).1)) in
    (c.join_seat.ensures.0 ∙ c.requires.one.of_table, omega (arith, c.args.self.now.one_word), looks_at _ _ _ _ _ c.args.self.now.table.shared.key (number x) (seen_history x) (own x) (seen_history y) read)

pub split_seat-news-requires : goal.split_seat-news-requires
split_seat-news-requires g c =
    (c.load-found.ensures.0 ∙ c.join_seat.ensures.0 ∙ c.requires.one.of_table, omega (arith, c.args.self.now.one_word), tells _ _ _ _)

pub join_seat-requires-2 : goal.join_seat-requires-2
join_seat-requires-2 g c =
    let x = c.args.one.now in
    let y = c.args.other.now in
    let letter = ap (λ m. m.0) c.split_seat-letter.ensures.4 ∙ ap (λ m. letter_of m.0) c.requires.other.rests in
    let read : c.join_seat.new.seat.me ≡ (saying g.P.Sequential.performs c.args.self.now.table.shared.key c.args.self.now.table.shared.key (number x) (seen_history x) (own x) [] (seen_history y), []) = c.join_seat.ensures.2 ∙ (λ i. (reads ((c.requires.one.rests i).0) (letter i), (c.requires.one.rests i).1)) in
    let look : LooksAt g.P.Sequential.performs (saying g.P.Sequential.performs c.args.self.now.table.shared.key c.args.self.now.table.shared.key (number x) (seen_history x) (own x) [] (seen_history y)) [] c.load-found.result c.load-found.new.seat.me = subst (λ m. LooksAt g.P.Sequential.performs m.0 m.1 c.load-found.result c.load-found.new.seat.me) read c.load-found.ensures.2 in
    let news = ap (λ m. m.0) c.split_seat-news.ensures.4 ∙ ap (λ m. letter_of m.0) look.1 in
    let rest = c.split_seat-letter.ensures.2 ∙ c.requires.other.rests in
    (c.split_seat-letter.ensures.0 ∙ c.requires.other.of_table, c.split_seat-news.ensures.3 ∙ c.load-found.ensures.0 ∙ c.join_seat.ensures.0 ∙ c.requires.one.of_table, ap (λ m. m.1) c.split_seat-news.ensures.4, omega (arith, c.args.self.now.one_word), reads_at _ _ _ _ c.args.self.now.table.shared.key (number y) (seen_history y) (own y) [] (told_history y) _ _ look.0 (ap (λ m. m.0) rest) news)

pub load-requires : goal.load-requires
load-requires g c =
    let x = c.args.one.now in
    let y = c.args.other.now in
    let letter = ap (λ m. m.0) c.split_seat-letter.ensures.4 ∙ ap (λ m. letter_of m.0) c.requires.other.rests in
    let read : c.join_seat.new.seat.me ≡ (saying g.P.Sequential.performs c.args.self.now.table.shared.key c.args.self.now.table.shared.key (number x) (seen_history x) (own x) [] (seen_history y), []) = c.join_seat.ensures.2 ∙ (λ i. (reads ((c.requires.one.rests i).0) (letter i), (c.requires.one.rests i).1)) in
    let look : LooksAt g.P.Sequential.performs (saying g.P.Sequential.performs c.args.self.now.table.shared.key c.args.self.now.table.shared.key (number x) (seen_history x) (own x) [] (seen_history y)) [] c.load-found.result c.load-found.new.seat.me = subst (λ m. LooksAt g.P.Sequential.performs m.0 m.1 c.load-found.result c.load-found.new.seat.me) read c.load-found.ensures.2 in
    let news = ap (λ m. m.0) c.split_seat-news.ensures.4 ∙ ap (λ m. letter_of m.0) look.1 in
    let rest = c.split_seat-letter.ensures.2 ∙ c.requires.other.rests in
    let heard : c.join_seat-2.new.seat.me ≡ (saying g.P.Sequential.performs c.args.self.now.table.shared.key c.args.self.now.table.shared.key (number y) (seen_history y) (own y) [] look.0, []) = c.join_seat-2.ensures.2 ∙ (λ i. (reads ((rest i).0) (news i), (rest i).1)) in
    (c.join_seat-2.ensures.0 ∙ c.split_seat-letter.ensures.0 ∙ c.requires.other.of_table, omega (arith, c.args.self.now.one_word), takes_at _ _ _ _ _ c.args.self.now.table.shared.key (number y) (seen_history y) (own y) look.0 heard)

pub returns-clause-other : goal.returns-clause-other
returns-clause-other g c =
    let x = c.args.one.now in
    let y = c.args.other.now in
    let letter = ap (λ m. m.0) c.split_seat-letter.ensures.4 ∙ ap (λ m. letter_of m.0) c.requires.other.rests in
    let read : c.join_seat.new.seat.me ≡ (saying g.P.Sequential.performs c.args.self.now.table.shared.key c.args.self.now.table.shared.key (number x) (seen_history x) (own x) [] (seen_history y), []) = c.join_seat.ensures.2 ∙ (λ i. (reads ((c.requires.one.rests i).0) (letter i), (c.requires.one.rests i).1)) in
    let look : LooksAt g.P.Sequential.performs (saying g.P.Sequential.performs c.args.self.now.table.shared.key c.args.self.now.table.shared.key (number x) (seen_history x) (own x) [] (seen_history y)) [] c.load-found.result c.load-found.new.seat.me = subst (λ m. LooksAt g.P.Sequential.performs m.0 m.1 c.load-found.result c.load-found.new.seat.me) read c.load-found.ensures.2 in
    let news = ap (λ m. m.0) c.split_seat-news.ensures.4 ∙ ap (λ m. letter_of m.0) look.1 in
    let rest = c.split_seat-letter.ensures.2 ∙ c.requires.other.rests in
    let heard : c.join_seat-2.new.seat.me ≡ (saying g.P.Sequential.performs c.args.self.now.table.shared.key c.args.self.now.table.shared.key (number y) (seen_history y) (own y) [] look.0, []) = c.join_seat-2.ensures.2 ∙ (λ i. (reads ((rest i).0) (news i), (rest i).1)) in
    let took : c.load.new.seat.me ≡ (pass_at c.args.self.now.table.shared.key (number y) look.0 (own y) [], []) = c.load.ensures.2.0 ∙ ap (λ m. (adopted m.0, m.1)) heard ∙ (λ i. (pass_at c.args.self.now.table.shared.key (number y) look.0 (append-nil (own y) i) [], [])) in
    let told_history = subst (λ m. OwnAreAll m.0) heard c.load.ensures.2.1 in
    let calls = calls_same (number y) (seen_history y) look.0 (own y) c.requires.other.own_calls look.5 told_history in
    (is_pass _ _ _ (number y) look.0 (own y) [] (c.load.ensures.0 ∙ c.join_seat-2.ensures.0 ∙ c.split_seat-letter.ensures.0 ∙ c.requires.other.of_table) took calls, ap (λ m. number_in m.0) took, ap (λ m. own_in m.0) took)
