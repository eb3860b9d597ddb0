use Rattle.std.proofs.Common.{◌≡◌, [], ◌++◌, length, ap, sym, ◌∙◌, subst, arith}
use Rattle.recorded_calls.specs.Seats.{seen_history, own, told_history as told_of, number, noted_history, pass_count, number_in}
use Rattle.recorded_calls.specs.Steps.{keeper_at, pass_at, letter_of, claim_of, reads, hears, announced, recorded, adopted, OwnAreAll, SawNoMore}
use Rattle.recorded_calls.proofs.Calling.{reads_at, hears_at, announces_at, records_at, adopts_at, calls_recorded, is_pass}
use Rattle.recorded_calls.proofs.StepLaws.{tells, claims, saying, hearing}
use Rattle.recorded_calls.proofs.board.Board.record_named.Goals as goal

pub split_seat-letter-requires : goal.split_seat-letter-requires
split_seat-letter-requires g c =
    (c.requires.recorder.of_table, omega (arith, c.args.self.now.one_word), tells _ _ _ _)

pub join_seat-requires : goal.join_seat-requires
join_seat-requires g c =
    let p = c.args.pass.now in
    let s = c.args.recorder.now in
    let letter = ap (λ m. m.0) c.split_seat-letter.ensures.4 ∙ ap (λ m. letter_of m.0) c.requires.recorder.rests in
    (c.requires.pass.of_table, c.split_seat-letter.ensures.3 ∙ c.requires.recorder.of_table, ap (λ m. m.1) c.split_seat-letter.ensures.4, omega (arith, c.args.self.now.one_word), reads_at _ _ _ _ c.args.self.now.table.shared.key (number p) (seen_history p) (own p) [] (told_of p) _ _ (noted_history s) (ap (λ m. m.0) c.requires.pass.rests) letter)

pub load-requires : goal.load-requires
load-requires g c =
    let p = c.args.pass.now in
    let s = c.args.recorder.now in
    let letter = ap (λ m. m.0) c.split_seat-letter.ensures.4 ∙ ap (λ m. letter_of m.0) c.requires.recorder.rests in
    let read : c.join_seat.new.seat.me ≡ (saying g.P.Sequential.performs c.args.self.now.table.shared.key c.args.self.now.table.shared.key (number p) (seen_history p) (own p) [] (noted_history s), []) = c.join_seat.ensures.2 ∙ (λ i. (reads ((c.requires.pass.rests i).0) (letter i), (c.requires.pass.rests i).1)) in
    ((c.join_seat.ensures.0 ∙ c.requires.pass.of_table), omega (arith, c.args.self.now.one_word), announces_at _ _ _ _ _ c.args.self.now.table.shared.key (number p) (seen_history p) (own p) (noted_history s) g.J.Naming.entries (let one = ap length c.requires.named.1 in omega arith) read)

pub split_seat-claim-requires : goal.split_seat-claim-requires
split_seat-claim-requires g c =
    (c.load.ensures.0 ∙ c.join_seat.ensures.0 ∙ c.requires.pass.of_table, omega (arith, c.args.self.now.one_word), claims _ _ _ _)

pub join_seat-requires-2 : goal.join_seat-requires-2
join_seat-requires-2 g c =
    let p = c.args.pass.now in
    let s = c.args.recorder.now in
    let letter = ap (λ m. m.0) c.split_seat-letter.ensures.4 ∙ ap (λ m. letter_of m.0) c.requires.recorder.rests in
    let read : c.join_seat.new.seat.me ≡ (saying g.P.Sequential.performs c.args.self.now.table.shared.key c.args.self.now.table.shared.key (number p) (seen_history p) (own p) [] (noted_history s), []) = c.join_seat.ensures.2 ∙ (λ i. (reads ((c.requires.pass.rests i).0) (letter i), (c.requires.pass.rests i).1)) in
    let says : c.load.new.seat.me ≡ (saying g.P.Sequential.performs c.args.self.now.table.shared.key c.args.self.now.table.shared.key (number p) (seen_history p) (own p) g.J.Naming.entries (noted_history s), []) = c.load.ensures.2.0 ∙ ap (λ m. (announced g.J.Naming.entries m.0, m.1)) read in
    let claim = ap (λ m. m.0) c.split_seat-claim.ensures.4 ∙ ap (λ m. claim_of m.0) says in
    let desk = c.split_seat-letter.ensures.2 ∙ c.requires.recorder.rests in
    (c.split_seat-letter.ensures.0 ∙ c.requires.recorder.of_table, c.split_seat-claim.ensures.3 ∙ c.load.ensures.0 ∙ c.join_seat.ensures.0 ∙ c.requires.pass.of_table, ap (λ m. m.1) c.split_seat-claim.ensures.4, omega (arith, c.args.self.now.one_word), hears_at _ _ _ _ c.args.self.now.table.shared.key (pass_count s) (noted_history s) _ _ (record { number = number p; seen = seen_history p; own = own p; says = g.J.Naming.entries }) (ap (λ m. m.0) desk) claim)

pub fetch_add-requires : goal.fetch_add-requires
fetch_add-requires g c =
    let p = c.args.pass.now in
    let s = c.args.recorder.now in
    let letter = ap (λ m. m.0) c.split_seat-letter.ensures.4 ∙ ap (λ m. letter_of m.0) c.requires.recorder.rests in
    let read : c.join_seat.new.seat.me ≡ (saying g.P.Sequential.performs c.args.self.now.table.shared.key c.args.self.now.table.shared.key (number p) (seen_history p) (own p) [] (noted_history s), []) = c.join_seat.ensures.2 ∙ (λ i. (reads ((c.requires.pass.rests i).0) (letter i), (c.requires.pass.rests i).1)) in
    let says : c.load.new.seat.me ≡ (saying g.P.Sequential.performs c.args.self.now.table.shared.key c.args.self.now.table.shared.key (number p) (seen_history p) (own p) g.J.Naming.entries (noted_history s), []) = c.load.ensures.2.0 ∙ ap (λ m. (announced g.J.Naming.entries m.0, m.1)) read in
    let told = subst (λ m. OwnAreAll m.0) read c.load.ensures.2.1 in
    let claim = ap (λ m. m.0) c.split_seat-claim.ensures.4 ∙ ap (λ m. claim_of m.0) says in
    let desk = c.split_seat-letter.ensures.2 ∙ c.requires.recorder.rests in
    let heard : c.join_seat-2.new.seat.me ≡ (hearing g.P.Sequential.performs c.args.self.now.table.shared.key c.args.self.now.table.shared.key (pass_count s) (noted_history s) (number p) (seen_history p) (own p) g.J.Naming.entries, []) = c.join_seat-2.ensures.2 ∙ (λ i. (hears ((desk i).0) (claim i), (desk i).1)) in
    (c.join_seat-2.ensures.0 ∙ c.split_seat-letter.ensures.0 ∙ c.requires.recorder.of_table, omega (arith, c.args.self.now.one_word), records_at _ _ _ _ _ c.args.self.now.table.shared.key (pass_count s) (noted_history s) (number p) (seen_history p) (own p) g.J.Naming.entries c.requires.named.0 c.requires.named.1 (sym c.requires.named.2) c.requires.legal told c.requires.room heard)

pub split_seat-news-requires : goal.split_seat-news-requires
split_seat-news-requires g c =
    (c.fetch_add.ensures.0 ∙ c.join_seat-2.ensures.0 ∙ c.split_seat-letter.ensures.0 ∙ c.requires.recorder.of_table, omega (arith, c.args.self.now.one_word), tells _ _ _ _)

pub join_seat-requires-3 : goal.join_seat-requires-3
join_seat-requires-3 g c =
    let p = c.args.pass.now in
    let s = c.args.recorder.now in
    let letter = ap (λ m. m.0) c.split_seat-letter.ensures.4 ∙ ap (λ m. letter_of m.0) c.requires.recorder.rests in
    let read : c.join_seat.new.seat.me ≡ (saying g.P.Sequential.performs c.args.self.now.table.shared.key c.args.self.now.table.shared.key (number p) (seen_history p) (own p) [] (noted_history s), []) = c.join_seat.ensures.2 ∙ (λ i. (reads ((c.requires.pass.rests i).0) (letter i), (c.requires.pass.rests i).1)) in
    let says : c.load.new.seat.me ≡ (saying g.P.Sequential.performs c.args.self.now.table.shared.key c.args.self.now.table.shared.key (number p) (seen_history p) (own p) g.J.Naming.entries (noted_history s), []) = c.load.ensures.2.0 ∙ ap (λ m. (announced g.J.Naming.entries m.0, m.1)) read in
    let told = subst (λ m. OwnAreAll m.0) read c.load.ensures.2.1 in
    let claim = ap (λ m. m.0) c.split_seat-claim.ensures.4 ∙ ap (λ m. claim_of m.0) says in
    let desk = c.split_seat-letter.ensures.2 ∙ c.requires.recorder.rests in
    let heard : c.join_seat-2.new.seat.me ≡ (hearing g.P.Sequential.performs c.args.self.now.table.shared.key c.args.self.now.table.shared.key (pass_count s) (noted_history s) (number p) (seen_history p) (own p) g.J.Naming.entries, []) = c.join_seat-2.ensures.2 ∙ (λ i. (hears ((desk i).0) (claim i), (desk i).1)) in
    let noting : c.fetch_add.new.seat.me ≡ (keeper_at c.args.self.now.table.shared.key (pass_count s) (noted_history s ++ g.J.Naming.entries), []) = c.fetch_add.ensures.2.0 ∙ ap (λ m. (recorded m.0, m.1)) heard in
    let saw = subst (λ m. SawNoMore m.0) heard c.fetch_add.ensures.2.1 in
    let news = ap (λ m. m.0) c.split_seat-news.ensures.4 ∙ ap (λ m. letter_of m.0) noting in
    let rest = c.split_seat-claim.ensures.2 ∙ says in
    (c.split_seat-claim.ensures.0 ∙ c.load.ensures.0 ∙ c.join_seat.ensures.0 ∙ c.requires.pass.of_table, c.split_seat-news.ensures.3 ∙ c.fetch_add.ensures.0 ∙ c.join_seat-2.ensures.0 ∙ c.split_seat-letter.ensures.0 ∙ c.requires.recorder.of_table, ap (λ m. m.1) c.split_seat-news.ensures.4, omega (arith, c.args.self.now.one_word), reads_at _ _ _ _ c.args.self.now.table.shared.key (number p) (seen_history p) (own p) g.J.Naming.entries (noted_history s) _ _ (noted_history s ++ g.J.Naming.entries) (ap (λ m. m.0) rest) news)

pub load-requires-2 : goal.load-requires-2
load-requires-2 g c =
    let p = c.args.pass.now in
    let s = c.args.recorder.now in
    let letter = ap (λ m. m.0) c.split_seat-letter.ensures.4 ∙ ap (λ m. letter_of m.0) c.requires.recorder.rests in
    let read : c.join_seat.new.seat.me ≡ (saying g.P.Sequential.performs c.args.self.now.table.shared.key c.args.self.now.table.shared.key (number p) (seen_history p) (own p) [] (noted_history s), []) = c.join_seat.ensures.2 ∙ (λ i. (reads ((c.requires.pass.rests i).0) (letter i), (c.requires.pass.rests i).1)) in
    let says : c.load.new.seat.me ≡ (saying g.P.Sequential.performs c.args.self.now.table.shared.key c.args.self.now.table.shared.key (number p) (seen_history p) (own p) g.J.Naming.entries (noted_history s), []) = c.load.ensures.2.0 ∙ ap (λ m. (announced g.J.Naming.entries m.0, m.1)) read in
    let told = subst (λ m. OwnAreAll m.0) read c.load.ensures.2.1 in
    let claim = ap (λ m. m.0) c.split_seat-claim.ensures.4 ∙ ap (λ m. claim_of m.0) says in
    let desk = c.split_seat-letter.ensures.2 ∙ c.requires.recorder.rests in
    let heard : c.join_seat-2.new.seat.me ≡ (hearing g.P.Sequential.performs c.args.self.now.table.shared.key c.args.self.now.table.shared.key (pass_count s) (noted_history s) (number p) (seen_history p) (own p) g.J.Naming.entries, []) = c.join_seat-2.ensures.2 ∙ (λ i. (hears ((desk i).0) (claim i), (desk i).1)) in
    let noting : c.fetch_add.new.seat.me ≡ (keeper_at c.args.self.now.table.shared.key (pass_count s) (noted_history s ++ g.J.Naming.entries), []) = c.fetch_add.ensures.2.0 ∙ ap (λ m. (recorded m.0, m.1)) heard in
    let saw = subst (λ m. SawNoMore m.0) heard c.fetch_add.ensures.2.1 in
    let news = ap (λ m. m.0) c.split_seat-news.ensures.4 ∙ ap (λ m. letter_of m.0) noting in
    let rest = c.split_seat-claim.ensures.2 ∙ says in
    let last : c.join_seat-3.new.seat.me ≡ (saying g.P.Sequential.performs c.args.self.now.table.shared.key c.args.self.now.table.shared.key (number p) (seen_history p) (own p) g.J.Naming.entries (noted_history s ++ g.J.Naming.entries), []) = c.join_seat-3.ensures.2 ∙ (λ i. (reads ((rest i).0) (news i), (rest i).1)) in
    let calls = calls_recorded (number p) (seen_history p) (noted_history s) (own p) g.J.Naming.entries c.requires.named.0 c.requires.named.1 (sym c.requires.named.2) c.requires.pass.own_calls saw told in
    (c.join_seat-3.ensures.0 ∙ c.split_seat-claim.ensures.0 ∙ c.load.ensures.0 ∙ c.join_seat.ensures.0 ∙ c.requires.pass.of_table, omega (arith, c.args.self.now.one_word), adopts_at _ _ _ _ _ c.args.self.now.table.shared.key (number p) (seen_history p) (own p) g.J.Naming.entries (noted_history s ++ g.J.Naming.entries) calls last)

pub returns-clause-pass : goal.returns-clause-pass
returns-clause-pass g c =
    let p = c.args.pass.now in
    let s = c.args.recorder.now in
    let letter = ap (λ m. m.0) c.split_seat-letter.ensures.4 ∙ ap (λ m. letter_of m.0) c.requires.recorder.rests in
    let read : c.join_seat.new.seat.me ≡ (saying g.P.Sequential.performs c.args.self.now.table.shared.key c.args.self.now.table.shared.key (number p) (seen_history p) (own p) [] (noted_history s), []) = c.join_seat.ensures.2 ∙ (λ i. (reads ((c.requires.pass.rests i).0) (letter i), (c.requires.pass.rests i).1)) in
    let says : c.load.new.seat.me ≡ (saying g.P.Sequential.performs c.args.self.now.table.shared.key c.args.self.now.table.shared.key (number p) (seen_history p) (own p) g.J.Naming.entries (noted_history s), []) = c.load.ensures.2.0 ∙ ap (λ m. (announced g.J.Naming.entries m.0, m.1)) read in
    let told = subst (λ m. OwnAreAll m.0) read c.load.ensures.2.1 in
    let claim = ap (λ m. m.0) c.split_seat-claim.ensures.4 ∙ ap (λ m. claim_of m.0) says in
    let desk = c.split_seat-letter.ensures.2 ∙ c.requires.recorder.rests in
    let heard : c.join_seat-2.new.seat.me ≡ (hearing g.P.Sequential.performs c.args.self.now.table.shared.key c.args.self.now.table.shared.key (pass_count s) (noted_history s) (number p) (seen_history p) (own p) g.J.Naming.entries, []) = c.join_seat-2.ensures.2 ∙ (λ i. (hears ((desk i).0) (claim i), (desk i).1)) in
    let noting : c.fetch_add.new.seat.me ≡ (keeper_at c.args.self.now.table.shared.key (pass_count s) (noted_history s ++ g.J.Naming.entries), []) = c.fetch_add.ensures.2.0 ∙ ap (λ m. (recorded m.0, m.1)) heard in
    let saw = subst (λ m. SawNoMore m.0) heard c.fetch_add.ensures.2.1 in
    let news = ap (λ m. m.0) c.split_seat-news.ensures.4 ∙ ap (λ m. letter_of m.0) noting in
    let rest = c.split_seat-claim.ensures.2 ∙ says in
    let last : c.join_seat-3.new.seat.me ≡ (saying g.P.Sequential.performs c.args.self.now.table.shared.key c.args.self.now.table.shared.key (number p) (seen_history p) (own p) g.J.Naming.entries (noted_history s ++ g.J.Naming.entries), []) = c.join_seat-3.ensures.2 ∙ (λ i. (reads ((rest i).0) (news i), (rest i).1)) in
    let calls = calls_recorded (number p) (seen_history p) (noted_history s) (own p) g.J.Naming.entries c.requires.named.0 c.requires.named.1 (sym c.requires.named.2) c.requires.pass.own_calls saw told in
    let took : c.load-2.new.seat.me ≡ (pass_at c.args.self.now.table.shared.key (number p) (noted_history s ++ g.J.Naming.entries) (own p ++ g.J.Naming.entries) [], []) = c.load-2.ensures.2 ∙ ap (λ m. (adopted m.0, m.1)) last in
    (is_pass _ _ _ (number p) (noted_history s ++ g.J.Naming.entries) (own p ++ g.J.Naming.entries) [] (c.load-2.ensures.0 ∙ c.join_seat-3.ensures.0 ∙ c.split_seat-claim.ensures.0 ∙ c.load.ensures.0 ∙ c.join_seat.ensures.0 ∙ c.requires.pass.of_table) took calls, ap (λ m. number_in m.0) took)
