use Rattle.std.proofs.Common.{◌≡◌, [], ap, ◌∙◌, subst, arith}
use Rattle.recorded_calls.specs.Seats.{seen_history, own, told_history, number, noted_history, pass_count, seen_in, own_in, told_in, number_in}
use Rattle.recorded_calls.specs.Steps.{keeper_at, pass_at, letter_of, claim_of, reads, hears, unclaimed, SawNoMore}
use Rattle.recorded_calls.proofs.Calling.{reads_at, hears_at, confirms_at, is_pass}
use Rattle.recorded_calls.proofs.StepLaws.{tells, claims, hearing}
use Rattle.recorded_calls.proofs.board.Board.tell.Goals as goal

pub split_seat-claim-requires : goal.split_seat-claim-requires
split_seat-claim-requires g c =
    (c.requires.pass.of_table, omega (arith, c.args.self.now.one_word), claims _ _ _ _)

pub join_seat-requires : goal.join_seat-requires
join_seat-requires g c =
    let p = c.args.pass.now in
    let s = c.args.recorder.now in
    let claim = ap (λ m. m.0) c.split_seat-claim.ensures.4 ∙ ap (λ m. claim_of m.0) c.requires.pass.rests in
    (c.requires.recorder.of_table, c.split_seat-claim.ensures.3 ∙ c.requires.pass.of_table, ap (λ m. m.1) c.split_seat-claim.ensures.4, omega (arith, c.args.self.now.one_word), hears_at _ _ _ _ c.args.self.now.table.shared.key (pass_count s) (noted_history s) _ _ (record { number = number p; seen = seen_history p; own = own p; says = [] }) (ap (λ m. m.0) c.requires.recorder.rests) claim)

pub load-requires : goal.load-requires
load-requires g c =
    let p = c.args.pass.now in
    let s = c.args.recorder.now in
    let claim = ap (λ m. m.0) c.split_seat-claim.ensures.4 ∙ ap (λ m. claim_of m.0) c.requires.pass.rests in
    let heard : c.join_seat.new.seat.me ≡ (hearing g.P.Sequential.performs c.args.self.now.table.shared.key c.args.self.now.table.shared.key (pass_count s) (noted_history s) (number p) (seen_history p) (own p) [], []) = c.join_seat.ensures.2 ∙ (λ i. (hears ((c.requires.recorder.rests i).0) (claim i), (c.requires.recorder.rests i).1)) in
    (c.join_seat.ensures.0 ∙ c.requires.recorder.of_table, omega (arith, c.args.self.now.one_word), confirms_at _ _ _ _ _ c.args.self.now.table.shared.key (pass_count s) (noted_history s) (number p) (seen_history p) (own p) [] heard)

pub split_seat-history-requires : goal.split_seat-history-requires
split_seat-history-requires g c =
    (c.load.ensures.0 ∙ c.join_seat.ensures.0 ∙ c.requires.recorder.of_table, omega (arith, c.args.self.now.one_word), tells _ _ _ _)

pub join_seat-requires-2 : goal.join_seat-requires-2
join_seat-requires-2 g c =
    let p = c.args.pass.now in
    let s = c.args.recorder.now in
    let claim = ap (λ m. m.0) c.split_seat-claim.ensures.4 ∙ ap (λ m. claim_of m.0) c.requires.pass.rests in
    let heard : c.join_seat.new.seat.me ≡ (hearing g.P.Sequential.performs c.args.self.now.table.shared.key c.args.self.now.table.shared.key (pass_count s) (noted_history s) (number p) (seen_history p) (own p) [], []) = c.join_seat.ensures.2 ∙ (λ i. (hears ((c.requires.recorder.rests i).0) (claim i), (c.requires.recorder.rests i).1)) in
    let noting : c.load.new.seat.me ≡ (keeper_at c.args.self.now.table.shared.key (pass_count s) (noted_history s), []) = c.load.ensures.2.0 ∙ ap (λ m. (unclaimed m.0, m.1)) heard in
    let letter = ap (λ m. m.0) c.split_seat-history.ensures.4 ∙ ap (λ m. letter_of m.0) noting in
    let rest = c.split_seat-claim.ensures.2 ∙ c.requires.pass.rests in
    (c.split_seat-claim.ensures.0 ∙ c.requires.pass.of_table, c.split_seat-history.ensures.3 ∙ c.load.ensures.0 ∙ c.join_seat.ensures.0 ∙ c.requires.recorder.of_table, ap (λ m. m.1) c.split_seat-history.ensures.4, omega (arith, c.args.self.now.one_word), reads_at _ _ _ _ c.args.self.now.table.shared.key (number p) (seen_history p) (own p) [] (told_history p) _ _ (noted_history s) (ap (λ m. m.0) rest) letter)

pub returns-clause-pass : goal.returns-clause-pass
returns-clause-pass g c =
    let p = c.args.pass.now in
    let s = c.args.recorder.now in
    let claim = ap (λ m. m.0) c.split_seat-claim.ensures.4 ∙ ap (λ m. claim_of m.0) c.requires.pass.rests in
    let heard : c.join_seat.new.seat.me ≡ (hearing g.P.Sequential.performs c.args.self.now.table.shared.key c.args.self.now.table.shared.key (pass_count s) (noted_history s) (number p) (seen_history p) (own p) [], []) = c.join_seat.ensures.2 ∙ (λ i. (hears ((c.requires.recorder.rests i).0) (claim i), (c.requires.recorder.rests i).1)) in
    let noting : c.load.new.seat.me ≡ (keeper_at c.args.self.now.table.shared.key (pass_count s) (noted_history s), []) = c.load.ensures.2.0 ∙ ap (λ m. (unclaimed m.0, m.1)) heard in
    let letter = ap (λ m. m.0) c.split_seat-history.ensures.4 ∙ ap (λ m. letter_of m.0) noting in
    let rest = c.split_seat-claim.ensures.2 ∙ c.requires.pass.rests in
    let read : c.join_seat-2.new.seat.me ≡ (pass_at c.args.self.now.table.shared.key (number p) (seen_history p) (own p) (noted_history s), []) = c.join_seat-2.ensures.2 ∙ (λ i. (reads ((rest i).0) (letter i), (rest i).1)) in
    (is_pass _ _ _ (number p) (seen_history p) (own p) (noted_history s) (c.join_seat-2.ensures.0 ∙ c.split_seat-claim.ensures.0 ∙ c.requires.pass.of_table) read c.requires.pass.own_calls, ap (λ m. number_in m.0) read)

pub returns-clause-same : goal.returns-clause-same
returns-clause-same g c =
    let p = c.args.pass.now in
    let s = c.args.recorder.now in
    let claim = ap (λ m. m.0) c.split_seat-claim.ensures.4 ∙ ap (λ m. claim_of m.0) c.requires.pass.rests in
    let heard : c.join_seat.new.seat.me ≡ (hearing g.P.Sequential.performs c.args.self.now.table.shared.key c.args.self.now.table.shared.key (pass_count s) (noted_history s) (number p) (seen_history p) (own p) [], []) = c.join_seat.ensures.2 ∙ (λ i. (hears ((c.requires.recorder.rests i).0) (claim i), (c.requires.recorder.rests i).1)) in
    let noting : c.load.new.seat.me ≡ (keeper_at c.args.self.now.table.shared.key (pass_count s) (noted_history s), []) = c.load.ensures.2.0 ∙ ap (λ m. (unclaimed m.0, m.1)) heard in
    let letter = ap (λ m. m.0) c.split_seat-history.ensures.4 ∙ ap (λ m. letter_of m.0) noting in
    let rest = c.split_seat-claim.ensures.2 ∙ c.requires.pass.rests in
    let read : c.join_seat-2.new.seat.me ≡ (pass_at c.args.self.now.table.shared.key (number p) (seen_history p) (own p) (noted_history s), []) = c.join_seat-2.ensures.2 ∙ (λ i. (reads ((rest i).0) (letter i), (rest i).1)) in
    (ap (λ m. seen_in m.0) read, ap (λ m. own_in m.0) read)

pub returns-clause-told : goal.returns-clause-told
returns-clause-told g c =
    let p = c.args.pass.now in
    let s = c.args.recorder.now in
    let claim = ap (λ m. m.0) c.split_seat-claim.ensures.4 ∙ ap (λ m. claim_of m.0) c.requires.pass.rests in
    let heard : c.join_seat.new.seat.me ≡ (hearing g.P.Sequential.performs c.args.self.now.table.shared.key c.args.self.now.table.shared.key (pass_count s) (noted_history s) (number p) (seen_history p) (own p) [], []) = c.join_seat.ensures.2 ∙ (λ i. (hears ((c.requires.recorder.rests i).0) (claim i), (c.requires.recorder.rests i).1)) in
    let noting : c.load.new.seat.me ≡ (keeper_at c.args.self.now.table.shared.key (pass_count s) (noted_history s), []) = c.load.ensures.2.0 ∙ ap (λ m. (unclaimed m.0, m.1)) heard in
    let letter = ap (λ m. m.0) c.split_seat-history.ensures.4 ∙ ap (λ m. letter_of m.0) noting in
    let rest = c.split_seat-claim.ensures.2 ∙ c.requires.pass.rests in
    let read : c.join_seat-2.new.seat.me ≡ (pass_at c.args.self.now.table.shared.key (number p) (seen_history p) (own p) (noted_history s), []) = c.join_seat-2.ensures.2 ∙ (λ i. (reads ((rest i).0) (letter i), (rest i).1)) in
    ap (λ m. told_in m.0) read

pub returns-clause-before : goal.returns-clause-before
returns-clause-before g c =
    let p = c.args.pass.now in
    let s = c.args.recorder.now in
    let claim = ap (λ m. m.0) c.split_seat-claim.ensures.4 ∙ ap (λ m. claim_of m.0) c.requires.pass.rests in
    let heard : c.join_seat.new.seat.me ≡ (hearing g.P.Sequential.performs c.args.self.now.table.shared.key c.args.self.now.table.shared.key (pass_count s) (noted_history s) (number p) (seen_history p) (own p) [], []) = c.join_seat.ensures.2 ∙ (λ i. (hears ((c.requires.recorder.rests i).0) (claim i), (c.requires.recorder.rests i).1)) in
    subst (λ m. SawNoMore m.0) heard c.load.ensures.2.1
