-- Where events stand is one.
use Rattle.std.proofs.Common.{◌≡◌, ℕ, List, [], ◌∷◌, Option, None, Some, refl, sym, ◌∙◌, ap}
use Rattle.runs.specs.Moves.{Place}
use Rattle.runs.specs.declared.event.Event.{Event}
use Rattle.machine.specs.AtMachine.{AtMachine}
use Rattle.picture_lanes.specs.declared.lane.Lane.{Lane}
use Rattle.picture_data.specs.Lines.{lane_at, line_of}
use Rattle.picture_data.specs.Shown.{EachStandsIn, SecondStandsIn, StandsIn}
use Rattle.picture_data.specs.declared.actions.Actions.{Actions}

abbrev pub SameLines : AtMachine → AtMachine → Type 0
SameLines m n = (a : Place) → line_of m a ≡ line_of n a

second-lane : (m n : AtMachine) (lanes others : List Lane) (o : Option Place) (s r : Actions) → lanes ≡ others → SecondStandsIn m lanes o s →
    SecondStandsIn n others o r → s.second_lane ≡ r.second_lane
second-lane m n lanes others None s r one here there = here.0 ∙ sym there.0
second-lane m n lanes others (Some b) s r one here there = here.0 ∙ ap (λ (ls : List Lane). lane_at ls b) one ∙ sym there.0

second-line : (m n : AtMachine) (lanes others : List Lane) (o : Option Place) (s r : Actions) → SameLines m n → SecondStandsIn m lanes o s →
    SecondStandsIn n others o r → s.second_line ≡ r.second_line
second-line m n lanes others None s r same here there = here.1 ∙ sym there.1
second-line m n lanes others (Some b) s r same here there = here.1 ∙ same b ∙ sym there.1

pub one-stand : (m n : AtMachine) (lanes others : List Lane) (e : Event) (s r : Actions) → lanes ≡ others → SameLines m n → StandsIn m lanes e s →
    StandsIn n others e r → s ≡ r
one-stand m n lanes others e s r one same here there =
    let made : Option ℕ → Option ℕ → ℕ → ℕ → Actions =
    λ a b c d. record { first_lane = a; second_lane = b; first_line = c; second_line = d } in
    let first : s.first_lane ≡ r.first_lane = here.lane ∙ ap (λ (ls : List Lane). lane_at ls e.first) one ∙ sym there.lane in
    let second : s.second_lane ≡ r.second_lane = second-lane m n lanes others e.second s r one here.second there.second in
    let line : s.first_line ≡ r.first_line = here.line ∙ same e.first ∙ sym there.line in
    let other : s.second_line ≡ r.second_line = second-line m n lanes others e.second s r same here.second there.second in
    ap (λ (a : Option ℕ). made a s.second_lane s.first_line s.second_line) first
    ∙ ap (λ (b : Option ℕ). made r.first_lane b s.first_line s.second_line) second
    ∙ ap (λ (c : ℕ). made r.first_lane r.second_lane c s.second_line) line
    ∙ ap (λ (d : ℕ). made r.first_lane r.second_lane r.first_line d) other

pub one-stands : (m n : AtMachine) (lanes others : List Lane) (es : List Event) (ss rs : List Actions) → lanes ≡ others → SameLines m n →
    EachStandsIn m lanes es ss → EachStandsIn n others es rs → ss ≡ rs
one-stands m n lanes others [] [] [] one same here there = refl
one-stands m n lanes others [] [] (r ∷ rs) one same here there = absurd there
one-stands m n lanes others [] (s ∷ ss) rs one same here there = absurd here
one-stands m n lanes others (e ∷ es) [] rs one same here there = absurd here
one-stands m n lanes others (e ∷ es) (s ∷ ss) [] one same here there = absurd there
one-stands m n lanes others (e ∷ es) (s ∷ ss) (r ∷ rs) one same here there =
    ap (λ (x : Actions). x ∷ ss) (one-stand m n lanes others e s r one same here.0 there.0)
    ∙ ap (λ (xs : List Actions). r ∷ xs) (one-stands m n lanes others es ss rs one same here.1 there.1)
