-- What each step does to the view of the seat that takes it, and what it tells.
use Rattle.std.specs.Prelude.{◌≡◌, ℕ, ◌+◌, List, [], ◌++◌, length}
use mathlib.Core.List.{IsPrefix}
use Rattle.atomic_table.specs.Table.{Me, Step}
use Rattle.recorded_calls.specs.History.{calls_by, NoCallsFrom, IsLegal}
use Rattle.recorded_calls.specs.declared.entry.Entry.{Entry}
use Rattle.recorded_calls.specs.declared.view.View.{View}
use Rattle.recorded_calls.specs.declared.view.View.TheVariants.{Nobody, Keeper, Speaker, Letter, Claim}
use Rattle.recorded_calls.specs.declared.view.Keeping.{Keeping}
use Rattle.recorded_calls.specs.declared.view.Passing.{Passing}
use Rattle.recorded_calls.specs.declared.view.Claimed.{Claimed}

-- no pass has claimed anything
abbrev pub no_claim : {C R : Type 0} → Claimed C R
no_claim = record { number = 0; seen = []; own = []; says = [] }

module _ {O C R : Type 0} where
  -- the keeper's seat between calls: it has heard no claim
  abbrev pub keeper_at : O → ℕ → List (Entry C R) → View O C R
  keeper_at opening made noted = Keeper (record { opening = opening; made = made; noted = noted; claim = no_claim })

  -- a pass between its calls: it has announced nothing
  abbrev pub pass_at : O → ℕ → List (Entry C R) → List (Entry C R) → List (Entry C R) → View O C R
  pass_at opening n seen own told =
      Speaker (record { opening = opening; number = n; seen = seen; own = own; announced = []; told = told })

  -- a further pass, which the keeper's seat makes
  abbrev pub one_more : View O C R → View O C R
  one_more (Keeper k) = Keeper (record { opening = k.opening; made = k.made + 1; noted = k.noted; claim = k.claim })
  one_more v = v

  abbrev pub new_pass_of : View O C R → View O C R
  new_pass_of (Keeper k) = pass_at k.opening k.made [] [] []
  new_pass_of v = Nobody

  -- a letter with the history that the seat notes or has seen, and a pass that reads it
  abbrev pub letter_of : View O C R → View O C R
  letter_of (Keeper k) = Letter k.noted
  letter_of (Speaker p) = Letter p.seen
  letter_of v = Nobody

  abbrev pub with_letter : Passing O C R → View O C R → View O C R
  with_letter p (Letter told) =
      Speaker
      (record {
        opening = p.opening;
        number = p.number;
        seen = p.seen;
        own = p.own;
        announced = p.announced;
        told = told;
      })
  with_letter p u = Speaker p

  abbrev pub reads : View O C R → View O C R → View O C R
  reads (Speaker p) u = with_letter p u
  reads v u = v

  -- what a pass claims, and the keeper's seat that takes it in
  abbrev pub claim_of : View O C R → View O C R
  claim_of (Speaker p) = Claim (record { number = p.number; seen = p.seen; own = p.own; says = p.announced })
  claim_of v = Nobody

  abbrev pub with_claim : Keeping O C R → View O C R → View O C R
  with_claim k (Claim c) = Keeper (record { opening = k.opening; made = k.made; noted = k.noted; claim = c })
  with_claim k u = Keeper k

  abbrev pub hears : View O C R → View O C R → View O C R
  hears (Keeper k) u = with_claim k u
  hears v u = v

  -- announce: the pass names its entry
  abbrev pub announced : List (Entry C R) → View O C R → View O C R
  announced entries (Speaker p) =
      Speaker
      (record {
        opening = p.opening;
        number = p.number;
        seen = p.seen;
        own = p.own;
        announced = entries;
        told = p.told;
      })
  announced entries v = v

  -- record: the noted list grows by the entry
  abbrev pub recorded : View O C R → View O C R
  recorded (Keeper k) = keeper_at k.opening k.made (k.noted ++ k.claim.says)
  recorded v = v

  -- confirm: the keeper's seat puts the claim away
  abbrev pub unclaimed : View O C R → View O C R
  unclaimed (Keeper k) = keeper_at k.opening k.made k.noted
  unclaimed v = v

  -- adopt: the pass has seen what it was told, its own list grows by the entry, and the announcement ends
  abbrev pub adopted : View O C R → View O C R
  adopted (Speaker p) = pass_at p.opening p.number p.told (p.own ++ p.announced) []
  adopted v = v

  -- what the pass was told has no calls of the pass but its own
  abbrev pub OwnAreAll : View O C R → Type 0
  OwnAreAll (Speaker p) = IsPrefix (calls_by p.number p.told) p.own
  OwnAreAll v = Unit {0}

  -- the pass that claims has seen no more than a beginning of what the keeper's seat notes
  abbrev pub SawNoMore : View O C R → Type 0
  SawNoMore (Keeper k) = IsPrefix k.claim.seen k.noted
  SawNoMore v = Unit {0}

  -- with what is claimed, what is noted has calls of the passes alone that were made
  abbrev pub NoOthers : View O C R → Type 0
  NoOthers (Keeper k) = NoCallsFrom k.made (k.noted ++ k.claim.says)
  NoOthers v = Unit {0}

  -- announce, of these entries: what the pass was told has its own calls alone
  abbrev pub Announces : List (Entry C R) → Step ℕ → Me ℕ (View O C R) → ℕ → Me ℕ (View O C R) → Type 0
  Announces entries st m found n = (n ≡ (announced entries m.0, m.1)) × OwnAreAll m.0

  -- record, of what was claimed: the pass had seen no more than was noted, and is one of those that were made
  abbrev pub Records : Step ℕ → Me ℕ (View O C R) → ℕ → Me ℕ (View O C R) → Type 0
  Records st m found n = (n ≡ (recorded m.0, m.1)) × SawNoMore m.0 × NoOthers m.0

  -- confirm, of what was claimed: the pass had seen no more than is noted
  abbrev pub Confirms : Step ℕ → Me ℕ (View O C R) → ℕ → Me ℕ (View O C R) → Type 0
  Confirms st m found n = (n ≡ (unclaimed m.0, m.1)) × SawNoMore m.0

  -- adopt
  abbrev pub Adopts : Step ℕ → Me ℕ (View O C R) → ℕ → Me ℕ (View O C R) → Type 0
  Adopts st m found n = n ≡ (adopted m.0, m.1)

  -- look: the pass has seen the history, whose length was found
  abbrev pub LooksAt : (O → ℕ → C → R → O → Type 0) → View O C R → List (ℕ × ℕ) → ℕ → Me ℕ (View O C R) → Type 0
  LooksAt performs (Speaker p) slots found n =
      (log : List (Entry C R)) × (n ≡ (pass_at p.opening p.number log p.own [], slots)) × (length log ≡ found)
      × IsLegal performs p.opening log × IsPrefix p.seen log × IsPrefix p.told log × (calls_by p.number log ≡ p.own)
  LooksAt performs v slots found n = Unit {0}

  abbrev pub Looks : (O → ℕ → C → R → O → Type 0) → Step ℕ → Me ℕ (View O C R) → ℕ → Me ℕ (View O C R) → Type 0
  Looks performs st m found n = LooksAt performs m.0 m.1 found n

  -- it takes what it was given, the history that the first of two that meet saw, or the keeper's: it has seen that
  abbrev pub Takes : Step ℕ → Me ℕ (View O C R) → ℕ → Me ℕ (View O C R) → Type 0
  Takes st m found n = (n ≡ (adopted m.0, m.1)) × OwnAreAll m.0
