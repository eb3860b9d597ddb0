-- What stands at the beginning of some bytes.
use Rattle.std.specs.Prelude.{ℕ, ◌≡◌, ◌+◌, ◌-◌, ◌<◌, ◌≤◌, ◌⊎◌, List, length, take, true, false, None, Some}
use Rattle.dap_frames.specs.Header.{ends_bare, header_length, Tells, TellsNone}
use Rattle.dap_frames.specs.declared.body.Unframed.{Unframed}
use Rattle.dap_frames.specs.declared.body.TheConstants.{MOST_BODY, MOST_HEADER}

-- behind a header of so many bytes
abbrev pub BodyAt : List ℕ → ℕ → Unframed → Type 0
BodyAt bytes start (Unframed.Whole from to) =
    (from ≡ start) × Tells (take start bytes) (to - from) × (from ≤ to) × (to ≤ length bytes) × (to ≤ start + MOST_BODY)
BodyAt bytes start Unframed.Begun = (n : ℕ) × Tells (take start bytes) n × (n ≤ MOST_BODY) × (length bytes < start + n)
BodyAt bytes start (Unframed.Large from n) = (from ≡ start) × Tells (take start bytes) n × (MOST_BODY < n)
BodyAt bytes start Unframed.Broken = TellsNone (take start bytes)

-- the bytes have no header yet; or one that is too long, or has a line that does not end as it should
abbrev pub WithoutHeader : List ℕ → Unframed → Type 0
WithoutHeader bytes Unframed.Begun = (length bytes < MOST_HEADER) × (ends_bare false bytes ≡ false)
WithoutHeader bytes Unframed.Broken = (MOST_HEADER ≤ length bytes) ⊎ (ends_bare false bytes ≡ true)
WithoutHeader bytes _ = ⊥

-- what stands there
abbrev pub Unframes : List ℕ → Unframed → Type 0
Unframes bytes unframed =
    ((header_length bytes ≡ None) × WithoutHeader bytes unframed)
    ⊎ ((start : ℕ) × (header_length bytes ≡ Some start) × (start ≤ MOST_HEADER) × BodyAt bytes start unframed)
    ⊎ ((start : ℕ) × (header_length bytes ≡ Some start) × (MOST_HEADER < start) × (unframed ≡ Unframed.Broken))
