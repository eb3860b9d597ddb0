-- A first line at equal places.
use Rattle.std.proofs.Common.{◌≡◌, ℕ, List}
use Rattle.findings.specs.Heads.{head}

pub placed : (told name what said : List ℕ) (line row column character : ℕ) → told ≡ head name line column what
    → line ≡ row → column ≡ character → what ≡ said → told ≡ head name row character said
placed told name what said line row column character is lines columns whats = cc
