-- What is told of workers.
use Rattle.std.specs.Prelude.{ℕ, List, ◌++◌, codes, decimal}
use Rattle.debug_session.specs.ReplyText.{ending}

-- the two lines that tell how many of their turns were steps, and how many events are live in the end
abbrev pub work_text : ℕ → ℕ → List ℕ
work_text stepped live =
    (codes "stepped " ++ (decimal stepped ++ ending)) ++ (codes "live " ++ (decimal live ++ ending))
