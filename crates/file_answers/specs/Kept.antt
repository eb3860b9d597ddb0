-- What a run keeps of what it reads, for who explains a refusal.
use Rattle.std.specs.Prelude.{ℕ, List}
use Rattle.file_answers.specs.declared.texts.Texts.{Texts}

-- the texts of the files that it read, and the last line of a script, or the words that tell of a refusal
pub record Kept : Type 0 where
  pub source : List ℕ
  pub values : List ℕ
  pub trace : List ℕ
  pub said : List ℕ

abbrev pub kept_of : Texts → Kept
kept_of texts = record {
  source = texts.source.items;
  values = texts.values.items;
  trace = texts.trace.items;
  said = texts.said.items;
}
