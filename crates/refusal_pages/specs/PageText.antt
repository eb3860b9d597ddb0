-- The text of a page.
use Rattle.std.specs.Prelude.{ℕ, List, [], ◌∷◌, ◌++◌, flat_map, codes, decimal}
use Rattle.std.specs.Str.Lines.{lines}
use Rattle.refusal_pages.specs.declared.page.Page.{Page}

-- a line behind four blanks
abbrev pub indented_line : List ℕ → List ℕ
indented_line line = codes "    " ++ (line ++ codes "\n")

-- each line of a text behind four blanks
unfoldable pub indented : List ℕ → List ℕ
indented text = flat_map indented_line (lines text)

-- a text between two others; nothing where it is empty
unfoldable pub part : List ℕ → List ℕ → List ℕ → List ℕ
part before [] behind = []
part before (byte ∷ rest) behind = before ++ ((byte ∷ rest) ++ behind)

-- an example behind an empty line, of a source and of what is told under it; nothing where nothing is told
unfoldable pub example : List ℕ → List ℕ → List ℕ
example source [] = []
example source (byte ∷ rest) = codes "\n" ++ (indented source ++ indented (byte ∷ rest))

-- the first line of a page: its number, what stands behind that, and its name
unfoldable pub summary : Page → List ℕ
summary page =
    codes "refused " ++ decimal page.number ++ part (codes " ") page.field.now [] ++ codes ": " ++ page.name.now
    ++ codes "\n"

-- the page: its first line, the meaning behind an empty one, the example and the usual causes
unfoldable pub page_text : Page → List ℕ
page_text page =
    summary page ++ codes "\n" ++ page.meaning.now ++ codes "\n" ++ example page.source.now page.told.now
    ++ part (codes "\nUsual causes: ") page.causes.now (codes "\n")
