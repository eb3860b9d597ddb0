-- The page: its fixed parts, with the script of the data between them.
use Rattle.std.specs.Prelude.{ℕ, List, ◌++◌, codes}
use Rattle.picture_text.specs.declared.page_before.TheConstants.{BEFORE}
use Rattle.picture_text.specs.declared.page_drawing.TheConstants.{DRAWING}
use Rattle.picture_text.specs.declared.page_panel.TheConstants.{PANEL}

-- The script of the data, which ends at the first `</` in it: what is no `<` cannot end it.
-- (HTML: script data state.)
abbrev pub script_text : List ℕ → List ℕ
script_text data_of = codes "<script id=\"run\" type=\"application/json\">" ++ data_of ++ codes "</script>"

-- what stands before the script, the script, and what stands behind it
abbrev pub page_text : List ℕ → List ℕ
page_text data_of = BEFORE.now ++ script_text data_of ++ DRAWING.now ++ PANEL.now
