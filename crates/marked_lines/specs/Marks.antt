-- How the characters of a line are shown on a terminal, and what stands under them.
use Rattle.std.specs.Prelude.{ℕ, ◌+◌, Bool, ◌||◌, ◌&&◌, ◌==◌, false, nat_le, nat_lt, if◌then◌else◌, List, [], ◌∷◌, replicate, flat_map, unwrap_or, encode_utf8}
use Rattle.unicode_width.specs.Width.{char_width}

abbrev pub tab : ℕ
tab = 9

abbrev pub blank : ℕ
blank = 32

-- the sign for what is no character, and for what a terminal would act on
abbrev pub replacement : ℕ
replacement = 0xFFFD

abbrev pub is_from : ℕ → ℕ → ℕ → Bool
is_from least most c = nat_le least c && nat_le c most

-- whether a terminal might act on a character over 127: the other control characters, what turns the direction of
-- writing, the ends of lines and paragraphs, and what is not seen at all
abbrev pub acts : ℕ → Bool
acts c =
    is_from 0x80 0x9F c || (c == 0x61C) || is_from 0x200B 0x200F c || is_from 0x2028 0x202E c
    || is_from 0x2060 0x2069 c || (c == 0xFEFF)

-- a character as it is shown: a tab as itself, a control character as the sign that stands for it
abbrev pub shown : ℕ → ℕ
shown c =
    if c == tab then c
    else (if nat_lt c 32 then 0x2400 + c
    else (if c == 127 then 0x2421
    else (if acts c then replacement else c)))

-- how many columns a character takes; a tab is counted as none, since it is kept
abbrev pub columns : ℕ → ℕ
columns c = if c == tab then 0 else unwrap_or (char_width false (shown c)) 0

-- what stands under a character, in bytes: a tab under a tab, else a blank for each of its columns. So what comes
-- behind stands under what comes behind the character
abbrev pub under : ℕ → List ℕ
under c = if c == tab then tab ∷ [] else replicate (columns c) blank

abbrev pub blanks_under : List ℕ → List ℕ
blanks_under cs = flat_map under cs

-- so many of a sign, in bytes
abbrev pub signs : ℕ → ℕ → List ℕ
signs n sign = flat_map encode_utf8 (replicate n sign)

-- what stands under a marked character: a tab under a tab, else a sign for each of its columns
abbrev pub sign_under : ℕ → ℕ → List ℕ
sign_under sign c = if c == tab then tab ∷ [] else signs (columns c) sign

abbrev pub signs_under : ℕ → List ℕ → List ℕ
signs_under sign cs = flat_map (sign_under sign) cs
