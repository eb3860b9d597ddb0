-- Which paths name one file.
use Rattle.std.specs.Prelude.{ℕ, suc, zero, ◌+◌, ◌-◌, ◌==◌, ◌&&◌, ◌||◌, Bool, true, false, not, if◌then◌else◌, bytes_eq, List, [], ◌∷◌, length, map, take, drop, Option, None, Some, codes}
use Rattle.std.specs.Char.{to_ascii_lowercase}
use Rattle.std.specs.Option.{option_map_or}
use Rattle.dap_views.specs.Counted.{at_most_all}
use Rattle.dap_views.specs.Paths.{has_drive, is_rooted}

-- whether a byte stands between folders: `/`, and where a path has the letter of a drive `\` too
abbrev pub is_sign : Bool → ℕ → Bool
is_sign drives x = (x == 47) || (drives && (x == 92))

-- the index of the last of these bytes that does, where the first has this index; else what was found before
abbrev pub last_sign : Bool → ℕ → Option ℕ → List ℕ → Option ℕ
last_sign drives i found [] = found
last_sign drives i found (x ∷ xs) = last_sign drives (i + 1) (if is_sign drives x then Some i else found) xs

-- what stands before the last sign of a path, and what behind it; all behind it where there is none
abbrev pub front : Bool → List ℕ → List ℕ
front drives path = option_map_or (λ i. take i path) (last_sign drives 0 None path) []

abbrev pub back : Bool → List ℕ → List ℕ
back drives path = option_map_or (λ i. drop (i + 1) path) (last_sign drives 0 None path) path

-- whether nothing is there
abbrev pub is_nothing : List ℕ → Bool
is_nothing [] = true
is_nothing (x ∷ xs) = false

-- how many names are to be passed over before this one, and once it is: `..` passes over one more, and nothing and `.`
-- over none; `None` where it is the name that is looked for
abbrev pub passing : ℕ → List ℕ → Option ℕ
passing above name =
    if bytes_eq name (codes "..") then Some (at_most_all above 1)
    else (if is_nothing name || bytes_eq name (codes ".") then Some above
    else (if above == 0 then None else Some (above - 1)))

-- what stands before the last name of a path, and that name, where so many names are passed over, in so many steps;
-- nothing where no name is left
abbrev pub last_name : Bool → ℕ → ℕ → List ℕ → List ℕ × List ℕ
last_name drives zero above path = ([], [])
last_name drives (suc n) above path =
    option_map_or (λ more. last_name drives n more (front drives path)) (passing above (back drives path))
    (front drives path, back drives path)

-- the same in as many steps as it may have signs
abbrev pub cut_last : Bool → List ℕ → List ℕ × List ℕ
cut_last drives path = last_name drives (length path) 0 path

-- whether both are one name
abbrev pub same_name : Bool → List ℕ → List ℕ → Bool
same_name drives a b =
    if drives then bytes_eq (map to_ascii_lowercase a) (map to_ascii_lowercase b) else bytes_eq a b

-- whether both have the same names, from the last one on, in so many steps; `free` where the first may count from any
-- folder
abbrev pub same_names : Bool → Bool → ℕ → List ℕ → List ℕ → Bool
same_names drives free zero a b = false
same_names drives free (suc n) a b =
    if is_nothing (cut_last drives a).1 then is_nothing (cut_last drives b).1 || free
    else (if same_name drives (cut_last drives a).1 (cut_last drives b).1
    then same_names drives free n (cut_last drives a).0 (cut_last drives b).0 else false)

-- whether both name one file, where the first may count from any folder
abbrev pub same_file : List ℕ → List ℕ → Bool
same_file file path =
    same_names (has_drive file || has_drive path) (not (is_rooted file) && not (is_nothing path))
    (at_most_all (length path) 1) file path
