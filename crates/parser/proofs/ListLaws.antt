-- The laws of items in a row, of names and of types.
use Rattle.std.proofs.Common.{◌≡◌, true, false, List, [], ◌∷◌, ◌++◌, refl}
use Rattle.lexer.specs.declared.token.Kind.{Kind}
use Rattle.lexer.specs.declared.token.Kind.TheVariants as kind
use Rattle.lexer.specs.declared.token.Kind.TheVariants.{End}
use Rattle.parser.specs.Input.{is_one_of, same_kind}
use Rattle.parser.specs.Rules.{Rule}
use Rattle.parser.specs.internal.Readers.{Reader}
use Rattle.parser.specs.Grammar as g
use Rattle.parser.specs.internal.Reading as r
use Rattle.parser.proofs.Laws.{HasSentence, Full}
use Rattle.parser.proofs.Membership.{all_in, none_in, apart_nothing}
use Rattle.parser.proofs.BindLaws.{bind_full, bind_sentence}
use Rattle.parser.proofs.TakeLaws.{pure_full, take_full}
use Rattle.parser.proofs.ChoiceLaws.{branch_full, declared}
use Rattle.parser.proofs.RepeatLaws.{repeat_full, repeat_sentence}

module _ {A : Type 0} {i i' : Reader A} {h h' : Rule A} {start follow : List Kind} (item : Full i i' h h' start false follow) where
  pub one_more_full : (found : List A) → Full (r.one_more i found) (r.one_more i' found) (g.one_more h found) (g.one_more h' found) (start ++ []) false follow
  unfolding r.one_more g.one_more
  one_more_full found = bind_full item (λ another. pure_full _) refl

  pub several_full :
      (kinds : List Kind) → is_one_of kinds End ≡ false → all_in (start ++ []) kinds ≡ true → none_in (start ++ []) follow ≡ true → (found : List A) →
      Full (r.several kinds i found) (r.several kinds i' found) (g.several h found) (g.several h' found) (start ++ []) true (kinds ++ follow)
  unfolding r.several g.several
  several_full kinds ends inner apart found = repeat_full kinds (λ found. (one_more_full found).laws) ends inner apart found

  -- an item behind a sign
  pub behind_full :
      (sign : Kind) → is_one_of (sign ∷ []) End ≡ false → is_one_of (sign ∷ []) sign ≡ true →
      Full (r.behind sign i) (r.behind sign i') (g.behind sign h) (g.behind sign h') (sign ∷ []) false (follow ++ [])
  unfolding r.behind g.behind
  behind_full sign ends is = bind_full (take_full sign [] ends is) (λ _. item) (apart_nothing start)

pub separated_full :
    {A : Type 0} {i i' : Reader A} {h h' : Rule A} {start follow : List Kind} → Full i i' h h' start false follow → (sign : Kind) → is_one_of (sign ∷ []) End ≡ false →
    is_one_of (sign ∷ []) sign ≡ true → all_in (sign ∷ []) (sign ∷ []) ≡ true → none_in (sign ∷ []) (follow ++ []) ≡ true → none_in (sign ∷ []) follow ≡ true →
    Full (r.separated sign i) (r.separated sign i') (g.separated sign h) (g.separated sign h') (start ++ []) false (((sign ∷ []) ++ (follow ++ [])) ++ follow)
unfolding r.separated g.separated
separated_full item sign ends is inner apart apart' =
    bind_full item (λ first. several_full (behind_full item sign ends is) (sign ∷ []) ends inner apart (first ∷ [])) apart'

pub several_sentence : {A : Type 0} (h : Rule A) (found : List A) → HasSentence (g.several h found)
unfolding g.several
several_sentence h found = repeat_sentence _ found

pub separated_sentence : {A : Type 0} {h : Rule A} → HasSentence h → (sign : Kind) → HasSentence (g.separated sign h)
unfolding g.separated
separated_sentence item sign = bind_sentence item (λ first. several_sentence _ _)

-- ---- names and types

pub identifier_full : Full r.identifier r.identifier g.identifier g.identifier (kind.Name ∷ []) false []
unfolding r.identifier g.identifier same_kind
identifier_full = declared (bind_full (take_full _ _ refl refl) (λ token. pure_full _) refl) refl refl

pub names_full : Full r.names r.names g.names g.names (kind.Name ∷ []) false (kind.Comma ∷ [])
unfolding r.names g.names same_kind
names_full = declared (separated_full identifier_full kind.Comma refl refl refl refl refl) refl refl

pub width_full : Full r.width r.width g.width g.width (kind.Number ∷ []) false []
unfolding r.width g.width same_kind
width_full = declared (bind_full (take_full _ _ refl refl) (λ token. bind_full (take_full _ _ refl refl) (λ _. pure_full _) refl) refl) refl refl

type_by_width_full : Full r.type_by_width r.type_by_width g.type_by_width g.type_by_width (kind.Number ∷ []) false []
unfolding r.type_by_width g.type_by_width same_kind
type_by_width_full = declared (bind_full width_full (λ bits. pure_full _) refl) refl refl

type_by_name_full : Full r.type_by_name r.type_by_name g.type_by_name g.type_by_name (kind.Name ∷ []) false []
unfolding r.type_by_name g.type_by_name same_kind
type_by_name_full = declared (bind_full identifier_full (λ name. pure_full _) refl) refl refl

pub type_name_full : Full r.type_name_of r.type_name_of g.type_name_of g.type_name_of (kind.Number ∷ kind.Name ∷ []) false []
unfolding r.type_name_of g.type_name_of same_kind
type_name_full = declared (branch_full _ type_by_width_full.laws type_by_name_full refl refl) refl refl

pub type_behind_full : Full r.type_behind r.type_behind g.type_behind g.type_behind (kind.Colon ∷ []) false []
unfolding r.type_behind g.type_behind same_kind
type_behind_full = declared (bind_full (take_full _ _ refl refl) (λ _. type_name_full) refl) refl refl

label_by_number_full : Full r.label_by_number r.label_by_number g.label_by_number g.label_by_number (kind.Number ∷ []) false []
unfolding r.label_by_number g.label_by_number same_kind
label_by_number_full = declared (bind_full (take_full _ _ refl refl) (λ token. pure_full _) refl) refl refl

label_by_name_full : Full r.label_by_name r.label_by_name g.label_by_name g.label_by_name (kind.Name ∷ []) false []
unfolding r.label_by_name g.label_by_name same_kind
label_by_name_full = declared (bind_full identifier_full (λ name. pure_full _) refl) refl refl

label_full : Full r.label_of r.label_of g.label_of g.label_of (kind.Number ∷ kind.Name ∷ []) false []
unfolding r.label_of g.label_of same_kind
label_full = declared (branch_full _ label_by_number_full.laws label_by_name_full refl refl) refl refl

pub labels_full : Full r.labels r.labels g.labels g.labels (kind.Number ∷ kind.Name ∷ []) false (kind.Comma ∷ [])
unfolding r.labels g.labels same_kind
labels_full = declared (separated_full label_full kind.Comma refl refl refl refl refl) refl refl
