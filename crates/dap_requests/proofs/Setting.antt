-- What is set as it was asked for, and what members a breakpoint is told with.
use Rattle.std.proofs.Common.{◌≡◌, ◌∙◌, ◌<◌, ◌++◌, ◌∷◌, ◌||◌, [], ℕ, Bool, List, length, true, false, Option, None, Some, bytes_eq, cond, eqb, option_map, append_assoc, arith, inl, inr, refl, ap, subst, sym}
use Rattle.std.specs.Prelude.{nat_lt, unwrap_or}
use Rattle.std.specs.List.{after_first, before_first, position_or_len}
use Rattle.std.proofs.lemmas.Bool.{lt-ltb}
use Rattle.std.proofs.lemmas.Bool.Decides.{nat_tests}
use Rattle.std.proofs.lemmas.Slice.Eq.{bytes_eq-Decides}
use Rattle.serde_json.specs.Data.{Data, Items, Members as Named}
use Rattle.serde_json.specs.Find.{get_member}
use Rattle.serde_json.specs.View.{members_view}
use Rattle.serde_json.proofs.Views.{get_member-put, get_member-put_other}
use Rattle.system.specs.declared.command.Command.{Command}
use Rattle.dap_messages.specs.Written.{Has, Puts}
use Rattle.dap_messages.specs.declared.answer.Answer.{Answer}
use Rattle.dap_messages.specs.declared.members.Members.{Members}
use Rattle.dap_views.specs.declared.watched.Watched.{Watched}
use Rattle.dap_views.specs.Named.{found}
use Rattle.dap_views.specs.declared.index.Index.{Index}
use Rattle.dap_views.specs.declared.program.Program.{Program}
use Rattle.dap_requests.specs.Sets.{PlacesAsked, SetsExcepts, SetsIn, SetsLines, TellsNone, WatchesOnly, all_watched, filters_refused, is_elsewhere, is_meant, is_own, path_in}
use Rattle.dap_requests.specs.Sets.{watched_as, watched_before, watched_by}

-- what was put is there
pub has_put : (a b : Members) (name : List ℕ) (d : Data) → Puts a name d b → Has b name d
has_put a b name d h = λ full. ap (λ (ms : Named). get_member name ms) (h full).1 ∙ get_member-put name d (members_view a.made.entries)

-- what was there stays so where another is put
pub has_stays : (a b : Members) (name other : List ℕ) (d e : Data) → bytes_eq name other ≡ false → Puts a other e b → Has a name d → Has b name d
has_stays a b name other d e apart h k = λ full.
    let differ : name ≡ other → ⊥ = λ same. let both : true ≡ false = sym ((bytes_eq-Decides name other).1 same) ∙ apart in absurd (cc) in
    ap (λ (ms : Named). get_member name ms) (h full).1
    ∙ get_member-put_other name other e (members_view a.made.entries) differ
    ∙ k (h full).0

-- one more line
pub lines_more : (before rest : List ℕ) (line : ℕ) → (before ++ line ∷ []) ++ rest ≡ before ++ line ∷ rest
lines_more before rest line = append_assoc before (line ∷ []) rest

pub watched_more : (before rest : List Watched) (found : Option Watched) → (before ++ watched_before found []) ++ rest ≡ before ++ watched_before found rest
watched_more before rest None = append_assoc before [] rest
watched_more before rest (Some w) = append_assoc before (w ∷ []) rest

pub found_more : (before : List ℕ) (line : ℕ) (rest : Option (List ℕ)) →
    option_map (λ (xs : List ℕ). (before ++ line ∷ []) ++ xs) rest ≡ option_map (λ (xs : List ℕ). before ++ xs) (option_map (λ (xs : List ℕ). line ∷ xs) rest)
found_more before line None = refl
found_more before line (Some rest) = ap (λ (xs : List ℕ). Some xs) (lines_more before rest line)

-- refusals stop as the filters say
pub excepts_some : (d : Data) (p : Program) (x : Bool) (asked : Option Bool) → asked ≡ filters_refused d → asked ≡ Some x → SetsExcepts d p (record p { excepts = x })
excepts_some d p x asked is some = ap (λ (o : Option Bool). record p { excepts = unwrap_or o p.excepts }) (sym some ∙ is)

pub excepts_none : (d : Data) (p : Program) (asked : Option Bool) → asked ≡ filters_refused d → asked ≡ None → SetsExcepts d p p
excepts_none d p asked is none = ap (λ (o : Option Bool). record p { excepts = unwrap_or o p.excepts }) (sym none ∙ is)

ltb_le : (m n : ℕ) → m ≡ n → nat_lt m n ≡ false
ltb_le m n same = grind (arith, nat_tests)

-- what is watched by the parts of an id
pub watched_parts : (index : Index) (id kind name : List ℕ) (r : Option Watched) → position_or_len (λ (b : ℕ). eqb b 32) id < length id →
    kind ≡ before_first (λ (b : ℕ). eqb b 32) id → name ≡ after_first (λ (b : ℕ). eqb b 32) id → r ≡ watched_as kind (found index 0 name) →
    r ≡ watched_by index id
watched_parts index id kind name r within front behind is =
    let parted : nat_lt (position_or_len (λ (b : ℕ). eqb b 32) id) (length id) ≡ true = lt-ltb _ _ within in
    is ∙ ap (λ (k : List ℕ). watched_as k (found index 0 name)) front
    ∙ ap (λ (n : List ℕ). watched_as (before_first (λ (b : ℕ). eqb b 32) id) (found index 0 n)) behind
    ∙ sym (ap (λ (t : Bool). cond t (watched_as (before_first (λ (b : ℕ). eqb b 32) id) (found index 0 (after_first (λ (b : ℕ). eqb b 32) id))) None) parted)

-- an id without parts means nothing
pub watched_none : (index : Index) (id : List ℕ) → position_or_len (λ (b : ℕ). eqb b 32) id ≡ length id → None ≡ watched_by index id
watched_none index id same =
    let whole : nat_lt (position_or_len (λ (b : ℕ). eqb b 32) id) (length id) ≡ false = ltb_le _ _ same in
    sym (ap (λ (t : Bool). cond t (watched_as (before_first (λ (b : ℕ). eqb b 32) id) (found index 0 (after_first (λ (b : ℕ). eqb b 32) id))) None) whole)

-- what is kept is watched, and nothing else
pub watches_only : (items : Items) (p q r : Program) → r.watched.items ≡ all_watched p.index items → q ≡ record p { watched = r.watched } → WatchesOnly items p q
watches_only items p q r is set =
    (ap (λ (x : Program). x.watched.items) set ∙ is, set ∙ ap (λ (x : Program). record p { watched = x.watched }) (sym set))

-- the file is meant, or it is not
pub meant_by : (p : Program) (path : List ℕ) (own meant known : Bool) → own ≡ is_own p path → meant ≡ (own || is_elsewhere p path) → meant ≡ known →
    is_meant p path ≡ known
meant_by p path own meant known own_is meant_is h = ap (λ (x : Bool). x || is_elsewhere p path) (sym own_is) ∙ sym meant_is ∙ h

pub sets_in : (c : Command) (d : Data) (p : Program) (b : Answer) (q : Program) (path : List ℕ) (own meant : Bool) → path ≡ path_in d →
    own ≡ is_own p path → meant ≡ (own || is_elsewhere p path) → meant ≡ true → PlacesAsked own c d p b q → SetsLines c d p b q
sets_in c d p b q path own meant path_is own_is meant_is h placed =
    subst (λ (x : List ℕ). SetsIn x c d p b q) path_is
    (inr (meant_by p path own meant true own_is meant_is h, subst (λ (x : Bool). PlacesAsked x c d p b q) own_is placed))

pub sets_elsewhere : (c : Command) (d : Data) (p : Program) (b : Answer) (path : List ℕ) (own meant : Bool) → path ≡ path_in d →
    own ≡ is_own p path → meant ≡ (own || is_elsewhere p path) → meant ≡ false → TellsNone d b → SetsLines c d p b p
sets_elsewhere c d p b path own meant path_is own_is meant_is h none =
    subst (λ (x : List ℕ). SetsIn x c d p b p) path_is (inl (meant_by p path own meant false own_is meant_is h, refl, none))
