-- Lists of what is unfolded, an item at a time.
use Rattle.std.proofs.Common.{◌≡◌, ◌<◌, ◌≤◌, ◌+◌, ◌++◌, ◌∷◌, [], ◌∙◌, ℕ, suc, Bool, List, Option, None, Some, false, true, if◌then◌else◌, codes, filter, get_or, length, map, option_and_then, string_bytes, take, append_assoc, append-nil, ap, arith, sym, subst}
use Rattle.std.proofs.lemmas.List.{map-append, take_all}
use Rattle.std.proofs.lemmas.List.Elements.{filter_more}
use Rattle.serde_json.specs.Data.{Data, array, number, object, string, unsigned}
use Rattle.serde_json.specs.Find.{as_number, as_str, as_u64}
use Rattle.serde_json.specs.View.{items_view, members_view, view}
use Rattle.serde_json.specs.declared.value.Value.{Value}
use Rattle.machine.specs.AtMachine.{AtMachine}
use Rattle.system_places.specs.SystemBranches.{branch_count}
use Rattle.dap_messages.specs.Arguments.{number_named, text_named}
use Rattle.dap_messages.specs.Notes.{IsDoneWith, IsRefusal}
use Rattle.dap_messages.specs.Written.{Has, Pushes}
use Rattle.dap_messages.specs.declared.answer.Answer.{Answer}
use Rattle.dap_messages.specs.declared.members.Listed.{Listed}
use Rattle.dap_messages.specs.declared.members.Members.{Members}
use Rattle.dap_views.specs.declared.handles.Handle.{Handle}
use Rattle.dap_views.specs.Around.{around}
use Rattle.dap_views.specs.declared.index.Index.{Index}
use Rattle.dap_views.specs.declared.index.Named.{Named}
use Rattle.dap_views.specs.declared.sight.Sight.{Sight}
use Rattle.dap_threads.specs.Frames.{FindsNamed}
use Rattle.dap_threads.specs.Given.{AreUnfoldedBy, Gives, IsUnfoldedBy}
use Rattle.dap_threads.specs.Scopes.{GivesScopes, ListsScopes, ListsScopesOf}
use Rattle.dap_threads.specs.Unfolded.{NamesHandle, instance_count}
use Rattle.dap_threads.specs.Variables.{AreLeaves, GivesVariables, ListsVariables, Shows, calls_in, calls_within, is_call, shown_as, shown_told, variables_of}
use Rattle.dap_threads.specs.internal.Listing.{AddsUnfolded, HasReference, ListsLeaves, ListsNamed, ListsUnfolded}

-- the object of these members
abbrev pub made-of : Members → Data
made-of ms = object (members_view ms.made.entries)

-- one item more
unfolded-behind : (ds : List Data) (hs : List Handle) (d : Data) (h : Handle) → AreUnfoldedBy ds hs → IsUnfoldedBy d h →
    AreUnfoldedBy (ds ++ d ∷ []) (hs ++ h ∷ [])
unfolded-behind [] [] d h all one = (one, tt)
unfolded-behind [] (x ∷ hs) d h all one = absurd all
unfolded-behind (e ∷ ds) [] d h all one = absurd all
unfolded-behind (e ∷ ds) (x ∷ hs) d h all one = (all.0, unfolded-behind ds hs d h all.1 one)

unfolds : (ms : Members) (h : Handle) → HasReference ms h → ms.lacks ≡ false → IsUnfoldedBy (made-of ms) h
unfolds ms h has full = λ small.
    ap (λ (o : Option Data). option_and_then as_u64 (option_and_then as_number o)) (has small full)

pub unfolded_none : (list : Listed) → list.made.items ≡ [] → ListsUnfolded list []
unfolded_none list none = λ full. subst (λ (vs : List Value). AreUnfoldedBy (map view vs) []) (sym none) tt

pub unfolded_more : (before after : Listed) (ms : Members) (hs : List Handle) (h : Handle) → ListsUnfolded before hs → HasReference ms h →
    Pushes before ms after → ListsUnfolded after (hs ++ h ∷ [])
unfolded_more before after ms hs h all has push = λ full.
    let more = push full in
    subst (λ (ds : List Data). AreUnfoldedBy ds (hs ++ h ∷ [])) (sym more.2)
    (unfolded-behind (map view before.made.items) hs (made-of ms) h (all more.0) (unfolds ms h has more.1))

-- so it is where the handle is known by another name
pub reference_as : (ms : Members) (n m : ℕ) → n ≡ m → HasReference ms (Handle.Steps n) → HasReference ms (Handle.Steps m)
reference_as ms n m same h = subst (λ (k : ℕ). HasReference ms (Handle.Steps k)) same h

-- a list that was put into the body of what is done
pub gives_list : (name : List ℕ) (body : Members) (list : Listed) (b : Answer) → Has body name (array (items_view list.made.items)) →
    (b.lacks ≡ false → (body.lacks ≡ false) × IsDoneWith (made-of body) b.outcome) → b.lacks ≡ false →
    Gives name (map view list.made.items) b.outcome
gives_list name body list b has done full = record {
  body = made-of body;
  done = (done full).1;
  listed = has (done full).0;
}

-- of the frame that is named
pub scopes_named : (m : AtMachine) (index : Index) (seen : Option Sight) (d : Data) (b : Answer) (named : Option ℕ) (id : ℕ) →
    named ≡ number_named (codes "frameId") d → named ≡ Some id →
    (b.lacks ≡ false → (found : Option (ℕ × ℕ)) × FindsNamed m index seen (number_named (codes "frameId") d) found × GivesScopes found b.outcome) →
    b.lacks ≡ false → ListsScopes m index seen d b
scopes_named m index seen d b named id same some h full =
    let is : number_named (codes "frameId") d ≡ Some id = sym same ∙ some in
    let it = h full in
    let to : ListsScopesOf m index seen (Some id) b = (it.0, subst (λ (o : Option ℕ). FindsNamed m index seen o it.0) is it.1, it.2) in
    subst (λ (o : Option ℕ). ListsScopesOf m index seen o b) (sym is) to

pub scopes_none : (m : AtMachine) (index : Index) (seen : Option Sight) (d : Data) (b : Answer) (named : Option ℕ) →
    named ≡ number_named (codes "frameId") d → named ≡ None → IsRefusal b.outcome → ListsScopes m index seen d b
scopes_none m index seen d b named same none refused =
    let to : ListsScopesOf m index seen None b = refused in
    subst (λ (o : Option ℕ). ListsScopesOf m index seen o b) (sym none ∙ same) to

-- what was found is shown
pub variables_given : (m : AtMachine) (index : Index) (d : Data) (b : Answer) (found : Option Handle) (handle : Handle) (items : List Data) →
    NamesHandle (instance_count index) (branch_count m.checked) (number_named (codes "variablesReference") d) found → found ≡ Some handle →
    Gives (codes "variables") items b.outcome → Shows index handle items → ListsVariables m index d b
variables_given m index d b found handle items names is gives shows =
    let to : GivesVariables index (Some handle) b.outcome = (items, gives, shows) in
    (found, names, subst (λ (o : Option Handle). GivesVariables index o b.outcome) (sym is) to)

pub variables_none : (m : AtMachine) (index : Index) (d : Data) (b : Answer) (found : Option Handle) →
    NamesHandle (instance_count index) (branch_count m.checked) (number_named (codes "variablesReference") d) found → found ≡ None →
    IsRefusal b.outcome → ListsVariables m index d b
variables_none m index d b found names none refused =
    let to : GivesVariables index None b.outcome = refused in
    (found, names, subst (λ (o : Option Handle). GivesVariables index o b.outcome) (sym none) to)

-- one name more
abbrev pair-of : Option (List ℕ) → Option ℕ → Option (List ℕ) × Option ℕ
pair-of x y = (x, y)

named-told : (ms : Members) (n : Named) → Has ms (codes "name") (string (string_bytes n.own)) →
    Has ms (codes "variablesReference") (number (unsigned 0)) → ms.lacks ≡ false → shown_told (made-of ms) ≡ shown_as n
named-told ms n name leaf full =
    let first : text_named (codes "name") (made-of ms) ≡ Some (string_bytes n.own) =
    ap (λ (o : Option Data). option_and_then as_str o) (name full) in
    let second : number_named (codes "variablesReference") (made-of ms) ≡ Some 0 =
    ap (λ (o : Option Data). option_and_then as_u64 (option_and_then as_number o)) (leaf full) in
    ap (λ (x : Option (List ℕ)). pair-of x (number_named (codes "variablesReference") (made-of ms))) first
    ∙ ap (λ (x : Option ℕ). pair-of (Some (string_bytes n.own)) x) second

named-pushed : (before after : Listed) (ms : Members) (n : Named) (ns : List Named) → Has ms (codes "name") (string (string_bytes n.own)) →
    Has ms (codes "variablesReference") (number (unsigned 0)) → Pushes before ms after → ListsNamed before ns → ListsNamed after (ns ++ n ∷ [])
named-pushed before after ms n ns name leaf push all = λ full.
    let more = push full in
    ap (λ (ds : List Data). map shown_told ds) more.2
    ∙ map-append shown_told (map view before.made.items) (made-of ms ∷ [])
    ∙ ap (λ xs. xs ++ shown_told (made-of ms) ∷ []) (all more.0)
    ∙ ap (λ y. map shown_as ns ++ y ∷ []) (named-told ms n name leaf more.1)
    ∙ sym (map-append shown_as ns (n ∷ []))

pub named_one : (before after : Listed) (ms : Members) (n : Named) (test : Bool) → test ≡ true → Has ms (codes "name") (string (string_bytes n.own)) →
    Has ms (codes "variablesReference") (number (unsigned 0)) → Pushes before ms after → (ns : List Named) → ListsNamed before ns →
    ListsNamed after (ns ++ (if test then n ∷ [] else []))
named_one before after ms n test is name leaf push ns all =
    subst (λ (t : Bool). ListsNamed after (ns ++ (if t then n ∷ [] else []))) (sym is) (named-pushed before after ms n ns name leaf push all)

pub named_same : (list : Listed) (n : Named) (test : Bool) → test ≡ false → (ns : List Named) → ListsNamed list ns →
    ListsNamed list (ns ++ (if test then n ∷ [] else []))
named_same list n test is ns all =
    subst (λ (t : Bool). ListsNamed list (ns ++ (if t then n ∷ [] else []))) (sym is)
    (subst (λ (xs : List Named). ListsNamed list xs) (sym (append-nil ns)) all)

-- of all names
pub named_new : (list : Listed) → list.made.items ≡ [] → ListsNamed list []
named_new list none = λ full. ap (λ (vs : List Value). map shown_told (map view vs)) none

pub named_more : (p : Named → Bool) (names known : List Named) (i : ℕ) (n : Named) (before after : Listed) → known ≡ names → i < length known →
    n ≡ get_or known i n → ListsNamed before (filter p (take i names)) →
    ((ns : List Named) → ListsNamed before ns → ListsNamed after (ns ++ (if p n then n ∷ [] else []))) →
    ListsNamed after (filter p (take (i + 1) names))
named_more p names known i n before after same low is all more =
    let within : i < length names = subst (λ (ns : List Named). i < length ns) same low in
    let here : get_or names i n ≡ n = sym (is ∙ ap (λ (ns : List Named). get_or ns i n) same) in
    let next : filter p (take (i + 1) names) ≡ filter p (take i names) ++ (if p n then n ∷ [] else []) =
    filter_more p names i n within ∙ ap (λ (m : Named). filter p (take i names) ++ (if p m then m ∷ [] else [])) here in
    subst (λ (ns : List Named). ListsNamed after ns) (sym next) (more (filter p (take i names)) all)

pub named_all : (p : Named → Bool) (names known : List Named) (i : ℕ) (list : Listed) → known ≡ names → length known ≤ i →
    ListsNamed list (filter p (take i names)) → ListsNamed list (filter p names)
named_all p names known i list same end all =
    subst (λ (ns : List Named). ListsNamed list (filter p ns))
    (take_all i names (subst (λ (ns : List Named). length ns ≤ i) same end)) all

-- one that is not unfolded
leaves-behind : (ds : List Data) (d : Data) → AreLeaves ds → number_named (codes "variablesReference") d ≡ Some 0 → AreLeaves (ds ++ d ∷ [])
leaves-behind [] d all one = (one, tt)
leaves-behind (e ∷ ds) d all one = (all.0, leaves-behind ds d all.1 one)

pub leaves_none : (list : Listed) → list.made.items ≡ [] → ListsLeaves list
leaves_none list none = λ full. subst (λ (vs : List Value). AreLeaves (map view vs)) (sym none) tt

pub leaves_more : (before after : Listed) (ms : Members) → Has ms (codes "variablesReference") (number (unsigned 0)) → Pushes before ms after →
    ListsLeaves before → ListsLeaves after
leaves_more before after ms leaf push all = λ full.
    let more = push full in
    subst AreLeaves (sym more.2)
    (leaves-behind (map view before.made.items) (made-of ms) (all more.0)
    (ap (λ (o : Option Data). option_and_then as_u64 (option_and_then as_number o)) (leaf more.1)))

-- behind others
pub adds_none : (list : Listed) → AddsUnfolded list [] list
adds_none list = λ full. ([], full, sym (append-nil (map view list.made.items)), tt)

adds-more : (before m after : Listed) (ms : Members) (hs : List Handle) (h : Handle) → AddsUnfolded before hs m → HasReference ms h →
    Pushes m ms after → AddsUnfolded before (hs ++ h ∷ []) after
adds-more before m after ms hs h adds has push = λ full.
    let more = push full in
    let it = adds more.0 in (
      it.0 ++ made-of ms ∷ [],
      it.1,
      more.2 ∙ ap (λ (ds : List Data). ds ++ made-of ms ∷ []) it.2 ∙ append_assoc (map view before.made.items) it.0 (made-of ms ∷ []),
      unfolded-behind it.0 hs (made-of ms) h it.3 (unfolds ms h has more.1),
    )

-- one call more
abbrev instances : List ℕ → List Handle
instances ks = map (λ (k : ℕ). Handle.Instance k) ks

pub calls_more : (index : Index) (call k : ℕ) (before m after : Listed) (ms : Members) → is_call call (around index k) ≡ true →
    AddsUnfolded before (instances (calls_within index call k)) m → HasReference ms (Handle.Instance k) → Pushes m ms after →
    AddsUnfolded before (instances (calls_within index call (k + 1))) after
calls_more index call k before m after ms is adds has push =
    let ks = calls_within index call k in
    let next : suc k ≡ k + 1 = omega arith in
    let all : instances ks ++ Handle.Instance k ∷ [] ≡ instances (calls_within index call (k + 1)) =
    sym (map-append (λ (j : ℕ). Handle.Instance j) ks (k ∷ []))
    ∙ sym (ap (λ (t : Bool). instances (if t then ks ++ k ∷ [] else ks)) is)
    ∙ ap (λ (n : ℕ). instances (calls_within index call n)) next in
    subst (λ (hs : List Handle). AddsUnfolded before hs after) all (adds-more before m after ms (instances ks) (Handle.Instance k) adds has push)

pub calls_same : (index : Index) (call k : ℕ) (before m : Listed) → is_call call (around index k) ≡ false →
    AddsUnfolded before (instances (calls_within index call k)) m → AddsUnfolded before (instances (calls_within index call (k + 1))) m
calls_same index call k before m is adds =
    let ks = calls_within index call k in
    let next : suc k ≡ k + 1 = omega arith in
    let all : instances ks ≡ instances (calls_within index call (k + 1)) =
    sym (ap (λ (t : Bool). instances (if t then ks ++ k ∷ [] else ks)) is) ∙ ap (λ (n : ℕ). instances (calls_within index call n)) next in
    subst (λ (hs : List Handle). AddsUnfolded before hs m) all adds

-- the variables of a call, and the calls that are made in it
pub instance_shown : (index : Index) (call : ℕ) (own list : Listed) → ListsNamed own (variables_of index.names.items call) →
    AddsUnfolded own (instances (calls_in index call)) list → list.lacks ≡ false →
    Shows index (Handle.Instance call) (map view list.made.items)
instance_shown index call own list named adds full =
    let it = adds full in (map view own.made.items, it.0, it.2, named it.1, it.3)
