-- Which frames are listed.
use Rattle.std.proofs.Common.{◌≡◌, ◌+◌, ◌++◌, ◌∷◌, [], ◌∙◌, ℕ, suc, List, Option, Some, None, Bool, codes, false, true, if◌then◌else◌, map, sym, ap, subst, arith}
use Rattle.std.proofs.lemmas.List.{map-append}
use Rattle.serde_json.specs.Data.{Data, array, number, object, unsigned}
use Rattle.serde_json.specs.Find.{get, get_member}
use Rattle.serde_json.specs.View.{items_view, members_view, view}
use Rattle.machine.specs.AtMachine.{AtMachine}
use Rattle.system_places.specs.SystemBranches.{branch_count}
use Rattle.dap_messages.specs.Arguments.{number_named}
use Rattle.dap_messages.specs.Notes.{IsDoneWith, IsRefusal}
use Rattle.dap_messages.specs.Written.{Has, Puts, Pushes}
use Rattle.dap_messages.specs.declared.answer.Answer.{Answer}
use Rattle.dap_messages.specs.declared.members.Listed.{Listed}
use Rattle.dap_messages.specs.declared.members.Members.{Members}
use Rattle.dap_messages.proofs.public.Held.{has_put}
use Rattle.dap_views.specs.Handles.{frame_id}
use Rattle.dap_views.specs.declared.index.Index.{Index}
use Rattle.dap_views.specs.declared.sight.Sight.{Sight}
use Rattle.dap_threads.specs.Frames.{frame_count}
use Rattle.dap_threads.specs.Stack.{IsStack, ListsFor, ListsFrames, ListsIds, asked_ids, first_in, is_asked, levels_in}
use Rattle.dap_threads.specs.Threads.{branch_named}

-- one more is listed
pub listed_more : (before after : Listed) (bare frame : Members) (ids : List ℕ) (id made : ℕ) → ListsIds before ids → made ≡ id →
    Puts bare (codes "id") (number (unsigned made)) frame → Pushes before frame after → ListsIds after (ids ++ id ∷ [])
listed_more before after bare frame ids id made h is puts push = λ full.
    let more = push full in
    let here : get_member (codes "id") (members_view frame.made.entries) ≡ Some (number (unsigned id)) =
    has_put bare frame (codes "id") (number (unsigned made)) puts more.1 ∙ ap (λ (n : ℕ). Some (number (unsigned n))) is in
    ap (λ (ds : List Data). map (get (codes "id")) ds) more.2
    ∙ map-append (get (codes "id")) (map view before.made.items) (object (members_view frame.made.entries) ∷ [])
    ∙ ap (λ (xs : List (Option Data)). xs ++ get_member (codes "id") (members_view frame.made.entries) ∷ []) (h more.0)
    ∙ ap (λ (x : Option Data). map (λ (n : ℕ). Some (number (unsigned n))) ids ++ x ∷ []) here
    ∙ sym (map-append (λ (n : ℕ). Some (number (unsigned n))) ids (id ∷ []))

-- the list and the count are told
pub stack_told : (body : Members) (list : Listed) (first levels branch count told : ℕ) → told ≡ count →
    Has body (codes "stackFrames") (array (items_view list.made.items)) → Has body (codes "totalFrames") (number (unsigned told)) →
    (body.lacks ≡ false → list.lacks ≡ false) → ListsIds list (asked_ids first levels branch count) → body.lacks ≡ false →
    IsStack first levels branch count (object (members_view body.made.entries))
stack_told body list first levels branch count told is lists total whole ids full = record {
  frames = map view list.made.items;
  listed = lists full;
  ids = ids (whole full);
  total = total full ∙ ap (λ (n : ℕ). Some (number (unsigned n))) is;
}

-- a request that names no thread is refused
pub lists_none : (m : AtMachine) (index : Index) (seen : Option Sight) (d : Data) (b : Answer) (found : Option ℕ) →
    found ≡ branch_named (branch_count m.checked) (number_named (codes "threadId") d) → found ≡ None → IsRefusal b.outcome →
    ListsFrames m index seen d b
lists_none m index seen d b found is none refused =
    let to : ListsFor m index seen d None b = refused in
    subst (λ (o : Option ℕ). ListsFor m index seen d o b) (sym none ∙ is) to

-- of one that names a thread the frames are listed
pub lists_some : (m : AtMachine) (index : Index) (seen : Option Sight) (sight : Sight) (d body : Data) (b : Answer) (found : Option ℕ) (k : ℕ) →
    found ≡ branch_named (branch_count m.checked) (number_named (codes "threadId") d) → found ≡ Some k → seen ≡ Some sight →
    IsDoneWith body b.outcome → IsStack (first_in d) (levels_in d) k (frame_count m index sight k) body → ListsFrames m index seen d b
lists_some m index seen sight d body b found k is some shown done stack =
    let to : ListsFor m index (Some sight) d (Some k) b = (body, done, stack) in
    subst (λ (o : Option ℕ). ListsFor m index seen d o b) (sym some ∙ is)
    (subst (λ (s : Option Sight). ListsFor m index s d (Some k) b) (sym shown) to)

-- one more frame is asked for, or not
pub asked_more : (first levels branch k : ℕ) → is_asked first levels k ≡ true →
    asked_ids first levels branch k ++ frame_id (branch + 1) k ∷ [] ≡ asked_ids first levels branch (k + 1)
asked_more first levels branch k is =
    let next : suc k ≡ k + 1 = omega arith in
    sym (ap (λ (b : Bool). if b then asked_ids first levels branch k ++ frame_id (branch + 1) k ∷ [] else asked_ids first levels branch k) is)
    ∙ ap (λ (n : ℕ). asked_ids first levels branch n) next

pub asked_same : (first levels branch k : ℕ) → is_asked first levels k ≡ false → asked_ids first levels branch k ≡ asked_ids first levels branch (k + 1)
asked_same first levels branch k is =
    let next : suc k ≡ k + 1 = omega arith in
    sym (ap (λ (b : Bool). if b then asked_ids first levels branch k ++ frame_id (branch + 1) k ∷ [] else asked_ids first levels branch k) is)
    ∙ ap (λ (n : ℕ). asked_ids first levels branch n) next

-- so is it in the list that was made
pub lists_on : (made list : Listed) (ids more : List ℕ) → list ≡ made → ids ≡ more → ListsIds made ids → ListsIds list more
lists_on made list ids more same is h =
    subst (λ (l : Listed). ListsIds l more) (sym same) (subst (λ (ns : List ℕ). ListsIds made ns) is h)
