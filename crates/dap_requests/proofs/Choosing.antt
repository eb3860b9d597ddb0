-- The steps that a step of a branch can be, as they are listed.
use Rattle.std.proofs.Common.{◌≡◌, ◌≤◌, ◌+◌, ◌∷◌, [], ◌∙◌, ◌&&◌, ℕ, suc, zero, Bool, List, Option, None, Some, false, true, cond, codes, filter, length, map, ap, arith, refl, sym, subst}
use Rattle.std.proofs.lemmas.List.{length-append}
use Rattle.std.specs.Prelude.{not, slice_get}
use Rattle.serde_json.specs.Data.{Data, array, object}
use Rattle.serde_json.specs.View.{items_view, members_view, view}
use Rattle.system.specs.declared.system.System.{System}
use Rattle.runs.specs.declared.event.Event.{Event}
use Rattle.machine.proofs.public.Entries.{within-at}
use Rattle.machine.specs.AtMachine.{AtMachine}
use Rattle.dap_messages.specs.Arguments.{number_named}
use Rattle.dap_messages.specs.Notes.{IsDoneWith, IsRefusal}
use Rattle.dap_messages.specs.Written.{Has}
use Rattle.dap_messages.specs.declared.answer.Answer.{Answer}
use Rattle.dap_messages.specs.declared.members.Listed.{Listed}
use Rattle.dap_messages.specs.declared.members.Members.{Members}
use Rattle.dap_moves.specs.Moves.{acts, joins, targets}
use Rattle.dap_views.specs.Parts.{takes_part}
use Rattle.dap_threads.specs.Frames.{FindsNamed}
use Rattle.dap_threads.specs.Given.{AreNumbered, numbers_to}
use Rattle.dap_views.specs.declared.index.Index.{Index}
use Rattle.dap_views.specs.declared.sight.Sight.{Sight}
use Rattle.dap_requests.specs.Targets.{GivesSteps, GivesTargets, ListsTargets, ListsTargetsOf}

-- no more pass two tests that are apart than there are
one-more : {X : Type 0} (s t : Bool) (x : X) (ys zs : List X) (n : ℕ) → (t ≡ true → s ≡ false) → length ys + length zs ≤ n →
    length (cond s (x ∷ ys) ys) + length (cond t (x ∷ zs) zs) ≤ suc n
one-more true true x ys zs n apart h = let no : true ≡ false = apart refl in absurd (cc)
one-more true false x ys zs n apart h = omega (arith, h)
one-more false true x ys zs n apart h = omega (arith, h)
one-more false false x ys zs n apart h = omega (arith, h)

few-pass : {X : Type 0} (p q : X → Bool) (xs : List X) → ((x : X) → q x ≡ true → p x ≡ false) →
    length (filter p xs) + length (filter q xs) ≤ length xs
few-pass p q [] apart = omega arith
few-pass p q (x ∷ xs) apart = one-more (p x) (q x) x (filter p xs) (filter q xs) (length xs) (apart x) (few-pass p q xs apart)

and-not : (s t : Bool) → (s && not t) ≡ true → t ≡ false
and-not true true h = absurd (cc)
and-not true false h = refl
and-not false t h = absurd (cc)

-- so no more steps can be taken than are ready
few-targets : (system : System) (k : ℕ) (es : List Event) → length (targets system k es) ≤ length es
few-targets system k es =
    let few = few-pass (acts system k) (joins system k) es (λ e h. and-not (takes_part system k e) (acts system k e) h) in
    let all = length-append (filter (acts system k) es) (filter (joins system k) es) in omega (arith, few, all)

-- all are
pub numbered_all : (m : AtMachine) (k n : ℕ) (es : List Event) (list : Listed) → (list.lacks ≡ false → AreNumbered (map view list.made.items) (numbers_to n)) →
    n ≤ length (targets m.checked k es) → length es ≤ n → list.lacks ≡ false →
    AreNumbered (map view list.made.items) (numbers_to (length (targets m.checked k es)))
numbered_all m k n es list h low high full =
    let same : n ≡ length (targets m.checked k es) = omega (arith, low, high, few-targets m.checked k es) in
    subst (λ (j : ℕ). AreNumbered (map view list.made.items) (numbers_to j)) same (h full)

pub numbered_last : (m : AtMachine) (k n : ℕ) (es : List Event) (list : Listed) → (list.lacks ≡ false → AreNumbered (map view list.made.items) (numbers_to n)) →
    n ≤ length (targets m.checked k es) → length (targets m.checked k es) ≤ n → list.lacks ≡ false →
    AreNumbered (map view list.made.items) (numbers_to (length (targets m.checked k es)))
numbered_last m k n es list h low high full =
    let same : n ≡ length (targets m.checked k es) = omega (arith, low, high) in
    subst (λ (j : ℕ). AreNumbered (map view list.made.items) (numbers_to j)) same (h full)

-- a step that is there, and one that is not
pub target_within : (m : AtMachine) (system : System) (k : ℕ) (es : List Event) (n : ℕ) (e : Event) → system ≡ m.checked →
    Some e ≡ slice_get (targets system k es) n → n + 1 ≤ length (targets m.checked k es)
target_within m system k es n e same found =
    let here : slice_get (targets m.checked k es) n ≡ Some e =
    sym (found ∙ ap (λ (s : System). slice_get (targets s k es) n) same) in
    let low = within-at (targets m.checked k es) n e here in omega (arith, low)

none-past : {X : Type 0} (xs : List X) (n : ℕ) → None ≡ slice_get xs n → length xs ≤ n
none-past [] n h = omega arith
none-past (x ∷ xs) zero h = absurd (cc)
none-past (x ∷ xs) (suc n) h = let less = none-past xs n h in omega (arith, less)

pub target_past : (m : AtMachine) (system : System) (k : ℕ) (es : List Event) (n : ℕ) → system ≡ m.checked →
    None ≡ slice_get (targets system k es) n → length (targets m.checked k es) ≤ n
target_past m system k es n same none =
    none-past (targets m.checked k es) n (none ∙ ap (λ (s : System). slice_get (targets s k es) n) same)

-- they are given
pub steps_given : (m : AtMachine) (sight : Sight) (branch : ℕ) (es : List Event) (body : Members) (list : Listed) (b : Answer) → es ≡ sight.ready →
    Has body (codes "targets") (array (items_view list.made.items)) → (body.lacks ≡ false → list.lacks ≡ false) →
    (list.lacks ≡ false → AreNumbered (map view list.made.items) (numbers_to (length (targets m.checked branch es)))) →
    (b.lacks ≡ false → (body.lacks ≡ false) × IsDoneWith (object (members_view body.made.entries)) b.outcome) → b.lacks ≡ false →
    GivesSteps m sight branch b.outcome
steps_given m sight branch es body list b same has whole told done full = record {
  items = map view list.made.items;
  given = record {
    body = object (members_view body.made.entries);
    done = (done full).1;
    listed = has (done full).0;
  };
  numbered =
      subst (λ (fs : List Event). AreNumbered (map view list.made.items) (numbers_to (length (targets m.checked branch fs)))) same
      (told (whole (done full).0));
}

-- for the branch of the frame that was found
pub targets_seen : (m : AtMachine) (seen : Option Sight) (sight : Sight) (found : ℕ × ℕ) (b : Answer) → seen ≡ Some sight →
    GivesSteps m sight found.0 b.outcome → GivesTargets m seen (Some found) b.outcome
targets_seen m seen sight found b is h =
    let to : GivesTargets m (Some sight) (Some found) b.outcome = h in
    subst (λ (s : Option Sight). GivesTargets m s (Some found) b.outcome) (sym is) to

-- of the frame that is named
pub targets_named : (m : AtMachine) (index : Index) (seen : Option Sight) (d : Data) (b : Answer) (named : Option ℕ) (id : ℕ) →
    named ≡ number_named (codes "frameId") d → named ≡ Some id →
    (b.lacks ≡ false → (found : Option (ℕ × ℕ)) × FindsNamed m index seen (number_named (codes "frameId") d) found
    × GivesTargets m seen found b.outcome) →
    b.lacks ≡ false → ListsTargets m index seen d b
targets_named m index seen d b named id same some h full =
    let is : number_named (codes "frameId") d ≡ Some id = sym same ∙ some in
    let it = h full in
    let to : ListsTargetsOf m index seen (Some id) b = (it.0, subst (λ (o : Option ℕ). FindsNamed m index seen o it.0) is it.1, it.2) in
    subst (λ (o : Option ℕ). ListsTargetsOf m index seen o b) (sym is) to

pub targets_none : (m : AtMachine) (index : Index) (seen : Option Sight) (d : Data) (b : Answer) (named : Option ℕ) →
    named ≡ number_named (codes "frameId") d → named ≡ None → IsRefusal b.outcome → ListsTargets m index seen d b
targets_none m index seen d b named same none refused =
    let to : ListsTargetsOf m index seen None b = refused in
    subst (λ (o : Option ℕ). ListsTargetsOf m index seen o b) (sym none ∙ same) to
