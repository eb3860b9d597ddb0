-- Which breakpoints have moved, and how that is told.
use Rattle.std.proofs.Common.{◌≡◌, ◌⊎◌, ◌∙◌, ◌++◌, ◌∷◌, [], ◌||◌, ℕ, List, Bool, Option, None, Some, Vec, Global, false, true, cond, filter, length, map, append-nil, ap, arith, inl, inr, refl, sym, subst}
use Rattle.std.proofs.lemmas.List.{map-append}
use Rattle.std.proofs.lemmas.List.Elements.{filter-append}
use Rattle.serde_json.specs.Data.{Data, object}
use Rattle.serde_json.specs.View.{members_view, view}
use Rattle.serde_json.specs.declared.value.Value.{Value}
use Rattle.dap_messages.specs.Notes.{Adds, told_by}
use Rattle.dap_messages.specs.Written.{Pushes}
use Rattle.dap_messages.specs.declared.answer.Answer.{Answer}
use Rattle.dap_messages.specs.declared.members.Listed.{Listed}
use Rattle.dap_messages.specs.declared.members.Members.{Members}
use Rattle.dap_messages.specs.declared.told.Told.{Told}
use Rattle.dap_views.specs.declared.program.Asked.{Asked}
use Rattle.dap_views.specs.declared.program.Program.{Program}
use Rattle.dap_requests.specs.Said.{Tells}
use Rattle.dap_requests.specs.Sets.{TellsLines, TellsSet, is_elsewhere, is_meant, is_moved, is_own, lines_asked, moves_told, path_in, texts_of}
use Rattle.dap_requests.specs.declared.breakpoints.Making.{Making}
use Rattle.dap_requests.specs.declared.breakpoints.Placing.{Placing}
use Rattle.dap_requests.specs.internal.Placing.{AreMoved, AreMoving, MovesMore, texts_made}
use Rattle.dap_requests.proofs.Setting.{meant_by}
use Rattle.dap_requests.proofs.public.Saying.{tells_on, tells_one}

-- one line of text more, where a breakpoint has moved
moved-one : (a : Asked) (t : Bool) → is_moved a ≡ t → moves_told (a ∷ []) ≡ texts_of (cond t (a ∷ []) [])
moved-one a t is = ap (λ (b : Bool). texts_of (cond b (a ∷ []) [])) is

pub moves_one : (a : Asked) (before after : Listed) (ms : Members) → is_moved a ≡ true → Pushes before ms after → MovesMore a before after
moves_one a before after ms is push = λ full.
    let more = push full in (
      more.0,
      ap (λ (ds : List Data). texts_of ds) more.2
          ∙ map-append (λ (d : Data). Told.Output) (map view before.made.items) (object (members_view ms.made.entries) ∷ [])
          ∙ ap (λ (ts : List Told). texts_made before ++ ts) (sym (moved-one a true is)),
    )

pub moves_none : (a : Asked) (list : Listed) → is_moved a ≡ false → MovesMore a list list
moves_none a list is = λ full.
    (full, sym (append-nil (texts_made list)) ∙ ap (λ (ts : List Told). texts_made list ++ ts) (sym (moved-one a false is)))

-- of all that are being placed
told-append : (xs ys : List Asked) → moves_told (xs ++ ys) ≡ moves_told xs ++ moves_told ys
told-append xs ys =
    ap (λ (zs : List Asked). texts_of zs) (filter-append is_moved xs ys)
    ∙ map-append (λ (a : Asked). Told.Output) (filter is_moved xs) (filter is_moved ys)

pub moving_more : (a : Asked) (before after : Making) → after.asked.items ≡ before.asked.items ++ a ∷ [] → MovesMore a before.moved after.moved →
    AreMoving before → AreMoving after
moving_more a before after added more h = λ full.
    let it = more full in
    it.1
    ∙ ap (λ (ts : List Told). ts ++ moves_told (a ∷ [])) (h it.0)
    ∙ sym (told-append before.asked.items (a ∷ []))
    ∙ ap moves_told (sym added)

-- and that were placed
texts-same : (vs : List Value) → texts_of (map view vs) ≡ texts_of vs
texts-same [] = refl
texts-same (v ∷ vs) = ap (λ (ts : List Told). Told.Output ∷ ts) (texts-same vs)

pub moved_all : (m : Making) (placing : Placing) → AreMoving m → placing.asked ≡ m.asked → m.moved.lacks ≡ false → placing.moved ≡ m.moved.made →
    AreMoved placing
moved_all m placing h asked full made =
    ap (λ (v : Vec Value Global). texts_of v.items) made
    ∙ sym (texts-same m.moved.made.items)
    ∙ h full
    ∙ ap (λ (v : Vec Asked Global). moves_told v.items) (sym asked)

-- they are told, where they are kept
pub tells_moved : (a b : Answer) (placing : Placing) (q : Program) → AreMoved placing → q.asked ≡ placing.asked →
    Tells a (texts_of placing.moved.items) b → Tells a (moves_told q.asked.items) b
tells_moved a b placing q moved kept h =
    subst (λ (ts : List Told). Tells a ts b) (moved ∙ ap (λ (v : Vec Asked Global). moves_told v.items) (sym kept)) h

-- where nothing is told before and behind
pub tells_around : (a m n b : Answer) (ts : List Told) → m.notes ≡ a.notes → m.lacks ≡ a.lacks → Tells m ts n → b.notes ≡ n.notes →
    (b.lacks ≡ false → n.lacks ≡ false) → Tells a ts b
tells_around a m n b ts before full_before h behind full_behind = λ full.
    let it = h (full_behind full) in (
      sym full_before ∙ it.0,
      ap (λ ns. told_by ns.items) behind ∙ it.1 ∙ ap (λ ns. told_by ns.items ++ ts) before,
    )

-- texts, one after another
pub tells_nothing : (a : Answer) → Tells a [] a
tells_nothing a = λ full. (full, sym (append-nil (told_by a.notes.items)))

pub tells_more : {A : Type 0} (t : Told) (xs : List A) (x : A) (a m b : Answer) (body : Option Data) → Tells a (map (λ y. t) xs) m → Adds m t body b →
    Tells a (map (λ y. t) (xs ++ x ∷ [])) b
tells_more {A} t xs x a m b body h adds =
    subst (λ (ts : List Told). Tells a ts b) (sym (map-append (λ (y : A). t) xs (x ∷ [])))
    (tells_on a m b (map (λ (y : A). t) xs) (t ∷ []) h (tells_one m b t body adds))

none-left : {A : Type 0} (xs : List A) → 0 ≡ length xs → xs ≡ []
none-left [] h = refl
none-left (x ∷ xs) h = absurd (omega arith)

pub all_yielded : {A : Type 0} (yielded left all : List A) → yielded ++ left ≡ all → 0 ≡ length left → yielded ≡ all
all_yielded yielded left all rest none =
    sym (append-nil yielded) ∙ ap (λ l. yielded ++ l) (sym (none-left left none)) ∙ rest

-- where there was no memory that is not said
pub tells_lacking : (a b : Answer) (ts : List Told) → b.lacks ≡ true → Tells a ts b
tells_lacking a b ts lacks = λ full. let no : true ≡ false = sym lacks ∙ full in absurd (cc)

-- lines are set that are meant
pub tells_set : (d : Data) (a m b : Answer) (q : Program) (lines : List ℕ) → lines_asked d ≡ Some lines → m ≡ a →
    Tells m (moves_told q.asked.items) b → TellsSet true (lines_asked d) a q b
tells_set d a m b q lines is same h =
    let to : TellsSet true (Some lines) a q b = subst (λ (x : Answer). Tells x (moves_told q.asked.items) b) same h in
    subst (λ (o : Option (List ℕ)). TellsSet true o a q b) (sym is) to

unset-as : (asked : Option (List ℕ)) (F : Type 0) (a b : Answer) (q : Program) → ((asked ≡ None) × F) ⊎ (b.lacks ≡ true) → b.notes ≡ a.notes →
    TellsSet true asked a q b
unset-as None F a b q why quiet = quiet
unset-as (Some lines) F a b q why quiet = elim why [
  | inl none ↦ let no : Some lines ≡ None = none.0 in absurd (cc)
  | inr lacks ↦ tells_lacking a b (moves_told q.asked.items) lacks
]

pub tells_unset : (d : Data) (F : Type 0) (a b : Answer) (q : Program) → ((lines_asked d ≡ None) × F) ⊎ (b.lacks ≡ true) → b.notes ≡ a.notes →
    TellsSet true (lines_asked d) a q b
tells_unset d F a b q why quiet = unset-as (lines_asked d) F a b q why quiet

-- in the file that is named
pub tells_in : (d : Data) (p : Program) (a : Answer) (q : Program) (b : Answer) (path : List ℕ) (own meant : Bool) → path ≡ path_in d →
    own ≡ is_own p path → meant ≡ (own || is_elsewhere p path) → meant ≡ true → TellsSet true (lines_asked d) a q b → TellsLines d p a q b
tells_in d p a q b path own meant path_is own_is meant_is h tells =
    let is : is_meant p (path_in d) ≡ true = ap (λ (x : List ℕ). is_meant p x) (sym path_is) ∙ meant_by p path own meant true own_is meant_is h in
    subst (λ (x : Bool). TellsSet x (lines_asked d) a q b) (sym is) tells

pub tells_elsewhere : (d : Data) (p : Program) (a : Answer) (q : Program) (b : Answer) (path : List ℕ) (own meant : Bool) → path ≡ path_in d →
    own ≡ is_own p path → meant ≡ (own || is_elsewhere p path) → meant ≡ false → b.notes ≡ a.notes → TellsLines d p a q b
tells_elsewhere d p a q b path own meant path_is own_is meant_is h quiet =
    let is : is_meant p (path_in d) ≡ false = ap (λ (x : List ℕ). is_meant p x) (sym path_is) ∙ meant_by p path own meant false own_is meant_is h in
    let to : TellsSet false (lines_asked d) a q b = quiet in
    subst (λ (x : Bool). TellsSet x (lines_asked d) a q b) (sym is) to
