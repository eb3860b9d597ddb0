-- Lists and members that a JSON text has grown by.
use Rattle.std.proofs.Common.{◌≡◌, ◌∙◌, ℕ, ◌<◌, ◌≤◌, Option, List, [], ◌∷◌, ◌++◌, length, drop, map, append_assoc, refl, subst, ap, arith}
use Rattle.runs.specs.Live.{Live}
use Rattle.runs.specs.declared.event.Event.{Event}
use Rattle.system.specs.declared.system.System.{System}
use Rattle.dependence.proofs.public.ListPlaces.{drop-all}
use Rattle.std.specs.Fmt.{decimal}
use Rattle.json_text.specs.Values.{Growing, closed, list_text, member_text, named, nothing_yet, object_text, opened, optional_text, string_text, with_value, with_values}
use Rattle.json_text.proofs.public.Growing.{list_filled, member_added, object_filled, with_more_values}
use Rattle.picture_data.specs.declared.actions.Actions.{Actions}
use Rattle.picture_data.specs.declared.steps.Steps.{Steps}
use Rattle.picture_data.specs.declared.places.Wanted.{Wanted}
use Rattle.picture_text.specs.DataText.{event_rows, numbers_text, ready_rows, rings_text, wanted_text}

-- behind the last element of a list all rows are there
pub all-rows : {X : Type 0} (f : X → List ℕ) (xs ys : List X) (k : ℕ) (e b : Growing) → ys ≡ xs → length ys ≤ k →
    with_values e (map f (drop k ys)) ≡ with_values b (map f ys) → e ≡ with_values b (map f xs)
all-rows {X} f xs ys k e b same past is =
    subst (λ (left : List X). with_values e (map f left) ≡ with_values b (map f ys)) (drop-all ys k past) is
    ∙ ap (λ (all : List X). with_values b (map f all)) same

-- where no element is left they are
pub none-left : {X : Type 0} (f : X → List ℕ) (xs left : List X) (e b : Growing) → left ≡ [] →
    with_values e (map f left) ≡ with_values b (map f xs) → e ≡ with_values b (map f xs)
none-left {X} f xs left e b none is = subst (λ (rest : List X). with_values e (map f rest) ≡ with_values b (map f xs)) none is

pub all-event-rows : (system : System) (steps : Steps) (l left : Live) (k : ℕ) (e b : Growing) → left ≡ [] →
    with_values e (event_rows system steps k left) ≡ with_values b (event_rows system steps 0 l) → e ≡ with_values b (event_rows system steps 0 l)
all-event-rows system steps l left k e b none is =
    subst (λ (rest : Live). with_values e (event_rows system steps k rest) ≡ with_values b (event_rows system steps 0 l)) none is

pub all-ready-rows : (system : System) (actions : List Actions) (es fs : List Event) (k : ℕ) (e b : Growing) → fs ≡ es → length fs ≤ k →
    with_values e (ready_rows system actions k (drop k fs)) ≡ with_values b (ready_rows system actions 0 fs) →
    e ≡ with_values b (ready_rows system actions 0 es)
all-ready-rows system actions es fs k e b same past is =
    subst (λ (left : List Event). with_values e (ready_rows system actions k left) ≡ with_values b (ready_rows system actions 0 fs)) (drop-all fs k past) is
    ∙ ap (λ (all : List Event). with_values b (ready_rows system actions 0 all)) same

-- a list that was opened, filled and closed
pub listed : (g b e z : Growing) (rows : List (List ℕ)) → b ≡ opened 91 g → e ≡ with_values b rows → z ≡ closed 93 e → z ≡ with_value g (list_text rows)
listed g b e z rows one two three =
    three ∙ (ap (closed 93) (two ∙ ap (λ (x : Growing). with_values x rows) one) ∙ list_filled g rows)

-- the same behind a name
pub listed-member : (g a b e z : Growing) (name : List ℕ) (rows : List (List ℕ)) → a ≡ named g name → b ≡ opened 91 a → e ≡ with_values b rows →
    z ≡ closed 93 e → z ≡ with_value g (member_text name (list_text rows))
listed-member g a b e z name rows zero one two three =
    listed a b e z rows one two three
    ∙ (ap (λ (x : Growing). with_value x (list_text rows)) zero ∙ member_added g name (list_text rows))

-- a value behind a name
pub valued-member : (g a z : Growing) (name value : List ℕ) → a ≡ named g name → z ≡ with_value a value → z ≡ with_value g (member_text name value)
valued-member g a z name value zero one = one ∙ (ap (λ (x : Growing). with_value x value) zero ∙ member_added g name value)

-- the row of an event: its text, where it stands, its depth and what it writes, what it reads, who follows it, and since when it stood there
pub event-row : (g a b c d e f h z : Growing) (text reads ahead : List ℕ) (actions two since : List (List ℕ)) → a ≡ opened 91 g →
    b ≡ with_value a text → c ≡ with_values b actions → d ≡ with_values c two → e ≡ with_value d reads → f ≡ with_value e ahead →
    h ≡ with_values f since → z ≡ closed 93 h → z ≡ with_value g (list_text (text ∷ (actions ++ (two ++ reads ∷ ahead ∷ since))))
event-row g a b c d e f h z text reads ahead actions two since one second third fourth fifth sixth seventh last =
    let inner : h ≡ with_values c (two ++ reads ∷ ahead ∷ since) =
    seventh
    ∙ (ap (λ (x : Growing). with_values x since) (sixth ∙ ap (λ (x : Growing). with_value x ahead) (fifth ∙ ap (λ (x : Growing). with_value x reads) fourth))
    ∙ with_more_values c two (reads ∷ ahead ∷ since)) in
    let whole : h ≡ with_values a (text ∷ (actions ++ (two ++ reads ∷ ahead ∷ since))) =
    inner
    ∙ (ap (λ (x : Growing). with_values x (two ++ reads ∷ ahead ∷ since)) (third ∙ ap (λ (x : Growing). with_values x actions) second)
    ∙ with_more_values (with_value a text) actions (two ++ reads ∷ ahead ∷ since)) in
    listed g a h z (text ∷ (actions ++ (two ++ reads ∷ ahead ∷ since))) one whole last

-- the row of an event that can be taken
pub ready-row : (g a b c d z : Growing) (text line : List ℕ) (actions : List (List ℕ)) → a ≡ opened 91 g → b ≡ with_value a text →
    c ≡ with_values b actions → d ≡ with_value c line → z ≡ closed 93 d → z ≡ with_value g (list_text (text ∷ (actions ++ line ∷ [])))
ready-row g a b c d z text line actions one second third fourth last =
    let whole : d ≡ with_values a (text ∷ (actions ++ line ∷ [])) =
    fourth
    ∙ (ap (λ (x : Growing). with_value x line) (third ∙ ap (λ (x : Growing). with_values x actions) second)
    ∙ with_more_values (with_value a text) actions (line ∷ [])) in
    listed g a d z (text ∷ (actions ++ line ∷ [])) one whole last

-- three members
pub three-members : (g a b c d e z : Growing) (m n o u v w : List ℕ) → a ≡ named g m → b ≡ with_value a u → c ≡ named b n → d ≡ with_value c v →
    e ≡ named d o → z ≡ with_value e w → z ≡ with_values g (member_text m u ∷ member_text n v ∷ member_text o w ∷ [])
three-members g a b c d e z m n o u v w one two three four five six =
    valued-member d e z o w five six
    ∙ ap (λ (x : Growing). with_value x (member_text o w))
    (valued-member b c d n v three four ∙ ap (λ (x : Growing). with_value x (member_text n v)) (valued-member g a b m u one two))

-- an object of all these members
pub object-text : (start a b c d z : Growing) (h s r : List (List ℕ)) → start ≡ nothing_yet → a ≡ opened 123 start → b ≡ with_values a h →
    c ≡ with_values b s → d ≡ with_values c r → z ≡ closed 125 d → z.text ≡ object_text (h ++ (s ++ r))
unfolding with_value
object-text start a b c d z h s r zero one two three four five =
    let inner : d ≡ with_values a (h ++ (s ++ r)) =
    four
    ∙ (ap (λ (x : Growing). with_values x r) (three ∙ ap (λ (x : Growing). with_values x s) two)
    ∙ (ap (λ (x : Growing). with_values x r) (with_more_values a h s)
    ∙ (with_more_values a (h ++ s) r ∙ ap (λ (xs : List (List ℕ)). with_values a xs) (append_assoc h s r)))) in
    let whole : z ≡ with_value nothing_yet (object_text (h ++ (s ++ r))) =
    five
    ∙ (ap (closed 125) (inner ∙ ap (λ (x : Growing). with_values x (h ++ (s ++ r))) (one ∙ ap (opened 123) zero))
    ∙ object_filled nothing_yet (h ++ (s ++ r))) in
    ap (λ (x : Growing). x.text) whole

-- what is told of a place
abbrev place-texts : Option ℕ → List ℕ → ℕ → List ℕ → List Wanted → ℕ → List (List ℕ)
place-texts lane text line role wanted ready =
    optional_text lane ∷ string_text text ∷ decimal line ∷ string_text role ∷ list_text (map wanted_text wanted) ∷ decimal ready ∷ []

pub place-told : (g a b c d z : Growing) (o lane : Option ℕ) (t text r role : List ℕ) (line f ready : ℕ) (ws wanted : List Wanted) → o ≡ lane →
    t ≡ text → r ≡ role → ws ≡ wanted → f ≡ ready → a ≡ opened 91 g →
    b ≡ with_values a (optional_text o ∷ string_text t ∷ decimal line ∷ string_text r ∷ []) → c ≡ with_value b (list_text (map wanted_text ws)) →
    d ≡ with_value c (decimal f) → z ≡ closed 93 d → z ≡ with_value g (list_text (place-texts lane text line role wanted ready))
place-told g a b c d z o lane t text r role line f ready ws wanted at-lane at-text at-role at-wanted at-ready one two three four last =
    let inner : d ≡ with_values a (place-texts o t line r ws f) =
    four
    ∙ ap (λ (x : Growing). with_value x (decimal f)) (three ∙ ap (λ (x : Growing). with_value x (list_text (map wanted_text ws))) two) in
    let same : place-texts o t line r ws f ≡ place-texts lane text line role wanted ready =
    ap (λ (x : Option ℕ). place-texts x t line r ws f) at-lane
    ∙ (ap (λ (x : List ℕ). place-texts lane x line r ws f) at-text
    ∙ (ap (λ (x : List ℕ). place-texts lane text line x ws f) at-role
    ∙ (ap (λ (x : List Wanted). place-texts lane text line role x f) at-wanted
    ∙ ap (λ (x : ℕ). place-texts lane text line role wanted x) at-ready))) in
    listed g a d z (place-texts lane text line role wanted ready) one (inner ∙ ap (λ (xs : List (List ℕ)). with_values a xs) same) last

-- a ring that is there
pub rings-some : (ring : List ℕ) → 0 < length ring → list_text (numbers_text ring ∷ []) ≡ rings_text ring
rings-some [] more = absurd (omega arith)
rings-some (i ∷ ring) more = refl
