-- What a `Live` shows after an event more.
use Rattle.std.proofs.Common.{◌≡◌, ℕ, ◌≤◌, List, [], ◌∷◌, ◌++◌, Bool, Result, Ok, Err, ◌∙◌, ap, sym, subst}
use Rattle.std.specs.Result.{OnOk, IfErr}
use Rattle.syntax.specs.Lists.{In}
use Rattle.runs.specs.Live.{Live}
use Rattle.runs.specs.declared.event.Event.{Event}
use Rattle.dependence.specs.Shown.{Shown, with_newest, tickets_marked}
use Rattle.dependence.specs.internal.Marking.{NoneLess}

abbrev pub shown : Live → List ℕ → Shown
shown l ts = record { live = l; marked = ts }

pub shown-added : (s : Shown) (l k : Live) (ts us : List ℕ) (t : ℕ) (e : Event) → shown l ts ≡ s → k ≡ l ++ (t, e) ∷ [] → us ≡ ts → shown k us ≡ with_newest s t e
shown-added s l k ts us t e is more same =
    ap (λ (x : Live). shown x us) more ∙ ap (λ (x : List ℕ). shown (l ++ (t, e) ∷ []) x) same ∙ ap (λ (x : Shown). with_newest x t e) is

pub shown-same : (s : Shown) (l k : Live) (marks flags : List Bool) → shown l (tickets_marked l marks) ≡ s → k ≡ l → flags ≡ marks → shown k (tickets_marked k flags) ≡ s
shown-same s l k marks flags is same_live same_marks =
    ap (λ (x : Live). shown x (tickets_marked x flags)) same_live ∙ ap (λ (x : List Bool). shown l (tickets_marked l x)) same_marks ∙ is

pub ok-so : {A E : Type 0} (r : Result A E) (P Q : Type 0) → (P → Q) → OnOk r P → OnOk r Q
ok-so (Ok x) P Q f p = f p
ok-so (Err e) P Q f p = tt

pub err-so : {A E : Type 0} (r : Result A E) (P Q : E → Type 0) → ((e : E) → P e → Q e) → IfErr r P → IfErr r Q
err-so (Ok x) P Q f p = tt
err-so (Err e) P Q f p = f e p

-- with or without an event more none of a lesser ticket is marked
pub lower-kept : {A E : Type 0} (r : Result A E) (P : Type 0) (Q : E → Type 0) (l k : Live) (marks flags : List Bool) (t : ℕ) → NoneLess l marks t →
    OnOk r (P × (tickets_marked k flags ≡ tickets_marked l marks)) → IfErr r (λ e. Q e × (k ≡ l) × (flags ≡ marks)) → NoneLess k flags t
lower-kept (Ok x) P Q l k marks flags t low ok err = subst (λ (ts : List ℕ). (u : ℕ) → In u ts → t ≤ u) (sym ok.1) low
lower-kept (Err e) P Q l k marks flags t low ok err =
    subst (λ (m : Live). NoneLess m flags t) (sym err.1) (subst (λ (ms : List Bool). NoneLess l ms t) (sym err.2) low)
