-- How entries of a stimulus, all of them or the first, make a system or none.
use Rattle.std.proofs.Common.{◌≡◌, ◌⊎◌, ◌++◌, inl, inr, ℕ, List, [], Bool, false, Result, Ok, Err, ◌∙◌, ap, subst}
use Rattle.std.specs.Result.{IfOk, OnOk, IfErr}
use Rattle.std.proofs.lemmas.List.{append-nil}
use Rattle.elaborate.specs.Elaboration as elaboration
use Rattle.syntax.specs.Texts.{lines}
use Rattle.elaborate.specs.StimulusText.{AreEntries, FirstOther}
use Rattle.refusals.specs.declared.elaborate.Fault as elaborate
use Rattle.refusals.specs.declared.elaborate.Fault.TheVariants as no_system
use Rattle.elaborate.specs.declared.stimulus.Entry.{Entry}
use Rattle.system.specs.declared.system.System.{System}
use Rattle.types.specs.declared.tree.Procedure.{Procedure}
use Rattle.front_end.specs.Accepting.{MakesOne, MakesNone}

-- the stimulus has a line of another form
pub unread : (procedures : List Procedure) (stimulus : List ℕ) (fault : elaborate.Fault)
    → (fault ≡ no_system.Memory) ⊎ ((n : ℕ) × (fault ≡ no_system.BadStimulus n) × FirstOther 1 (lines stimulus) n)
    → (fault ≡ no_system.Memory) ⊎ MakesNone procedures stimulus fault
unread procedures stimulus fault h = elim h [ inl e ↦ inl e | inr r ↦ inr (inl r) ]

-- its entries make a system
pub made_of : (procedures : List Procedure) (stimulus : List ℕ) (entries : List Entry) (r : Result System elaborate.Fault)
    → AreEntries 1 (lines stimulus) entries → IfOk r (λ system. system ≡ elaboration.system_of procedures entries)
    → OnOk r (elaboration.IsAccepted procedures entries) → IfOk r (λ system. MakesOne procedures stimulus system)
made_of procedures stimulus entries (Ok system) given same accepted = (entries, given, accepted, same)
made_of procedures stimulus entries (Err fault) given same accepted = tt

-- or none
pub unmade_of : (procedures : List Procedure) (stimulus : List ℕ) (entries : List Entry) (r : Result System elaborate.Fault)
    → AreEntries 1 (lines stimulus) entries → IfErr r (λ fault. (fault ≡ no_system.Memory) ⊎ elaboration.IsRefused procedures entries fault)
    → IfErr r (λ fault. (fault ≡ no_system.Memory) ⊎ MakesNone procedures stimulus fault)
unmade_of procedures stimulus entries (Ok system) given h = tt
unmade_of procedures stimulus entries (Err fault) given h = elim h [ inl e ↦ inl e | inr r ↦ inr (inr (entries, given, r)) ]

-- the first of them make none, whatever stands behind them
pub unmade_front : (procedures : List Procedure) (stimulus : List ℕ) (front : List Entry) (fault : elaborate.Fault)
    → (later : List Entry) × AreEntries 1 (lines stimulus) (front ++ later)
    → (fault ≡ no_system.Memory) ⊎ ((later : List Entry) → elaboration.IsRefused procedures (front ++ later) fault)
    → (fault ≡ no_system.Memory) ⊎ MakesNone procedures stimulus fault
unmade_front procedures stimulus front fault (later, given) h =
    elim h [ inl e ↦ inl e | inr r ↦ inr (inr (front ++ later, given, r later)) ]

-- where none is missing the first are all
pub all_read : (stimulus : List ℕ) (front : List Entry) (is_cut : Bool) → is_cut ≡ false
    → (later : List Entry) × AreEntries 1 (lines stimulus) (front ++ later) × (is_cut ≡ false → later ≡ []) × (later ≡ [] → is_cut ≡ false)
    → AreEntries 1 (lines stimulus) front
all_read stimulus front is_cut whole (later, given, none, _) =
    subst (AreEntries 1 (lines stimulus)) (ap (λ (es : List Entry). front ++ es) (none whole) ∙ append-nil front) given
