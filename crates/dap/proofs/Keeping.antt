-- What a restart keeps.
use Rattle.std.proofs.Common.{ℕ, ◌≡◌, ◌∙◌, List, [], ◌∷◌, ◌++◌, Option, None, Some, Vec, Global, refl, sym, subst, ap, append_assoc}
use Rattle.dap_messages.specs.Notes.{IsDone}
use Rattle.dap_messages.specs.declared.answer.Answer.{Answer}
use Rattle.dap_messages.specs.declared.answer.Outcome.{Outcome}
use Rattle.dap_moves.specs.Led.{Led}
use Rattle.dap_views.specs.declared.program.Asked.{Asked}
use Rattle.dap_views.specs.declared.program.Program.{Program}
use Rattle.locked_execution.specs.AtDesk.{AtDesk}
use Rattle.serde_json.specs.View.{items_view}
use Rattle.serde_json.specs.declared.value.Value.{Value}
use Rattle.dap_messages.specs.declared.told.Told.{Told}
use Rattle.dap_requests.specs.Lists.{Shown, all_shown, breakpoint_told, each}
use Rattle.dap_requests.specs.Said.{AreOutputs, Tells, TellsOutputs}
use Rattle.dap_requests.specs.Sets.{changes_of, texts_of}
use Rattle.dap_requests.proofs.public.Saying.{tells_on}
use Rattle.dap.specs.Anew.{GoesAnew, KeepsLines, KeepsSet, TellsAnew}
use Rattle.dap.specs.Begins.{Begins, begun}
use Rattle.dap.specs.Files.{TellsFound}
use Rattle.dap.specs.Stops.{BeginsOnce}
use Rattle.dap.specs.declared.launch.Launched.{Launched}

-- texts are texts
texts-outputs : {A : Type 0} (xs : List A) → AreOutputs (texts_of xs)
texts-outputs [] = tt
texts-outputs (x ∷ xs) = (refl, texts-outputs xs)

both-outputs : (ts us : List Told) → AreOutputs ts → AreOutputs us → AreOutputs (ts ++ us)
both-outputs [] us h k = k
both-outputs (t ∷ ts) us h k = (h.0, both-outputs ts us h.1 k)

-- as many breakpoints are shown as there are
abbrev tail-of : List Shown → List Shown
tail-of [] = []
tail-of (x ∷ xs) = xs

pub same_changes : (less : ℕ) (vs : List Value) (asked : List Asked) → each breakpoint_told (items_view vs) ≡ all_shown less asked →
    changes_of vs ≡ changes_of asked
same_changes less [] [] same = refl
same_changes less [] (a ∷ asked) same = absurd (cc)
same_changes less (v ∷ vs) [] same = absurd (cc)
same_changes less (v ∷ vs) (a ∷ asked) same =
    ap (λ (ts : List Told). Told.Breakpoint ∷ ts) (same_changes less vs asked (ap tail-of same))

-- what is told of breakpoints, behind texts
pub tells_anew : {A B : Type 0} (k : Program) (moved : List A) (shown : List B) (a m b : Answer) → changes_of shown ≡ changes_of k.asked.items →
    TellsOutputs a m → Tells m (texts_of moved ++ changes_of shown) b → b.outcome ≡ m.outcome → TellsAnew k a b
tells_anew k moved shown a m b same h tells outcome = (
  h.outputs ++ texts_of moved,
  both-outputs h.outputs (texts_of moved) h.are (texts-outputs moved),
  subst (λ (ts : List Told). Tells a ts b)
      (sym (append_assoc h.outputs (texts_of moved) (changes_of shown)) ∙ ap (λ (ts : List Told). (h.outputs ++ texts_of moved) ++ ts) same)
      (tells_on a m b h.outputs (texts_of moved ++ changes_of shown) h.told tells),
  λ done. subst (λ (o : Outcome). IsDone o) (sym outcome) (h.done done),
)

-- and behind what was found of the stimulus
tells-behind : (found : Option (List ℕ)) (k : Program) (a m b : Answer) → TellsFound found a m → TellsAnew k m b → TellsAnew k a b
tells-behind None k a m b h tells = (
  h.outputs ++ tells.0,
  both-outputs h.outputs tells.0 h.are tells.1,
  subst (λ (ts : List Told). Tells a ts b) (sym (append_assoc h.outputs tells.0 (changes_of k.asked.items)))
      (tells_on a m b h.outputs (tells.0 ++ changes_of k.asked.items) h.told tells.2),
  λ done. tells.3 (h.done done),
)
tells-behind (Some text) k a m b h tells = subst (λ (x : Answer). TellsAnew k x b) h tells

pub goes_behind : (found : Option (List ℕ)) (l anew m : Launched) (a c b : Answer) → TellsFound found a c → GoesAnew l anew c b m → GoesAnew l anew a b m
goes_behind found l anew m a c b h goes = record {
  kept = goes.kept;
  keeps = goes.keeps;
  places = goes.places;
  start = goes.start;
  tells = tells-behind found goes.kept a c goes.start h goes.tells;
  begins = goes.begins;
  sets = goes.sets;
  once = goes.once;
  led = goes.led;
}

-- breakpoints are placed anew
keeps-placed : (p q t k : Program) (asked : Vec Asked Global) (stops : Vec ℕ Global) → KeepsSet p q t →
    k ≡ record t { asked = asked; stops = stops } → KeepsSet p q k
keeps-placed p q t k asked stops h is =
    subst (λ (x : Program). KeepsSet p q x) (sym is) (record {
      same = ap (λ (x : Program). record x { asked = asked; stops = stops }) h.same;
      watched = h.watched;
      unwatched = h.unwatched;
      again = h.again;
      elsewhere = h.elsewhere;
    })

-- all else is as it was launched
pub goes_anew_by : (l anew t m : Launched) (k : Program) (asked : Vec Asked Global) (stops : Vec ℕ Global) (first a b : Answer) →
    KeepsSet l.program anew.program t.program → KeepsLines l anew (record t.program { asked = asked; stops = stops }) →
    t.memo ≡ anew.memo → t.desk ≡ anew.desk → k ≡ record t.program { asked = asked; stops = stops } → Led t.desk m.desk → Begins (record t { program = k }) m a b →
    m.program ≡ begun k → BeginsOnce b →
    TellsAnew (record t.program { asked = asked; stops = stops }) first a → GoesAnew l anew first b m
goes_anew_by l anew t m k asked stops first a b set lines memo desk placed led begins sets once tells = record {
  kept = k;
  keeps = keeps-placed l.program anew.program t.program k asked stops set placed;
  places = subst (λ (x : Program). KeepsLines l anew x) (sym placed) lines;
  start = a;
  tells = subst (λ (x : Program). TellsAnew x first a) (sym placed) tells;
  begins =
      subst (λ (x : Launched). Begins x m a b) (λ i. record { program = k; memo = memo i; desk = desk i }) begins;
  sets = sets;
  once = once;
  led = subst (λ (d : AtDesk). Led d m.desk) desk led;
}
