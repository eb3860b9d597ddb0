-- The live event that acts at a place: that of the ticket in the table, where it acts there.
use Rattle.std.proofs.Common.{◌≡◌, ℕ, Some, None, sym, subst, ◌∙◌}
use Rattle.runs.specs.Events.{acting, places}
use Rattle.runs.specs.Live.{Live, LiveAt, IsLive}
use Rattle.runs.specs.Moves.{Place}
use Rattle.runs.specs.declared.event.Event.{Event}
use Rattle.runs.proofs.public.Once.{acting-place}
use Rattle.runs.proofs.public.Options.{none-some}
use Rattle.runs.proofs.public.Tickets.{rising-one}
use Rattle.syntax.specs.Lists.{In}
use Rattle.dependence.specs.LastEvents.{ticket_at, IsAt}
use Rattle.dependence.specs.Acting.{ActsAlone, NoneActs}
use Rattle.dependence.specs.declared.tables.Tables.{Tables}
use Rattle.dependence.specs.internal.Tables.{IsRising}
use Rattle.dependence.specs.internal.Tabled.{TablesOf}
use Rattle.dependence.proofs.public.Tabling.{one-at}

-- a live event that acts at a place stands there
stands : (l : Live) (held : Tables) (p : Place) (u : ℕ) (f : Event) → TablesOf l held → LiveAt l u f → acting f ≡ p → IsAt held.places p u
stands l held p u f h i acts = (h.places p u).1 (f, i, subst (λ (a : Place). In a (places f)) acts (acting-place f))

-- where none stands none acts
pub none-stands : (l : Live) (held : Tables) (p : Place) → TablesOf l held → ticket_at held.places p ≡ None → NoneActs l p
none-stands l held p h none u f i acts = none-some u (sym none ∙ stands l held p u f h i acts)

-- what stands is live
pub stands-live : (l : Live) (held : Tables) (p : Place) (t : ℕ) → TablesOf l held → ticket_at held.places p ≡ Some t → IsLive l t
stands-live l held p t h at = let found = (h.places p t).0 at in (found.0, found.1)

-- each that acts there is the one that stands there
same-one : (l : Live) (held : Tables) (p : Place) (t u : ℕ) (e f : Event) → IsRising l → TablesOf l held → ticket_at held.places p ≡ Some t → LiveAt l t e →
    LiveAt l u f → acting f ≡ p → (u ≡ t) × (f ≡ e)
same-one l held p t u e f r h at is i acts =
    let one : u ≡ t = one-at held.places p u t (stands l held p u f h i acts) at in
    (one, rising-one 0 r.0 l t f e r.1 (subst (λ (v : ℕ). LiveAt l v f) one i) is)

pub acts-alone : (l : Live) (held : Tables) (p : Place) (t : ℕ) (e : Event) → IsRising l → TablesOf l held → ticket_at held.places p ≡ Some t → LiveAt l t e →
    acting e ≡ p → ActsAlone l p e
acts-alone l held p t e r h at is acts = record {
  ticket = t;
  live = is;
  acts = acts;
  alone = λ u f i there. same-one l held p t u e f r h at is i there;
}

pub acts-elsewhere : (l : Live) (held : Tables) (p : Place) (t : ℕ) (e : Event) → IsRising l → TablesOf l held → ticket_at held.places p ≡ Some t → LiveAt l t e →
    (acting e ≡ p → ⊥) → NoneActs l p
acts-elsewhere l held p t e r h at is not u f i there =
    not (subst (λ (g : Event). acting g ≡ p) (same-one l held p t u e f r h at is i there).1 there)
