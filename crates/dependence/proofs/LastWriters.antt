-- The last event that writes a variable: the last of all, or else the last in the table below its ticket.
use Rattle.std.proofs.Common.{◌≡◌, inl, inr, ℕ, ◌-◌, ◌<◌, ◌≤◌, length, Option, Some, None, ap, subst, arith}
use Rattle.std.specs.Prelude.{slice_get, MatchOption}
use Rattle.std.proofs.lemmas.Bool.{cases_lt}
use Rattle.std.proofs.lemmas.Option.{slice_get_within}
use Rattle.dependence.specs.LastEvents.{Uses, LastUse}
use Rattle.runs.specs.Live.{Live, LiveAt, LastWriter, NoWriter}
use Rattle.runs.specs.declared.event.Event.{Event}
use Rattle.runs.proofs.public.Tickets.{rising-one}
use Rattle.dependence.specs.declared.tables.Tables.{Tables}
use Rattle.dependence.specs.internal.Tables.{IsRising}
use Rattle.dependence.specs.internal.Tabled.{TablesOf}
use Rattle.dependence.proofs.public.ListPlaces.{in-at, index-in, at-one}
use Rattle.dependence.proofs.public.Standing.{index-rises}

-- the entry at the last index has the greatest ticket
pub last-is-greatest : (l : Live) (t : ℕ) (e : Event) → IsRising l → slice_get l (length l - 1) ≡ Some (t, e) → (u : ℕ) (f : Event) → LiveAt l u f → u ≤ t
last-is-greatest l t e r at u f i =
    let there = index-in l (u, f) i in
    let inside : there.0 < length l = slice_get_within l there.0 (u, f) there.1 in
    elim (cases_lt there.0 (length l - 1)) [
      | inl low ↦ let less : u < t = index-rises 0 r.0 l there.0 (length l - 1) u t f e r.1 there.1 at low in omega arith
      | inr high ↦
          let is : there.0 ≡ length l - 1 = omega arith in
          let one : u ≡ t = ap (λ (x : ℕ × Event). x.0) (at-one l (length l - 1) (u, f) (t, e) (subst (λ (k : ℕ). slice_get l k ≡ Some (u, f)) is there.1) at) in
          omega arith
    ]

-- where it writes the variable it is the last to do so
pub last-writes : (l : Live) (x t : ℕ) (e : Event) → IsRising l → slice_get l (length l - 1) ≡ Some (t, e) → e.written ≡ Some x → LastWriter l x t
last-writes l x t e r at writes = record {
  event = e;
  live = in-at l (length l - 1) (t, e) at;
  writes = writes;
  last = λ u f i w. last-is-greatest l t e r at u f i;
}

-- where it does not, the last of lesser ticket is
pub last-below : (l : Live) (tables : Tables) (x t : ℕ) (e : Event) (found : Option ℕ) → IsRising l → TablesOf l tables → slice_get l (length l - 1) ≡ Some (t, e) →
    (e.written ≡ Some x → ⊥) → MatchOption found ((u : ℕ) → Uses tables.writers x u → u < t → ⊥) (LastUse tables.writers x t) →
    MatchOption found (NoWriter l x) (λ u. LastWriter l x u)
last-below l tables x t e found r held at other = pick found
  where
    below : (u : ℕ) (f : Event) → LiveAt l u f → f.written ≡ Some x → u < t
    below u f i w =
        let low : u ≤ t = last-is-greatest l t e r at u f i in
        elim (cases_lt u t) [
          | inl less ↦ less
          | inr high ↦
              let is : u ≡ t = omega arith in
              let one : f ≡ e = rising-one 0 r.0 l t f e r.1 (subst (λ (v : ℕ). LiveAt l v f) is i) (in-at l (length l - 1) (t, e) at) in
              absurd (other (subst (λ (g : Event). g.written ≡ Some x) one w))
        ]

    pick : (o : Option ℕ) → MatchOption o ((u : ℕ) → Uses tables.writers x u → u < t → ⊥) (LastUse tables.writers x t) →
        MatchOption o (NoWriter l x) (λ u. LastWriter l x u)
    pick None none = λ u f i w. none u ((held.writers x u).1 (f, i, w)) (below u f i w)
    pick (Some v) last =
        let at_v = (held.writers x v).0 last.uses in
        record {
          event = at_v.0;
          live = at_v.1;
          writes = at_v.2;
          last = λ u f i w. last.last u ((held.writers x u).1 (f, i, w)) (below u f i w);
        }
