-- The arm that a choice took is that of the event that acts there.
use Rattle.std.proofs.Common.{◌≡◌, ℕ, List, [], ◌∷◌, Bool, true, false, true≢false, None, refl, sym, ◌∙◌, inl, inr, ap}
use Rattle.syntax.specs.Lists.{In}
use Rattle.runs.specs.Dependence.{Earlier}
use Rattle.runs.specs.Events.{acting}
use Rattle.runs.specs.Live.{Live, LiveAt, events}
use Rattle.runs.specs.internal.EventLaws.{same_place-decides}
use Rattle.runs.specs.Laws.{ActingOnce}
use Rattle.runs.specs.Moves.{Place}
use Rattle.runs.specs.Tests.{same_place}
use Rattle.runs.specs.declared.event.Event.{Event}
use Rattle.dependence.specs.Acting.{ActsAlone, NoneActs}
use Rattle.dependence.specs.EventPlaces.{at_choice, taken_by}
use Rattle.dependence.specs.ArmLaws.{TakenByTheEvent, NoneTaken}

-- no two events of the list have one acting address
Once : List Event → Type 0
Once h = (e f : Event) → Earlier h e f → acting e ≡ acting f → ⊥

-- the first event acts there
here : (e : Event) (h : List Event) (p : Place) → acting e ≡ at_choice p → taken_by (e ∷ h) p ≡ e.arm
here e h p at = rw ((same_place-decides (acting e) (at_choice p)).1 at) refl

-- the first event acts elsewhere
past : (e : Event) (h : List Event) (p : Place) → (acting e ≡ at_choice p → ⊥) → taken_by (e ∷ h) p ≡ taken_by h p
past e h p not_at = by_test (same_place (acting e) (at_choice p)) refl
  where
    by_test : (b : Bool) → same_place (acting e) (at_choice p) ≡ b → taken_by (e ∷ h) p ≡ taken_by h p
    by_test true is = absurd (not_at ((same_place-decides (acting e) (at_choice p)).0 is))
    by_test false is = rw is refl

-- where no two events act at one address, it is that of any that acts there
taken : (h : List Event) (e : Event) (p : Place) → Once h → In e h → acting e ≡ at_choice p → taken_by h p ≡ e.arm
unfolding Once
taken [] e p once is at = elim is [ ]
taken (x ∷ h) e p once (inl same) at = here x h p (ap acting (sym same) ∙ at) ∙ ap (λ (y : Event). y.arm) (sym same)
taken (x ∷ h) e p once (inr later) at =
    past x h p (λ x_at. once x e (inl (refl, later)) (x_at ∙ sym at))
    ∙ taken h e p (λ f g earlier. once f g (inr earlier)) later at

pub taken_by_the_event : ActingOnce → TakenByTheEvent
unfolding Once
taken_by_the_event once system h T e p run is at = taken h e p (λ f g earlier. once system h T f g run earlier) is at

pub none_taken : NoneTaken
none_taken [] p none = refl
none_taken (x ∷ h) p none = past x h p (none x (inl refl)) ∙ none_taken h p (λ e is. none e (inr is))

-- it is that of the live event that alone acts there
live-arm : (l : Live) (p : Place) (e : Event) (t : ℕ) → ((u : ℕ) (f : Event) → LiveAt l u f → acting f ≡ at_choice p → f ≡ e) →
    LiveAt l t e → acting e ≡ at_choice p → taken_by (events l) p ≡ e.arm
live-arm [] p e t alone i at = elim i [ ]
live-arm (x ∷ l) p e t alone i at =
    by_test (same_place (acting x.1) (at_choice p)) refl (λ later. live-arm l p e t (λ u f j. alone u f (inr j)) later at)
  where
    not-here : same_place (acting x.1) (at_choice p) ≡ false → acting x.1 ≡ at_choice p → ⊥
    not-here is there = true≢false (sym ((same_place-decides (acting x.1) (at_choice p)).1 there) ∙ is)

    by_test : (b : Bool) → same_place (acting x.1) (at_choice p) ≡ b → (LiveAt l t e → taken_by (events l) p ≡ e.arm) →
        taken_by (events (x ∷ l)) p ≡ e.arm
    by_test true is rest =
        let there : acting x.1 ≡ at_choice p = (same_place-decides (acting x.1) (at_choice p)).0 is in
        here x.1 (events l) p there ∙ ap (λ (y : Event). y.arm) (alone x.0 x.1 (inl refl) there)
    by_test false is rest = past x.1 (events l) p (not-here is) ∙ elim i [
      | inl same ↦ absurd (not-here is (ap (λ (y : ℕ × Event). acting y.1) (sym same) ∙ at))
      | inr later ↦ rest later
    ]

pub arm-of-the-live : (l : Live) (p : Place) (e : Event) → ActsAlone l (at_choice p) e → taken_by (events l) p ≡ e.arm
arm-of-the-live l p e a = live-arm l p e a.ticket (λ u f i there. (a.alone u f i there).1) a.live a.acts

pub no-live-arm : (l : Live) (p : Place) → NoneActs l (at_choice p) → taken_by (events l) p ≡ None
no-live-arm [] p none = refl
no-live-arm (x ∷ l) p none = past x.1 (events l) p (none x.0 x.1 (inl refl)) ∙ no-live-arm l p (λ u f i. none u f (inr i))
