-- How something is refused.
use Rattle.std.proofs.Common.{ℕ, ◌≡◌, ◌∙◌, List, Bool, true, false, inl, inr, refl, sym, subst}
use Rattle.dap_messages.specs.Notes.{Refuses}
use Rattle.dap_messages.specs.declared.answer.Answer.{Answer}
use Rattle.dap_messages.specs.declared.answer.Outcome.{Outcome}
use Rattle.dap.specs.Stops.{NotDone, RefusedAs}
use Rattle.dap.specs.Unlaunched.{Fails}
use Rattle.dap.specs.declared.launch.Failed.{Failed}

-- for the reason of this number, where only events come behind
pub refused_by : (a m b : Answer) (n number : ℕ) (words : List ℕ) → n ≡ number → Refuses a n words m → b.outcome ≡ m.outcome → RefusedAs number b.outcome
refused_by a m b n number words is h same = subst (λ (o : Outcome). RefusedAs number o) (sym (same ∙ h.1)) is

-- for another reason too
pub not_done_weaker : (why will : ℕ → Type 0) (b : Answer) → ((number : ℕ) → why number → will number) → NotDone why b → NotDone will b
not_done_weaker why will b more h = elim h [ inl lacks ↦ inl lacks | inr it ↦ inr (it.0, it.1, more it.0 it.2) ]

-- memory is lacking still
lacks-on : (x y : Bool) → (y ≡ false → x ≡ false) → x ≡ true → y ≡ true
lacks-on x true on lacks = refl
lacks-on x false on lacks = let no : true ≡ false = sym lacks ∙ on refl in absurd (cc)

-- where the response stays
pub not_done_on : (why will : ℕ → Type 0) (m b : Answer) → b.outcome ≡ m.outcome → (b.lacks ≡ false → m.lacks ≡ false) →
    ((number : ℕ) → why number → will number) → NotDone why m → NotDone will b
not_done_on why will m b same on more h = elim h [
  | inl lacks ↦ inl (lacks-on m.lacks b.lacks on lacks)
  | inr it ↦ inr (it.0, subst (λ (o : Outcome). RefusedAs it.0 o) (sym same) it.1, more it.0 it.2)
]

-- something failed
pub fails_weaker : (why will : ℕ → Type 0) (failed : Failed) (b : Answer) → ((number : ℕ) → why number → will number) → Fails why failed b →
    Fails will failed b
fails_weaker why will Failed.Memory b more h = tt
fails_weaker why will Failed.Told b more h = not_done_weaker why will b more h

pub fails_memory : (why : ℕ → Type 0) (failed : Failed) (b : Answer) → failed ≡ Failed.Memory → Fails why failed b
fails_memory why failed b is = let to : Fails why Failed.Memory b = tt in subst (λ (f : Failed). Fails why f b) (sym is) to

pub noted : (why will : ℕ → Type 0) (failed : Failed) (m b : Answer) → (failed ≡ Failed.Memory → b.lacks ≡ true) → (failed ≡ Failed.Told → b ≡ m) →
    ((number : ℕ) → why number → will number) → Fails why failed m → NotDone will b
noted why will Failed.Memory m b memory told more h = inl (memory refl)
noted why will Failed.Told m b memory told more h =
    not_done_weaker why will b more (subst (λ (x : Answer). NotDone why x) (sym (told refl)) h)
