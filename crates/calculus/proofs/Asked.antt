-- There is no answer to what a command does not do.
use Rattle.std.proofs.Common.{◌≡◌, ℕ, List, Option, None, refl}
use Rattle.value.specs.Word.{Word}
use Rattle.system.specs.Expression.{Expression, Decision}
use Rattle.system.specs.Residual.{Residual, Arms}
use Rattle.runs.specs.internal.After.{after_assign, after_send, after_receive, after_sync, after_held, after_loop, after_while, after_test, after_choose, after_closing, after_drain}
use Rattle.runs.specs.declared.ask.Ask.{Ask}
use Rattle.runs.specs.declared.ask.Ask.TheVariants.{Assign, Test, Turn, Send, Hold, Receive, Open, Sync, Release, Close}

pub not_assign : (x w : ℕ) (e : Expression) (k : Ask) → (k ≡ Assign → ⊥) → after_assign x w e k ≡ None
not_assign x w e Assign h = absurd (h refl)
not_assign x w e _ h = refl

pub not_send : (c w : ℕ) (e : Expression) (k : Ask) → (k ≡ Send → ⊥) → (k ≡ Hold → ⊥) → after_send c w e k ≡ None
not_send c w e Send h g = absurd (h refl)
not_send c w e Hold h g = absurd (g refl)
not_send c w e _ h g = refl

pub not_receive : (c x : ℕ) (k : Ask) → (k ≡ Receive → ⊥) → after_receive c x k ≡ None
not_receive c x Receive h = absurd (h refl)
not_receive c x _ h = refl

pub not_sync : (c : ℕ) (k : Ask) → (k ≡ Sync → ⊥) → (k ≡ Hold → ⊥) → after_sync c k ≡ None
not_sync c Sync h g = absurd (h refl)
not_sync c Hold h g = absurd (g refl)
not_sync c _ h g = refl

pub not_release : (c : ℕ) (k : Ask) → (k ≡ Release → ⊥) → after_held c k ≡ None
not_release c Release h = absurd (h refl)
not_release c _ h = refl

pub not_turn : (n : ℕ) (body : Residual) (k : Ask) → (k ≡ Turn → ⊥) → after_loop n body k ≡ None
not_turn n body Turn h = absurd (h refl)
not_turn n body _ h = refl

pub not_while : (n : ℕ) (e : Expression) (body : Residual) (k : Ask) → ((j : Option ℕ) → k ≡ Test j → ⊥) → after_while n e body k ≡ None
not_while n e body (Test j) h = absurd (h j refl)
not_while n e body _ h = refl

pub not_test : (d : Decision) (arms : Arms) (k : Ask) → ((j : Option ℕ) → k ≡ Test j → ⊥) → after_test d arms k ≡ None
not_test d arms (Test j) h = absurd (h j refl)
not_test d arms _ h = refl

pub not_open : (channels : List ℕ) (arms : Arms) (k : Ask) → ((j : ℕ) (v : Option Word) → k ≡ Open j v → ⊥) → after_choose channels arms k ≡ None
not_open channels arms (Open j v) h = absurd (h j v refl)
not_open channels arms _ h = refl

pub not_close : (c : ℕ) (k : Ask) → (k ≡ Close → ⊥) → after_closing c k ≡ None
not_close c Close h = absurd (h refl)
not_close c _ h = refl

pub not_drain : (c n : ℕ) (k : Ask) → (k ≡ Receive → ⊥) → after_drain c n k ≡ None
not_drain c n Receive h = absurd (h refl)
not_drain c n _ h = refl
