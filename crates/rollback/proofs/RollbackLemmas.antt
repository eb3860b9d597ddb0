-- What an execution answers and leaves, in the words of rollbacks.
use Rattle.std.proofs.Common.{◌≡◌, ◌⊎◌, inl, inr, ℕ, Result, Ok, Err, refl, sym, ap, subst}
use Rattle.std.specs.Global.{Global}
use Rattle.std.specs.Prelude.{IfOk, IfErr, MatchResult, Vec}
use Rattle.runs.specs.Commands.{Command, Reply}
use Rattle.runs.specs.Does.{Does, Answers}
use Rattle.runs.specs.Live.{IsLive, NoneAt, LastWriter, ConsequencesList}
use Rattle.runs.specs.Object.{Object}
use Rattle.runs.specs.Sound.{Sound}
use Rattle.runs.specs.declared.command.Refusal.{Refusal}
use Rattle.runs.specs.declared.command.Refusal.TheVariants.{Memory, NoSuchEvent}
use Rattle.runs.proofs.public.ObjectLaws.{rolls-exactly, consequences-exactly}
use Rattle.machine.specs.Results.{consequences_reply}
use Rattle.rollback.specs.Rollbacks.{TakesBack, AreDependents}

-- a rollback of an event
pub taken : (o o' : Object) (t n : ℕ) → Sound o → Does o (Command.Roll t) (Reply.Rolled n) o' → TakesBack o t n o'
taken o o' t n s d =
    let all = rolls-exactly o s o' t n d in
    (all.0, all.1, all.3, all.4, all.5, ap (λ (p : Object). p.next) d.1.3)

-- a rollback of a variable
pub value-taken : (o o' : Object) (x n : ℕ) → Sound o → Does o (Command.RollValue x) (Reply.Rolled n) o' →
    (t : ℕ) × LastWriter o.live x t × TakesBack o t n o'
value-taken o o' x n s d = let last = d.1 in (d.0, last, taken o o' d.0 n s ((last.event, last.live), d.2))

-- the question for what depends on a live event
pub listed : {E : Type 0} (o : Object) (t : ℕ) (told : Result (Vec ℕ Global) E) (r : Result (Vec ℕ Global) Refusal) → IsLive o.live t →
    IfOk told (λ tickets. ConsequencesList o.live t tickets.items) → MatchResult told (λ tickets. r ≡ Ok tickets) (λ _. r ≡ Err Memory) →
    Answers o (Command.Consequences t) (consequences_reply r) o
listed o t (Ok tickets) r live all is =
    inl (subst (λ (s : Result (Vec ℕ Global) Refusal). Does o (Command.Consequences t) (consequences_reply s) o) (sym is) (live, all, refl))
listed o t (Err e) r live all is = inr (live, ap consequences_reply is, refl)

-- that question of any ticket
pub dependents : (o o' : Object) (t : ℕ) (r : Result (Vec ℕ Global) Refusal) → Sound o → Answers o (Command.Consequences t) (consequences_reply r) o' →
    IfOk r (λ tickets. AreDependents o t tickets.items)
dependents o o' t (Ok tickets) s (inl d) = consequences-exactly o s o' t tickets.items d
dependents o o' t (Ok tickets) s (inr (_, is, _)) = cc
dependents o o' t (Err why) s h = tt

pub no-dependents : (o o' : Object) (t : ℕ) (r : Result (Vec ℕ Global) Refusal) → Answers o (Command.Consequences t) (consequences_reply r) o' →
    IfErr r (λ why. ((why ≡ NoSuchEvent) × NoneAt o.live t) ⊎ ((why ≡ Memory) × IsLive o.live t))
no-dependents o o' t (Ok tickets) h = tt
no-dependents o o' t (Err NoSuchEvent) (inl d) = inl (refl, d.0)
no-dependents o o' t (Err Memory) (inr h) = inr (refl, h.0)
no-dependents o o' t (Err why) (inl d) = absurd d.0
no-dependents o o' t (Err why) (inr (_, is, _)) = cc
