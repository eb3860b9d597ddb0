use Rattle.std.proofs.Common.{◌≡◌, ◌⊎◌, inl, inr, ◌^◌, ◌<◌, ℕ, suc, List, get_or, subst, arith}
use Rattle.std.proofs.lemmas.Bool.{cases_lt}
use Rattle.dependence.specs.internal.Found.{FirstBehind}
use Rattle.dependence.proofs.Candidacy.{behind-none, behind-next}
use Rattle.dependence.proofs.public.ListPlaces.{take-all}
use Rattle.dependence.proofs.accesses.behind_all.Goals as goal
use Rattle.dependence.proofs.accesses.behind_all.Goals.{then-ticket-end, else-ticket-end}

pub loop-ticket-init : goal.loop-ticket-init
loop-ticket-init c = behind-none

pub loop-ticket-preserved : goal.loop-ticket-preserved
loop-ticket-preserved c =
    let ts : List ℕ = c.args.tickets.now in
    let one : ℕ = get_or ts c.loop-ticket.ticket-index 0 in
    let old : ℕ = c.loop-ticket.end in
    let end : ℕ = c.if-ticket-end.end in
    let fits = c.type_inv.tickets c.loop-ticket.ticket-index in
    let next = behind-next ts c.loop-ticket.ticket-index old end c.loop-ticket-test.true in
    elim c.if-ticket-end.branch [
      | then-ticket-end w ↦
          let at = w.if-ticket-end.true in
          let is = w.end-is in
          let sum = w.saturating_add-end.ensures in
          let last : (one < end) ⊎ (suc end ≡ 2 ^ 64) = elim (cases_lt (suc one) (2 ^ 64)) [
            | inl less ↦ inl (omega (arith, at, is, sum, fits, less))
            | inr full ↦ inr (omega (arith, at, is, sum, fits, full))
          ] in
          next (omega (arith, at, is, sum, fits)) (λ full. omega (arith, at, is, sum, fits, full)) last (inr (omega (arith, at, is, sum, fits))) c.loop-ticket.invariant
      | else-ticket-end w ↦
          let at = w.if-ticket-end.false in
          let is = w.end-is in
          next (omega (arith, at, is)) (λ full. omega (arith, is, full)) (inl (omega (arith, at, is))) (inl (omega (arith, is))) c.loop-ticket.invariant
    ]

pub returns : goal.returns
returns c =
    subst (λ (k : List ℕ). FirstBehind k c.loop-ticket.end) (take-all c.args.tickets.now c.loop-ticket.ticket-index c.loop-ticket-test.false)
    c.loop-ticket.invariant
