use Rattle.std.proofs.Common.{ℕ, List, Some, ◌∙◌, ap, inl, inr, sym}
use Rattle.dap_requests.specs.Lists.{none_shown, stand_told}
use Rattle.dap_requests.proofs.Listing.{lists_made}
use Rattle.dap_requests.proofs.breakpoints.set_none.Goals as goal

pub returns-in-Some-clause-none : goal.returns-in-Some-clause-none
returns-in-Some-clause-none c =
    inr (
      c.as_slice.result.now,
      c.in-Some.ensures.lines ∙ ap (λ (xs : List ℕ). Some xs) (sym c.as_slice.ensures.value),
      lists_made stand_told (none_shown c.as_slice.result.now) c.unset_all-list.result c.give_made.new.answer c.unset_all-list.ensures
          c.give_made.ensures.list,
    )

pub returns-in-None-clause-none : goal.returns-in-None-clause-none
returns-in-None-clause-none c = inl c.in-None.ensures.lines
