use Rattle.std.proofs.Common.{inl, inr, refl, sym}
use Rattle.serde_json.specs.View.{items_view}
use Rattle.dap_requests.proofs.watches.set_data.Goals as goal

pub returns-in-Some : goal.returns-in-Some
returns-in-Some c = elim c.watch.ensures [
  | inl only ↦ inr (items_view c.in-Some.items.now, sym c.in-Some.ensures.items, only.0, only.1)
  | inr none ↦ inl (none.0, inr none.1)
]

pub returns-in-None : goal.returns-in-None
returns-in-None c = inl (refl, inl (sym c.in-None.ensures.items, c.in-None.ensures.answer))
