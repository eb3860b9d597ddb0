use Rattle.std.proofs.Common.{◌≡◌, ◌∙◌, None, Some, codes, false, inl, inr, map, sym, true}
use Rattle.serde_json.specs.View.{view}
use Rattle.dap_threads.proofs.Unfolding.{gives_list}
use Rattle.dap_threads.proofs.values.scopes_in.Goals as goal

pub returns-in-Some : goal.returns-in-Some
returns-in-Some c = λ full.
    let list = c.scope_list-list.result in (
      Some (c.in-Some.branch, c.in-Some.instance),
      c.in-Some.ensures.found,
      (
        map view list.made.items,
        gives_list (codes "scopes") c.listing.result list c.body.new.self c.listing.ensures.lists c.body.ensures.body full,
        c.scope_list-list.ensures (c.listing.ensures.whole (c.body.ensures.body full).0),
      ),
    )

pub returns-in-None : goal.returns-in-None
returns-in-None c = λ full. elim c.in-None.ensures.found [
  | inl none ↦ let no : true ≡ false = sym none ∙ full in absurd (cc)
  | inr refused ↦ (None, refused.1, refused.0)
]
