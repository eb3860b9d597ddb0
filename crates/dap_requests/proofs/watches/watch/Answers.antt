use Rattle.std.proofs.Common.{inl, inr, refl}
use Rattle.serde_json.specs.View.{items_view}
use Rattle.dap_requests.specs.Lists.{verified_told}
use Rattle.dap_requests.specs.Sets.{all_verified}
use Rattle.dap_requests.proofs.Listing.{lists_made}
use Rattle.dap_requests.proofs.Setting.{watches_only}
use Rattle.dap_requests.proofs.watches.watch.Goals as goal

pub returns-in-Some : goal.returns-in-Some
returns-in-Some c =
    let p = c.args.program.now in
    let items = items_view c.args.items.now in
    let found = c.in-Some.ensures in
    elim c.keep_watched.ensures [
      | inl set ↦ inl (
        watches_only items p c.keep_watched.new.program (record p { watched = c.in-Some.watched }) found.0 set.0,
        lists_made verified_told (all_verified p.index items) c.watched_all.new.list c.keep_watched.new.answer (found.1 c.new-list.ensures) set.1,
      )
      | inr none ↦ inr none
    ]

pub returns-in-None : goal.returns-in-None
returns-in-None c = inr (refl, refl)
