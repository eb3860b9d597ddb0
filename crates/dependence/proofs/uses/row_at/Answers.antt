use Rattle.std.proofs.Common.{◌∙◌, ℕ, [], Vec, length, refl, sym, ap}
use Rattle.std.specs.Global.{Global}
use Rattle.std.specs.Option.{option_map}
use Rattle.std.proofs.lemmas.Option.{get_or_from_slice_get, slice_get-map, slice_get_read}
use Rattle.dependence.specs.internal.Tickets.{rows_of}
use Rattle.dependence.proofs.uses.row_at.Goals as goal

pub returns-in-Some : goal.returns-in-Some
returns-in-Some c =
    let seen = c.in-Some.ensures.lookup in
    let row : Vec ℕ Global = c.in-Some.row.now in
    let here = slice_get_read c.args.rows.now (length c.args.rows.now) c.args.number row refl seen.3.0 seen.1 in
    c.as_slice.ensures.value
    ∙ sym (get_or_from_slice_get (rows_of c.args.rows.now) c.args.number row.items []
    (slice_get-map (λ (r : Vec ℕ Global). r.items) c.args.rows.now c.args.number ∙ ap (option_map (λ (r : Vec ℕ Global). r.items)) here))
