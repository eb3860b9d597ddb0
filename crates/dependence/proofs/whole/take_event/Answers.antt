use Rattle.std.proofs.Common.{◌≡◌, ◌<◌, ℕ, List, Bool, length, sym, subst}
use Rattle.std.specs.List.{remove}
use Rattle.std.proofs.lemmas.Option.{slice_get_within}
use Rattle.runs.specs.Dependence.{Without}
use Rattle.runs.specs.Live.{Live, WithoutTickets}
use Rattle.dependence.specs.Shown.{tickets_marked}
use Rattle.dependence.proofs.Edges.{without-index}
use Rattle.dependence.proofs.public.Tabling.{tabled-taken}
use Rattle.dependence.proofs.Wholes.{whole-removed, marked-removed}
use Rattle.dependence.proofs.public.ListPlaces.{in-at}
use Rattle.dependence.proofs.public.Standing.{same-index}
use Rattle.runs.specs.declared.event.Event.{Event}
use Rattle.dependence.specs.internal.Tabled.{FewerTables}
use Rattle.dependence.proofs.whole.take_event.Goals as goal

pub remove_mark-requires : goal.remove_mark-requires
remove_mark-requires c = record { size = c.requires.whole.marks; ended = c.requires.ended; live = c.requires.live }

pub returns : goal.returns
returns c =
    let l : Live = c.args.list.now.live in
    let taken = c.take_out-event.ensures.taken in
    let index : ℕ = taken.0 in
    let at = taken.1 in
    let less : index < length l = slice_get_within l index _ at in
    let r = c.requires.whole.rising in
    let here = in-at l index (c.args.ticket, c.take_out-event.result) at in
    let mark = c.remove_mark.ensures.removed in
    let marks : c.remove_mark.new.marks.items ≡ remove c.args.marks.now.items index =
    subst (λ (n : ℕ). c.remove_mark.new.marks.items ≡ remove c.args.marks.now.items n) (same-index 0 r.0 l mark.0 index c.args.ticket mark.1.0 _ r.1 mark.1.1 at) mark.2 in
    let left : WithoutTickets (λ t. t ≡ c.args.ticket) l c.take_out-event.new.list.live =
    subst (λ (k : Live). WithoutTickets (λ t. t ≡ c.args.ticket) l k) (sym taken.2)
    (without-index 0 r.0 l c.args.ticket index c.take_out-event.result r.1 at) in
    record {
      whole = whole-removed l c.take_out-event.new.list.live c.args.list.now.links c.take_out-event.new.list.links c.args.marks.now.items
          c.remove_mark.new.marks.items index c.requires.whole less c.take_out-event.ensures.linked taken.2 marks;
      tabled = tabled-taken r.0 l c.take_out-event.new.list.live c.args.tables.now c.remove.new.self c.args.ticket c.take_out-event.result r.1
          here left c.requires.tabled
          (subst (λ (e : Event). FewerTables c.args.tables.now c.args.ticket e c.remove.new.self) c.get.ensures c.remove.ensures);
      ended = c.remove_mark.ensures.ended;
      event = here;
      live = left;
      marked = subst (λ (k : Live). Without (λ (t : ℕ). t ≡ c.args.ticket) (tickets_marked l c.args.marks.now.items) (tickets_marked k c.remove_mark.new.marks.items))
          (sym taken.2)
          (subst (λ (k : List Bool). Without (λ (t : ℕ). t ≡ c.args.ticket) (tickets_marked l c.args.marks.now.items)
          (tickets_marked (remove l index) k)) (sym marks)
          (marked-removed 0 r.0 l c.args.marks.now.items c.args.ticket index c.take_out-event.result r.1 c.requires.whole.marks at));
    }
