use Rattle.std.proofs.Common.{◌≡◌, ◌∙◌, ℕ, List, [], sym, subst, refl, ◌<◌}
use Rattle.syntax.specs.Lists.{In}
use Rattle.runs.specs.Events.{places}
use Rattle.runs.specs.Live.{Live, Rising, IsLive}
use Rattle.dependence.specs.LastEvents.{IsAt}
use Rattle.dependence.specs.declared.places.PlaceTable.{PlaceTable}
use Rattle.dependence.specs.Behind.{ComesBehind}
use Rattle.dependence.specs.declared.links.Links.{Links}
use Rattle.dependence.specs.internal.Found.{FoundByPlace, PlacesFound}
use Rattle.dependence.specs.internal.Tabled.{UsesOf, MorePlaces}
use Rattle.dependence.specs.internal.Tables.{Falling, Linked, PartLinked}
use Rattle.dependence.proofs.public.Linking.{linked-part, part-linked}
use Rattle.dependence.proofs.Edges.{kept-live}
use Rattle.dependence.proofs.public.Tabling.{fresh-behind, orderly-behind, uses-kept, ok-weaker, err-weaker, on-ok-of, on-err-of}
use Rattle.dependence.proofs.Wholes.{tops-at}
use Rattle.dependence.proofs.whole.enter.Goals as goal

pub put_places-requires : goal.put_places-requires
put_places-requires c =
    let fresh = fresh-behind c.args.list.now.live c.args.ticket c.args.event.now c.args.tables.now c.requires.tabled.tables c.requires.rising c.requires.behind in
    record {
      free = fresh.places;
      own = c.requires.behind.own;
      orderly = λ b ib.
          orderly-behind c.args.ticket c.args.list.now.live c.args.tables.now c.args.event.now b c.requires.rising c.requires.tabled c.requires.behind ib;
    }

pub leads_of-requires : goal.leads_of-requires
leads_of-requires c =
    let same : c.args.list.now.live ≡ c.args.list.now.live = refl in
    record {
      new = record {
        rising = subst (λ (k : Live). Rising 0 k c.args.ticket) same c.requires.rising;
        tables = subst (λ (k : Live). UsesOf k (record c.args.tables.now { places = c.put_places.new.table })) same (record { writers = c.requires.tabled.tables.writers; readers = c.requires.tabled.tables.readers });
      };
      found = subst (λ (k : Live). PlacesFound k c.args.event.now c.put_places.new.found.items) same (
        c.args.tables.now,
        c.requires.tabled,
        subst (λ (ts : List ℕ). FoundByPlace c.args.tables.now.places (places c.args.event.now) ts c.put_places.new.found.items) c.clear.ensures.items
            c.in_ok-put_places.ensures.found,
      );
      behind = subst (λ (k : Live). ComesBehind k c.args.event.now) same c.requires.behind;
      linked = subst (λ (k : Live). Linked k c.args.list.now.links) same
          (subst (λ (k : List Links). Linked c.args.list.now.live k) refl c.requires.linked);
    }

pub link_all-requires : goal.link_all-requires
link_all-requires c =
    let l : Live = c.args.list.now.live in
    let same : c.make_room.new.list.live ≡ l = c.make_room.ensures.live in
    let tops = c.in_ok-leads.ensures.topmost in
    let leads = c.as_slice.ensures in
    record {
      rising = subst (λ (k : Live). Rising 0 k c.args.ticket) (sym same) c.requires.rising;
      live = λ t i. subst (λ (k : Live). IsLive k t) (sym same)
          (kept-live l c.args.event.now tops.0 c.in_ok-leads.leads.items tops.1 tops.2 t (subst (λ (k : List ℕ). In t k) leads i));
      falling = subst (λ (k : List ℕ). Falling k) (sym leads) c.in_ok-leads.ensures.falling;
      linked = subst (λ (k : Live). PartLinked k c.args.ticket (λ (t : ℕ). In t []) c.make_room.new.list.links) (sym same)
          (subst (λ (k : List Links). PartLinked l c.args.ticket (λ (t : ℕ). In t []) k) (sym c.make_room.ensures.links)
          (linked-part l c.args.ticket c.args.list.now.links c.requires.linked));
    }

pub returns-in_err-put_places-clause-more : goal.returns-in_err-put_places-clause-more
returns-in_err-put_places-clause-more c = record {
  places = c.put_places.ensures.more;
  writers = uses-kept c.args.tables.now.writers c.args.ticket _;
  readers = uses-kept c.args.tables.now.readers c.args.ticket _;
}

pub returns-in_err-leads-clause-more : goal.returns-in_err-leads-clause-more
returns-in_err-leads-clause-more c = record {
  places = c.put_places.ensures.more;
  writers = uses-kept c.args.tables.now.writers c.args.ticket _;
  readers = uses-kept c.args.tables.now.readers c.args.ticket _;
}

pub returns-in_err-make_room-clause-more : goal.returns-in_err-make_room-clause-more
returns-in_err-make_room-clause-more c = record {
  places = c.put_places.ensures.more;
  writers = uses-kept c.args.tables.now.writers c.args.ticket _;
  readers = uses-kept c.args.tables.now.readers c.args.ticket _;
}

pub returns-in_err-put_uses-clause-more : goal.returns-in_err-put_uses-clause-more
returns-in_err-put_uses-clause-more c = record {
  places = subst (λ (p : PlaceTable). MorePlaces c.args.tables.now.places c.args.ticket (places c.args.event.now) p) (sym c.put_uses.ensures.places) c.put_places.ensures.more;
  writers = c.put_uses.ensures.writers;
  readers = c.put_uses.ensures.readers;
}

pub returns-clause-more : goal.returns-clause-more
returns-clause-more c = record {
  places = subst (λ (p : PlaceTable). MorePlaces c.args.tables.now.places c.args.ticket (places c.args.event.now) p) (sym c.put_uses.ensures.places) c.put_places.ensures.more;
  writers = c.put_uses.ensures.writers;
  readers = c.put_uses.ensures.readers;
}

pub returns-in_err-link_all-clause-more : goal.returns-in_err-link_all-clause-more
returns-in_err-link_all-clause-more c = record {
  places = subst (λ (p : PlaceTable). MorePlaces c.args.tables.now.places c.args.ticket (places c.args.event.now) p) (sym c.put_uses.ensures.places) c.put_places.ensures.more;
  writers = c.put_uses.ensures.writers;
  readers = c.put_uses.ensures.readers;
}

pub returns-in_err-link_all-clause-live : goal.returns-in_err-link_all-clause-live
returns-in_err-link_all-clause-live c = c.link_all.ensures.same.live ∙ c.make_room.ensures.live

pub returns-in_err-link_all-clause-refused : goal.returns-in_err-link_all-clause-refused
returns-in_err-link_all-clause-refused c =
    on-err-of c.from_residual-in_err-link_all.result _ (subst (λ (k : Live). Linked k c.link_all.new.list.links) c.make_room.ensures.live
    (part-linked c.make_room.new.list.live c.args.ticket c.link_all.new.list.links c.in_err-link_all.ensures.linked))

pub returns-clause-live : goal.returns-clause-live
returns-clause-live c = c.link_all.ensures.same.live ∙ c.make_room.ensures.live

pub returns-clause-entered : goal.returns-clause-entered
returns-clause-entered c =
    let l : Live = c.args.list.now.live in
    record {
      falling = c.in_ok-leads.ensures.falling;
      topmost = c.in_ok-leads.ensures.topmost;
      linked = subst (λ (k : Live). PartLinked k c.args.ticket (λ (t : ℕ). In t c.in_ok-leads.leads.items) c.link_all.new.list.links) c.make_room.ensures.live
          (subst (λ (ts : List ℕ). PartLinked c.make_room.new.list.live c.args.ticket (λ (t : ℕ). In t ts) c.link_all.new.list.links) c.as_slice.ensures
          c.in_ok-link_all.ensures.linked);
      has = record {
        places = λ a i. subst (λ (p : PlaceTable). IsAt p a c.args.ticket) (sym c.put_uses.ensures.places) (c.in_ok-put_places.ensures.all a i);
        writers = c.in_ok-put_uses.ensures.written;
        readers = c.in_ok-put_uses.ensures.read;
      };
    }

pub returns-clause-room : goal.returns-clause-room
returns-clause-room c =
    let room = c.in_ok-make_room.ensures.room in
    (subst (λ (n : ℕ). 0 < n) (sym c.link_all.ensures.same.room) room.0, room.1)
