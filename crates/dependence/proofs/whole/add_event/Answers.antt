use Rattle.std.proofs.Common.{◌≡◌, ◌∙◌, ◌++◌, ◌∷◌, [], List, Bool, false, sym, ap, subst, arith, refl, ℕ}
use Rattle.runs.specs.Live.{Live, Rising}
use Rattle.runs.specs.declared.event.Event.{Event}
use Rattle.dependence.specs.Behind.{ComesBehind}
use Rattle.dependence.specs.Shown.{tickets_marked}
use Rattle.dependence.specs.internal.Tabled.{MoreTables, FewerTables}
use Rattle.syntax.specs.Lists.{In}
use Rattle.dependence.specs.internal.Tables.{PartLinked, LinkedBehind}
use Rattle.dependence.specs.internal.Whole.{IsEntered}
use Rattle.dependence.specs.internal.Marking.{EndsAt}
use Rattle.dependence.proofs.MarkEnds.{ends-longer}
use Rattle.dependence.proofs.public.Tabling.{fresh-behind, same-again, tabled-added, tabled-same}
use Rattle.dependence.proofs.Wholes.{rising-below, marked-added, whole-added, whole-same}
use Rattle.dependence.proofs.whole.add_event.Goals as goal

pub enter-requires : goal.enter-requires
enter-requires c =
    let r = c.requires.whole.rising in
    record {
      rising = rising-below 0 r.0 c.args.list.now.live c.args.ticket r.1 (omega arith) c.requires.above;
      linked = c.requires.whole.linked;
      tabled = c.requires.tabled;
      behind = subst (λ (e : Event). ComesBehind c.args.list.now.live e) (sym c.get.ensures) c.requires.behind;
    }

pub push_event-requires : goal.push_event-requires
push_event-requires c =
    let r = c.requires.whole.rising in
    let same : c.enter.new.list.live ≡ c.args.list.now.live = c.in-Ok.ensures.live in
    let room = c.in-Ok.ensures.room in
    record {
      rising = subst (λ (k : Live). Rising 0 k c.args.ticket) (sym same) (rising-below 0 r.0 c.args.list.now.live c.args.ticket r.1 (omega arith) c.requires.above);
      linked = subst (λ (k : Live). PartLinked k c.args.ticket (λ (t : ℕ). In t c.in-Ok.leads.items) c.enter.new.list.links) (sym same) c.in-Ok.ensures.entered.linked;
      room = room.0;
      marks = room.1;
    }

pub returns-in-Ok : goal.returns-in-Ok
returns-in-Ok c =
    let r = c.requires.whole.rising in
    let l : Live = c.args.list.now.live in
    let rising : Rising 0 l c.args.ticket = rising-below 0 r.0 l c.args.ticket r.1 (omega arith) c.requires.above in
    let same : c.enter.new.list.live ≡ l = c.in-Ok.ensures.live in
    let pairs : c.push_event.new.list.live ≡ l ++ (c.args.ticket, c.args.event) ∷ [] =
    c.push_event.ensures.live ∙ ap (λ (k : Live). k ++ (c.args.ticket, c.args.event) ∷ []) same in
    let marks : c.push_event.new.marks.items ≡ c.args.marks.now.items ++ false ∷ [] =
    c.push_event.ensures.marks ∙ ap (λ (k : List Bool). k ++ false ∷ []) c.in-Ok.ensures.marks in
    let more : MoreTables c.args.tables.now c.args.ticket c.args.event c.enter.new.tables =
    subst (λ (e : Event). MoreTables c.args.tables.now c.args.ticket e c.enter.new.tables) c.get.ensures c.in-Ok.ensures.more in
    let in_it : IsEntered l c.args.ticket c.args.event c.in-Ok.leads.items c.enter.new.list.links c.enter.new.tables =
    subst (λ (e : Event). IsEntered l c.args.ticket e c.in-Ok.leads.items c.enter.new.list.links c.enter.new.tables) c.get.ensures c.in-Ok.ensures.entered in
    let behind : LinkedBehind l c.args.ticket c.in-Ok.leads.items c.push_event.new.list.links =
    subst (λ (k : Live). LinkedBehind k c.args.ticket c.in-Ok.leads.items c.push_event.new.list.links) same c.push_event.ensures.links in
    record {
      whole = whole-added l c.args.list.now.links c.push_event.new.list.links c.args.marks.now.items c.push_event.new.marks.items c.push_event.new.list.live
          c.args.ticket c.args.event c.in-Ok.leads.items c.requires.whole rising in_it.topmost in_it.falling behind pairs marks;
      tabled = tabled-added l c.push_event.new.list.live c.args.tables.now c.enter.new.tables c.args.ticket c.args.event c.requires.tabled rising
          c.requires.behind more in_it.has pairs;
      ended = λ end was. subst (λ (k : List Bool). EndsAt k end) (sym marks) (ends-longer c.args.marks.now.items end was);
      added = (
        pairs,
        ap (λ (k : Live). tickets_marked k c.push_event.new.marks.items) pairs
            ∙ ap (λ (k : List Bool). tickets_marked (l ++ (c.args.ticket, c.args.event) ∷ []) k) marks
            ∙ marked-added l c.args.marks.now.items (c.args.ticket, c.args.event) c.requires.whole.marks,
      );
      refused = tt;
    }

pub returns-in-Err : goal.returns-in-Err
returns-in-Err c =
    let r = c.requires.whole.rising in
    let l : Live = c.args.list.now.live in
    let fresh = fresh-behind l c.args.ticket c.args.event c.args.tables.now c.requires.tabled.tables
    (rising-below 0 r.0 l c.args.ticket r.1 (omega arith) c.requires.above) c.requires.behind in
    let more : MoreTables c.args.tables.now c.args.ticket c.args.event c.enter.new.tables =
    subst (λ (e : Event). MoreTables c.args.tables.now c.args.ticket e c.enter.new.tables) c.get.ensures c.in-Err.ensures.more in
    let fewer : FewerTables c.enter.new.tables c.args.ticket c.args.event c.remove.new.self =
    subst (λ (e : Event). FewerTables c.enter.new.tables c.args.ticket e c.remove.new.self) c.get-in-Err.ensures c.remove.ensures in
    record {
      whole = whole-same l c.enter.new.list.live c.args.list.now.links c.enter.new.list.links c.args.marks.now.items c.enter.new.marks.items c.requires.whole
          c.in-Err.ensures.refused c.in-Err.ensures.live c.in-Err.ensures.marks;
      tabled = tabled-same l c.enter.new.list.live c.args.tables.now c.remove.new.self c.requires.tabled
          (same-again c.args.tables.now c.enter.new.tables c.remove.new.self c.args.ticket c.args.event fresh more fewer) c.in-Err.ensures.live;
      ended = λ end was. subst (λ (k : List Bool). EndsAt k end) (sym c.in-Err.ensures.marks) was;
      added = tt;
      refused = (refl, c.in-Err.ensures.live, c.in-Err.ensures.marks);
    }
