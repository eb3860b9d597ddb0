use Rattle.std.proofs.Common.{◌≡◌, ◌↔◌, ◌≤◌, ℕ, List, length, IfSome, sym, ap, subst, ◌∙◌, arith}
use Rattle.std.specs.List.Sorted.{IsNonDecreasing}
use Rattle.std.proofs.lemmas.Result.{IfOk-weaker}
use Rattle.syntax.specs.Lists.{In}
use Rattle.dependence.specs.internal.Tables.{Falling, Topmost}
use Rattle.dependence.proofs.Candidacy.{candidates-found}
use Rattle.dependence.proofs.Edges.{candidates-live, candidates-alike}
use Rattle.dependence.proofs.Sweeps.{few-falling, few-topmost}
use Rattle.dependence.proofs.entries.leads_of.Goals as goal

pub returns-then-len-le1 : goal.returns-then-len-le1
returns-then-len-le1 c =
    let cs : List ℕ = c.add_by_variables.new.found.items in
    let l = c.args.new.now.list.now.live in
    let few : length cs ≤ 1 = omega (arith, c.add_by_variables.new.found.ok) in
    let found = candidates-found l c.args.new.now.ticket c.args.new.now.event.now c.requires.found.0 c.requires.new.rising c.requires.found.1 c.requires.behind
    c.args.found.now.items cs c.requires.found.2 c.in_ok-add_by_variables.ensures in
    record {
      falling = IfOk-weaker c.from_slice.result _ _ (λ leads is. subst (λ (k : List ℕ). Falling k) (sym (is ∙ c.as_slice.ensures.value)) (few-falling cs few)) c.from_slice.ensures.ok;
      topmost = IfOk-weaker c.from_slice.result _ _ (λ leads is. (
        cs,
        found,
        subst (λ (k : List ℕ). (t : ℕ) → In t k ↔ Topmost l cs t) (sym (is ∙ c.as_slice.ensures.value)) (few-topmost l cs few),
      )) c.from_slice.ensures.ok;
    }

pub told_topmost-requires : goal.told_topmost-requires
told_topmost-requires c =
    let new = c.args.new.now in
    let sorted : List ℕ = c.sort.new.tickets.items in
    let same : length c.as_slice-tickets.result.now ≡ length sorted = ap length c.as_slice-tickets.ensures.value in
    let size : length sorted ≡ length c.add_by_variables.new.found.items = c.sort.ensures.length in
    record {
      rising = (new.ticket, c.requires.new.rising);
      linked = c.requires.linked;
      live = candidates-live new.list.now.live new.event.now c.as_slice-tickets.result.now sorted c.as_slice-tickets.ensures.value
          (candidates-alike new.list.now.live new.event.now c.add_by_variables.new.found.items sorted c.sort.ensures.same (candidates-found c.args.new.now.list.now.live c.args.new.now.ticket c.args.new.now.event.now c.requires.found.0 c.requires.new.rising c.requires.found.1 c.requires.behind
          c.args.found.now.items c.add_by_variables.new.found.items c.requires.found.2 c.in_ok-add_by_variables.ensures));
      some = omega (arith, c.add_by_variables.new.found.ok);
      ascending = subst (λ (k : List ℕ). IsNonDecreasing k) (sym c.as_slice-tickets.ensures.value) c.sort.ensures.ascending;
    }

pub returns-in-Some : goal.returns-in-Some
returns-in-Some c =
    let new = c.args.new.now in
    let sorted : List ℕ = c.sort.new.tickets.items in
    let falling = subst (λ o. IfSome o (λ kept. Falling kept.items)) c.in-Some.is c.in_ok-told.ensures.falling in
    let tops = subst (λ o. IfSome o (λ kept. (t : ℕ) → In t kept.items ↔ Topmost new.list.now.live c.as_slice-tickets.result.now t)) c.in-Some.is c.in_ok-told.ensures.topmost in
    record {
      falling = falling;
      topmost = (
        sorted,
        candidates-alike new.list.now.live new.event.now c.add_by_variables.new.found.items sorted c.sort.ensures.same (candidates-found c.args.new.now.list.now.live c.args.new.now.ticket c.args.new.now.event.now c.requires.found.0 c.requires.new.rising c.requires.found.1 c.requires.behind
            c.args.found.now.items c.add_by_variables.new.found.items c.requires.found.2 c.in_ok-add_by_variables.ensures),
        λ t. subst (λ (k : List ℕ). In t c.in-Some.leads.items ↔ Topmost new.list.now.live k t) c.as_slice-tickets.ensures.value (tops t),
      );
    }

pub span-low-requires : goal.span-low-requires
span-low-requires c =
    let new = c.args.new.now in
    let sorted : List ℕ = c.sort.new.tickets.items in
    let same : length c.as_slice-tickets.result.now ≡ length sorted = ap length c.as_slice-tickets.ensures.value in
    let size : length sorted ≡ length c.add_by_variables.new.found.items = c.sort.ensures.length in
    record {
      rising = (new.ticket, c.requires.new.rising);
      live = candidates-live new.list.now.live new.event.now c.as_slice-tickets.result.now sorted c.as_slice-tickets.ensures.value
          (candidates-alike new.list.now.live new.event.now c.add_by_variables.new.found.items sorted c.sort.ensures.same (candidates-found c.args.new.now.list.now.live c.args.new.now.ticket c.args.new.now.event.now c.requires.found.0 c.requires.new.rising c.requires.found.1 c.requires.behind
          c.args.found.now.items c.add_by_variables.new.found.items c.requires.found.2 c.in_ok-add_by_variables.ensures));
      some = omega (arith, c.add_by_variables.new.found.ok);
      ascending = subst (λ (k : List ℕ). IsNonDecreasing k) (sym c.as_slice-tickets.ensures.value) c.sort.ensures.ascending;
    }

pub topmost-requires : goal.topmost-requires
topmost-requires c =
    let new = c.args.new.now in
    let sorted : List ℕ = c.sort.new.tickets.items in
    let same : length c.as_slice-tickets.result.now ≡ length sorted = ap length c.as_slice-tickets.ensures.value in
    let size : length sorted ≡ length c.add_by_variables.new.found.items = c.sort.ensures.length in
    record {
      rising = (new.ticket, c.requires.new.rising);
      linked = c.requires.linked;
      order = c.span-low.ensures.order;
      size = c.span-low.ensures.size;
      stand = c.span-low.ensures.stand;
      some = omega (arith, c.add_by_variables.new.found.ok);
      last = c.span-low.ensures.last;
      ascending = subst (λ (k : List ℕ). IsNonDecreasing k) (sym c.as_slice-tickets.ensures.value) c.sort.ensures.ascending;
    }

pub returns : goal.returns
returns c =
    let new = c.args.new.now in
    let sorted : List ℕ = c.sort.new.tickets.items in
    record {
      falling = c.topmost.ensures.falling;
      topmost = IfOk-weaker c.topmost.result _ _ (λ kept tops. (
        sorted,
        candidates-alike new.list.now.live new.event.now c.add_by_variables.new.found.items sorted c.sort.ensures.same (candidates-found c.args.new.now.list.now.live c.args.new.now.ticket c.args.new.now.event.now c.requires.found.0 c.requires.new.rising c.requires.found.1 c.requires.behind
            c.args.found.now.items c.add_by_variables.new.found.items c.requires.found.2 c.in_ok-add_by_variables.ensures),
        λ t. subst (λ (k : List ℕ). In t kept.items ↔ Topmost new.list.now.live k t) c.as_slice-tickets.ensures.value (tops t),
      )) c.topmost.ensures.topmost;
    }
