use Rattle.std.proofs.Common.{◌++◌, ◌∷◌, [], ℕ, List, Option, IsSome, option_to_list, length, inl, refl, sym, ap, subst, true≢false, ◌<◌, ◌∙◌, arith}
use Rattle.std.proofs.lemmas.Option.{slice_get_within}
use Rattle.syntax.specs.Lists.{In}
use Rattle.runs.proofs.public.Lists.{in-right}
use Rattle.runs.proofs.public.ReadTests.{is-in, in-is}
use Rattle.dependence.proofs.Along.{pends-first, pends-next}
use Rattle.dependence.proofs.public.ListPlaces.{index-in}
use Rattle.dependence.proofs.leading.is_alone.Goals as goal

pub loop-looks-init : goal.loop-looks-init
loop-looks-init c = record {
  pends = pends-first c.args.list.now.live c.args.tickets.now c.args.ticket c.args.last c.new-pending.result.items c.add_followers.new.pending.items c.requires.rising c.requires.last
      c.new-pending.ensures.items (c.add_followers.ensures c.if-not-add_followers.false);
}

pub returns-in_default-clause-yes : goal.returns-in_default-clause-yes
returns-in_default-clause-yes c = λ is on.
    let k = c.loop-looks.invariant.pends.complete on.0 on.1 on.2 on.3 in
    let at = index-in c.loop-looks.pending.items k.0 k.1 in
    let within : at.0 < length c.loop-looks.pending.items = slice_get_within c.loop-looks.pending.items at.0 k.0 at.1 in
    true≢false (sym (subst (λ (o : Option ℕ). IsSome o) c.in_default.is (c.pop.ensures.variant.1 (omega arith))))

pub returns-then-is_among-clause-no : goal.returns-then-is_among-clause-no
returns-then-is_among-clause-no c = λ is.
    let here : ℕ = c.in-Some.here in
    let before = c.pop.ensures.items ∙ ap (λ (o : Option ℕ). c.pop.new.self.items ++ option_to_list o) c.in-Some.is in
    let of_here = c.loop-looks.invariant.pends.sound here (subst (λ (ks : List ℕ). In here ks) (sym before) (in-right here c.pop.new.self.items (here ∷ []) (inl refl))) in
    (here, is-in here c.args.tickets.now (sym c.is_among.ensures ∙ c.if-is_among.true), of_here.2, λ same. let less : c.args.ticket < here = of_here.0 in omega arith)

pub add_followers-requires-clause-live : goal.add_followers-requires-clause-live
add_followers-requires-clause-live c = c.requires.live

pub add_followers-requires-in-loop-looks-clause-live : goal.add_followers-requires-in-loop-looks-clause-live
add_followers-requires-in-loop-looks-clause-live c =
    let here : ℕ = c.in-Some.here in
    let before = c.pop.ensures.items ∙ ap (λ (o : Option ℕ). c.pop.new.self.items ++ option_to_list o) c.in-Some.is in
    (c.loop-looks.invariant.pends.sound here (subst (λ (ks : List ℕ). In here ks) (sym before) (in-right here c.pop.new.self.items (here ∷ []) (inl refl)))).1

pub loop-looks-preserved : goal.loop-looks-preserved
loop-looks-preserved c =
    let here : ℕ = c.in-Some.here in
    let before = c.pop.ensures.items ∙ ap (λ (o : Option ℕ). c.pop.new.self.items ++ option_to_list o) c.in-Some.is in
    record {
      pends = pends-next c.args.list.now.live c.args.tickets.now c.args.ticket c.args.last here c.loop-looks.pending.items c.pop.new.self.items c.add_followers-in-loop-looks.new.pending.items
          c.requires.rising c.requires.last before
          (λ i. true≢false (sym (in-is here c.args.tickets.now i) ∙ sym c.is_among.ensures ∙ c.if-is_among.false))
          (c.add_followers-in-loop-looks.ensures c.if-not-add_followers-2.false) c.loop-looks.invariant.pends;
    }

pub is_among-requires : goal.is_among-requires
is_among-requires c = c.requires.ascending
