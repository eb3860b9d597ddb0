use Rattle.std.proofs.Common.{ℕ, ◌≡◌, ◌∙◌, ◌<◌, ◌≤◌, ◌-◌, ◌↔◌, List, [], ◌∷◌, ◌++◌, Bool, suc, cond, get_or, length, drop, sym, ap, subst, Some, arith}
use Rattle.syntax.specs.Lists.{In}
use Rattle.dependence.specs.internal.Tables.{Falling, Topmost}
use Rattle.dependence.proofs.Distinct.{told-next}
use Rattle.dependence.proofs.public.ListPlaces.{in-read, drop-all}
use Rattle.dependence.proofs.unreached.told_topmost.Goals as goal

pub loop-index-init : goal.loop-index-init
loop-index-init c =
    let ts : List ℕ = c.args.tickets.now in
    record {
      range = omega arith;
      falling = subst (λ (k : List ℕ). Falling k) (sym c.in_ok-kept.ensures) tt;
      told = λ t. subst (λ (k : List ℕ). In t k ↔ (In t (drop (length ts) ts) × Topmost c.args.list.now.live ts t)) (sym c.in_ok-kept.ensures)
          (subst (λ (k : List ℕ). In t [] ↔ (In t k × Topmost c.args.list.now.live ts t)) (sym (drop-all ts (length ts) (omega arith))) ((λ i. absurd i), (λ k. k.0)));
    }

pub stays-requires-clause-one : goal.stays-requires-clause-one
stays-requires-clause-one c =
    let range : c.loop-index.index ≤ length c.args.tickets.now = c.loop-index.invariant.range in
    in-read c.args.tickets.now (c.loop-index.index - 1) (omega (arith, c.loop-index-test.true))

pub loop-index-preserved : goal.loop-index-preserved
loop-index-preserved c =
    let ts : List ℕ = c.args.tickets.now in
    let p : ℕ = c.loop-index.index - 1 in
    let test = c.loop-index-test.true in
    let range : c.loop-index.index ≤ length ts = c.loop-index.invariant.range in
    let less : p < length ts = omega arith in
    let back : c.loop-index.index ≡ suc p = omega arith in
    let next =
    told-next (Topmost c.args.list.now.live ts) ts c.loop-index.kept.items p c.in-Some.is_top c.is_below_rest-is_new.result less
    (λ yes. c.stays.ensures.yes (c.in-Some.is ∙ ap Some yes)) (λ no. c.stays.ensures.no (c.in-Some.is ∙ ap Some no))
    c.is_below_rest-is_new.ensures.below c.is_below_rest-is_new.ensures.among c.loop-index.invariant.falling
    (subst (λ (k : ℕ). (t : ℕ) → In t c.loop-index.kept.items ↔ (In t (drop k ts) × Topmost c.args.list.now.live ts t)) back c.loop-index.invariant.told) in
    let is = c.in_ok-keep_if.ensures ∙ ap (λ (b : Bool). cond b (c.loop-index.kept.items ++ get_or ts p 0 ∷ []) c.loop-index.kept.items) c.both.ensures in
    record {
      range = omega arith;
      falling = subst (λ (k : List ℕ). Falling k) (sym is) next.0;
      told = λ t. subst (λ (k : List ℕ). In t k ↔ (In t (drop p ts) × Topmost c.args.list.now.live ts t)) (sym is) (next.1 t);
    }

pub returns : goal.returns
returns c =
    let first : c.loop-index.index ≡ 0 = omega (arith, c.loop-index-test.false) in
    let told = subst (λ (k : ℕ). (t : ℕ) → In t c.loop-index.kept.items ↔ (In t (drop k c.args.tickets.now) × Topmost c.args.list.now.live c.args.tickets.now t)) first
    c.loop-index.invariant.told in
    record {
      falling = c.loop-index.invariant.falling;
      topmost = λ t. ((λ i. ((told t).0 i).1), (λ top. (told t).1 (top.0, top)));
    }

pub is_below_rest-is_new-requires-clause-ascending : goal.is_below_rest-is_new-requires-clause-ascending
is_below_rest-is_new-requires-clause-ascending c = c.requires.ascending

pub stays-requires-clause-ascending : goal.stays-requires-clause-ascending
stays-requires-clause-ascending c = c.requires.ascending
