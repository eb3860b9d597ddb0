use Rattle.std.proofs.Common.{◌∙◌, inl, inr, ℕ, Option, true, MatchOption, subst, false, true≢false, sym}
use Rattle.std.proofs.lemmas.Bool.{cases_eq}
use Rattle.runs.specs.Live.{NoDependent, FirstDependent}
use Rattle.dependence.proofs.Distinct.{unreached-none, unreached-past, one-topmost, followed-not, below-last}
use Rattle.dependence.proofs.Wholes.{first-follower}
use Rattle.runs.proofs.public.Options.{some-injective}
use Rattle.dependence.proofs.unreached.stays.Goals as goal

pub returns-in_default-clause-yes : goal.returns-in_default-clause-yes
returns-in_default-clause-yes c = λ is.
    let l = c.args.list.now.live in
    let t = c.args.ticket in
    let none : NoDependent l t =
    subst (λ (o : Option ℕ). MatchOption o (NoDependent l t) (λ u. FirstDependent l t u)) c.in_default.is
    (first-follower l t c.followers_of-followers.result.now c.copied.result c.requires.rising c.followers_of-followers.ensures (c.copied.ensures ∙ c.first.ensures.value)) in
    one-topmost l c.args.tickets.now c.args.last t c.requires.ascending c.requires.last c.requires.live c.requires.one (unreached-none l c.args.last t none)

pub returns-then-first-last-clause-yes : goal.returns-then-first-last-clause-yes
returns-then-first-last-clause-yes c = λ is.
    let l = c.args.list.now.live in
    let t = c.args.ticket in
    let first : FirstDependent l t c.in-Some.first =
    subst (λ (o : Option ℕ). MatchOption o (NoDependent l t) (λ u. FirstDependent l t u)) c.in-Some.is
    (first-follower l t c.followers_of-followers.result.now c.copied.result c.requires.rising c.followers_of-followers.ensures (c.copied.ensures ∙ c.first.ensures.value)) in
    one-topmost l c.args.tickets.now c.args.last t c.requires.ascending c.requires.last c.requires.live c.requires.one
    (unreached-past l c.args.last t c.in-Some.first first c.if-first-last.true)

pub returns-then-have_common-clause-no : goal.returns-then-have_common-clause-no
returns-then-have_common-clause-no c = λ is.
    followed-not c.args.list.now.live c.args.tickets.now c.followers_of-followers.result.now c.args.ticket c.followers_of-followers.ensures
    (c.have_common.ensures c.if-have_common.true)

pub is_alone-requires : goal.is_alone-requires
is_alone-requires c = record {
  rising = c.requires.rising;
  linked = c.requires.linked;
  live = c.requires.live c.args.ticket c.requires.one;
  ascending = c.requires.ascending;
  last = below-last c.args.tickets.now c.args.last c.requires.ascending c.requires.last;
}

pub returns-clause-yes : goal.returns-clause-yes
returns-clause-yes c = λ is. (
  c.requires.one,
  λ u i on. elim (cases_eq u c.args.ticket) [ inl same ↦ same | inr other ↦ absurd (c.is_alone.ensures.yes is (u, i, on, other)) ],
)

pub returns-clause-no : goal.returns-clause-no
returns-clause-no c = λ is top.
    let k = c.is_alone.ensures.no is in
    k.3 (top.1 k.0 k.1 k.2)

pub returns-then-have_common-clause-yes : goal.returns-then-have_common-clause-yes
returns-then-have_common-clause-yes c = λ e. absurd (true≢false (sym (some-injective false true e)))
