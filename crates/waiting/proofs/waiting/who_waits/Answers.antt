use Rattle.std.proofs.Common.{◌≡◌, ◌∙◌, List, Bool, map, sym, ap, subst}
use Rattle.runs.specs.Steps.{State}
use Rattle.runs.specs.Ready.{ReadyList}
use Rattle.runs.specs.declared.event.Event.{Event}
use Rattle.syntax.specs.Lists.{In}
use Rattle.local_actions.specs.Actions.{Offered, OffersExactly}
use Rattle.local_actions.specs.View.{state_of}
use Rattle.local_actions.specs.declared.action.LocalAction.{LocalAction}
use Rattle.rings.specs.FirstRing.{IsFirstRing}
use Rattle.rings.specs.Partners.{partner_in}
use Rattle.rings.specs.Rings.{TellsDeadlocked, TellsRing}
use Rattle.rings.specs.declared.partner.Partner.{Partner}
use Rattle.waiting.specs.Input.{helped_in}
use Rattle.waiting.specs.Waits.{ListsWaiting}
use Rattle.waiting.specs.Progress.{body_is_over, StandsLike}
use Rattle.waiting.specs.declared.progress.Progress.{Progress}
use Rattle.waiting.specs.internal.Among.{left_over, progress_of}
use Rattle.waiting.proofs.Leftover.{lists-waiting, stands-like}
use Rattle.waiting.specs.internal.Held.{is_there, Has}
use Rattle.waiting.proofs.HeldPlaces.{left-alike}
use Rattle.waiting.proofs.RingOfState.{names-deadlocked, names-ring}
use Rattle.waiting.proofs.waiting.who_waits.Goals as goal

pub returns : goal.returns
returns c =
    let S : State = state_of c.state.result.0.now c.state.result.1.now in
    let stands = c.state.ensures in
    let actions : List LocalAction = c.in_ok-actions.actions in
    let events : List Event = c.in_ok-ready.ready in
    let exact : OffersExactly S actions = c.in_ok-actions.ensures.exactly stands.tidy in
    let list : ReadyList S events =
    c.in_ok-ready.ensures S (subst (λ (xs : List LocalAction). OffersExactly S xs) (sym c.as_slice.ensures) exact) in
    let held : Has c.in_ok-places.places events = subst (λ (es : List Event). Has c.in_ok-places.places es) c.as_slice-3.ensures c.in_ok-places.ensures in
    let kept : List LocalAction = c.left_over-actions.result in
    let left : kept ≡ left_over events actions = c.left_over-actions.ensures ∙ left-alike (is_there c.in_ok-places.places) events actions held in
    let over : Bool = body_is_over S.residual in
    let told : c.progress_of-progress.result ≡ progress_of over events =
    c.progress_of-progress.ensures stands.tidy ∙ ap (λ (es : List Event). progress_of over es) c.as_slice-2.ensures in
    let waits : ListsWaiting S kept =
    subst (λ (xs : List LocalAction). ListsWaiting S xs) (sym left)
    (lists-waiting S actions events exact (c.in_ok-actions.ensures.in_order stands.tidy) (c.in_ok-actions.ensures.once stands.tidy) list) in
    let offered : (x : LocalAction) → In x c.as_slice-4.result.now → Offered S x =
    λ x i. ((waits.exactly x).0 (subst (λ (xs : List LocalAction). In x xs) c.as_slice-4.ensures i)).offered in
    let partners : c.in_ok-partners.partners.items ≡ map (partner_in S.residual) kept =
    c.in_ok-partners.ensures.partners c.state.result.1.now offered ∙ ap (λ (xs : List LocalAction). map (partner_in S.residual) xs) c.as_slice-4.ensures in
    let given : c.as_slice-6.result.now ≡ map (partner_in S.residual) c.as_slice-5.result.now =
    c.as_slice-6.ensures.value ∙ partners ∙ ap (λ (xs : List LocalAction). map (partner_in S.residual) xs) (sym c.as_slice-5.ensures) in
    let marks : List Bool = c.in_ok-deadlocked.deadlocked.items in
    let dead : TellsDeadlocked (helped_in c.args.machine.now S) S.residual kept marks =
    subst (λ (xs : List LocalAction). TellsDeadlocked (helped_in c.args.machine.now S) S.residual xs marks) c.as_slice-5.ensures (c.in_ok-deadlocked.ensures S.residual given) in
    let given-again : c.as_slice-8.result.now ≡ map (partner_in S.residual) c.as_slice-7.result.now =
    c.as_slice-8.ensures.value ∙ partners ∙ ap (λ (xs : List LocalAction). map (partner_in S.residual) xs) (sym c.as_slice-7.ensures) in
    let dead-again : TellsDeadlocked (helped_in c.args.machine.now S) S.residual c.as_slice-7.result.now c.as_slice-9.result.now =
    subst (λ (xs : List LocalAction). TellsDeadlocked (helped_in c.args.machine.now S) S.residual xs c.as_slice-9.result.now) (sym c.as_slice-7.ensures)
    (subst (λ (bs : List Bool). TellsDeadlocked (helped_in c.args.machine.now S) S.residual kept bs) (sym c.as_slice-9.ensures.value) dead) in (
      S,
      stands.reaches,
      record {
        progress = subst (λ (p : Progress). StandsLike S p) (sym told) (stands-like S events list);
        ready = list;
        actions = waits;
        partners = partners;
        deadlocked = names-deadlocked c.args.machine.now S kept marks waits dead;
        ring = names-ring c.args.machine.now S kept c.in_ok-ring.ring.items waits
            (subst (λ (xs : List LocalAction). TellsRing (helped_in c.args.machine.now S) S.residual xs c.in_ok-ring.ring.items) c.as_slice-7.ensures
            (c.in_ok-ring.ensures.ring S.residual (helped_in c.args.machine.now S) given-again dead-again));
        first =
            subst (λ (xs : List LocalAction). IsFirstRing xs c.in_ok-partners.partners.items marks c.in_ok-ring.ring.items) c.as_slice-7.ensures
            (subst (λ (ps : List Partner). IsFirstRing c.as_slice-7.result.now ps marks c.in_ok-ring.ring.items) c.as_slice-8.ensures.value
            (subst (λ (bs : List Bool). IsFirstRing c.as_slice-7.result.now c.as_slice-8.result.now bs c.in_ok-ring.ring.items) c.as_slice-9.ensures.value
            c.in_ok-ring.ensures.first));
      },
    )
