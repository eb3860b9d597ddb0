-- A move that is no first of two makes no event with another.
use Rattle.std.proofs.Common.{◌≡◌, List, [], ◌∷◌, Bool, true, false, true≢false, cond, Option, None, refl, ap, ◌∙◌}
use Rattle.system.specs.Expression.{Store}
use Rattle.runs.specs.Moves.{Place, Move, sends, syncs, releases}
use Rattle.runs.specs.Events.{Located}
use Rattle.runs.specs.internal.Made.{made_together}
use Rattle.calculus.specs.internal.Meets.{is_first}
use Rattle.runs.specs.internal.AllowedEvents.{meets, those, events_with}
use Rattle.runs.specs.declared.event.Event.{Event}

none_together : (s : Store) (a : Place) (m : Move) (b : Place) (n : Move) → is_first m ≡ false → made_together s a m b n ≡ None
none_together s a (sends c w e held) b n h = absurd (true≢false h)
none_together s a (syncs c held) b n h = absurd (true≢false h)
none_together s a (releases c) b n h = absurd (true≢false h)
none_together s a _ b n h = refl

none_at_all : (b : Bool) (x : Option Event) → x ≡ None → cond b x None ≡ None
none_at_all true x h = h
none_at_all false x h = refl

pub no_first : (s : Store) (l : Located) (ks : List Located) → is_first l.move ≡ false → events_with s l ks ≡ []
no_first s l [] h = refl
no_first s l (k ∷ ks) h =
    let n : Located = meets s l k in
    ap (λ x. those x (events_with s l ks)) (none_at_all _ _ (none_together s l.place l.move n.place n.move h)) ∙ no_first s l ks h
