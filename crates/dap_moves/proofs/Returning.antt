-- Runs back, one step after another, and how they end.
use Rattle.std.proofs.Common.{◌≡◌, ℕ, ◌<◌, List, [], ◌∷◌, Option, None, Some, inl, inr, refl, sym, ap, subst}
use Rattle.runs.specs.Live.{Rising}
use Rattle.runs.specs.declared.event.Choice.{Choice}
use Rattle.runs.specs.declared.event.Event.{Event}
use Rattle.dependence.proofs.public.ListPlaces.{in-at}
use Rattle.machine.specs.AtMachine.{AtMachine}
use Rattle.locked_execution.specs.AtDesk.{AtDesk}
use Rattle.locked_execution.specs.Performs.{Answers}
use Rattle.locked_execution.specs.declared.command.Command.{Command}
use Rattle.locked_execution.specs.declared.command.Reply.{Reply}
use Rattle.dap_moves.specs.Moves.{quiet}
use Rattle.dap_moves.specs.TakingBack.{EndsRightly, EndsWith, GoesBack, GoesPast, IsLast, KeepsBack, NoneLeft, Returned, Returns, TakesBack, seen_on}
use Rattle.dap_views.specs.declared.watched.Watched.{Watched}
use Rattle.dap_moves.specs.declared.taken_back.Rewound.{Rewound}
use Rattle.dap_moves.specs.internal.Rolling.{GoesOn, GoesOut, IsNewestAt, RollsOne, StopsBehind, TakesOneBack, gone}
use Rattle.dap_moves.specs.declared.taken_back.Rolled.{Rolled}
use Rattle.dap_moves.proofs.Backward.{undone_as}
use Rattle.dap_moves.proofs.GoingOut.{none_from, out_at}

-- a run back that has nothing to take back
pub ends_at_once : (only : Option ℕ) (lines : List ℕ) (watched : List Watched) (d : AtDesk) (kept : List Choice) → NoneLeft d only → kept ≡ [] →
    GoesBack only lines watched d d Rewound.AtBeginning kept
ends_at_once only lines watched d kept none empty = record { taken = []; back = refl; rightly = (tt, none); keeps = empty }

-- a step behind which it ends, or goes on
pub turn_back : (only : Option ℕ) (lines : List ℕ) (watched : List Watched) (t : Returned) (why : Option Rewound) (kept : List Choice) →
    TakesBack only t → StopsBehind (seen_on only t) lines watched t.ticket t.event why kept → TakesOneBack only lines watched t.from t.left why kept
turn_back only lines watched t None kept back stops =
    ((t, refl, refl, back, record { unwatched = stops.0; passes = stops.1 }), stops.2)
turn_back only lines watched t (Some Rewound.AtBeginning) kept back stops = absurd stops
turn_back only lines watched t (Some (Rewound.AtLine branch line)) kept back stops = record {
  taken = t ∷ [];
  back = (refl, back, refl);
  rightly = (t, record { before = []; is = refl; past = tt }, stops.0, stops.1);
  keeps = elim stops.2 [ inl none ↦ inl none | inr one ↦ inr ([], t, refl, one) ];
}
turn_back only lines watched t (Some (Rewound.Watched branch ticket)) kept back stops = record {
  taken = t ∷ [];
  back = (refl, back, refl);
  rightly = (t, record { before = []; is = refl; past = tt }, stops.0, stops.1, stops.2);
  keeps = stops.3;
}

-- the last step, undone
pub turn_undone : (lines : List ℕ) (watched : List Watched) (d d' : AtDesk) (m : AtMachine) (t u : ℕ) (e : Event) (why : Option Rewound) (kept : List Choice) →
    IsLast d t → Answers d quiet (Command.Undo t) (Reply.Undone u e) d' → m ≡ d'.machine → StopsBehind m lines watched u e why kept →
    TakesOneBack None lines watched d d' why kept
turn_undone lines watched d d' m t u e why kept last h same stops =
    let one : u ≡ t = undone_as d d' t u e h in
    turn_back None lines watched (gone d t e d') why kept
    (last, subst (λ (n : ℕ). Answers d quiet (Command.Undo t) (Reply.Undone n e) d') one h)
    (subst (λ (n : ℕ). StopsBehind d'.machine lines watched n e why kept) one (subst (λ (x : AtMachine). StopsBehind x lines watched u e why kept) same stops))

-- the newest step of a branch, with all that depend on it
pub turn_out : (k : ℕ) (lines : List ℕ) (watched : List Watched) (d d' : AtDesk) (m : AtMachine) (next i t : ℕ) (e : Event) (why : Option Rewound)
    (kept : List Choice) → Rising 1 d.machine.live next → IsNewestAt d k i t e → GoesOut d t d' → m ≡ d.machine → StopsBehind m lines watched t e why kept →
    TakesOneBack (Some k) lines watched d d' why kept
turn_out k lines watched d d' m next i t e why kept rising newest out same stops =
    turn_back (Some k) lines watched (gone d t e d') why kept
    ((i, e, newest.newest, newest.there), out_at d d' next t e rising (in-at d.machine.live i (t, e) newest.there) out)
    (subst (λ (x : AtMachine). StopsBehind x lines watched t e why kept) same stops)

pub rolls_on : (k below : ℕ) (lines : List ℕ) (watched : List Watched) (d d' : AtDesk) (m : AtMachine) (next i t : ℕ) (e : Event) (kept : List Choice) →
    Rising 1 d.machine.live next → d'.machine.checked ≡ d.machine.checked → (i < below) × IsNewestAt d k i t e → GoesOut d t d' → m ≡ d.machine →
    StopsBehind m lines watched t e None kept → RollsOne k below lines watched d d' (Rolled.On i) kept
rolls_on k below lines watched d d' m next i t e kept rising system newest out same stops = (
  turn_out k lines watched d d' m next i t e None kept rising newest.1 out same stops,
  none_from next k i (gone d t e d') rising system newest.1 (out_at d d' next t e rising (in-at d.machine.live i (t, e) newest.1.there) out),
  newest.0,
)

-- one step before others
ends-more : (only : Option ℕ) (lines : List ℕ) (watched : List Watched) (t : Returned) (ts : List Returned) (last : Returned) →
    GoesPast only lines watched t → EndsWith only lines watched ts last → EndsWith only lines watched (t ∷ ts) last
ends-more only lines watched t ts last past h =
    record { before = t ∷ h.before; is = ap (λ (xs : List Returned). t ∷ xs) h.is; past = (past, h.past) }

rightly-more : (only : Option ℕ) (lines : List ℕ) (watched : List Watched) (d : AtDesk) (t : Returned) (ts : List Returned) (ended : Rewound) →
    GoesPast only lines watched t → EndsRightly only lines watched d ts ended → EndsRightly only lines watched d (t ∷ ts) ended
rightly-more only lines watched d t ts Rewound.AtBeginning past h = ((past, h.0), h.1)
rightly-more only lines watched d t ts (Rewound.AtLine branch line) past h =
    (h.0, ends-more only lines watched t ts h.0 past h.1, h.2, h.3)
rightly-more only lines watched d t ts (Rewound.Watched branch ticket) past h =
    (h.0, ends-more only lines watched t ts h.0 past h.1, h.2, h.3, h.4)

keeps-more : (t : Returned) (ts : List Returned) (ended : Rewound) (kept : List Choice) → KeepsBack ts ended kept → KeepsBack (t ∷ ts) ended kept
keeps-more t ts Rewound.AtBeginning kept h = h
keeps-more t ts (Rewound.AtLine branch line) kept h = elim h [
  | inl none ↦ inl none
  | inr one ↦ inr (t ∷ one.0, one.1, ap (λ (xs : List Returned). t ∷ xs) one.2, one.3)
]
keeps-more t ts (Rewound.Watched branch ticket) kept h = h

goes-then : (only : Option ℕ) (lines : List ℕ) (watched : List Watched) (d m d' : AtDesk) (ended : Rewound) (kept : List Choice) →
    GoesOn only lines watched d m → GoesBack only lines watched m d' ended kept → GoesBack only lines watched d d' ended kept
goes-then only lines watched d m d' ended kept h k = record {
  taken = h.0 ∷ k.taken;
  back = (h.1, h.3, subst (λ (x : AtDesk). Returns x only k.taken d') (sym h.2) k.back);
  rightly = rightly-more only lines watched d' h.0 k.taken ended h.4 k.rightly;
  keeps = keeps-more h.0 k.taken ended kept k.keeps;
}

-- a run back from m is the rest of one from d
abbrev pub IsRest : Option ℕ → List ℕ → List Watched → AtDesk → AtDesk → Type 0
IsRest only lines watched d m =
    (d' : AtDesk) (ended : Rewound) (kept : List Choice) → GoesBack only lines watched m d' ended kept → GoesBack only lines watched d d' ended kept

pub rest_whole : (only : Option ℕ) (lines : List ℕ) (watched : List Watched) (d : AtDesk) → IsRest only lines watched d d
rest_whole only lines watched d = λ d' ended kept h. h

pub rest_on : (only : Option ℕ) (lines : List ℕ) (watched : List Watched) (d m n : AtDesk) → IsRest only lines watched d m →
    GoesOn only lines watched m n → IsRest only lines watched d n
rest_on only lines watched d m n rest goes =
    λ d' ended kept h. rest d' ended kept (goes-then only lines watched m n d' ended kept goes h)
