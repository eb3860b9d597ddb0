-- Equal runs in the canonical order have one page.
use Rattle.std.proofs.Common.{◌≡◌, ℕ, suc, ◌+◌, Bool, List, [], ◌∷◌, ◌++◌, length, map, refl, sym, ◌∙◌, ap, subst}
use Rattle.std.specs.Prelude.{codes, slice_get}
use Rattle.std.specs.Fmt.{decimal}
use Rattle.address.specs.Text.{text_of}
use Rattle.json_text.specs.Values.{list_text, member_text, object_text, optional_text, string_text}
use Rattle.sharing_check.specs.declared.checked.Checked.{Checked}
use Rattle.system.specs.declared.system.System.{System}
use Rattle.runs.specs.Live.{Live, events}
use Rattle.runs.specs.declared.event.Event.{Event}
use Rattle.line_text.specs.EventText.{event_text}
use Rattle.trace_file.proofs.public.Canonicals.{orders-agree}
use Rattle.depth_laws.specs.Laws.{AreEqualRuns}
use Rattle.types.specs.declared.tree.Procedure.{Procedure}
use Rattle.machine.specs.AtMachine.{AtMachine}
use Rattle.run_depths.specs.declared.races.Race.{Race}
use Rattle.waiting.specs.Told.{OneRing}
use Rattle.waiting.specs.Waits.{OneList}
use Rattle.picture_lanes.specs.declared.lane.Feed.{Feed}
use Rattle.picture_lanes.specs.declared.lane.Instance.{Instance}
use Rattle.picture_lanes.specs.declared.lane.Lane.{Lane}
use Rattle.picture_data.specs.Shown.{Shows}
use Rattle.picture_data.specs.Spots.{Spot, Want, spot_of, want_of}
use Rattle.picture_data.specs.declared.actions.Actions.{Actions}
use Rattle.picture_data.specs.declared.picture.Picture.{Picture}
use Rattle.picture_data.specs.declared.places.Place.{Place}
use Rattle.picture_data.specs.declared.places.Wanted.{Wanted}
use Rattle.picture_data.specs.declared.steps.Steps.{Steps}
use Rattle.waiting.specs.declared.progress.Progress.{Progress}
use Rattle.picture_text.specs.DataText.{action_texts, ahead_text, channel_text, data_text, event_row, event_rows, feed_text, flag, head_members, instance_text, lane_text, numbers_text, place_row, progress_text, race_text, ready_rows, rings_text, role_text, run_members, since_texts, system_members, tickets_text, variable_text, wanted_text}
use Rattle.picture_text.specs.PageText.{page_text}
use Rattle.picture_laws.specs.EqualPages.{AreCounted, HaveOnePage, IsInOrder}
use Rattle.picture_laws.specs.EqualPictures.{IsOnePicture}
use Rattle.picture_laws.proofs.OnePicture.{one-picture, with-marks}

-- ---- one machine, but for its marks

counted-live : (n : ℕ) (l k : Live) → AreCounted n l → AreCounted n k → events l ≡ events k → l ≡ k
counted-live n [] [] here there same = refl
counted-live n [] (y ∷ k) here there same = cc
counted-live n (x ∷ l) [] here there same = cc
counted-live n (x ∷ l) (y ∷ k) here there same =
    let event : x.1 ≡ y.1 = cc in
    let rest : events l ≡ events k = cc in
    let made : ℕ → Event → Live → Live = λ t e r. (t, e) ∷ r in
    ap (λ (t : ℕ). made t x.1 l) (here.0 ∙ sym there.0)
    ∙ ap (λ (e : Event). made y.0 e l) event
    ∙ ap (λ (r : Live). made y.0 y.1 r) (counted-live (suc n) l k here.1 there.1 rest)

one-machine : (m n : AtMachine) → m.checked ≡ n.checked → AreEqualRuns m.checked m.live n.live → IsInOrder m → IsInOrder n →
    with-marks m n.marked ≡ n
one-machine m n one equal here there =
    let same : events m.live ≡ events n.live =
    orders-agree m.checked (events m.live) (events n.live) (events m.live) (events n.live) equal.state equal.runs equal.forth equal.back here.canonical
    there.canonical in
    let live : m.live ≡ n.live = counted-live 1 m.live n.live here.counted there.counted same in
    let next : m.next ≡ n.next = here.next ∙ ap (λ (l : Live). suc (length l)) live ∙ sym there.next in
    let made : Checked → Live → ℕ → AtMachine = λ c l k. record { checked = c; live = l; next = k; marked = n.marked } in
    ap (λ (c : Checked). made c m.live m.next) one
    ∙ ap (λ (l : Live). made n.checked l m.next) live
    ∙ ap (λ (k : ℕ). made n.checked n.live k) next

-- ---- one text

same-row : (system : System) (s t : Steps) (n : ℕ) (e : Event) → s.actions.items ≡ t.actions.items → s.depths.items ≡ t.depths.items → s.ahead ≡ t.ahead →
    s.since.items ≡ t.since.items → event_row system s n e ≡ event_row system t n e
same-row system s t n e actions depths ahead since =
    let made : List Actions → List ℕ → List (List ℕ) → List (ℕ × ℕ) → List ℕ =
    λ ss ds rows ts.
    list_text (string_text (event_text system e)
    ∷ (action_texts (slice_get ss n)
    ++ optional_text (slice_get ds n)
    ∷ optional_text e.written
    ∷ numbers_text e.read
    ∷ ahead_text (slice_get rows n)
    ∷ since_texts e.second (slice_get ts n))) in
    ap (λ (ss : List Actions). made ss s.depths.items s.ahead s.since.items) actions
    ∙ ap (λ (ds : List ℕ). made t.actions.items ds s.ahead s.since.items) depths
    ∙ ap (λ (rows : List (List ℕ)). made t.actions.items t.depths.items rows s.since.items) ahead
    ∙ ap (λ (ss : List (ℕ × ℕ)). made t.actions.items t.depths.items t.ahead ss) since

same-rows : (system : System) (s t : Steps) (n : ℕ) (l : Live) → s.actions.items ≡ t.actions.items → s.depths.items ≡ t.depths.items → s.ahead ≡ t.ahead →
    s.since.items ≡ t.since.items → event_rows system s n l ≡ event_rows system t n l
same-rows system s t n [] actions depths ahead since = refl
same-rows system s t n (x ∷ l) actions depths ahead since =
    ap (λ (row : List ℕ). row ∷ event_rows system s (n + 1) l) (same-row system s t n x.1 actions depths ahead since)
    ∙ ap (λ (rows : List (List ℕ)). event_row system t n x.1 ∷ rows) (same-rows system s t (n + 1) l actions depths ahead since)

-- a place as it is written, by what is shown of it but for its depth
abbrev want_text : Want → List ℕ
want_text w = list_text (decimal w.channel ∷ numbers_text w.lanes ∷ decimal (flag w.can_come) ∷ [])

abbrev spot_row : Spot → List ℕ
spot_row s =
    list_text (optional_text s.lane ∷ string_text (text_of s.place) ∷ decimal s.line ∷ string_text (role_text s.role)
    ∷ list_text (map want_text s.wanted) ∷ decimal (flag s.is_ready) ∷ [])

same-wants : (ws : List Wanted) → map wanted_text ws ≡ map want_text (map want_of ws)
same-wants [] = refl
same-wants (w ∷ ws) = ap (λ (ts : List (List ℕ)). wanted_text w ∷ ts) (same-wants ws)

same-place : (p : Place) → place_row p ≡ spot_row (spot_of p)
same-place p =
    ap
    (λ (ts : List (List ℕ)).
    list_text (optional_text p.lane ∷ string_text (text_of p.place) ∷ decimal p.line ∷ string_text (role_text p.role)
    ∷ list_text ts ∷ decimal (flag p.is_ready) ∷ [])) (same-wants p.wanted.items)

same-places : (ps : List Place) → map place_row ps ≡ map spot_row (map spot_of ps)
same-places [] = refl
same-places (p ∷ ps) =
    ap (λ (row : List ℕ). row ∷ map place_row ps) (same-place p)
    ∙ ap (λ (rows : List (List ℕ)). spot_row (spot_of p) ∷ rows) (same-places ps)

place-rows : (ps qs : List Place) → map spot_of ps ≡ map spot_of qs → map place_row ps ≡ map place_row qs
place-rows ps qs same = same-places ps ∙ ap (map spot_row) same ∙ sym (same-places qs)

same-system : (system : System) (p q : Picture) → IsOnePicture p q → system_members system p ≡ system_members system q
same-system system p q one =
    let made : List Instance → List Lane → List Feed → List (List ℕ) =
    λ is ls fs.
    member_text (codes "variables") (list_text (map variable_text system.variables))
    ∷ member_text (codes "channels") (list_text (map channel_text system.channels))
    ∷ member_text (codes "instances") (list_text (map instance_text is))
    ∷ member_text (codes "lanes") (list_text (map lane_text ls))
    ∷ member_text (codes "feeds") (list_text (map feed_text fs))
    ∷ [] in
    ap (λ (is : List Instance). made is p.lanes.items p.feeds.items) one.ground.instances
    ∙ ap (λ (ls : List Lane). made q.instances.items ls p.feeds.items) one.ground.lanes
    ∙ ap (λ (fs : List Feed). made q.instances.items q.lanes.items fs) one.ground.feeds

-- how the run stands, in one text
abbrev ends : System → Live → List (List ℕ) → List Race → List Actions → List Event → List (List ℕ) → List ℕ → Progress → Bool → List (List ℕ)
ends system l rows races actions ready places ring progress lacks =
    member_text (codes "tickets") (tickets_text l)
    ∷ member_text (codes "events") (list_text rows)
    ∷ member_text (codes "races") (list_text (map race_text races))
    ∷ member_text (codes "ready") (list_text (ready_rows system actions 0 ready))
    ∷ member_text (codes "places") (list_text places)
    ∷ member_text (codes "rings") (rings_text ring)
    ∷ member_text (codes "progress") (string_text (progress_text progress lacks))
    ∷ []

same-run : (system : System) (l : Live) (p q : Picture) → IsOnePicture p q →
    run_members system l p ≡ run_members system l q
same-run system l p q one =
    let rows = same-rows system p.steps q.steps 0 l one.actions one.depths one.ahead one.since in
    let places = place-rows p.end.places.items q.end.places.items one.end.places in
    let a = event_rows system q.steps 0 l in
    let b = map place_row q.end.places.items in
    ap (λ (x : List (List ℕ)). ends system l x p.steps.races.items p.end.ready_actions.items p.end.ready (map place_row p.end.places.items)
    p.end.ring.items p.end.progress p.end.lacks_input) rows
    ∙ ap (λ (x : List Race). ends system l a x p.end.ready_actions.items p.end.ready (map place_row p.end.places.items) p.end.ring.items p.end.progress p.end.lacks_input) one.races
    ∙ ap (λ (x : List Actions). ends system l a q.steps.races.items x p.end.ready (map place_row p.end.places.items) p.end.ring.items p.end.progress p.end.lacks_input)
    one.end.ready_actions
    ∙ ap (λ (x : List Event). ends system l a q.steps.races.items q.end.ready_actions.items x (map place_row p.end.places.items) p.end.ring.items p.end.progress p.end.lacks_input)
    one.end.ready
    ∙ ap (λ (x : List (List ℕ)). ends system l a q.steps.races.items q.end.ready_actions.items q.end.ready x p.end.ring.items p.end.progress p.end.lacks_input) places
    ∙ ap (λ (x : List ℕ). ends system l a q.steps.races.items q.end.ready_actions.items q.end.ready b x p.end.progress p.end.lacks_input) one.end.ring
    ∙ ap (λ (x : Progress). ends system l a q.steps.races.items q.end.ready_actions.items q.end.ready b q.end.ring.items x p.end.lacks_input) one.end.progress
    ∙ ap (λ (x : Bool). ends system l a q.steps.races.items q.end.ready_actions.items q.end.ready b q.end.ring.items q.end.progress x) one.end.lacks_input

one-text : (system : System) (l : Live) (p q : Picture) (source file stimulus trace : List ℕ) → IsOnePicture p q →
    data_text system l p source file stimulus trace ≡ data_text system l q source file stimulus trace
one-text system l p q source file stimulus trace one =
    let made : List (List ℕ) → List (List ℕ) → List ℕ = λ xs ys. object_text (head_members file stimulus trace source ++ (xs ++ ys)) in
    ap (λ (xs : List (List ℕ)). made xs (run_members system l p)) (same-system system p q one)
    ∙ ap (λ (ys : List (List ℕ)). made (system_members system q) ys) (same-run system l p q one)

-- ---- one page

pub one-page : OneList → OneRing → (m n : AtMachine) (procedures : List Procedure) (p q : Picture) → m.checked ≡ n.checked → AreEqualRuns m.checked m.live n.live →
    IsInOrder m → IsInOrder n → Shows m procedures p → Shows n procedures q → HaveOnePage m n p q
one-page lists rings m n procedures p q one equal order other here there =
    let is : with-marks m n.marked ≡ n = one-machine m n one equal order other in
    let picture : IsOnePicture p q =
    one-picture lists rings m n.marked procedures p q equal.low equal.next equal.rising here (subst (λ (x : AtMachine). Shows x procedures q) (sym is) there) in
    let text : (source file stimulus trace : List ℕ) →
    data_text m.checked m.live p source file stimulus trace ≡ data_text n.checked n.live q source file stimulus trace =
    λ source file stimulus trace.
    one-text m.checked m.live p q source file stimulus trace picture
    ∙ ap (λ (x : AtMachine). data_text x.checked x.live q source file stimulus trace) is in
    record {
      picture = picture;
      data_of = text;
      page = λ source file stimulus trace. ap page_text (text source file stimulus trace);
    }
