-- The list of breakpoints in a response, an item at a time.
use Rattle.std.proofs.Common.{◌≡◌, ◌∙◌, ◌<◌, ◌≤◌, ◌+◌, ◌-◌, ◌++◌, ◌∷◌, [], ℕ, suc, Bool, List, Option, None, Some, IfSome, true, false, cond, codes, drop, get_or, is_some, length, map, option_and_then, option_map, take, unwrap_or, Global, Vec, append_assoc, append-nil, arith, ap, refl, subst, sym}
use Rattle.std.proofs.lemmas.List.{drop_more, map-append, take_all, take_more}
use Rattle.serde_json.specs.Data.{Data, boolean, number, object, unsigned}
use Rattle.serde_json.specs.Find.{as_array, as_bool, as_number, as_u64, get, get_member}
use Rattle.serde_json.specs.View.{items_of, items_view, members_view, view}
use Rattle.serde_json.specs.declared.value.Value.{Value}
use Rattle.system.specs.declared.command.Command.{Command}
use Rattle.dap_messages.specs.Arguments.{flag_named, number_named}
use Rattle.dap_messages.specs.Notes.{IsDoneWith}
use Rattle.dap_messages.specs.Written.{Has, Pushes}
use Rattle.dap_messages.specs.declared.answer.Answer.{Answer}
use Rattle.dap_messages.specs.declared.answer.Outcome.{Outcome}
use Rattle.dap_messages.specs.declared.members.Listed.{Listed}
use Rattle.dap_messages.specs.declared.members.Members.{Members}
use Rattle.dap_moves.specs.Stops.{FirstStop, stops}
use Rattle.dap_views.specs.declared.watched.Watched.{Watched}
use Rattle.dap_views.specs.Counted.{shown_line}
use Rattle.dap_views.specs.declared.index.Index.{Index}
use Rattle.dap_views.specs.declared.lines.Lines.{Lines}
use Rattle.dap_views.specs.declared.program.Asked.{Asked}
use Rattle.dap_views.specs.declared.program.Program.{Program}
use Rattle.dap_requests.specs.Lists.{Lists, Shown, Tells, all_shown, breakpoint_told, each, list_in, none_shown, shown_as, stand_told, unset_as, verified_told}
use Rattle.dap_requests.specs.Locations.{Locates, LocatesOn, last_asked, line_told, places_on, stops_from, told_lines}
use Rattle.dap_requests.specs.Sets.{ArePlaced, all_verified, all_watched, id_in, is_own, path_in, watched_before, watched_by}
use Rattle.dap_requests.proofs.Setting.{watched_more}
use Rattle.dap_requests.specs.declared.breakpoints.Making.{Making}
use Rattle.dap_requests.specs.declared.breakpoints.Placing.{Placing}
use Rattle.dap_requests.specs.internal.Placing.{AreMoved, AreMoving, AreShown, AreTold, TellsMore}
use Rattle.dap_requests.proofs.Moving.{moved_all}

-- the list that was put into the body of what is done
pub listed_in : (outcome : Outcome) (ms : Members) (d : Data) → IsDoneWith (object (members_view ms.made.entries)) outcome →
    get_member (codes "breakpoints") (members_view ms.made.entries) ≡ Some d → list_in outcome ≡ as_array d
listed_in (Outcome.Done (Some body)) ms d is has =
    ap (λ (x : Data). option_and_then as_array (get (codes "breakpoints") x)) is ∙ ap (λ (o : Option Data). option_and_then as_array o) has
listed_in (Outcome.Done None) ms d is has = absurd is
listed_in (Outcome.Refused why words) ms d is has = absurd is

-- what the list that was made tells is what the response lists
pub lists_made : {A : Type 0} (reads : Data → A) (told : List A) (list : Listed) (b : Answer) → Tells reads told list →
    (b.lacks ≡ false → (list.lacks ≡ false) × (list_in b.outcome ≡ Some (items_view list.made.items))) → Lists reads told b
lists_made reads told list b h k = λ full.
    ap (λ o. option_map (each reads) o) (k full).1 ∙ ap (λ xs. Some xs) (h (k full).0)

each-more : {A : Type 0} (reads : Data → A) (ds : List Data) (d : Data) → each reads (items_of (ds ++ d ∷ [])) ≡ each reads (items_of ds) ++ reads d ∷ []
each-more reads [] d = refl
each-more reads (e ∷ ds) d = ap (λ xs. reads e ∷ xs) (each-more reads ds d)

-- one item more
each_pushed : {A : Type 0} (reads : Data → A) (before after : Listed) (ms : Members) → Pushes before ms after → after.lacks ≡ false →
    each reads (items_view after.made.items) ≡ each reads (items_view before.made.items) ++ reads (object (members_view ms.made.entries)) ∷ []
each_pushed reads before after ms pushes full =
    ap (λ (ds : List Data). each reads (items_of ds)) (pushes full).2
    ∙ each-more reads (map view before.made.items) (object (members_view ms.made.entries))

tells_pushed : {A : Type 0} (reads : Data → A) (told : List A) (x : A) (before after : Listed) (ms : Members) → Tells reads told before →
    (ms.lacks ≡ false → reads (object (members_view ms.made.entries)) ≡ x) → Pushes before ms after → Tells reads (told ++ x ∷ []) after
tells_pushed reads told x before after ms h one pushes = λ full.
    each_pushed reads before after ms pushes full
    ∙ ap (λ xs. xs ++ reads (object (members_view ms.made.entries)) ∷ []) (h (pushes full).0)
    ∙ ap (λ y. told ++ y ∷ []) (one (pushes full).1)

-- what a breakpoint is told with
abbrev shown-of : Option ℕ → Option Bool → Option ℕ → Shown
shown-of x y z = record { id = x; verified = y; line = z }

shown_told : (ms : Members) (less : ℕ) (a : Asked) → Has ms (codes "id") (number (unsigned a.id)) → Has ms (codes "verified") (boolean (is_some a.at)) →
    Has ms (codes "line") (number (unsigned (unwrap_or a.at a.line - less))) → ms.lacks ≡ false →
    breakpoint_told (object (members_view ms.made.entries)) ≡ shown_as less a
shown_told ms less a id verified line full =
    let d = object (members_view ms.made.entries) in
    let first : number_named (codes "id") d ≡ Some a.id =
    ap (λ (o : Option Data). option_and_then as_u64 (option_and_then as_number o)) (id full) in
    let second : flag_named (codes "verified") d ≡ Some (is_some a.at) = ap (λ (o : Option Data). option_and_then as_bool o) (verified full) in
    let third : number_named (codes "line") d ≡ Some (unwrap_or a.at a.line - less) =
    ap (λ (o : Option Data). option_and_then as_u64 (option_and_then as_number o)) (line full) in
    ap (λ (x : Option ℕ). shown-of x (flag_named (codes "verified") d) (number_named (codes "line") d)) first
    ∙ ap (λ (x : Option Bool). shown-of (Some a.id) x (number_named (codes "line") d)) second
    ∙ ap (λ (x : Option ℕ). shown-of (Some a.id) (Some (is_some a.at)) x) third

pub tells_more : (less : ℕ) (a : Asked) (before after : Listed) (ms : Members) → Has ms (codes "id") (number (unsigned a.id)) →
    Has ms (codes "verified") (boolean (is_some a.at)) → Has ms (codes "line") (number (unsigned (unwrap_or a.at a.line - less))) →
    Pushes before ms after → TellsMore less a before after
tells_more less a before after ms id verified line pushes = λ told h.
    tells_pushed breakpoint_told told (shown_as less a) before after ms h (shown_told ms less a id verified line) pushes

-- one breakpoint more is told, and kept
pub told_more : (less : ℕ) (a : Asked) (before after : Making) → after.asked.items ≡ before.asked.items ++ a ∷ [] →
    TellsMore less a before.shown after.shown → AreTold less before → AreTold less after
told_more less a before after added told h =
    subst (λ (xs : List Asked). Tells breakpoint_told (all_shown less xs) after.shown) (sym added)
    (subst (λ (ys : List Shown). Tells breakpoint_told ys after.shown) (sym (map-append (shown_as less) before.asked.items (a ∷ [])))
    (told (all_shown less before.asked.items) h))

-- all of them are placed, and told
pub made_all : (own : Bool) (c : Command) (lines : Lines) (less i : ℕ) (asked : List Asked) (m : Making) (result : Option Placing) → length asked ≤ i →
    ArePlaced own c lines [] (take i asked) m.asked.items m.stops.items → AreTold less m → AreMoving m →
    IfSome result (λ placing. (placing.asked ≡ m.asked) × (placing.stops ≡ m.stops) × (m.shown.lacks ≡ false) × (placing.shown ≡ m.shown.made)
    × (m.moved.lacks ≡ false) × (placing.moved ≡ m.moved.made)) →
    IfSome result (λ placing. ArePlaced own c lines [] asked placing.asked.items placing.stops.items × AreShown less placing × AreMoved placing)
made_all own c lines less i asked m None end placed told moving h = tt
made_all own c lines less i asked m (Some placing) end placed told moving h =
    let all = subst (λ (xs : List Asked). ArePlaced own c lines [] xs m.asked.items m.stops.items) (take_all i asked end) placed in
    let asked_all = subst (λ (v : Vec Asked Global). ArePlaced own c lines [] asked v.items m.stops.items) (sym h.0) all in (
      subst (λ (v : Vec ℕ Global). ArePlaced own c lines [] asked placing.asked.items v.items) (sym h.1) asked_all,
      ap (λ (v : Vec Value Global). each breakpoint_told (items_view v.items)) h.3 ∙ told h.2 ∙ ap (λ (v : Vec Asked Global). all_shown less v.items) (sym h.0),
      moved_all m placing moving h.0 h.4 h.5,
    )

-- what was placed is what the response lists, where that is kept
pub lists_kept : (less : ℕ) (placing : Placing) (q : Program) (b : Answer) → AreShown less placing → q.asked ≡ placing.asked →
    (b.lacks ≡ false → list_in b.outcome ≡ Some (items_view placing.shown.items)) → Lists breakpoint_told (all_shown less q.asked.items) b
lists_kept less placing q b shown kept told = λ full.
    ap (λ o. option_map (each breakpoint_told) o) (told full) ∙ ap (λ xs. Some xs) (shown ∙ ap (λ (v : Vec Asked Global). all_shown less v.items) (sym kept))

-- one line more on which none stands
abbrev pair-of : Option Bool → Option ℕ → Option Bool × Option ℕ
pair-of x y = (x, y)

unset_told : (line : ℕ) (one : Members) → Has one (codes "verified") (boolean false) → Has one (codes "line") (number (unsigned line)) →
    one.lacks ≡ false → stand_told (object (members_view one.made.entries)) ≡ unset_as line
unset_told line one verified at full =
    let d = object (members_view one.made.entries) in
    let first : flag_named (codes "verified") d ≡ Some false = ap (λ (o : Option Data). option_and_then as_bool o) (verified full) in
    let second : number_named (codes "line") d ≡ Some line = ap (λ (o : Option Data). option_and_then as_u64 (option_and_then as_number o)) (at full) in
    ap (λ (x : Option Bool). pair-of x (number_named (codes "line") d)) first ∙ ap (λ (x : Option ℕ). pair-of (Some false) x) second

pub unset_more : (lines : List ℕ) (i d : ℕ) (before after : Listed) (one : Members) → i < length lines →
    Tells stand_told (none_shown (take i lines)) before → Has one (codes "verified") (boolean false) →
    Has one (codes "line") (number (unsigned (get_or lines i d))) → Pushes before one after → Tells stand_told (none_shown (take (i + 1) lines)) after
unset_more lines i d before after one low h verified at pushes =
    let told = none_shown (take i lines) in
    let line = get_or lines i d in
    let all : none_shown (take (i + 1) lines) ≡ told ++ unset_as line ∷ [] =
    ap none_shown (take_more lines i d low) ∙ map-append unset_as (take i lines) (line ∷ []) in
    subst (λ xs. Tells stand_told xs after) (sym all)
    (tells_pushed stand_told told (unset_as line) before after one h (unset_told line one verified at) pushes)

-- what one item more means is watched
pub watched_behind : (index : Index) (vs : List Value) (i : ℕ) (d : Value) (before after : List Watched) (found : Option Watched) → i < length vs →
    d ≡ get_or vs i d → found ≡ watched_by index (id_in (view d)) → after ≡ before ++ watched_before found [] →
    before ++ all_watched index (items_view (drop i vs)) ≡ all_watched index (items_view vs) →
    after ++ all_watched index (items_view (drop (i + 1) vs)) ≡ all_watched index (items_view vs)
watched_behind index vs i d before after found low same is added h =
    let rest = all_watched index (items_view (drop (i + 1) vs)) in
    let all : all_watched index (items_view (drop i vs)) ≡ watched_before (watched_by index (id_in (view (get_or vs i d)))) rest =
    ap (λ (xs : List Value). all_watched index (items_view xs)) (drop_more vs i d low) in
    ap (λ (ws : List Watched). ws ++ rest) added
    ∙ watched_more before rest found
    ∙ ap (λ (w : Option Watched). before ++ watched_before w rest) (is ∙ ap (λ (v : Value). watched_by index (id_in (view v))) same)
    ∙ ap (λ (ws : List Watched). before ++ ws) (sym all)
    ∙ h

-- and it is told whether it means something
pub verified_more : (index : Index) (vs : List Value) (i : ℕ) (d : Value) (before after : Listed) (one : Members) (known : Bool) → i < length vs →
    d ≡ get_or vs i d →
    (before.lacks ≡ false →
    each verified_told (items_view before.made.items) ++ all_verified index (items_view (drop i vs)) ≡ all_verified index (items_view vs)) →
    known ≡ is_some (watched_by index (id_in (view d))) → Has one (codes "verified") (boolean known) → Pushes before one after → after.lacks ≡ false →
    each verified_told (items_view after.made.items) ++ all_verified index (items_view (drop (i + 1) vs)) ≡ all_verified index (items_view vs)
verified_more index vs i d before after one known low same h is has pushes full =
    let rest = all_verified index (items_view (drop (i + 1) vs)) in
    let front = each verified_told (items_view before.made.items) in
    let read : Value → Option Bool = λ v. Some (is_some (watched_by index (id_in (view v)))) in
    let says : verified_told (object (members_view one.made.entries)) ≡ read d =
    ap (λ (o : Option Data). option_and_then as_bool o) (has (pushes full).1) ∙ ap (λ (x : Bool). Some x) is in
    let all : all_verified index (items_view (drop i vs)) ≡ read d ∷ rest =
    ap (λ (xs : List Value). all_verified index (items_view xs)) (drop_more vs i d low)
    ∙ ap (λ (v : Value). read v ∷ rest) (sym same) in
    ap (λ xs. xs ++ rest) (each_pushed verified_told before after one pushes full)
    ∙ ap (λ y. (front ++ y ∷ []) ++ rest) says
    ∙ append_assoc front (read d ∷ []) rest
    ∙ ap (λ xs. front ++ xs) (sym all)
    ∙ h (pushes full).0

-- one item more that is not watched
abbrev pub no-data : Data → Option Bool
no-data d = Some false

pub unwatched_more : (vs : List Value) (i : ℕ) (d : Value) (before after : Listed) (one : Members) → i < length vs →
    (before.lacks ≡ false → each verified_told (items_view before.made.items) ++ each no-data (items_view (drop i vs)) ≡ each no-data (items_view vs)) →
    Has one (codes "verified") (boolean false) → Pushes before one after → after.lacks ≡ false →
    each verified_told (items_view after.made.items) ++ each no-data (items_view (drop (i + 1) vs)) ≡ each no-data (items_view vs)
unwatched_more vs i d before after one low h has pushes full =
    let rest = each no-data (items_view (drop (i + 1) vs)) in
    let front = each verified_told (items_view before.made.items) in
    let says : verified_told (object (members_view one.made.entries)) ≡ Some false =
    ap (λ (o : Option Data). option_and_then as_bool o) (has (pushes full).1) in
    let more : each no-data (items_view (drop i vs)) ≡ Some false ∷ rest =
    ap (λ (xs : List Value). each no-data (items_view xs)) (drop_more vs i d low) in
    ap (λ xs. xs ++ rest) (each_pushed verified_told before after one pushes full)
    ∙ ap (λ y. (front ++ y ∷ []) ++ rest) says
    ∙ append_assoc front (Some false ∷ []) rest
    ∙ ap (λ xs. front ++ xs) (sym more)
    ∙ h (pushes full).0

-- the lines that stop, from one line on
stops-next : (c : Command) (line behind : ℕ) → line < behind →
    stops_from c line (behind - line)
    ≡ cond (stops line c) (line ∷ stops_from c (line + 1) (behind - (line + 1))) (stops_from c (line + 1) (behind - (line + 1)))
stops-next c line behind low =
    let count : behind - line ≡ suc (behind - (line + 1)) = omega arith in
    ap (λ (n : ℕ). stops_from c line n) count

-- one that does not stop
pub places_passed : (c : Command) (p : Program) (line behind : ℕ) (front all : List (Option ℕ)) → line < behind → FirstStop c line (line + 1) None →
    front ++ told_lines p (stops_from c line (behind - line)) ≡ all → front ++ told_lines p (stops_from c (line + 1) (behind - (line + 1))) ≡ all
places_passed c p line behind front all low none h =
    let off : stops line c ≡ false = none line (omega arith) (omega arith) in
    let next : stops_from c line (behind - line) ≡ stops_from c (line + 1) (behind - (line + 1)) =
    stops-next c line behind low
    ∙ ap
    (λ (t : Bool). cond t (line ∷ stops_from c (line + 1) (behind - (line + 1))) (stops_from c (line + 1) (behind - (line + 1)))) off in
    ap (λ (ls : List ℕ). front ++ told_lines p ls) (sym next) ∙ h

-- one that does, and is told
pub places_pushed : (c : Command) (p : Program) (line stop behind : ℕ) (before after : Listed) (one : Members) (all : List (Option ℕ)) → line < behind →
    FirstStop c line (line + 1) (Some stop) → Has one (codes "line") (number (unsigned (shown_line p stop))) → Pushes before one after →
    (before.lacks ≡ false → each line_told (items_view before.made.items) ++ told_lines p (stops_from c line (behind - line)) ≡ all) →
    after.lacks ≡ false → each line_told (items_view after.made.items) ++ told_lines p (stops_from c (line + 1) (behind - (line + 1))) ≡ all
places_pushed c p line stop behind before after one all low first has pushes h full =
    let same : stop ≡ line = omega (arith, first.0, first.1) in
    let on : stops line c ≡ true = ap (λ (n : ℕ). stops n c) (sym same) ∙ first.2 in
    let rest = stops_from c (line + 1) (behind - (line + 1)) in
    let front = each line_told (items_view before.made.items) in
    let next : stops_from c line (behind - line) ≡ line ∷ rest =
    stops-next c line behind low ∙ ap (λ (t : Bool). cond t (line ∷ rest) rest) on in
    let says : line_told (object (members_view one.made.entries)) ≡ Some (shown_line p line) =
    ap (λ (o : Option Data). option_and_then as_u64 (option_and_then as_number o)) (has (pushes full).1)
    ∙ ap (λ (n : ℕ). Some (shown_line p n)) same in
    ap (λ xs. xs ++ told_lines p rest) (each_pushed line_told before after one pushes full)
    ∙ ap (λ y. (front ++ y ∷ []) ++ told_lines p rest) says
    ∙ append_assoc front (Some (shown_line p line) ∷ []) (told_lines p rest)
    ∙ ap (λ (ls : List ℕ). front ++ told_lines p ls) (sym next)
    ∙ h (pushes full).0

-- all have been looked at
pub places_all : (c : Command) (p : Program) (line behind : ℕ) (list : Listed) (all : List (Option ℕ)) → behind ≤ line →
    (list.lacks ≡ false → each line_told (items_view list.made.items) ++ told_lines p (stops_from c line (behind - line)) ≡ all) → Tells line_told all list
places_all c p line behind list all end h = λ full.
    let front = each line_told (items_view list.made.items) in
    let none : behind - line ≡ 0 = omega arith in
    sym (append-nil front) ∙ ap (λ (n : ℕ). front ++ told_lines p (stops_from c line n)) (sym none) ∙ h full

-- they are those of the file that is named
pub located : (c : Command) (d : Data) (p : Program) (b : Answer) (path : List ℕ) (own : Bool) (asked : Option ℕ) (line last : ℕ) (list : Listed) →
    asked ≡ number_named (codes "line") d → asked ≡ Some line → path ≡ path_in d → own ≡ is_own p path → last ≡ last_asked d line →
    Tells line_told (told_lines p (places_on own c p line last)) list →
    (b.lacks ≡ false → (list.lacks ≡ false) × (list_in b.outcome ≡ Some (items_view list.made.items))) → Locates c d p b
located c d p b path own asked line last list asked_is is path_is own_is last_is told given =
    let owned : own ≡ is_own p (path_in d) = own_is ∙ ap (λ (x : List ℕ). is_own p x) path_is in
    let lists = lists_made line_told (told_lines p (places_on own c p line last)) list b told given in
    let within = subst (λ (x : Bool). Lists line_told (told_lines p (places_on x c p line last)) b) owned lists in
    let named = subst (λ (n : ℕ). Lists line_told (told_lines p (places_on (is_own p (path_in d)) c p line n)) b) last_is within in
    subst (λ (o : Option ℕ). LocatesOn o c d p b) (sym is ∙ asked_is) named
