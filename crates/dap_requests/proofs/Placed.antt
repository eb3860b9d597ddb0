-- Breakpoints that are placed one after another.
use Rattle.std.proofs.Common.{◌≡◌, ◌∙◌, ◌<◌, ◌+◌, ◌++◌, ◌∷◌, [], ℕ, Bool, List, Option, None, Some, IfSome, Vec, Global, cond, length, get_or, take, ap, refl, sym, subst}
use Rattle.std.proofs.lemmas.List.{take_more}
use Rattle.system.specs.declared.command.Command.{Command}
use Rattle.dap_views.specs.declared.lines.Lines.{Lines}
use Rattle.dap_views.specs.declared.program.Asked.{Asked}
use Rattle.dap_views.specs.Counted.{at_most_all}
use Rattle.dap_views.specs.declared.program.Program.{Program}
use Rattle.dap_requests.specs.Sets.{ArePlaced, PlacesAnew, StandsIn, asked_on, with_stop}
use Rattle.dap_requests.specs.declared.breakpoints.Placing.{Placing}
use Rattle.dap_requests.specs.declared.breakpoints.Making.{Making}
use Rattle.dap_requests.specs.internal.Placing.{MovesMore, PlacesOne, TellsMore}
use Rattle.dap_requests.proofs.Listing.{told_more}
use Rattle.dap_requests.proofs.Moving.{moving_more}

-- one more behind them
placed-behind : (own : Bool) (c : Command) (lines : Lines) (stops : List ℕ) (xs ys : List Asked) (all : List ℕ) (a : Asked) (at : Option ℕ) →
    ArePlaced own c lines stops xs ys all → StandsIn own c lines all a.line at →
    ArePlaced own c lines stops (xs ++ a ∷ []) (ys ++ record a { at = at } ∷ []) (with_stop all at)
placed-behind own c lines stops [] [] all a at h stands =
    (refl, subst (λ (s : List ℕ). StandsIn own c lines s a.line at) h stands, ap (λ (s : List ℕ). with_stop s at) h)
placed-behind own c lines stops [] (y ∷ ys) all a at h stands = absurd h
placed-behind own c lines stops (x ∷ xs) [] all a at h stands = absurd h
placed-behind own c lines stops (x ∷ xs) (y ∷ ys) all a at h stands =
    (h.0, h.1, placed-behind own c lines (with_stop stops y.at) xs ys all a at h.2 stands)

-- so one of a list is placed behind those before it
pub placed_more : (own : Bool) (c : Command) (lines : Lines) (less : ℕ) (xs : List Asked) (i : ℕ) (d : Asked) (m n : Making) → i < length xs →
    ArePlaced own c lines [] (take i xs) m.asked.items m.stops.items → PlacesOne own c lines less (get_or xs i d) m n →
    ArePlaced own c lines [] (take (i + 1) xs) n.asked.items n.stops.items
placed_more own c lines less xs i d m n low before one =
    let all = placed-behind own c lines [] (take i xs) m.asked.items m.stops.items (get_or xs i d) one.at before one.stands in
    subst (λ (zs : List Asked). ArePlaced own c lines [] zs n.asked.items n.stops.items) (sym (take_more xs i d low))
    (subst (λ (ys : List Asked). ArePlaced own c lines [] (take i xs ++ get_or xs i d ∷ []) ys n.stops.items) (sym one.asked)
    (subst (λ (s : List ℕ). ArePlaced own c lines [] (take i xs ++ get_or xs i d ∷ [])
    (m.asked.items ++ record (get_or xs i d) { at = one.at } ∷ []) s) (sym one.stops) all))

-- what is kept of those that were placed
pub places_anew : (own : Bool) (c : Command) (lines : List ℕ) (count : ℕ) (p q : Program) (placing : Placing) → count ≡ length lines →
    ArePlaced own c p.lines [] (asked_on p.counting.lines p.last_id lines) placing.asked.items placing.stops.items →
    q ≡ record p { asked = placing.asked; stops = placing.stops; elsewhere = cond own None p.elsewhere; last_id = at_most_all p.last_id count } →
    PlacesAnew own c lines p q
places_anew own c lines count p q placing all placed set = record {
  placed =
      subst (λ (x : Program). ArePlaced own c p.lines [] (asked_on p.counting.lines p.last_id lines) x.asked.items x.stops.items) (sym set) placed;
  last = ap (λ (x : Program). x.last_id) set ∙ ap (λ (n : ℕ). at_most_all p.last_id n) all;
  elsewhere = ap (λ (x : Program). x.elsewhere) set;
  same =
      set
      ∙ ap (λ (x : Program). record p { asked = x.asked; elsewhere = x.elsewhere; stops = x.stops; last_id = x.last_id }) (sym set);
}

-- one more is placed, and told
pub one_placed : {R : Type 0} (own : Bool) (c : Command) (lines : Lines) (less : ℕ) (one : Asked) (at : Option ℕ) (before told : Making)
    (asked : Vec Asked Global) (stops : Vec ℕ Global) (added : Option R) → StandsIn own c lines before.stops.items one.line at →
    (told.asked ≡ before.asked) × (told.stops ≡ before.stops) → TellsMore less (record one { at = at }) before.shown told.shown →
    MovesMore (record one { at = at }) before.moved told.moved → asked.items ≡ told.asked.items ++ record one { at = at } ∷ [] →
    IfSome added (λ done. stops.items ≡ with_stop told.stops.items at) →
    IfSome added (λ done. PlacesOne own c lines less one before (record told { asked = asked; stops = stops }))
one_placed own c lines less one at before told asked stops None stands same tells moves more stop = tt
one_placed own c lines less one at before told asked stops (Some done) stands same tells moves more stop =
    let after : Making = record told { asked = asked; stops = stops } in
    let added : asked.items ≡ before.asked.items ++ record one { at = at } ∷ [] =
    more ∙ ap (λ (v : Vec Asked Global). v.items ++ record one { at = at } ∷ []) same.0 in
    record {
      at = at;
      stands = stands;
      asked = added;
      stops = stop ∙ ap (λ (v : Vec ℕ Global). with_stop v.items at) same.1;
      told = told_more less (record one { at = at }) before after added tells;
      moved = moving_more (record one { at = at }) before after added moves;
    }
