-- The root is the last procedure, over what those before it become.
use Rattle.std.proofs.Common.{◌≡◌, ℕ, zero, suc, ◌+◌, ◌-◌, ◌<◌, ◌≤◌, List, [], ◌∷◌, ◌++◌, Some, None, map, length, slice_get, get_or, refl, ap, sym, ◌∙◌, subst, arith, length-append}
use Rattle.std.proofs.lemmas.List.{get_or_push, length_push}
use Rattle.elaborate.specs.Body.{part_of}
use Rattle.elaborate.specs.Calls.{Expansion, Entered, called, missing, bodies_of_calls, copies_of_calls, expansion_of, expansions_onto, expansions}
use Rattle.elaborate.specs.Copies.{copied, all_copied, channel_of_port, numbers_behind}
use Rattle.elaborate.specs.Elaboration.{ports_of, root_ports, root, port_channels, root_copies, root_entered, main_of}
use Rattle.elaborate.specs.Laws.{WithoutCallsIsItself}
use Rattle.elaborate.specs.Naming.{Names}
use Rattle.std.proofs.lemmas.List.{append-nil}
use Rattle.system.specs.declared.command.Command as tree_command
use Rattle.types.specs.declared.tree.Local.{Local}
use Rattle.types.specs.declared.tree.Procedure.{Procedure}

expansions_push : (es : List Expansion) (ps : List Procedure) (p : Procedure)
    → expansions_onto es (ps ++ p ∷ []) ≡ expansions_onto es ps ++ expansion_of (expansions_onto es ps) p ∷ []
expansions_push es [] p = refl
expansions_push es (q ∷ ps) p = expansions_push (es ++ expansion_of es q ∷ []) ps p

expansions_length : (es : List Expansion) (ps : List Procedure) → length (expansions_onto es ps) ≡ length es + length ps
expansions_length es [] = omega arith
expansions_length es (p ∷ ps) =
    omega (arith, expansions_length (es ++ expansion_of es p ∷ []) ps, length-append es (expansion_of es p ∷ []))

last_place : (ps : List Procedure) (p : Procedure) → length (ps ++ p ∷ []) - 1 ≡ length ps
last_place ps p = omega (arith, length-append ps (p ∷ []))

last_got : (ps : List Procedure) (p : Procedure) → slice_get (ps ++ p ∷ []) (length ps) ≡ Some p
last_got [] p = refl
last_got (q ∷ ps) p = last_got ps p

pub root_is : (ps : List Procedure) (p : Procedure) → root (ps ++ p ∷ []) ≡ expansion_of (expansions ps) p
root_is ps p =
    let e = expansion_of (expansions ps) p in
    let many : length (expansions ps) ≡ length ps = omega (arith, expansions_length [] ps) in
    ap (λ es. called es (length (ps ++ p ∷ []) - 1)) (expansions_push [] ps p)
    ∙ (ap (λ n. called (expansions ps ++ e ∷ []) n) (last_place ps p)
    ∙ get_or_push (expansions ps) e missing (length ps) many)

pub root_ports_are : (ps : List Procedure) (p : Procedure) → root_ports (ps ++ p ∷ []) ≡ p.ports
root_ports_are ps p =
    ap (λ n. ports_of (slice_get (ps ++ p ∷ []) n)) (last_place ps p) ∙ ap ports_of (last_got ps p)

-- copies of the root's own locals are these locals
pub own_copied : (ls : List Local) → all_copied [] ls ≡ ls
own_copied [] = refl
own_copied (l ∷ ls) = ap (λ (rest : List Local). l ∷ rest) (own_copied ls)

-- a root without calls
pub without_calls : WithoutCallsIsItself
without_calls earlier p none =
    let es = expansions earlier in
    let entered = root_entered (earlier ++ p ∷ []) in
    let names : List ℕ → Names = λ locals. record { ports = entered.ports; locals = locals } in (
      ap (λ (e : Expansion). e.copies []) (root_is earlier p)
          ∙ (ap (λ cs. all_copied [] p.locals ++ copies_of_calls es [] 0 cs) none
          ∙ (append-nil (all_copied [] p.locals) ∙ own_copied p.locals)),
      ap (λ (e : Expansion). e.body entered) (root_is earlier p)
          ∙ (ap (λ cs. (part_of p.body).becomes (names (numbers_behind entered.before (all_copied [] p.locals)))
          (bodies_of_calls es (names (numbers_behind entered.before (all_copied [] p.locals))) [] (entered.before ++ all_copied [] p.locals) 0 cs)) none
          ∙ ap (λ ls. (part_of p.body).becomes (names (numbers_behind entered.before ls)) []) (own_copied p.locals)),
    )
