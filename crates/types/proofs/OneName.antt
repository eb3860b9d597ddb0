-- One name of a declaration of several may be left out: it may stand in a declaration of its own.
use Rattle.std.proofs.Common.{◌≡◌, List, [], ◌∷◌, ◌++◌, flat_map, inl, inr, refl, ap, sym, subst, append_assoc}
use Rattle.std.proofs.lemmas.List.Concat.{flat_map-append}
use Rattle.types.specs.Laws.{IsAccepted, Apart}
use Rattle.types.specs.Parts.{Name, names_of_part, names_of_port, names_of_local, names_used, parts_of_command}
use Rattle.syntax.specs.Lists.{In, Every}
use Rattle.syntax.specs.declared.declaration.Description.{Description}
use Rattle.syntax.specs.declared.declaration.Local.{Local}
use Rattle.syntax.specs.declared.declaration.Port.{Port}
use Rattle.syntax.specs.declared.declaration.Procedure.{Procedure}
use Rattle.syntax.specs.declared.name.Identifier.{Identifier}
use Rattle.types.proofs.Lookups.{every-append, every-front, every-back}
use Rattle.types.proofs.LeavingOut.{unused}
use Rattle.types.proofs.LocalsLeftOut.{locals_left_out}
use Rattle.types.proofs.PortsLeftOut.{ports_left_out}
use Rattle.types.proofs.StandingApart.{locals_apart, ports_apart}
use Rattle.types.specs.LeavingOut.{OneLocalMayBeLeftOut, OnePortMayBeLeftOut}

-- no name of these is left out
abbrev Stay : List Name → List Name → Type 0
Stay left names = Every (λ n. In n left → ⊥) names

apart_by : (left names : List Name) → Stay left names → Apart left names
apart_by left [] stays n out is = absurd is
apart_by left (x ∷ names) stays n out (inl same) = stays.0 (subst (λ z. In z left) same out)
apart_by left (x ∷ names) stays n out (inr is) = apart_by left names stays.1 n out is

-- the names in declarations of which one stands in parts
module _ {D : Type 0} (names : D → List Name) (left : List Name) (front back : List D) (whole first one others : D)
    (same_first : names first ≡ names whole) (same_one : names one ≡ names whole) (same_others : names others ≡ names whole) where
  parts_stay : Stay left (flat_map names (front ++ whole ∷ back)) → Stay left (flat_map names ((front ++ first ∷ []) ++ one ∷ others ∷ back))
  parts_stay stays =
      let Out = λ (n : Name). In n left → ⊥ in
      let all = subst (Every Out) (flat_map-append names front (whole ∷ back)) stays in
      let at_front = every-front Out (flat_map names front) (flat_map names (whole ∷ back)) all in
      let rest = every-back Out (flat_map names front) (flat_map names (whole ∷ back)) all in
      let own = every-front Out (names whole) (flat_map names back) rest in
      let at_back = every-back Out (names whole) (flat_map names back) rest in
      let last = every-append Out (names others) (flat_map names back) (subst (Every Out) (sym same_others) own) at_back in
      let more = every-append Out (names one) (flat_map names (others ∷ back)) (subst (Every Out) (sym same_one) own) last in
      let most = every-append Out (names first) (flat_map names (one ∷ others ∷ back)) (subst (Every Out) (sym same_first) own) more in
      subst (Stay left) (ap (flat_map names) (sym (append_assoc front (first ∷ []) (one ∷ others ∷ back))))
      (subst (Every Out) (sym (flat_map-append names front (first ∷ one ∷ others ∷ back))) (every-append Out (flat_map names front) _ at_front most))

abbrev body_names : Procedure → List Name
body_names p = flat_map names_of_part (parts_of_command p.body)

abbrev port_names : List Port → List Name
port_names ds = flat_map (λ (d : Port). names_of_port d.kind) ds

abbrev local_names : List Local → List Name
local_names ds = flat_map (λ (d : Local). names_of_local d.kind) ds

pub one_local_left_out : OneLocalMayBeLeftOut
one_local_left_out types before p later front l back first name others accepted apart =
    let declares : List Identifier → Local = λ names. record l { names = names } in
    let described : List Local → Description = λ ls. record { types = types; procedures = before ++ record p { locals = ls } ∷ later } in
    let left = name.name ∷ [] in
    let fronts = front ++ declares first ∷ [] in
    let two = locals_apart types before p later front l back first (name ∷ others) accepted.0 in
    let moved : IsAccepted (described (fronts ++ declares (name ∷ others) ∷ back)) =
    subst (λ ls. IsAccepted (described ls)) (sym (append_assoc front (declares first ∷ []) (declares (name ∷ others) ∷ back))) (accepted.0, two.0 accepted.1) in
    let three = locals_apart types before p later fronts l back (name ∷ []) others moved.0 in
    let used = unused left (names_used (record p { locals = front ++ declares (first ++ name ∷ others) ∷ back })) apart in
    let Out = λ (n : Name). In n left → ⊥ in
    let ports = every-front Out (port_names p.ports) _ used in
    let rest = every-back Out (port_names p.ports) _ used in
    let locals = every-front Out (local_names (front ++ declares (first ++ name ∷ others) ∷ back)) (body_names p) rest in
    let body = every-back Out (local_names (front ++ declares (first ++ name ∷ others) ∷ back)) (body_names p) rest in
    let parts = parts_stay (λ (d : Local). names_of_local d.kind) left front back (declares (first ++ name ∷ others)) (declares first) (declares (name ∷ [])) (declares others)
    refl refl refl locals in
    let stays = every-append Out (port_names p.ports) _ ports (every-append Out (local_names (fronts ++ declares (name ∷ []) ∷ declares others ∷ back)) (body_names p) parts body) in
    let without = locals_left_out types before p later fronts (declares (name ∷ [])) (declares others ∷ back) (moved.0, three.0 moved.1)
    (apart_by left (names_used (record p { locals = fronts ++ declares (name ∷ []) ∷ declares others ∷ back })) stays) in
    let back_again : IsAccepted (described (front ++ declares first ∷ declares others ∷ back)) =
    subst (λ ls. IsAccepted (described ls)) (append_assoc front (declares first ∷ []) (declares others ∷ back)) without in
    (back_again.0, (locals_apart types before p later front l back first others back_again.0).1 back_again.1)

pub one_port_left_out : OnePortMayBeLeftOut
one_port_left_out types before p later front l back first name others accepted apart uncalled =
    let declares : List Identifier → Port = λ names. record l { names = names } in
    let described : List Port → Description = λ ds. record { types = types; procedures = before ++ record p { ports = ds } ∷ later } in
    let left = name.name ∷ [] in
    let fronts = front ++ declares first ∷ [] in
    let two = ports_apart types before p later front l back first (name ∷ others) accepted.0 in
    let moved : IsAccepted (described (fronts ++ declares (name ∷ others) ∷ back)) =
    subst (λ ds. IsAccepted (described ds)) (sym (append_assoc front (declares first ∷ []) (declares (name ∷ others) ∷ back))) (accepted.0, two.0 accepted.1) in
    let three = ports_apart types before p later fronts l back (name ∷ []) others moved.0 in
    let used = unused left (names_used (record p { ports = front ++ declares (first ++ name ∷ others) ∷ back })) apart in
    let Out = λ (n : Name). In n left → ⊥ in
    let ports = every-front Out (port_names (front ++ declares (first ++ name ∷ others) ∷ back)) (local_names p.locals ++ body_names p) used in
    let rest = every-back Out (port_names (front ++ declares (first ++ name ∷ others) ∷ back)) (local_names p.locals ++ body_names p) used in
    let parts = parts_stay (λ (d : Port). names_of_port d.kind) left front back (declares (first ++ name ∷ others)) (declares first) (declares (name ∷ [])) (declares others)
    refl refl refl ports in
    let stays = every-append Out (port_names (fronts ++ declares (name ∷ []) ∷ declares others ∷ back)) (local_names p.locals ++ body_names p) parts rest in
    let without = ports_left_out types before p later fronts (declares (name ∷ [])) (declares others ∷ back) (moved.0, three.0 moved.1)
    (apart_by left (names_used (record p { ports = fronts ++ declares (name ∷ []) ∷ declares others ∷ back })) stays) uncalled in
    let back_again : IsAccepted (described (front ++ declares first ∷ declares others ∷ back)) =
    subst (λ ds. IsAccepted (described ds)) (append_assoc front (declares first ∷ []) (declares others ∷ back)) without in
    (back_again.0, (ports_apart types before p later front l back first others back_again.0).1 back_again.1)
