-- What the root is in its system.
use Rattle.std.proofs.Common.{◌≡◌, ℕ, ◌+◌, List, [], ◌∷◌, ◌++◌, Some, length, slice_get, refl, ap, sym, ◌∙◌, subst}
use Rattle.std.proofs.lemmas.List.{append-nil}
use Rattle.elaborate.specs.Body.{part_of}
use Rattle.elaborate.specs.Calls.{Expansion, expansion_of, expansions}
use Rattle.elaborate.specs.Copies.{numbers_behind}
use Rattle.elaborate.specs.Elaboration.{root_ports, port_channels, root_copies, root_entered, main_of, system_of}
use Rattle.elaborate.specs.Laws.{KeepsItsShape}
use Rattle.elaborate.specs.SameShape.{Standing, SameCommand, HasLocals, IsPort, numbers_from}
use Rattle.elaborate.proofs.KeptNames.{port_channel, ports_numbered}
use Rattle.elaborate.proofs.KeptCalls.{root_shown}
use Rattle.elaborate.proofs.RootLemmas.{root_is, root_ports_are}
use Rattle.elaborate.specs.declared.stimulus.Entry.{Entry}
use Rattle.system.specs.declared.command.Command as tree_command
use Rattle.system.specs.declared.system.System.{System}
use Rattle.types.specs.declared.tree.Local.{Local}
use Rattle.types.specs.declared.tree.Port.{Port}
use Rattle.types.specs.declared.tree.Procedure.{Procedure}

module _ (earlier : List Procedure) (p : Procedure) (entries : List Entry) where
  abbrev ps : List Procedure
  ps = earlier ++ p ∷ []

  abbrev system : System
  system = system_of ps entries

  abbrev standing : List ℕ → Standing
  standing ports = record { earlier = earlier; procedure = p; prefix = []; ports = ports }

  ports_kept : (place : ℕ) (q : Port) → slice_get p.ports place ≡ Some q → IsPort q.name q.declared q.kind (slice_get system.channels place)
  ports_kept place q is =
      let there : slice_get (root_ports ps) place ≡ Some q = ap (λ (ports : List Port). slice_get ports place) (root_ports_are earlier p) ∙ is in
      port_channel (root_ports ps) (root_copies ps) place q there

  numbered : numbers_behind [] (port_channels ps) ≡ numbers_from 0 p.ports
  numbered = ports_numbered [] 0 (root_ports ps) refl ∙ ap (numbers_from 0) (root_ports_are earlier p)

  -- it has its locals, and its body stands there
  abbrev Shown : List ℕ → Type 0
  Shown ports = HasLocals system (standing ports) × ((calls : ℕ) × SameCommand system (standing ports) 0 p.body calls (main_of ps))

  root_kept : Shown (numbers_from 0 p.ports)
  root_kept =
      let e = expansion_of (expansions earlier) p in
      let whole : port_channels ps ++ (e.copies [] ++ []) ≡ port_channels ps ++ root_copies ps =
      ap (λ (ls : List Local). port_channels ps ++ ls) (append-nil (e.copies []) ∙ sym (ap (λ (f : Expansion). f.copies []) (root_is earlier p))) in
      let calls = 0 + length (part_of p.body).calls in
      let shown = root_shown system (port_channels ps ++ root_copies ps) refl refl earlier p (root_entered ps) [] whole in
      let main : SameCommand system (standing (numbers_behind [] (port_channels ps))) 0 p.body calls (main_of ps) =
      subst (λ (t : tree_command.Command). SameCommand system (standing (numbers_behind [] (port_channels ps))) 0 p.body calls t)
      (sym (ap (λ (f : Expansion). f.body (root_entered ps)) (root_is earlier p))) shown.1 in
      subst Shown numbered (shown.0, (calls, main))

pub shape_kept : KeepsItsShape
shape_kept earlier p entries = (ports_kept earlier p entries, (root_kept earlier p entries).0, (root_kept earlier p entries).1)
