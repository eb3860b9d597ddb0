-- The environment's branches, by the place of the port.
use Rattle.std.proofs.Common.{◌≡◌, ℕ, zero, suc, ◌+◌, ◌≤◌, List, [], ◌∷◌, ◌++◌, Some, None, map, length, slice_get, refl, ap, sym, ◌∙◌, subst, arith, append_assoc}
use Rattle.elaborate.specs.Copies.{channel_of_port, kind_of_port, channel_of, channels_among}
use Rattle.elaborate.specs.Elaboration.{root_ports, port_channels, root_copies, system_of}
use Rattle.elaborate.specs.Environment.{branch_on, branches_from}
use Rattle.elaborate.specs.Fit.{entry_named}
use Rattle.elaborate.specs.Laws.{BranchesAreInPortOrder}
use Rattle.elaborate.specs.declared.stimulus.Entry.{Entry}
use Rattle.system.specs.Named.{channel_name_at}
use Rattle.types.specs.declared.tree.Local.{Local}
use Rattle.types.specs.declared.tree.Port.{Port}
use Rattle.types.specs.declared.tree.PortKind.{PortKind}
use Rattle.types.specs.declared.tree.PortKind.TheVariants as port

pub branches_length : (entries : List Entry) (place : ℕ) (ports : List Port) → length (branches_from entries place ports) ≡ length ports
branches_length entries place [] = refl
branches_length entries place (p ∷ ports) = ap suc (branches_length entries (place + 1) ports)

branch_at : (entries : List Entry) (first : ℕ) (ports : List Port) (place : ℕ) (p : Port) → slice_get ports place ≡ Some p
    → slice_get (branches_from entries first ports) place ≡ Some (branch_on (first + place) p.kind (entry_named entries p.name))
branch_at entries first [] place p h = let none : None ≡ Some p = h in cc
branch_at entries first (q ∷ ports) zero p h =
    let same : q ≡ p = cc in
    let number : first ≡ first + 0 = omega arith in
    ap (λ n. Some (branch_on n q.kind (entry_named entries q.name))) number
    ∙ ap (λ (r : Port). Some (branch_on (first + 0) r.kind (entry_named entries r.name))) same
branch_at entries first (q ∷ ports) (suc place) p h =
    let number : first + 1 + place ≡ first + suc place = omega arith in
    branch_at entries (first + 1) ports place p h ∙ ap (λ n. Some (branch_on n p.kind (entry_named entries p.name))) number

-- each port has one channel
name_more : (p : Port) (ls : List Local) (place : ℕ)
    → channel_name_at (channels_among (channel_of_port p ∷ ls)) (suc place) ≡ channel_name_at (channels_among ls) place
name_more p ls place = by p.kind
  where
    by : (kind : PortKind) → channel_name_at (channel_of p.name p.declared (kind_of_port kind) ++ channels_among ls) (suc place) ≡ channel_name_at (channels_among ls) place
    by (port.Input w) = refl
    by (port.Output w) = refl
    by port.Sync = refl

name_first : (p : Port) (ls : List Local) → channel_name_at (channels_among (channel_of_port p ∷ ls)) 0 ≡ Some p.name
name_first p ls = by p.kind
  where
    by : (kind : PortKind) → channel_name_at (channel_of p.name p.declared (kind_of_port kind) ++ channels_among ls) 0 ≡ Some p.name
    by (port.Input w) = refl
    by (port.Output w) = refl
    by port.Sync = refl

channel_at_place : (ports : List Port) (rest : List Local) (place : ℕ) (p : Port) → slice_get ports place ≡ Some p
    → channel_name_at (channels_among (map channel_of_port ports ++ rest)) place ≡ Some p.name
channel_at_place [] rest place p h = let none : None ≡ Some p = h in cc
channel_at_place (q ∷ ports) rest zero p h =
    let same : q ≡ p = cc in
    name_first q (map channel_of_port ports ++ rest) ∙ ap (λ (r : Port). Some r.name) same
channel_at_place (q ∷ ports) rest (suc place) p h =
    name_more q (map channel_of_port ports ++ rest) place ∙ channel_at_place ports rest place p h

pub in_port_order : BranchesAreInPortOrder
in_port_order ps entries = (
  branches_length entries 0 (root_ports ps),
  λ place p h.
      let number : 0 + place ≡ place = omega arith in (
        branch_at entries 0 (root_ports ps) place p h ∙ ap (λ n. Some (branch_on n p.kind (entry_named entries p.name))) number,
        channel_at_place (root_ports ps) (root_copies ps) place p h,
      ),
)
