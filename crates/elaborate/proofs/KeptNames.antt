-- The number of a local is that of the variable or channel which it is.
use Rattle.std.proofs.Common.{◌≡◌, ℕ, zero, suc, ◌+◌, List, [], ◌∷◌, ◌++◌, Bool, Some, None, true, false, map, length, slice_get, refl, ap, sym, ◌∙◌, subst, append_assoc, length-append, arith}
use Rattle.elaborate.specs.Copies.{copied, all_copied, channel_of_port, kind_of_port, variable_of, channel_of, variables_among, channels_among, number_behind, numbers_behind}
use Rattle.elaborate.specs.Naming.{number_at}
use Rattle.elaborate.specs.SameShape.{IsVariable, IsChannel, IsPort, numbers_from}
use Rattle.elaborate.proofs.CopyLemmas.{variables_append, channels_append}
use Rattle.syntax.specs.Texts.{Text}
use Rattle.system.specs.declared.system.Channel.{Channel}
use Rattle.system.specs.declared.system.ChannelKind.{ChannelKind}
use Rattle.system.specs.declared.system.ChannelKind.TheVariants as channel
use Rattle.system.specs.declared.system.Variable.{Variable}
use Rattle.types.specs.declared.tree.Local.{Local}
use Rattle.types.specs.declared.tree.LocalKind.{LocalKind}
use Rattle.types.specs.declared.tree.LocalKind.TheVariants as local
use Rattle.types.specs.declared.tree.Port.{Port}
use Rattle.types.specs.declared.tree.PortKind.{PortKind}
use Rattle.types.specs.declared.tree.PortKind.TheVariants as port

-- an element behind others
got_behind : {X : Type 0} (xs ys : List X) (y : X) → slice_get (xs ++ y ∷ ys) (length xs) ≡ Some y
got_behind [] ys y = refl
got_behind (x ∷ xs) ys y = got_behind xs ys y

-- the variable of this name
abbrev variable_named : Text → ℕ → Bool → Variable
variable_named name w shared = record { name = name; width = w; shared = shared }

-- the channel of this name
abbrev channel_named : Text → ChannelKind → ℕ → Channel
channel_named name kind declared = record { name = name; kind = kind; declared = declared }

-- the variable that a local is, behind those before
variable_here : (before more : List Local) (l : Local) → IsVariable l.name l.kind (slice_get (variables_among (before ++ l ∷ more)) (number_behind before l.kind))
variable_here before more l =
    subst (λ (vs : List Variable). IsVariable l.name l.kind (slice_get vs (number_behind before l.kind))) (sym (variables_append before (l ∷ more))) (by l.kind)
  where
    by : (kind : LocalKind) → IsVariable l.name kind (slice_get (variables_among before ++ (variable_of l.name kind ++ variables_among more)) (number_behind before kind))
    by (local.Variable w) = got_behind (variables_among before) (variables_among more) (variable_named l.name w false)
    by (local.SharedVariable w) = got_behind (variables_among before) (variables_among more) (variable_named l.name w true)
    by (local.Channel w) = tt
    by local.Sync = tt

-- the channel that a local is, behind those before
channel_here : (before more : List Local) (l : Local) → IsChannel l.name l.declared l.kind (slice_get (channels_among (before ++ l ∷ more)) (number_behind before l.kind))
channel_here before more l =
    subst (λ (cs : List Channel). IsChannel l.name l.declared l.kind (slice_get cs (number_behind before l.kind))) (sym (channels_append before (l ∷ more))) (by l.kind)
  where
    by : (kind : LocalKind) → IsChannel l.name l.declared kind (slice_get (channels_among before ++ (channel_of l.name l.declared kind ++ channels_among more)) (number_behind before kind))
    by (local.Variable w) = tt
    by (local.SharedVariable w) = tt
    by (local.Channel w) = got_behind (channels_among before) (channels_among more) (channel_named l.name (channel.Data w) l.declared)
    by local.Sync = got_behind (channels_among before) (channels_among more) (channel_named l.name channel.Sync l.declared)

-- what holds of each local and its number where these come before it
module _ (P : Local → List Local → ℕ → Type 0) (here : (before more : List Local) (l : Local) → P l (before ++ l ∷ more) (number_behind before l.kind)) where
  each_number : (before ls more : List Local) (place : ℕ) (l : Local) → slice_get ls place ≡ Some l → P l (before ++ (ls ++ more)) (number_at (numbers_behind before ls) place)
  each_number before [] more place l is = absurd (let none : None ≡ Some l = is in cc)
  each_number before (m ∷ ls) more zero l is =
      let same : m ≡ l = cc in
      subst (λ (n : Local). P n (before ++ m ∷ (ls ++ more)) (number_behind before m.kind)) same (here before (ls ++ more) m)
  each_number before (m ∷ ls) more (suc place) l is =
      subst (λ (all : List Local). P l all (number_at (numbers_behind (before ++ m ∷ []) ls) place)) (append_assoc before (m ∷ []) (ls ++ more))
      (each_number (before ++ m ∷ []) ls more place l is)

pub local_variable : (before ls more : List Local) (place : ℕ) (l : Local) → slice_get ls place ≡ Some l
    → IsVariable l.name l.kind (slice_get (variables_among (before ++ (ls ++ more))) (number_at (numbers_behind before ls) place))
local_variable = each_number (λ l all number. IsVariable l.name l.kind (slice_get (variables_among all) number)) variable_here

pub local_channel : (before ls more : List Local) (place : ℕ) (l : Local) → slice_get ls place ≡ Some l
    → IsChannel l.name l.declared l.kind (slice_get (channels_among (before ++ (ls ++ more))) (number_at (numbers_behind before ls) place))
local_channel = each_number (λ l all number. IsChannel l.name l.declared l.kind (slice_get (channels_among all) number)) channel_here

-- a copy of each local stands at its place
pub copy_got : (prefix : Text) (ls : List Local) (place : ℕ) (l : Local) → slice_get ls place ≡ Some l → slice_get (all_copied prefix ls) place ≡ Some (copied prefix l)
copy_got prefix [] place l is = absurd (let none : None ≡ Some l = is in cc)
copy_got prefix (m ∷ ls) zero l is = let same : m ≡ l = cc in ap (λ (n : Local). Some (copied prefix n)) same
copy_got prefix (m ∷ ls) (suc place) l is = copy_got prefix ls place l is

-- the channel of each port of a root stands at its place
pub port_channel : (ports : List Port) (more : List Local) (place : ℕ) (q : Port) → slice_get ports place ≡ Some q
    → IsPort q.name q.declared q.kind (slice_get (channels_among (map channel_of_port ports ++ more)) place)
port_channel [] more place q is = absurd (let none : None ≡ Some q = is in cc)
port_channel (r ∷ ports) more zero q is =
    let same : r ≡ q = cc in
    subst (λ (p : Port). IsPort p.name p.declared p.kind (slice_get (channels_among (channel_of_port r ∷ (map channel_of_port ports ++ more))) 0)) same (by r.kind)
  where
    by : (kind : PortKind) → IsPort r.name r.declared kind (slice_get (channel_of r.name r.declared (kind_of_port kind) ++ channels_among (map channel_of_port ports ++ more)) 0)
    by (port.Input w) = refl
    by (port.Output w) = refl
    by port.Sync = refl
port_channel (r ∷ ports) more (suc place) q is = by r.kind (port_channel ports more place q is)
  where
    by : (kind : PortKind) → IsPort q.name q.declared q.kind (slice_get (channels_among (map channel_of_port ports ++ more)) place)
        → IsPort q.name q.declared q.kind (slice_get (channel_of r.name r.declared (kind_of_port kind) ++ channels_among (map channel_of_port ports ++ more)) (suc place))
    by (port.Input w) rest = rest
    by (port.Output w) rest = rest
    by port.Sync rest = rest

-- they are numbered as the ports are
pub ports_numbered : (before : List Local) (n : ℕ) (ports : List Port) → length (channels_among before) ≡ n → numbers_behind before (map channel_of_port ports) ≡ numbers_from n ports
ports_numbered before n [] many = refl
ports_numbered before n (q ∷ ports) many =
    ap (λ k. k ∷ numbers_behind (before ++ channel_of_port q ∷ []) (map channel_of_port ports)) (by q.kind)
    ∙ ap (λ (ns : List ℕ). n ∷ ns) (ports_numbered (before ++ channel_of_port q ∷ []) (n + 1) ports (more q.kind))
  where
    by : (kind : PortKind) → number_behind before (kind_of_port kind) ≡ n
    by (port.Input w) = many
    by (port.Output w) = many
    by port.Sync = many

    one : (kind : PortKind) → length (channel_of q.name q.declared (kind_of_port kind) ++ []) ≡ 1
    one (port.Input w) = refl
    one (port.Output w) = refl
    one port.Sync = refl

    more : (kind : PortKind) → length (channels_among (before ++ channel_of_port q ∷ [])) ≡ n + 1
    more kind =
        let parts = ap (λ (cs : List Channel). length cs) (channels_append before (channel_of_port q ∷ [])) in
        let both = length-append (channels_among before) (channel_of q.name q.declared (kind_of_port q.kind) ++ []) in
        omega (arith, parts, both, one q.kind, many)
