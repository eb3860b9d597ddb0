-- The variables and channels that are made are those among the copies, each with its number.
use Rattle.std.proofs.Common.{◌≡◌, ℕ, suc, ◌+◌, ◌≤◌, List, [], ◌∷◌, ◌++◌, map, length, refl, ap, sym, ◌∙◌, arith, append_assoc, length-append}
use Rattle.std.proofs.lemmas.List.{append-nil}
use Rattle.elaborate.specs.Copies.{copied, all_copied, kind_of_port, channel_of_port, variable_of, channel_of, variables_among, channels_among, number_behind, numbers_behind}
use Rattle.elaborate.specs.declared.made.Made.{Made}
use Rattle.elaborate.specs.internal.Making as making
use Rattle.elaborate.specs.internal.Making.{Numbered, number_for, with_channel, with_local, locals_onto, ports_onto}
use Rattle.syntax.specs.Texts.{Text}
use Rattle.system.specs.declared.system.Channel.{Channel}
use Rattle.system.specs.declared.system.Variable.{Variable}
use Rattle.types.specs.declared.tree.Local.{Local}
use Rattle.types.specs.declared.tree.LocalKind.{LocalKind}
use Rattle.types.specs.declared.tree.LocalKind.TheVariants as local
use Rattle.types.specs.declared.tree.Port.{Port}
use Rattle.types.specs.declared.tree.PortKind.{PortKind}
use Rattle.types.specs.declared.tree.PortKind.TheVariants as port

-- what is made where these are the copies
abbrev pub made_of : List Local → ℕ → Made
made_of ls k = record { variables = variables_among ls; channels = channels_among ls; calls = k }

-- numbers, and what is made where these are the copies
abbrev pub numbered : List ℕ → List Local → ℕ → Numbered
numbered ns ls k = record { numbers = ns; made = made_of ls k }

abbrev local_of : Text → ℕ → LocalKind → Local
local_of name declared kind = record { name = name; declared = declared; kind = kind }

pub variables_append : (xs ys : List Local) → variables_among (xs ++ ys) ≡ variables_among xs ++ variables_among ys
variables_append [] ys = refl
variables_append (x ∷ xs) ys =
    ap (λ (vs : List Variable). variable_of x.name x.kind ++ vs) (variables_append xs ys)
    ∙ sym (append_assoc (variable_of x.name x.kind) (variables_among xs) (variables_among ys))

pub channels_append : (xs ys : List Local) → channels_among (xs ++ ys) ≡ channels_among xs ++ channels_among ys
channels_append [] ys = refl
channels_append (x ∷ xs) ys =
    ap (λ (cs : List Channel). channel_of x.name x.declared x.kind ++ cs) (channels_append xs ys)
    ∙ sym (append_assoc (channel_of x.name x.declared x.kind) (channels_among xs) (channels_among ys))

-- each copy is a variable or a channel
one_each : (name : Text) (declared : ℕ) (kind : LocalKind) → length (variable_of name kind) + length (channel_of name declared kind) ≡ 1
one_each name declared (local.Variable w) = refl
one_each name declared (local.SharedVariable w) = refl
one_each name declared (local.Channel w) = refl
one_each name declared local.Sync = refl

pub sorted : (ls : List Local) → length (variables_among ls) + length (channels_among ls) ≡ length ls
sorted [] = refl
sorted (l ∷ ls) =
    omega (arith, length-append (variable_of l.name l.kind) (variables_among ls), length-append (channel_of l.name l.declared l.kind) (channels_among ls), one_each l.name l.declared l.kind, sorted ls)

-- one copy more
abbrev built : List Variable → List Channel → ℕ → Made
built vs cs k = record { variables = vs; channels = cs; calls = k }

same_made : (vs ws : List Variable) (cs ds : List Channel) (k : ℕ) → vs ≡ ws → cs ≡ ds → built vs cs k ≡ built ws ds k
same_made vs ws cs ds k e f = ap (λ (v : List Variable). built v cs k) e ∙ ap (λ (c : List Channel). built ws c k) f

variable_more : (before : List Local) (l : Local) (k : ℕ) (v : Variable) → variable_of l.name l.kind ≡ v ∷ [] → channel_of l.name l.declared l.kind ≡ []
    → built (variables_among before ++ v ∷ []) (channels_among before) k ≡ made_of (before ++ l ∷ []) k
variable_more before l k v e f =
    same_made _ _ _ _ k
    (ap (λ (vs : List Variable). variables_among before ++ vs) (sym (append-nil (variable_of l.name l.kind) ∙ e)) ∙ sym (variables_append before (l ∷ [])))
    (sym (append-nil (channels_among before)) ∙ (ap (λ (cs : List Channel). channels_among before ++ cs) (sym (append-nil (channel_of l.name l.declared l.kind) ∙ f)) ∙ sym (channels_append before (l ∷ []))))

channel_more : (before : List Local) (l : Local) (k : ℕ) (c : Channel) → variable_of l.name l.kind ≡ [] → channel_of l.name l.declared l.kind ≡ c ∷ []
    → built (variables_among before) (channels_among before ++ c ∷ []) k ≡ made_of (before ++ l ∷ []) k
channel_more before l k c e f =
    same_made _ _ _ _ k
    (sym (append-nil (variables_among before)) ∙ (ap (λ (vs : List Variable). variables_among before ++ vs) (sym (append-nil (variable_of l.name l.kind) ∙ e)) ∙ sym (variables_append before (l ∷ []))))
    (ap (λ (cs : List Channel). channels_among before ++ cs) (sym (append-nil (channel_of l.name l.declared l.kind) ∙ f)) ∙ sym (channels_append before (l ∷ [])))

one_more : (before : List Local) (k : ℕ) (name : Text) (declared : ℕ) (kind : LocalKind)
    → with_local (made_of before k) name declared kind ≡ made_of (before ++ local_of name declared kind ∷ []) k
one_more before k name declared (local.Variable w) = variable_more before (local_of name declared (local.Variable w)) k _ refl refl
one_more before k name declared (local.SharedVariable w) = variable_more before (local_of name declared (local.SharedVariable w)) k _ refl refl
one_more before k name declared (local.Channel w) = channel_more before (local_of name declared (local.Channel w)) k _ refl refl
one_more before k name declared local.Sync = channel_more before (local_of name declared local.Sync) k _ refl refl

-- its number
number_is : (before : List Local) (k : ℕ) (kind : LocalKind) → length before ≤ 4294967295 → number_for (made_of before k) kind ≡ number_behind before kind
number_is before k (local.Variable w) h = omega (arith, sorted before, h)
number_is before k (local.SharedVariable w) h = omega (arith, sorted before, h)
number_is before k (local.Channel w) h = omega (arith, sorted before, h)
number_is before k local.Sync h = omega (arith, sorted before, h)

-- nothing behind
none_behind : (ns : List ℕ) (ls : List Local) (k : ℕ) → numbered ns ls k ≡ numbered (ns ++ []) (ls ++ []) k
none_behind ns ls k =
    ap (λ (m : List ℕ). numbered m ls k) (sym (append-nil ns)) ∙ ap (λ (l : List Local). numbered (ns ++ []) l k) (sym (append-nil ls))

-- one and others behind
more_behind : (ns ms : List ℕ) (n : ℕ) (ls rest : List Local) (l : Local) (k : ℕ)
    → numbered ((ns ++ n ∷ []) ++ ms) ((ls ++ l ∷ []) ++ rest) k ≡ numbered (ns ++ n ∷ ms) (ls ++ l ∷ rest) k
more_behind ns ms n ls rest l k =
    ap (λ (m : List ℕ). numbered m ((ls ++ l ∷ []) ++ rest) k) (append_assoc ns (n ∷ []) ms)
    ∙ ap (λ (m : List Local). numbered (ns ++ n ∷ ms) m k) (append_assoc ls (l ∷ []) rest)

-- the locals of a procedure
pub locals_are : (numbers : List ℕ) (prefix : Text) (before : List Local) (k : ℕ) (ls : List Local) → length before + length ls ≤ 4294967295
    → locals_onto numbers prefix (made_of before k) ls
    ≡ numbered (numbers ++ numbers_behind before (all_copied prefix ls)) (before ++ all_copied prefix ls) k
locals_are numbers prefix before k [] h = none_behind numbers before k
locals_are numbers prefix before k (l ∷ ls) h =
    let here : length before ≤ 4294967295 = omega (arith, h) in
    let n = number_behind before l.kind in
    let more : length (before ++ copied prefix l ∷ []) + length ls ≤ 4294967295 = omega (arith, h, length-append before (copied prefix l ∷ [])) in
    ap (λ (m : ℕ). locals_onto (numbers ++ m ∷ []) prefix (with_local (made_of before k) (prefix ++ l.name) l.declared l.kind) ls) (number_is before k l.kind here)
    ∙ (ap (λ (m : Made). locals_onto (numbers ++ n ∷ []) prefix m ls) (one_more before k (prefix ++ l.name) l.declared l.kind)
    ∙ (locals_are (numbers ++ n ∷ []) prefix (before ++ copied prefix l ∷ []) k ls more
    ∙ more_behind numbers (numbers_behind (before ++ copied prefix l ∷ []) (all_copied prefix ls)) n before (all_copied prefix ls) (copied prefix l) k))

-- the ports of the root
port_more : (before : List Local) (k : ℕ) (name : Text) (declared : ℕ) (kind : PortKind)
    → with_channel (made_of before k) name (making.kind_of_port kind) declared ≡ made_of (before ++ local_of name declared (kind_of_port kind) ∷ []) k
port_more before k name declared (port.Input w) = one_more before k name declared (local.Channel w)
port_more before k name declared (port.Output w) = one_more before k name declared (local.Channel w)
port_more before k name declared port.Sync = one_more before k name declared local.Sync

port_number : (before : List Local) (kind : PortKind) → length before ≤ 4294967295
    → making.capped_number (length (channels_among before)) ≡ number_behind before (kind_of_port kind)
port_number before (port.Input w) h = number_is before 0 (local.Channel w) h
port_number before (port.Output w) h = number_is before 0 (local.Channel w) h
port_number before port.Sync h = number_is before 0 local.Sync h

pub ports_are : (numbers : List ℕ) (before : List Local) (k : ℕ) (ps : List Port) → length before + length ps ≤ 4294967295
    → ports_onto numbers (made_of before k) ps
    ≡ numbered (numbers ++ numbers_behind before (map channel_of_port ps)) (before ++ map channel_of_port ps) k
ports_are numbers before k [] h = none_behind numbers before k
ports_are numbers before k (p ∷ ps) h =
    let here : length before ≤ 4294967295 = omega (arith, h) in
    let n = number_behind before (kind_of_port p.kind) in
    let more : length (before ++ channel_of_port p ∷ []) + length ps ≤ 4294967295 = omega (arith, h, length-append before (channel_of_port p ∷ [])) in
    ap (λ (m : ℕ). ports_onto (numbers ++ m ∷ []) (with_channel (made_of before k) p.name (making.kind_of_port p.kind) p.declared) ps) (port_number before p.kind here)
    ∙ (ap (λ (m : Made). ports_onto (numbers ++ n ∷ []) m ps) (port_more before k p.name p.declared p.kind)
    ∙ (ports_are (numbers ++ n ∷ []) (before ++ channel_of_port p ∷ []) k ps more
    ∙ more_behind numbers (numbers_behind (before ++ channel_of_port p ∷ []) (map channel_of_port ps)) n before (map channel_of_port ps) (channel_of_port p) k))
