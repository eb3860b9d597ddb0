-- What an accepted description becomes: the description as it is written, form by form. Each command is one of the same
-- form on the same line, its parts in order; each name is the place of what is declared under that name; each width is
-- that of a declaration or a type. It is said by cases on what is written and what comes of it, in no word of how names
-- are found or widths are settled. (What is made by `roll-` of a form is that form as it stands in a tree.)
use Rattle.std.specs.Prelude.{◌≡◌, ℕ, List, [], ◌∷◌, ◌++◌, map, flat_map, Option, Some, None, slice_get, Ok}
use Rattle.value.specs.Word.{Word, least_width_of}
use Rattle.types.specs.Declarations.{found_description}
use Rattle.types.specs.Parts.{Name}
use Rattle.types.specs.Visible.{Declaration, element_width, outside, visible_in}
use Rattle.types.specs.Widths.{TypeHasThisAlone}
use Rattle.types.specs.declared.tree.Action.{Action}
use Rattle.types.specs.declared.tree.Action.TheVariants as action
use Rattle.types.specs.declared.tree.Arm.{Arm, roll-Arm, out-Arm}
use Rattle.types.specs.declared.tree.Binding.{Binding}
use Rattle.types.specs.declared.tree.Binding.TheVariants as binding
use Rattle.types.specs.declared.tree.ChannelUse.{ChannelUse}
use Rattle.types.specs.declared.tree.Command.{Command, roll-Command}
use Rattle.types.specs.declared.tree.Expression.{Expression}
use Rattle.types.specs.declared.tree.Expression.TheVariants as expression
use Rattle.types.specs.declared.tree.Guarded.{Guarded, roll-Guarded}
use Rattle.types.specs.declared.tree.Labelled.{Labelled, roll-Labelled, out-Labelled}
use Rattle.types.specs.declared.tree.Local.{Local}
use Rattle.types.specs.declared.tree.LocalKind.{LocalKind}
use Rattle.types.specs.declared.tree.LocalKind.TheVariants as local
use Rattle.types.specs.declared.tree.Port.{Port}
use Rattle.types.specs.declared.tree.PortKind.{PortKind}
use Rattle.types.specs.declared.tree.PortKind.TheVariants as port
use Rattle.types.specs.declared.tree.Procedure.{Procedure}
use Rattle.types.specs.declared.tree.VariableUse.{VariableUse}
use Rattle.syntax.specs.Lists.{In}
use Rattle.syntax.specs.declared.command.Action as written_action
use Rattle.syntax.specs.declared.command.Action.TheOpen.{Action-F}
use Rattle.syntax.specs.declared.command.Action.TheViews as written
use Rattle.syntax.specs.declared.command.Arm as written_arm
use Rattle.syntax.specs.declared.command.CaseArm as written_case_arm
use Rattle.syntax.specs.declared.command.Command as written_command
use Rattle.syntax.specs.declared.command.Guarded as written_guarded
use Rattle.syntax.specs.declared.command.Label.{Label}
use Rattle.syntax.specs.declared.command.LabelValue.{LabelValue}
use Rattle.syntax.specs.declared.command.LabelValue.TheVariants as label
use Rattle.syntax.specs.declared.declaration.Description.{Description}
use Rattle.syntax.specs.declared.declaration.Local as written_local
use Rattle.syntax.specs.declared.declaration.LocalKind as written_local_kind
use Rattle.syntax.specs.declared.declaration.LocalKind.TheVariants as local_of
use Rattle.syntax.specs.declared.declaration.Port as written_port
use Rattle.syntax.specs.declared.declaration.PortKind as written_port_kind
use Rattle.syntax.specs.declared.declaration.PortKind.TheVariants as port_of
use Rattle.syntax.specs.declared.declaration.Procedure as written_procedure
use Rattle.syntax.specs.declared.declaration.TypeDeclaration.{TypeDeclaration}
use Rattle.syntax.specs.declared.declaration.TypeDefinition.TheVariants as type_of
use Rattle.syntax.specs.declared.expression.Expr.{Expr}
use Rattle.syntax.specs.declared.expression.Operator.{Operator}
use Rattle.syntax.specs.declared.expression.Shape.{Shape}
use Rattle.syntax.specs.declared.expression.Shape.TheOpen.{Shape-F}
use Rattle.syntax.specs.declared.expression.Shape.TheViews.{roll-Expr, roll-Shape}
use Rattle.syntax.specs.declared.expression.TypeName.{TypeName}
use Rattle.syntax.specs.declared.name.Identifier.{Identifier}
use Rattle.syntax.specs.declared.span.Span.{Span}

-- Where a body stands: the types of its description, the procedures before its own as they became, what is visible in
-- it, and the ports and locals of its procedure as they became.
pub record Standing : Type 0 where
  pub types : List TypeDeclaration
  pub earlier : List Procedure
  pub visible : List Declaration
  pub ports : List Port
  pub locals : List Local

-- the elements of two lists go together one by one, in order
abbrev pub OneByOne : {X Y : Type 0} → (X → Y → Type 0) → List X → List Y → Type 0
OneByOne Same [] [] = Unit {0}
OneByOne Same [] (y ∷ ys) = ⊥
OneByOne Same (x ∷ xs) [] = ⊥
OneByOne Same (x ∷ xs) (y ∷ ys) = Same x y × OneByOne Same xs ys

-- no element of the list stands there twice
abbrev pub AllDiffer : {X : Type 0} → List X → Type 0
AllDiffer [] = Unit {0}
AllDiffer (x ∷ xs) = (¬ In x xs) × AllDiffer xs

-- the values of all labels of the arms of a `case`
abbrev pub all_labels : List Labelled → List ℕ
all_labels arms = flat_map (λ (a : Labelled). (out-Labelled a).labels) arms

-- the channels of the arms of a `select` or an `arbitrate`
abbrev pub arm_channels : List Arm → List Binding
arm_channels arms = map (λ (a : Arm). (out-Arm a).channel.channel) arms

-- ---- names

-- the value of an element of an enumeration: its position there, at the width of the enumeration
abbrev pub IsElement : List TypeDeclaration → Name → Word → Type 0
IsElement types name v =
    (t : TypeDeclaration) × (elements : List Identifier) × (element : Identifier) × In t types
    × (t.definition ≡ type_of.Enumeration elements) × (slice_get elements v.bits ≡ Some element)
    × (element.name ≡ name) × (v.width ≡ element_width elements)

-- a local of this kind is a variable of this width
abbrev pub IsVariable : ℕ → LocalKind → Type 0
IsVariable w (local.Variable v) = v ≡ w
IsVariable w (local.SharedVariable v) = v ≡ w
IsVariable w (local.Channel v) = ⊥
IsVariable w local.Sync = ⊥

-- what is done with a channel
pub data Deed : Type 0 where
  -- a value of this width is sent, or received
  sends : ℕ → Deed
  receives : ℕ → Deed
  -- a handshake without data
  meets : Deed
  -- an arm of `select` or `arbitrate` begins on it
  begins : Deed
  -- the value of this width that is open on it is read
  reads : ℕ → Deed

-- the channel of a port of this kind is for it
abbrev pub PortAllows : Deed → PortKind → Type 0
PortAllows (sends w) kind = kind ≡ port.Output w
PortAllows (receives w) kind = kind ≡ port.Input w
PortAllows meets kind = kind ≡ port.Sync
PortAllows begins (port.Input v) = Unit {0}
PortAllows begins (port.Output v) = ⊥
PortAllows begins port.Sync = Unit {0}
PortAllows (reads w) (port.Input v) = v ≡ w
PortAllows (reads w) (port.Output v) = v ≡ w
PortAllows (reads w) port.Sync = ⊥

-- a local of this kind is a channel for it
abbrev pub LocalAllows : Deed → LocalKind → Type 0
LocalAllows (sends w) kind = kind ≡ local.Channel w
LocalAllows (receives w) kind = kind ≡ local.Channel w
LocalAllows meets kind = kind ≡ local.Sync
LocalAllows begins (local.Channel v) = Unit {0}
LocalAllows begins local.Sync = Unit {0}
LocalAllows begins (local.Variable v) = ⊥
LocalAllows begins (local.SharedVariable v) = ⊥
LocalAllows (reads w) kind = kind ≡ local.Channel w

-- what a procedure does with the argument for a port of this kind
abbrev pub deed_of : PortKind → Deed
deed_of (port.Input w) = receives w
deed_of (port.Output w) = sends w
deed_of port.Sync = meets

-- the names of a declaration, each with the kind that it declares
abbrev pub with_kind : {K : Type 0} → K → List Identifier → List (Identifier × K)
with_kind kind names = map (λ name. (name, kind)) names

-- ---- in a body that stands so

module _ (at : Standing) where
  -- at this place is a channel of this name, a port or a local, for this deed
  abbrev pub IsChannel : Deed → Name → Binding → Type 0
  IsChannel deed name (binding.Port place) =
      (q : Port) × (slice_get at.ports place ≡ Some q) × (q.name ≡ name) × PortAllows deed q.kind
  IsChannel deed name (binding.Local place) =
      (l : Local) × (slice_get at.locals place ≡ Some l) × (l.name ≡ name) × LocalAllows deed l.kind

  -- the name, at this offset, is used for a variable of this width
  abbrev pub SameVariable : Name → ℕ → VariableUse → ℕ → Type 0
  SameVariable name offset u w =
      (l : Local) × (slice_get at.locals u.variable ≡ Some l) × (l.name ≡ name) × IsVariable w l.kind
      × (u.offset ≡ offset)

  -- the name is used for a channel for this deed, which is none of those that are open there
  abbrev pub SameChannel : List Binding → Deed → Identifier → ChannelUse → Type 0
  SameChannel opened deed x u =
      IsChannel deed x.name u.channel × (¬ In u.channel opened) × (u.offset ≡ x.span.start)

  -- the names are used for channels, one for each of these ports
  abbrev pub SameArguments : List Binding → List Port → List Identifier → List ChannelUse → Type 0
  SameArguments opened [] [] [] = Unit {0}
  SameArguments opened (q ∷ ports) (x ∷ arguments) (u ∷ us) =
      SameChannel opened (deed_of q.kind) x u × SameArguments opened ports arguments us
  SameArguments opened _ _ _ = ⊥

  -- ---- expressions

  -- an expression of this shape
  abbrev pub shaped : Span → ℕ → Shape-F Shape Expr → Expr
  shaped span start shape = roll-Expr (record { span = span; own_start = start; shape = roll-Shape shape })

  -- the same expression where these channels are open
  pub data SameExpression (opened : List Binding) : Expr → Expression → Type 0 where
    number : (span : Span) (start n : ℕ) →
        SameExpression opened (shaped span start (Shape-F.Number n))
        (expression.Constant (record { bits = n; width = least_width_of n }))
    element : (span : Span) (start : ℕ) (name : Name) (v : Word) → IsElement at.types name v →
        SameExpression opened (shaped span start (Shape-F.Name name)) (expression.Constant v)
    variable : (span : Span) (start : ℕ) (name : Name) (u : VariableUse) (w : ℕ) → SameVariable name start u w →
        SameExpression opened (shaped span start (Shape-F.Name name)) (expression.Variable u w)
    received : (span : Span) (start : ℕ) (name : Name) (b : Binding) (w : ℕ) →
        IsChannel (reads w) name b → In b opened →
        SameExpression opened (shaped span start (Shape-F.Name name)) (expression.Received b w)
    binary : (span : Span) (start : ℕ) (op : Operator) (d e : Expr) (f g : Expression) →
        SameExpression opened d f → SameExpression opened e g →
        SameExpression opened (shaped span start (Shape-F.Binary op d e)) (expression.Binary op f g)
    complement : (span : Span) (start : ℕ) (e : Expr) (f : Expression) → SameExpression opened e f →
        SameExpression opened (shaped span start (Shape-F.Not e)) (expression.Not f)
    cast : (span : Span) (start : ℕ) (e : Expr) (type : TypeName) (f : Expression) (w : ℕ) →
        SameExpression opened e f → TypeHasThisAlone at.visible type w →
        SameExpression opened (shaped span start (Shape-F.Cast e type)) (expression.Cast f w)

  -- ---- commands

  -- the value of a label
  abbrev pub HasValue : LabelValue → ℕ → Type 0
  HasValue (label.Number n) value = value ≡ n
  HasValue (label.Name name) value = (v : Word) × IsElement at.types name v × (value ≡ v.bits)

  abbrev pub SameLabel : Label → ℕ → Type 0
  SameLabel l value = HasValue l.value value

  mutual
    -- the same command where these channels are open, on the line of its first token
    pub data SameCommand : List Binding → written_command.Command → Command → Type 0 where
      on_line : (opened : List Binding) (span : Span) (a : written_action.Action) (b : Action) →
          SameAction opened a b →
          SameCommand opened (written.roll-Command (record { span = span; action = a }))
          (roll-Command (record { line = span.line; action = b }))

    -- each is the same
    pub data SameCommands : List Binding → List written_command.Command → List Command → Type 0 where
      no_commands : (opened : List Binding) → SameCommands opened [] []
      more_commands : (opened : List Binding) (c : written_command.Command) (d : Command)
          (cs : List written_command.Command) (ds : List Command) →
          SameCommand opened c d → SameCommands opened cs ds → SameCommands opened (c ∷ cs) (d ∷ ds)

    -- so is what stands behind an `else`, if anything does
    pub data SameLast : List Binding → Option written_command.Command → Option Command → Type 0 where
      no_last : (opened : List Binding) → SameLast opened None None
      the_last : (opened : List Binding) (c : written_command.Command) (d : Command) →
          SameCommand opened c d → SameLast opened (Some c) (Some d)

    -- the same arms of an `if`
    pub data SameGuarded : List Binding → List written_guarded.Guarded → List Guarded → Type 0 where
      no_guarded : (opened : List Binding) → SameGuarded opened [] []
      more_guarded : (opened : List Binding) (e : Expr) (f : Expression) (c : written_command.Command) (d : Command)
          (arms : List written_guarded.Guarded) (these : List Guarded) →
          SameExpression opened e f → SameCommand opened c d → SameGuarded opened arms these →
          SameGuarded opened (written.roll-Guarded (record { guard = e; body = c }) ∷ arms)
          (roll-Guarded (record { guard = f; body = d }) ∷ these)

    -- the same arms of a `case`
    pub data SameLabelled : List Binding → List written_case_arm.CaseArm → List Labelled → Type 0 where
      no_labelled : (opened : List Binding) → SameLabelled opened [] []
      more_labelled : (opened : List Binding) (labels : List Label) (values : List ℕ) (c : written_command.Command)
          (d : Command) (arms : List written_case_arm.CaseArm) (these : List Labelled) →
          OneByOne SameLabel labels values → SameCommand opened c d → SameLabelled opened arms these →
          SameLabelled opened (written.roll-CaseArm (record { labels = labels; body = c }) ∷ arms)
          (roll-Labelled (record { labels = values; body = d }) ∷ these)

    -- the same arms of a `select` or an `arbitrate`: inside of each its channel is open too
    pub data SameArms : List Binding → List written_arm.Arm → List Arm → Type 0 where
      no_arms : (opened : List Binding) → SameArms opened [] []
      more_arms : (opened : List Binding) (x : Identifier) (u : ChannelUse) (c : written_command.Command) (d : Command)
          (arms : List written_arm.Arm) (these : List Arm) →
          SameChannel opened begins x u → SameCommand (opened ++ u.channel ∷ []) c d → SameArms opened arms these →
          SameArms opened (written.roll-Arm (record { channel = x; body = c }) ∷ arms)
          (roll-Arm (record { channel = u; body = d }) ∷ these)

    -- does the same, one case a form
    pub data SameAction : List Binding → written_action.Action → Action → Type 0 where
      continue : (opened : List Binding) → SameAction opened (written.roll-Action Action-F.Continue) action.Continue
      halt : (opened : List Binding) → SameAction opened (written.roll-Action Action-F.Halt) action.Halt
      assign : (opened : List Binding) (x : Identifier) (u : VariableUse) (w : ℕ) (e : Expr) (f : Expression) →
          SameVariable x.name x.span.start u w → SameExpression opened e f →
          SameAction opened (written.roll-Action (Action-F.Assign x e)) (action.Assign u w f)
      send : (opened : List Binding) (x : Identifier) (u : ChannelUse) (w : ℕ) (e : Expr) (f : Expression) →
          SameChannel opened (sends w) x u → SameExpression opened e f →
          SameAction opened (written.roll-Action (Action-F.Send x e)) (action.Send u w f)
      receive : (opened : List Binding) (x y : Identifier) (u : ChannelUse) (v : VariableUse) (w room : ℕ) →
          SameChannel opened (receives w) x u → SameVariable y.name y.span.start v room →
          SameAction opened (written.roll-Action (Action-F.Receive x y)) (action.Receive u v)
      sync : (opened : List Binding) (x : Identifier) (u : ChannelUse) → SameChannel opened meets x u →
          SameAction opened (written.roll-Action (Action-F.Sync x)) (action.Sync u)
      loop : (opened : List Binding) (c : written_command.Command) (d : Command) → SameCommand opened c d →
          SameAction opened (written.roll-Action (Action-F.Loop c)) (action.Loop d)
      while : (opened : List Binding) (e : Expr) (f : Expression) (c : written_command.Command) (d : Command) →
          SameExpression opened e f → SameCommand opened c d →
          SameAction opened (written.roll-Action (Action-F.While e c)) (action.While f d)
      test : (opened : List Binding) (arms : List written_guarded.Guarded) (these : List Guarded)
          (last : Option written_command.Command) (end : Option Command) →
          SameGuarded opened arms these → SameLast opened last end →
          SameAction opened (written.roll-Action (Action-F.If arms last)) (action.If these end)
      -- no two labels have one value
      case : (opened : List Binding) (e : Expr) (f : Expression) (arms : List written_case_arm.CaseArm)
          (these : List Labelled) (last : Option written_command.Command) (end : Option Command) →
          SameExpression opened e f → SameLabelled opened arms these → AllDiffer (all_labels these) →
          SameLast opened last end →
          SameAction opened (written.roll-Action (Action-F.Case e arms last)) (action.Case f these end)
      -- inside of it the channel is open too
      input : (opened : List Binding) (x : Identifier) (u : ChannelUse) (w : ℕ) (c : written_command.Command)
          (d : Command) → SameChannel opened (receives w) x u → SameCommand (opened ++ u.channel ∷ []) c d →
          SameAction opened (written.roll-Action (Action-F.Input x c)) (action.Input u d)
      -- no two arms are on one channel
      select : (opened : List Binding) (arms : List written_arm.Arm) (these : List Arm) →
          SameArms opened arms these → AllDiffer (arm_channels these) →
          SameAction opened (written.roll-Action (Action-F.Select arms)) (action.Select these)
      arbitrate : (opened : List Binding) (first second : written_arm.Arm) (these : List Arm) →
          SameArms opened (first ∷ second ∷ []) these → AllDiffer (arm_channels these) →
          SameAction opened (written.roll-Action (Action-F.Arbitrate first second)) (action.Arbitrate these)
      sequence : (opened : List Binding) (cs : List written_command.Command) (ds : List Command) →
          SameCommands opened cs ds →
          SameAction opened (written.roll-Action (Action-F.Sequence cs)) (action.Sequence ds)
      parallel : (opened : List Binding) (cs : List written_command.Command) (ds : List Command) →
          SameCommands opened cs ds →
          SameAction opened (written.roll-Action (Action-F.Parallel cs)) (action.Parallel ds)
      -- of a procedure before, which has this name and these ports; no channel is passed for two of them
      call : (opened : List Binding) (x : Identifier) (arguments : List Identifier) (place : ℕ) (q : Procedure)
          (us : List ChannelUse) → slice_get at.earlier place ≡ Some q → q.name ≡ x.name →
          SameArguments opened q.ports arguments us → AllDiffer (map (λ (u : ChannelUse). u.channel) us) →
          SameAction opened (written.roll-Action (Action-F.Call x arguments)) (action.Call place us)

-- ---- procedures

-- for the same, with the width of the type, where these are declared
abbrev pub SamePortKind : List Declaration → written_port_kind.PortKind → PortKind → Type 0
SamePortKind outer (port_of.Input type) (port.Input w) = TypeHasThisAlone outer type w
SamePortKind outer (port_of.Output type) (port.Output w) = TypeHasThisAlone outer type w
SamePortKind outer port_of.Sync port.Sync = Unit {0}
SamePortKind outer _ _ = ⊥

abbrev pub SameLocalKind : List Declaration → written_local_kind.LocalKind → LocalKind → Type 0
SameLocalKind outer (local_of.Variable type) (local.Variable w) = TypeHasThisAlone outer type w
SameLocalKind outer (local_of.SharedVariable type) (local.SharedVariable w) = TypeHasThisAlone outer type w
SameLocalKind outer (local_of.Channel type) (local.Channel w) = TypeHasThisAlone outer type w
SameLocalKind outer local_of.Sync local.Sync = Unit {0}
SameLocalKind outer _ _ = ⊥

-- a port is what its name is declared as
abbrev pub SamePort : List Declaration → Identifier × written_port_kind.PortKind → Port → Type 0
SamePort outer x q = (q.name ≡ x.0.name) × (q.declared ≡ x.0.span.start) × SamePortKind outer x.1 q.kind

abbrev pub SameLocal : List Declaration → Identifier × written_local_kind.LocalKind → Local → Type 0
SameLocal outer x l = (l.name ≡ x.0.name) × (l.declared ≡ x.0.span.start) × SameLocalKind outer x.1 l.kind

-- the names that a procedure declares, in order, each with its kind
abbrev pub ports_declared : List written_port.Port → List (Identifier × written_port_kind.PortKind)
ports_declared ports = flat_map (λ (d : written_port.Port). with_kind d.kind d.names) ports

abbrev pub locals_declared : List written_local.Local → List (Identifier × written_local_kind.LocalKind)
locals_declared locals = flat_map (λ (d : written_local.Local). with_kind d.kind d.names) locals

-- the same procedure behind these types and these procedures, which became those
abbrev pub SameProcedure : List TypeDeclaration → List written_procedure.Procedure → List Procedure →
    written_procedure.Procedure → Procedure → Type 0
SameProcedure types before earlier p q =
    (q.name ≡ p.name.name)
    × OneByOne (SamePort (outside types before)) (ports_declared p.ports) q.ports
    × OneByOne (SameLocal (outside types before)) (locals_declared p.locals) q.locals
    × SameCommand (record {
      types = types;
      earlier = earlier;
      visible = visible_in types before p;
      ports = q.ports;
      locals = q.locals;
    }) [] p.body q.body

-- the same procedures, one by one
abbrev pub SameProcedures : List TypeDeclaration → List written_procedure.Procedure → List Procedure →
    List written_procedure.Procedure → List Procedure → Type 0
SameProcedures types before earlier [] [] = Unit {0}
SameProcedures types before earlier [] (q ∷ qs) = ⊥
SameProcedures types before earlier (p ∷ ps) [] = ⊥
SameProcedures types before earlier (p ∷ ps) (q ∷ qs) =
    SameProcedure types before earlier p q × SameProcedures types (before ++ p ∷ []) (earlier ++ q ∷ []) ps qs

-- An accepted description becomes the same procedures.
abbrev pub TreeStaysTheSame : Type 0
TreeStaysTheSame =
    (d : Description) (procedures : List Procedure) → found_description d ≡ Ok procedures →
    SameProcedures d.types [] [] d.procedures procedures
