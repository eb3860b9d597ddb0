-- What is made of a description within the limits is its system, and what was counted before is how large that is.
use Rattle.std.proofs.Common.{◌≡◌, ℕ, zero, suc, ◌+◌, ◌-◌, ◌<◌, ◌≤◌, min, Bool, IsTrue, ◌↔◌, List, [], ◌∷◌, ◌++◌, length, take, map, refl, ap, sym, ◌∙◌, subst, arith, append_assoc, length-append, get_or}
use Rattle.std.proofs.lemmas.List.{append-nil, length-map, take_all}
use Rattle.elaborate.specs.Body.{Call, Part, part_of, nothing_to_do}
use Rattle.elaborate.specs.Calls as calls
use Rattle.elaborate.specs.Calls.{Entered, Expansion, copies_of_calls, bodies_of_calls, names_in, expansion_of, expansions_onto, expansions}
use Rattle.elaborate.specs.Copies.{copied, all_copied, channel_of_port, numbers_behind, variables_among, channels_among}
use Rattle.elaborate.specs.Elaboration.{root_ports, root, port_channels, root_copies, root_entered, main_of, system_of}
use Rattle.elaborate.specs.Environment.{branch_on, branches_from}
use Rattle.elaborate.specs.Fit.{entry_named}
use Rattle.elaborate.specs.Naming.{Names, channels_of}
use Rattle.elaborate.specs.Size.{nothing, plain_nodes, beside, around, command_size, system_size, IsSmall}
use Rattle.elaborate.specs.declared.count.Size.{Size}
use Rattle.elaborate.specs.declared.made.Made.{Made}
use Rattle.elaborate.specs.declared.instance.Instance.{Instance}
use Rattle.elaborate.specs.declared.instance.Entrance.{Entrance}
use Rattle.elaborate.specs.SourceSize as counting
use Rattle.elaborate.specs.SourceSize.{whole, procedure_size, sizes_onto, sent_on, source_size}
use Rattle.elaborate.specs.internal.Instances.{names_of, entrance_of}
use Rattle.elaborate.specs.internal.Makers as makers
use Rattle.elaborate.specs.internal.Makers.{WithMade, ProcedureMaker, next_call, after_call, maker_of, procedure_maker, makers_onto}
use Rattle.elaborate.specs.internal.Making as making
use Rattle.elaborate.specs.internal.Making.{Numbered, locals_onto, instance_of}
use Rattle.elaborate.specs.internal.Walked.{walked_branches, root_channels, root_makes, walked_system}
use Rattle.elaborate.proofs.CopyLemmas.{made_of, numbered, locals_are, ports_are}
use Rattle.elaborate.proofs.Factored.{Bodies, all_made, one_made, in_front, factored}
use Rattle.elaborate.proofs.SystemNodes.{nodes_beside_main, nodes_beside}
use Rattle.elaborate.proofs.Counted.{total_of, nodes_of, own_number, more, none_more, same_sized, Matches, counts}
use Rattle.elaborate.proofs.TreeSizes.{some_node, size_continue}
use Rattle.elaborate.specs.declared.stimulus.Entry.{Entry}
use Rattle.syntax.specs.Texts.{Text}
use Rattle.system.specs.Named.{prefix_of_call}
use Rattle.system.specs.declared.command.Command as tree_command
use Rattle.system.specs.declared.system.Branch.{Branch}
use Rattle.system.specs.declared.system.System.{System}
use Rattle.types.specs.declared.tree.Command.{Command}
use Rattle.types.specs.declared.tree.Local.{Local}
use Rattle.types.specs.declared.tree.Port.{Port}
use Rattle.types.specs.declared.tree.Procedure.{Procedure}

-- ---- lists in step

-- what holds at each place of two lists, with one element more
module _ {A B : Type 0} (P : A → B → Type 0) (x : A) (y : B) where
  pub one_behind : (xs : List A) (ys : List B) (a : A) (b : B) → length xs ≡ length ys → ((i : ℕ) → P (get_or xs i x) (get_or ys i y)) → P a b
      → (i : ℕ) → P (get_or (xs ++ a ∷ []) i x) (get_or (ys ++ b ∷ []) i y)
  one_behind [] [] a b len h k zero = k
  one_behind [] [] a b len h k (suc i) = h i
  one_behind [] (v ∷ ys) a b len h k i = absurd (omega (arith, len))
  one_behind (u ∷ xs) [] a b len h k i = absurd (omega (arith, len))
  one_behind (u ∷ xs) (v ∷ ys) a b len h k zero = h zero
  one_behind (u ∷ xs) (v ∷ ys) a b len h k (suc i) =
      let shorter : length xs ≡ length ys = omega (arith, len) in
      one_behind xs ys a b shorter (λ j. h (suc j)) k i

pub grown : {A B : Type 0} (xs : List A) (ys : List B) (a : A) (b : B) → length xs ≡ length ys → length (xs ++ a ∷ []) ≡ length (ys ++ b ∷ [])
grown xs ys a b e = omega (arith, length-append xs (a ∷ []), length-append ys (b ∷ []), e)

-- ---- bodies of calls

pub bodies_length : (es : List Expansion) (names : Names) (prefix : Text) (before : List Local) (passed : ℕ) (cs : List Call)
    → length (bodies_of_calls es names prefix before passed cs) ≡ length cs
bodies_length es names prefix before passed [] = refl
bodies_length es names prefix before passed (c ∷ cs) =
    let own = prefix_of_call prefix (passed + 1) in
    ap suc (bodies_length es names prefix (before ++ (calls.called es c.procedure).copies own) (passed + 1) cs)

-- each body has a node
some_nodes : (bs : Bodies) → length bs ≤ total_of nodes_of bs
some_nodes [] = omega arith
some_nodes (b ∷ bs) = omega (arith, some_node b, some_nodes bs)

-- a body has no fewer nodes than the bodies of its calls, which are as many as its calls
pub body_bounds : (c : Command) (names : Names) (bs : Bodies) → length bs ≡ length (part_of c).calls
    → (total_of nodes_of bs ≤ (command_size ((part_of c).becomes names bs)).nodes) × (length bs ≤ total_of nodes_of bs)
body_bounds c names bs len =
    let few = (counts [] c).bounds names bs in
    let all_of : take (length (part_of c).calls) bs ≡ bs = take_all (length (part_of c).calls) bs (omega (arith, len)) in
    (rw all_of at few, some_nodes bs)

-- ---- what a maker makes, as long as numbers last

abbrev entrance_for : Entered → Entrance
entrance_for entered = record { ports = entered.ports; prefix = entered.prefix }

abbrev result_of : tree_command.Command → List Local → ℕ → WithMade tree_command.Command
result_of c ls k = (c, made_of ls k)

abbrev bodies_made : Bodies → List Local → ℕ → WithMade Bodies
bodies_made bs ls k = (bs, made_of ls k)

abbrev result_at : ℕ → tree_command.Command → Made → WithMade tree_command.Command
result_at j c made = (c, record made { calls = j })

-- it makes the body, and the copies
abbrev Agrees : ProcedureMaker → Expansion → Type 0
Agrees m e =
    (entered : Entered) (k j : ℕ) → length entered.before + length (e.copies entered.prefix) + nodes_of (e.body entered) ≤ 4294967295
    → after_call j (m (entrance_for entered) (made_of entered.before k)) ≡ result_of (e.body entered) (entered.before ++ e.copies entered.prefix) j

missing_agrees : Agrees makers.missing calls.missing
missing_agrees = λ entered k j bound. ap (λ (ls : List Local). result_of nothing_to_do ls j) (sym (append-nil entered.before))

module _ (ms : List ProcedureMaker) (es : List Expansion) (agree : (p : ℕ) → Agrees (makers.called ms p) (calls.called es p)) where
  -- calls, one after another
  calls_agree : (instance : Instance) (cs : List Call) (before : List Local) (passed : ℕ)
      → passed + length cs ≤ 4294967295
      → length before + length (copies_of_calls es instance.prefix passed cs) + total_of nodes_of (bodies_of_calls es (names_of instance) instance.prefix before passed cs) ≤ 4294967295
      → all_made ms instance cs (made_of before passed)
      ≡ bodies_made (bodies_of_calls es (names_of instance) instance.prefix before passed cs) (before ++ copies_of_calls es instance.prefix passed cs) (passed + length cs)
  calls_agree instance [] before passed last bound =
      let same : passed ≡ passed + 0 = omega arith in
      ap (λ (ls : List Local). bodies_made [] ls passed) (sym (append-nil before)) ∙ ap (bodies_made [] (before ++ [])) same
  calls_agree instance (c ∷ cs) before passed last bound =
      let own = prefix_of_call instance.prefix (passed + 1) in
      let e = calls.called es c.procedure in
      let entered : Entered = record { prefix = own; before = before; ports = channels_of (names_of instance) c.arguments } in
      let body = e.body entered in
      let copies = e.copies own in
      let rest = copies_of_calls es instance.prefix (passed + 1) cs in
      let bodies = bodies_of_calls es (names_of instance) instance.prefix (before ++ copies) (passed + 1) cs in
      let next : next_call (made_of before passed) ≡ passed + 1 = omega (arith, last) in
      let here : length before + length copies + nodes_of body ≤ 4294967295 = omega (arith, bound, length-append copies rest) in
      let last' : passed + 1 + length cs ≤ 4294967295 = omega (arith, last) in
      let there : length (before ++ copies) + length rest + total_of nodes_of bodies ≤ 4294967295 =
      omega (arith, bound, length-append copies rest, length-append before copies) in
      let one : one_made ms instance c (made_of before passed) ≡ result_of body (before ++ copies) (passed + 1) =
      ap (λ n. after_call n (makers.called ms c.procedure (entrance_of instance c.arguments n) (made_of before passed))) next
      ∙ agree c.procedure entered passed (passed + 1) here in
      let number : passed + 1 + length cs ≡ passed + suc (length cs) = omega arith in
      ap (λ (r : WithMade tree_command.Command). in_front r.0 (all_made ms instance cs r.1)) one
      ∙ (ap (in_front body) (calls_agree instance cs (before ++ copies) (passed + 1) last' there)
      ∙ (ap (λ (ls : List Local). bodies_made (body ∷ bodies) ls (passed + 1 + length cs)) (append_assoc before copies rest)
      ∙ ap (bodies_made (body ∷ bodies) (before ++ (copies ++ rest))) number))

  -- a procedure
  procedure_agrees : (p : Procedure) → Agrees (procedure_maker ms p) (expansion_of es p)
  procedure_agrees p entered k j bound =
      let own = all_copied entered.prefix p.locals in
      let before = entered.before ++ own in
      let names = names_in p entered in
      let cs = (part_of p.body).calls in
      let copies = copies_of_calls es entered.prefix 0 cs in
      let bodies = bodies_of_calls es names entered.prefix before 0 cs in
      let instance : Instance = record { ports = entered.ports; locals = numbers_behind entered.before own; prefix = entered.prefix } in
      let len = bodies_length es names entered.prefix before 0 cs in
      let bounds = body_bounds p.body names bodies len in
      let locals : length entered.before + length p.locals ≤ 4294967295 =
      omega (arith, bound, length-append own copies, length-map p.locals (copied entered.prefix)) in
      let last : 0 + length cs ≤ 4294967295 = omega (arith, bound, bounds.0, bounds.1, len) in
      let there : length before + length copies + total_of nodes_of bodies ≤ 4294967295 =
      omega (arith, bound, bounds.0, length-append own copies, length-append entered.before own) in
      ap (λ (n : Numbered). after_call j (maker_of ms p.body (instance_of (entrance_for entered) n) (making.entered n))) (locals_are [] entered.prefix entered.before k p.locals locals)
      ∙ (ap (λ (r : WithMade tree_command.Command). after_call j r) ((factored ms p.body).holds instance (made_of before 0) [])
      ∙ (ap (λ (w : WithMade Bodies). result_at j ((part_of p.body).becomes names (w.0 ++ [])) w.1) (calls_agree instance cs before 0 last there)
      ∙ (ap (λ (bs : Bodies). result_of ((part_of p.body).becomes names bs) (before ++ copies) j) (append-nil bodies)
      ∙ ap (λ (ls : List Local). result_of ((part_of p.body).becomes names bodies) ls j) (append_assoc entered.before own copies))))

-- the procedures in order
agree_onto : (ms : List ProcedureMaker) (es : List Expansion) → length ms ≡ length es → ((p : ℕ) → Agrees (makers.called ms p) (calls.called es p))
    → (ps : List Procedure) (p : ℕ) → Agrees (makers.called (makers_onto ms ps) p) (calls.called (expansions_onto es ps) p)
agree_onto ms es len agree [] = agree
agree_onto ms es len agree (q ∷ ps) =
    agree_onto (ms ++ procedure_maker ms q ∷ []) (es ++ expansion_of es q ∷ [])
    (grown ms es (procedure_maker ms q) (expansion_of es q) len)
    (one_behind Agrees makers.missing calls.missing ms es (procedure_maker ms q) (expansion_of es q) len agree (procedure_agrees ms es agree q)) ps

-- ---- what is counted

-- what is counted of a procedure is its body, and a node for each copy
abbrev IsCounted : Size → Expansion → Type 0
IsCounted s e = (entered : Entered) → s ≡ more (command_size (e.body entered)) (length (e.copies entered.prefix))

missing_counted : IsCounted (counting.around whole nothing) calls.missing
missing_counted = λ entered. sym (size_continue 0) ∙ none_more (command_size nothing_to_do)

module _ (sizes : List Size) (es : List Expansion) (are : (p : ℕ) → IsCounted (get_or sizes p (counting.around whole nothing)) (calls.called es p)) where
  -- how many copies each call has
  abbrev copies_each : Text → ℕ → List Call → List ℕ
  copies_each prefix passed [] = []
  copies_each prefix passed (c ∷ cs) = length ((calls.called es c.procedure).copies (prefix_of_call prefix (passed + 1))) ∷ copies_each prefix (passed + 1) cs

  copies_total : (prefix : Text) (passed : ℕ) (cs : List Call)
      → total_of own_number (take (length cs) (copies_each prefix passed cs)) ≡ length (copies_of_calls es prefix passed cs)
  copies_total prefix passed [] = refl
  copies_total prefix passed (c ∷ cs) =
      let own = (calls.called es c.procedure).copies (prefix_of_call prefix (passed + 1)) in
      omega (arith, copies_total prefix (passed + 1) cs, length-append own (copies_of_calls es prefix (passed + 1) cs))

  calls_match : (names : Names) (prefix : Text) (before : List Local) (passed : ℕ) (cs : List Call)
      → Matches sizes cs (bodies_of_calls es names prefix before passed cs) (copies_each prefix passed cs)
  calls_match names prefix before passed [] = tt
  calls_match names prefix before passed (c ∷ cs) =
      let own = prefix_of_call prefix (passed + 1) in (
        are c.procedure (record { prefix = own; before = before; ports = channels_of names c.arguments }),
        calls_match names prefix (before ++ (calls.called es c.procedure).copies own) (passed + 1) cs,
      )

  procedure_counted : (p : Procedure) → IsCounted (procedure_size whole sizes p) (expansion_of es p)
  procedure_counted p entered =
      let own = all_copied entered.prefix p.locals in
      let cs = (part_of p.body).calls in
      let copies = copies_of_calls es entered.prefix 0 cs in
      let body = (expansion_of es p).body entered in
      let counted = (counts sizes p.body).exact (names_in p entered) (bodies_of_calls es (names_in p entered) entered.prefix (entered.before ++ own) 0 cs) (copies_each entered.prefix 0 cs) (calls_match (names_in p entered) entered.prefix (entered.before ++ own) 0 cs) in
      let total = copies_total entered.prefix 0 cs in
      let nodes : length p.locals + ((command_size body).nodes + total_of own_number (take (length cs) (copies_each entered.prefix 0 cs))) ≡ (command_size body).nodes + length (own ++ copies) =
      omega (arith, total, length-append own copies, length-map p.locals (copied entered.prefix)) in
      ap (beside (plain_nodes (length p.locals))) counted ∙ same_sized _ _ _ _ nodes (omega arith)

counted_onto : (sizes : List Size) (es : List Expansion) → length sizes ≡ length es
    → ((p : ℕ) → IsCounted (get_or sizes p (counting.around whole nothing)) (calls.called es p)) → (ps : List Procedure) (p : ℕ)
    → IsCounted (get_or (sizes_onto whole sizes ps) p (counting.around whole nothing)) (calls.called (expansions_onto es ps) p)
counted_onto sizes es len are [] = are
counted_onto sizes es len are (q ∷ ps) =
    counted_onto (sizes ++ procedure_size whole sizes q ∷ []) (es ++ expansion_of es q ∷ [])
    (grown sizes es (procedure_size whole sizes q) (expansion_of es q) len)
    (one_behind IsCounted (counting.around whole nothing) calls.missing sizes es (procedure_size whole sizes q) (expansion_of es q) len are (procedure_counted sizes es are q)) ps

sizes_length : (sizes : List Size) (ps : List Procedure) → length (sizes_onto whole sizes ps) ≡ length sizes + length ps
sizes_length sizes [] = omega arith
sizes_length sizes (p ∷ ps) =
    omega (arith, sizes_length (sizes ++ procedure_size whole sizes p ∷ []) ps, length-append sizes (procedure_size whole sizes p ∷ []))

-- the nodes and levels of a system, with the copies in one place
abbrev whole_size : List Procedure → List Entry → Size
whole_size ps entries =
    beside (command_size (main_of ps)) (plain_nodes (length (root_ports ps) + sent_on entries (root_ports ps) + length (root_copies ps)))

-- what is counted of a description is how large its system is
pub counted_is : (ps : List Procedure) (entries : List Entry) → source_size ps entries ≡ system_size (system_of ps entries)
counted_is ps entries =
    let sizes = sizes_onto whole [] ps in
    let many : length sizes ≡ length ps = omega (arith, sizes_length [] ps) in
    let n = length (root_ports ps) in
    let v = sent_on entries (root_ports ps) in
    let last = counted_onto [] [] refl (λ p. missing_counted) ps (length ps - 1) (root_entered ps) in
    ap (λ k. beside (get_or sizes (k - 1) (counting.around whole nothing)) (beside (plain_nodes n) (plain_nodes v))) many
    ∙ (ap (λ s. beside s (beside (plain_nodes n) (plain_nodes v))) last
    ∙ (same_sized _ _ _ _ (omega arith) (omega arith) ∙ whole_is ps entries))
  where
    whole_is : (ps : List Procedure) (entries : List Entry) → whole_size ps entries ≡ system_size (system_of ps entries)
    whole_is ps entries = ap (λ n. beside (command_size (main_of ps)) (plain_nodes n)) (nodes_beside ps entries)

-- the test of it, where values are counted up to the last number of 64 bits
pub counted_test : (ps : List Procedure) (entries : List Entry) (ports values : ℕ) (small : Bool)
    → IsTrue small ↔ IsSmall (counting.system_size whole ps ports values)
    → ports ≡ length (root_ports ps) → values ≡ min (sent_on entries (root_ports ps)) 18446744073709551615
    → IsTrue small ↔ IsSmall (system_size (system_of ps entries))
counted_test ps entries ports values small test many is =
    let there : IsSmall (counting.system_size whole ps ports values) → IsSmall (source_size ps entries) =
    λ h. (omega (arith, many, is, h.0), omega (arith, h.1)) in
    let back : IsSmall (source_size ps entries) → IsSmall (counting.system_size whole ps ports values) =
    λ h. (omega (arith, many, is, h.0), omega (arith, h.1)) in (
      λ t. subst IsSmall (counted_is ps entries) (there (test.0 t)),
      λ h. test.1 (back (subst IsSmall (sym (counted_is ps entries)) h)),
    )

-- ---- what is made of a description

branches_same : (entries : List Entry) (place : ℕ) (ports : List Port) → place + length ports ≤ 4294967295
    → walked_branches entries place ports ≡ branches_from entries place ports
branches_same entries place [] h = refl
branches_same entries place (p ∷ ports) h =
    let number : min place 4294967295 ≡ place = omega (arith, h) in
    let more : place + 1 + length ports ≤ 4294967295 = omega (arith, h) in
    ap (λ n. branch_on n p.kind (entry_named entries p.name) ∷ walked_branches entries (place + 1) ports) number
    ∙ ap (λ (bs : List Branch). branch_on place p.kind (entry_named entries p.name) ∷ bs) (branches_same entries (place + 1) ports more)

abbrev system_from : WithMade tree_command.Command → List Branch → System
system_from r bs = record { main = r.0; environment = bs; variables = r.1.variables; channels = r.1.channels }

pub walked_is : (ps : List Procedure) (entries : List Entry) → IsSmall (system_size (system_of ps entries)) → walked_system ps entries ≡ system_of ps entries
walked_is ps entries small =
    let ports = root_ports ps in
    let many : length (port_channels ps) ≡ length ports = length-map ports channel_of_port in
    let beside_main = nodes_beside ps entries in
    let counted : nodes_of (main_of ps) + nodes_beside_main (system_of ps entries) ≤ 16384 = small.0 in
    let nodes : nodes_of (main_of ps) + (length ports + sent_on entries ports + length (root_copies ps)) ≤ 16384 = omega (arith, counted, beside_main) in
    let few : 0 + length ports ≤ 4294967295 = omega (arith, nodes) in
    let bound : length (port_channels ps) + length (root_copies ps) + nodes_of (main_of ps) ≤ 4294967295 = omega (arith, nodes, many) in
    let channels : root_channels ps ≡ numbered (numbers_behind [] (port_channels ps)) (port_channels ps) 0 = ports_are [] [] 0 ports few in
    let makes : root_makes ps ≡ result_of (main_of ps) (port_channels ps ++ root_copies ps) 0 =
    ap (λ (n : Numbered). after_call 0 (makers.called (makers.makers ps) (length ps - 1) (record { ports = n.numbers; prefix = [] }) n.made)) channels
    ∙ agree_onto [] [] refl (λ p. missing_agrees) ps (length ps - 1) (root_entered ps) 0 0 bound in
    ap (λ (r : WithMade tree_command.Command). system_from r (walked_branches entries 0 ports)) makes
    ∙ ap (system_from (result_of (main_of ps) (port_channels ps ++ root_copies ps) 0)) (branches_same entries 0 ports few)
