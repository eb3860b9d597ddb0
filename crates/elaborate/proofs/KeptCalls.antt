-- What each procedure is in a system, wherever it is called.
use Rattle.std.proofs.Common.{◌≡◌, ◌⊎◌, inl, inr, ℕ, zero, suc, ◌+◌, List, [], ◌∷◌, ◌++◌, Option, Some, None, length, take, slice_get, refl, ap, sym, ◌∙◌, subst, arith, append_assoc, length-append}
use Rattle.std.proofs.lemmas.List.{append-nil}
use Rattle.elaborate.specs.Body.{Call, part_of}
use Rattle.elaborate.specs.Calls.{Entered, Expansion, called, missing, copies_of_calls, bodies_of_calls, names_in, expansion_of, expansions_onto}
use Rattle.elaborate.specs.Copies.{copied, all_copied, variables_among, channels_among}
use Rattle.elaborate.specs.Naming.{Names, channel_at, channels_of, number_at}
use Rattle.elaborate.specs.SameShape as same
use Rattle.elaborate.specs.SameShape.{Standing, SameCommand, MeansVariable, MeansChannel, MeanChannels, HasLocals, IsVariable, IsChannel}
use Rattle.elaborate.proofs.KeptNames.{local_variable, local_channel, copy_got}
use Rattle.elaborate.proofs.KeptShape.{Matches, same_channels, command_kept}
use Rattle.system.specs.Named.{prefix_of_call}
use Rattle.system.specs.declared.system.Channel.{Channel}
use Rattle.system.specs.declared.system.System.{System}
use Rattle.system.specs.declared.system.Variable.{Variable}
use Rattle.types.specs.declared.tree.Action.TheOpen.{Action-F}
use Rattle.types.specs.declared.tree.Action.TheViews.{roll-Action, roll-Command}
use Rattle.types.specs.declared.tree.Binding.{Binding}
use Rattle.types.specs.declared.tree.Binding.TheVariants as binding
use Rattle.types.specs.declared.tree.Command.{Command}
use Rattle.types.specs.declared.tree.Local.{Local}
use Rattle.types.specs.declared.tree.Procedure.{Procedure}

-- a number that is there
number_got : (ns : List ℕ) (place n : ℕ) → slice_get ns place ≡ Some n → number_at ns place ≡ n
number_got [] place n is = absurd (let none : None ≡ Some n = is in cc)
number_got (m ∷ ns) zero n is = let same : m ≡ n = cc in same
number_got (m ∷ ns) (suc place) n is = number_got ns place n is

some_same : (p q : Procedure) → Some p ≡ Some q → p ≡ q
some_same p q e = cc

some_none : (p : Procedure) → Some p ≡ None → ⊥
some_none p e = cc

-- a place in lists, one element longer
in_front : (ps : List Procedure) (es : List Expansion) (p : Procedure) (e : Expansion) (k : ℕ) (r : Procedure) → length ps ≡ length es → slice_get ps k ≡ Some r
    → (slice_get (ps ++ p ∷ []) k ≡ Some r) × (take k (ps ++ p ∷ []) ≡ take k ps) × (called (es ++ e ∷ []) k ≡ called es k)
in_front [] es p e k r many is = absurd (some_none r (sym is))
in_front (q ∷ ps) [] p e k r many is = absurd (omega (arith, many))
in_front (q ∷ ps) (f ∷ es) p e zero r many is = (is, refl, refl)
in_front (q ∷ ps) (f ∷ es) p e (suc k) r many is =
    let shorter : length ps ≡ length es = omega (arith, many) in
    let rest = in_front ps es p e k r shorter is in
    (rest.0, ap (λ (qs : List Procedure). q ∷ qs) rest.1, rest.2)

at_end : (ps : List Procedure) (es : List Expansion) (p : Procedure) (e : Expansion) (k : ℕ) → length ps ≡ length es → slice_get ps k ≡ None
    → ((slice_get (ps ++ p ∷ []) k ≡ Some p) × (take k (ps ++ p ∷ []) ≡ ps) × (called (es ++ e ∷ []) k ≡ e))
    ⊎ ((slice_get (ps ++ p ∷ []) k ≡ None) × (called (es ++ e ∷ []) k ≡ missing))
at_end [] [] p e zero many is = inl (refl, refl, refl)
at_end [] [] p e (suc k) many is = inr (refl, refl)
at_end [] (f ∷ es) p e k many is = absurd (omega (arith, many))
at_end (q ∷ ps) [] p e k many is = absurd (omega (arith, many))
at_end (q ∷ ps) (f ∷ es) p e zero many is = absurd (some_none q is)
at_end (q ∷ ps) (f ∷ es) p e (suc k) many is =
    let shorter : length ps ≡ length es = omega (arith, many) in
    elim (at_end ps es p e k shorter is) [
      | inl last ↦ inl (last.0, ap (λ (qs : List Procedure). q ∷ qs) last.1, last.2)
      | inr past ↦ inr past
    ]

-- a system that has these copies
module _ (system : System) (total : List Local) (variables : system.variables ≡ variables_among total) (channels : system.channels ≡ channels_among total) where
  -- how a procedure stands where it is entered so
  abbrev standing : List Procedure → Procedure → Entered → Standing
  standing earlier p entered = record { earlier = earlier; procedure = p; prefix = entered.prefix; ports = entered.ports }

  -- what becomes of the procedure, over these before it, is it, wherever it is entered
  abbrev pub IsShown : List Procedure → Procedure → Expansion → Type 0
  IsShown earlier p e = (entered : Entered) (more : List Local) → entered.before ++ (e.copies entered.prefix ++ more) ≡ total
      → HasLocals system (standing earlier p entered) × SameCommand system (standing earlier p entered) 0 p.body (0 + length (part_of p.body).calls) (e.body entered)

  -- so it is with each of these procedures
  pub record At (earlier : List Procedure) (es : List Expansion) (k : ℕ) : Type 0 where
    pub there : (p : Procedure) → slice_get earlier k ≡ Some p → IsShown (take k earlier) p (called es k)
    pub nowhere : slice_get earlier k ≡ None → called es k ≡ missing

  module _ (earlier : List Procedure) (es : List Expansion) (are : (k : ℕ) → At earlier es k) (p : Procedure) (entered : Entered) where
    abbrev own : List Local
    own = all_copied entered.prefix p.locals

    abbrev names : Names
    names = names_in p entered

    abbrev at : Standing
    at = standing earlier p entered

    -- how a call of it enters a procedure
    abbrev inner : ℕ → List Local → Call → Entered
    inner passed before c = record { prefix = prefix_of_call entered.prefix (passed + 1); before = before; ports = channels_of names c.arguments }

    abbrev call_on : ℕ → Call → Command
    call_on line c = roll-Command (record { line = line; action = roll-Action (Action-F.Call c.procedure c.arguments) })

    -- the body of a call
    one_call : (passed : ℕ) (before more : List Local) (c : Call) (line : ℕ) → MeanChannels system at c.arguments (channels_of names c.arguments)
        → before ++ ((called es c.procedure).copies (prefix_of_call entered.prefix (passed + 1)) ++ more) ≡ total
        → SameCommand system at passed (call_on line c) (passed + 1) ((called es c.procedure).body (inner passed before c))
    one_call passed before more c line mean whole = by (slice_get earlier c.procedure) refl
      where
        by : (found : Option Procedure) → slice_get earlier c.procedure ≡ found
            → SameCommand system at passed (call_on line c) (passed + 1) ((called es c.procedure).body (inner passed before c))
        by (Some q) is =
            same.called at line passed c.procedure (0 + length (part_of q.body).calls) c.arguments q (channels_of names c.arguments)
            ((called es c.procedure).body (inner passed before c)) is mean
            ((are c.procedure).there q is (inner passed before c) more whole).0 ((are c.procedure).there q is (inner passed before c) more whole).1
        by None is =
            subst (λ (e : Expansion). SameCommand system at passed (call_on line c) (passed + 1) (e.body (inner passed before c)))
            (sym ((are c.procedure).nowhere is)) (same.missing at line passed c.procedure c.arguments is)

    variable_meant : (rest : List Local) → entered.before ++ ((own ++ rest)) ≡ total → (place : ℕ) → MeansVariable system at place (number_at names.locals place)
    variable_meant rest whole place l is =
        subst (λ (vs : List Variable). IsVariable (entered.prefix ++ l.name) l.kind (slice_get vs (number_at names.locals place)))
        (ap (λ (all : List Local). variables_among all) whole ∙ sym variables)
        (local_variable entered.before own rest place (copied entered.prefix l) (copy_got entered.prefix p.locals place l is))

    channel_meant : (rest : List Local) → entered.before ++ ((own ++ rest)) ≡ total → (b : Binding) → MeansChannel system at b (channel_at names b)
    channel_meant rest whole (binding.Port place) = λ channel is. number_got entered.ports place channel is
    channel_meant rest whole (binding.Local place) = λ l is.
        subst (λ (cs : List Channel). IsChannel (entered.prefix ++ l.name) l.declared l.kind (slice_get cs (number_at names.locals place)))
        (ap (λ (all : List Local). channels_among all) whole ∙ sym channels)
        (local_channel entered.before own rest place (copied entered.prefix l) (copy_got entered.prefix p.locals place l is))

    module _ (rest : List Local) (whole : entered.before ++ (own ++ rest) ≡ total) where
      abbrev means_variables : (place : ℕ) → MeansVariable system at place (number_at names.locals place)
      means_variables = variable_meant rest whole

      abbrev means_channels : (b : Binding) → MeansChannel system at b (channel_at names b)
      means_channels = channel_meant rest whole

      calls_match : (passed : ℕ) (before more : List Local) (cs : List Call) → before ++ (copies_of_calls es entered.prefix passed cs ++ more) ≡ total
          → Matches system at names means_variables means_channels passed cs (bodies_of_calls es names entered.prefix before passed cs)
      calls_match passed before more [] all = tt
      calls_match passed before more (c ∷ cs) all =
          let own_copies = (called es c.procedure).copies (prefix_of_call entered.prefix (passed + 1)) in
          let others = copies_of_calls es entered.prefix (passed + 1) cs in
          let first : before ++ (own_copies ++ (others ++ more)) ≡ total =
          ap (λ (ls : List Local). before ++ ls) (sym (append_assoc own_copies others more)) ∙ all in
          let next : (before ++ own_copies) ++ (others ++ more) ≡ total = append_assoc before own_copies (others ++ more) ∙ first in (
            λ line. one_call passed before (others ++ more) c line (same_channels system at names means_variables means_channels c.arguments) first,
            calls_match (passed + 1) (before ++ own_copies) more cs next,
          )

    procedure_shown : (more : List Local) → entered.before ++ ((expansion_of es p).copies entered.prefix ++ more) ≡ total
        → HasLocals system at × SameCommand system at 0 p.body (0 + length (part_of p.body).calls) ((expansion_of es p).body entered)
    procedure_shown more all =
        let cs = (part_of p.body).calls in
        let copies = copies_of_calls es entered.prefix 0 cs in
        let whole : entered.before ++ (own ++ (copies ++ more)) ≡ total =
        ap (λ (ls : List Local). entered.before ++ ls) (sym (append_assoc own copies more)) ∙ all in
        let behind : (entered.before ++ own) ++ (copies ++ more) ≡ total = append_assoc entered.before own (copies ++ more) ∙ whole in
        let meant = means_variables (copies ++ more) whole in
        let channelled = means_channels (copies ++ more) whole in (
          λ place. (number_at names.locals place, meant place, channelled (binding.Local place)),
          command_kept system at names meant channelled p.body 0 (bodies_of_calls es names entered.prefix (entered.before ++ own) 0 cs)
              (calls_match (copies ++ more) whole 0 (entered.before ++ own) more cs behind),
        )

  -- ---- all procedures

  -- one procedure more
  one_more : (earlier : List Procedure) (es : List Expansion) (p : Procedure) (e : Expansion) → length earlier ≡ length es → ((k : ℕ) → At earlier es k)
      → IsShown earlier p e → (k : ℕ) → At (earlier ++ p ∷ []) (es ++ e ∷ []) k
  one_more earlier es p e many are shown k = by (slice_get earlier k) refl
    where
      by : (found : Option Procedure) → slice_get earlier k ≡ found → At (earlier ++ p ∷ []) (es ++ e ∷ []) k
      by (Some r) is =
          let front = in_front earlier es p e k r many is in
          record {
            there = λ q found.
                let same : r ≡ q = some_same r q (sym front.0 ∙ found) in
                subst (λ (ps : List Procedure). IsShown ps q (called (es ++ e ∷ []) k)) (sym front.1)
                (subst (λ (f : Expansion). IsShown (take k earlier) q f) (sym front.2)
                (subst (λ (t : Procedure). IsShown (take k earlier) t (called es k)) same ((are k).there r is)));
            nowhere = λ none. absurd (some_none r (sym front.0 ∙ none));
          }
      by None is =
          elim (at_end earlier es p e k many is) [
            | inl last ↦ record {
              there = λ q found.
                  let same : p ≡ q = some_same p q (sym last.0 ∙ found) in
                  subst (λ (ps : List Procedure). IsShown ps q (called (es ++ e ∷ []) k)) (sym last.1)
                  (subst (λ (f : Expansion). IsShown earlier q f) (sym last.2)
                  (subst (λ (t : Procedure). IsShown earlier t e) same shown));
              nowhere = λ none. absurd (some_none p (sym last.0 ∙ none));
            }
            | inr past ↦ record {
              there = λ q found. absurd (some_none q (sym found ∙ past.0));
              nowhere = λ none. past.1;
            }
          ]

  pub all_shown : (earlier : List Procedure) (es : List Expansion) → length earlier ≡ length es → ((k : ℕ) → At earlier es k) → (ps : List Procedure) (k : ℕ)
      → At (earlier ++ ps) (expansions_onto es ps) k
  all_shown earlier es many are [] k = subst (λ (qs : List Procedure). At qs es k) (sym (append-nil earlier)) (are k)
  all_shown earlier es many are (p ∷ ps) k =
      let e = expansion_of es p in
      let longer : length (earlier ++ p ∷ []) ≡ length (es ++ e ∷ []) = omega (arith, many, length-append earlier (p ∷ []), length-append es (e ∷ [])) in
      subst (λ (qs : List Procedure). At qs (expansions_onto (es ++ e ∷ []) ps) k) (append_assoc earlier (p ∷ []) ps)
      (all_shown (earlier ++ p ∷ []) (es ++ e ∷ []) longer
      (one_more earlier es p e many are (λ entered more whole. procedure_shown earlier es are p entered more whole)) ps k)

  none_shown : (k : ℕ) → At [] [] k
  none_shown k = record { there = λ p found. absurd (some_none p (sym found)); nowhere = λ none. refl }

  -- the root, over those before it
  pub root_shown : (earlier : List Procedure) (p : Procedure) → IsShown earlier p (expansion_of (expansions_onto [] earlier) p)
  root_shown earlier p entered more whole =
      procedure_shown earlier (expansions_onto [] earlier) (all_shown [] [] refl none_shown earlier) p entered more whole
