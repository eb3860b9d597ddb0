-- Parts that are gone through one after another: what one more of them adds.
use Rattle.std.proofs.Common.{◌≡◌, ℕ, ◌+◌, ◌<◌, List, ◌∷◌, length, get_or, drop, map, ap, sym, ◌∙◌, rules}
use Rattle.std.proofs.lemmas.List.{at_drop_more}
use Rattle.system.specs.Residual.{Residual}
use Rattle.system.specs.Translation.{OnChannel, residual_of}
use Rattle.system.specs.internal.ArmParts.{guarded_of, labelled_of, arm_of}
use Rattle.system.specs.declared.command.Action.TheFolds.{the_lemmas}
use Rattle.system.specs.declared.command.Arm.{Arm}
use Rattle.system.specs.declared.command.Guarded.{Guarded}
use Rattle.system.specs.declared.command.Labelled.{Labelled}
use Rattle.system.specs.declared.system.Variable.{Variable}
use Rattle.sharing_check.specs.declared.widths.Together.TheVariants.{InOneBranch, InBranches}
use Rattle.sharing_check.specs.internal.Counting as counting
use Rattle.sharing_check.specs.internal.Counting.{Table, adding, arms_in_turn, join, receive, side_by_side, used_by, uses}
use Rattle.sharing_check.specs.internal.Gathering as model
use Rattle.sharing_check.specs.internal.Gathering.{Gathered, Gathers, all_beside, beside, gathering, gathering_arm, gathering_guarded, gathering_labelled, reading}

module _ {A : Type 0} (parts : List A) (i : ℕ) (part : A) (within : i < length parts) (here : part ≡ get_or parts i part) where
  -- what is said of the part and those behind it is said of all that were left
  turn : {Y : Type 0} (F : List A → Y) → F (part ∷ drop (i + 1) parts) ≡ F (drop i parts)
  turn F = ap (λ (p : A). F (p ∷ drop (i + 1) parts)) here ∙ sym (at_drop_more F parts i part within)

  -- what a part touches
  pub touched_more : (gather : A → Gathers) (found more : Gathered) → more ≡ gather part found
      → model.in_turn (map gather (drop (i + 1) parts)) more ≡ model.in_turn (map gather (drop i parts)) found
  touched_more gather found more is =
      ap (model.in_turn (map gather (drop (i + 1) parts))) is ∙ turn (λ (ps : List A). model.in_turn (map gather ps) found)

  -- what a branch touches
  pub beside_more : (variables : List Variable) (gather : A → Gathers) (found more : Gathered) → more ≡ beside variables (gather part) found
      → all_beside variables (map gather (drop (i + 1) parts)) more ≡ all_beside variables (map gather (drop i parts)) found
  beside_more variables gather found more is =
      ap (all_beside variables (map gather (drop (i + 1) parts))) is ∙ turn (λ (ps : List A). all_beside variables (map gather ps) found)

  -- how many use a channel in a part
  pub counted_more : (residual : A → Residual) (t more : Table) → more ≡ adding t (residual part)
      → counting.in_turn more (map residual (drop (i + 1) parts)) ≡ counting.in_turn t (map residual (drop i parts))
  counted_more residual t more is =
      ap (λ (u : Table). counting.in_turn u (map residual (drop (i + 1) parts))) is ∙ turn (λ (ps : List A). counting.in_turn t (map residual ps))

  -- the same of the body of an arm
  pub body_more : {B : Type 0} (arm : A → B) (body : B → Residual) (t more : Table) → more ≡ adding t (body (arm part))
      → counting.in_turn more (map body (map arm (drop (i + 1) parts))) ≡ counting.in_turn t (map body (map arm (drop i parts)))
  body_more arm body t more is =
      ap (λ (u : Table). counting.in_turn u (map body (map arm (drop (i + 1) parts)))) is
      ∙ turn (λ (ps : List A). counting.in_turn t (map body (map arm ps)))

  -- the same of an arm behind an input
  pub opened_more : (arm : A → OnChannel) (t opened more : Table)
      → opened ≡ join InOneBranch t (uses (arm part).channel receive) → more ≡ adding opened (arm part).body
      → arms_in_turn more (map arm (drop (i + 1) parts)) ≡ arms_in_turn t (map arm (drop i parts))
  opened_more arm t opened more opened_is is =
      ap (λ (u : Table). arms_in_turn u (map arm (drop (i + 1) parts))) (is ∙ ap (λ (u : Table). adding u (arm part).body) opened_is)
      ∙ turn (λ (ps : List A). arms_in_turn t (map arm ps))

  -- the same of a branch
  pub branch_more : (residual : A → Residual) (t branch more : Table)
      → branch ≡ used_by (residual part) → more ≡ join InBranches t branch
      → side_by_side more (map residual (drop (i + 1) parts)) ≡ side_by_side t (map residual (drop i parts))
  branch_more residual t branch more branch_is is =
      ap (λ (u : Table). side_by_side u (map residual (drop (i + 1) parts))) (is ∙ ap (join InBranches t) branch_is)
      ∙ turn (λ (ps : List A). side_by_side t (map residual ps))

-- ---- arms

pub guarded_touches : (variables : List Variable) (a : Guarded) (g : Gathered)
    → gathering variables a.body (reading a.guard g) ≡ gathering_guarded variables a g
guarded_touches variables a g = search (rules, the_lemmas)

pub labelled_touches : (variables : List Variable) (a : Labelled) (g : Gathered) → gathering variables a.body g ≡ gathering_labelled variables a g
labelled_touches variables a g = search (rules, the_lemmas)

pub arm_touches : (variables : List Variable) (a : Arm) (g : Gathered) → gathering variables a.body g ≡ gathering_arm variables a g
arm_touches variables a g = search (rules, the_lemmas)

pub guarded_body : (a : Guarded) → residual_of a.body ≡ (guarded_of a).body
guarded_body a = search (rules, the_lemmas)

pub labelled_body : (a : Labelled) → residual_of a.body ≡ (labelled_of a).body
labelled_body a = search (rules, the_lemmas)

pub arm_body : (a : Arm) → residual_of a.body ≡ (arm_of a).body
arm_body a = search (rules, the_lemmas)

pub arm_channel : (a : Arm) → a.channel.number ≡ (arm_of a).channel
arm_channel a = search (rules, the_lemmas)
