-- What a command adds to what is found: its uses, and the least of the offsets at which they clash.
use Rattle.std.proofs.Common.{◌≡◌, inl, inr, ⊎_elim, ℕ, ◌≤◌, List, [], ◌∷◌, ◌++◌, map, Option, None, Some, MatchOption, Bool, refl, sym, ap, subst, true, false, arith, le_refl}
use Rattle.std.proofs.lemmas.List.{map-append}
use Rattle.address.specs.declared.Entry.{Entry}
use Rattle.address.specs.declared.Entry.TheVariants.{Ordered, Branch}
use Rattle.address.specs.Places.{Apart}
use Rattle.syntax.specs.Lists.{In}
use Rattle.system.specs.declared.expression.Use.{Use}
use Rattle.system.specs.declared.expression.Expression.{Expression}
use Rattle.system.specs.declared.expression.Expression.TheOpen.{Expression-F}
use Rattle.system.specs.declared.expression.Expression.TheFolds.{map-Expression, fold-roll-Expression, ind-Expression}
use Rattle.system.specs.declared.expression.Expression.TheViews.{roll-Expression}
use Rattle.system.specs.declared.system.System.{System}
use Rattle.system.specs.declared.system.Variable.{Variable}
use Rattle.system.specs.declared.command.Action.{Action}
use Rattle.system.specs.declared.command.Arm.{Arm}
use Rattle.system.specs.declared.command.Command.{Command}
use Rattle.system.specs.declared.command.Guarded.{Guarded}
use Rattle.system.specs.declared.command.Labelled.{Labelled}
use Rattle.system.specs.declared.command.Action.TheOpen.{Action-F}
use Rattle.system.specs.declared.command.Action.TheFolds.{map-Action, fold-Action, fold-roll-Action, fold-roll-Arm, fold-roll-Command, fold-roll-Guarded, fold-roll-Labelled, ind-Command}
use Rattle.system.specs.declared.command.Action.TheViews.{roll-Action, roll-Arm, roll-Command, roll-Guarded, roll-Labelled}
use Rattle.sharing_check.specs.internal.Gathering.{gathered, Gathers, mentioned, reading, reading_layer, in_turn, side_by_side, gathering_layer, arm_layer, command_layer, guarded_layer, labelled_layer, gathering, gathering_arm, gathering_guarded, gathering_labelled}
use Rattle.sharing_check.specs.Refusal.{ClashesAt, Least}
use Rattle.sharing_check.specs.Uses.{VariableUse, here, named, named_layer, numbered, reads, uses_layer, arm_uses, command_uses, guarded_uses, labelled_uses, uses_of}
use Rattle.sharing_check.proofs.Adds.{ClashIn, Adds, Good, Unrelated, adds_equal, adds_nothing, adds_use, adds_both}
use Rattle.sharing_check.proofs.AddsLists.{Part, gathers_of, uses_of_parts, adds_in_turn, adds_with_last}
use Rattle.sharing_check.proofs.AddsParallel.{adds_parallel}
use Rattle.sharing_check.proofs.LeastOffsets.{Reaches}
use Rattle.sharing_check.proofs.TableClashes.{shared_in}
use Rattle.sharing_check.proofs.NoClash.{Us, With, action_uses, uses_of_arm, uses_of_guarded, uses_of_labelled}

abbrev read_here : Use → VariableUse
read_here x = here x false

-- they stand at the place itself
read_places : (xs : List Use) (u : VariableUse) → In u (map read_here xs) → u.place ≡ []
read_places [] u i = absurd i
read_places (x ∷ xs) u (inl e) = ap (λ (v : VariableUse). v.place) e
read_places (x ∷ xs) u (inr i) = read_places xs u i

-- and are in another branch than no use
here_unrelated : (us vs : Us) → ((u : VariableUse) → In u us → u.place ≡ []) → Unrelated us vs
here_unrelated us vs here u v i j = (
  λ h. absurd (subst (λ p. Apart p v.place) (here u i) h),
  λ h. none v.place (subst (λ p. Apart v.place p) (here u i) h),
)
  where
    none : (p : List Entry) → Apart p [] → ⊥
    none [] h = h
    none (x ∷ p) h = h

reads_unrelated : (e : Expression) (vs : Us) → Unrelated (reads e) vs
reads_unrelated e vs = here_unrelated (reads e) vs (read_places (named e))

module _ (variables : List Variable) where
  abbrev shared : ℕ → Bool
  shared = shared_in variables

  abbrev AddsUses : Us → Gathers → Type 0
  AddsUses us f = Good shared us f

  -- equal uses, equally found
  good_equal : {us vs : Us} {f k : Gathers} → us ≡ vs → f ≡ k → AddsUses vs k → AddsUses us f
  good_equal {us = us} {vs = vs} {f = f} {k = k} e i a g d = adds_equal shared us vs g (f g) (k g) e (ap (λ (h : Gathers). h g) i) (a g d)

  -- an expression
  abbrev ReadsAdd : Expression → Type 0
  ReadsAdd e = AddsUses (reads e) (reading e)

  layer_reads : (y : Expression-F (With ReadsAdd)) →
      AddsUses (map read_here (named_layer (map-Expression Expression (List Use) named (map-Expression (With ReadsAdd) Expression (λ e. e.0) y))))
      (reading_layer (map-Expression Expression Gathers reading (map-Expression (With ReadsAdd) Expression (λ e. e.0) y)))
  layer_reads (Expression-F.Constant v) = adds_nothing shared
  layer_reads (Expression-F.Variable x w) = λ g d. adds_use shared (here x false) g refl d
  layer_reads (Expression-F.Received c w) = adds_nothing shared
  layer_reads (Expression-F.Binary op a b) =
      good_equal (map-append read_here (named a.0) (named b.0)) refl
      (λ g d. let one = a.1 g d in
      adds_both shared (reads a.0) (reads b.0) g (reading a.0 g) (reading b.0 (reading a.0 g)) one (b.1 (reading a.0 g) one.touched.distinct) (reads_unrelated a.0 (reads b.0)))
  layer_reads (Expression-F.Not a) = a.1
  layer_reads (Expression-F.Cast a w) = a.1

  adds_reads : (e : Expression) → ReadsAdd e
  adds_reads =
      ind-Expression ReadsAdd
      (λ z y e. subst (λ z. ReadsAdd (roll-Expression z)) e
      (good_equal (ap (map read_here) (fold-roll-Expression (List Use) named_layer _)) (fold-roll-Expression Gathers reading_layer _) (layer_reads y)))

  adds_received : (x : Use) → AddsUses (here x true ∷ []) (mentioned x true)
  adds_received x g d = adds_use shared (here x true) g refl d

  adds_written : (x : Use) (e : Expression) → AddsUses (here x true ∷ reads e) (λ g. reading e (mentioned x true g))
  adds_written x e g d =
      let one = adds_received x g d in
      adds_both shared (here x true ∷ []) (reads e) g (mentioned x true g) (reading e (mentioned x true g)) one (adds_reads e (mentioned x true g) one.touched.distinct)
      (here_unrelated (here x true ∷ []) (reads e) (λ u. ⊎_elim (λ is. ap (λ (v : VariableUse). v.place) is) (λ i. absurd i)))

  -- an expression, and what comes after it
  adds_behind_reads : (e : Expression) (us : Us) (f : Gathers) → AddsUses us f → AddsUses (reads e ++ us) (λ g. f (reading e g))
  adds_behind_reads e us f a g d =
      let one = adds_reads e g d in
      adds_both shared (reads e) us g (reading e g) (f (reading e g)) one (a (reading e g) one.touched.distinct) (reads_unrelated e us)

  -- the parts of a command
  abbrev of_action : Action → Gathers
  of_action = fold-Action Gathers Gathers Gathers Gathers Gathers (gathering_layer variables) arm_layer command_layer guarded_layer labelled_layer

  abbrev ActionAdds : Action → Type 0
  ActionAdds a = AddsUses (action_uses a) (of_action a)

  abbrev ArmAdds : Arm → Type 0
  ArmAdds a = AddsUses (uses_of_arm a) (gathering_arm variables a)

  abbrev CommandAdds : Command → Type 0
  CommandAdds c = AddsUses (uses_of c) (gathering variables c)

  abbrev GuardedAdds : Guarded → Type 0
  GuardedAdds a = AddsUses (uses_of_guarded a) (gathering_guarded variables a)

  abbrev LabelledAdds : Labelled → Type 0
  LabelledAdds a = AddsUses (uses_of_labelled a) (gathering_labelled variables a)

  module _ {Z : Type 0} (f : Z → Gathers) (uses : Z → Us) where
    abbrev part : With (λ z. AddsUses (uses z) (f z)) → Part shared
    part y = record { gathers = f y.0; uses = uses y.0; good = y.1 }

    -- lists that were made in two steps are those of the parts
    gathers_are : (ys : List (With (λ z. AddsUses (uses z) (f z)))) → gathers_of shared (map part ys) ≡ map f (map (λ y. y.0) ys)
    gathers_are [] = refl
    gathers_are (y ∷ ys) = ap (λ fs. f y.0 ∷ fs) (gathers_are ys)

    uses_are : (ys : List (With (λ z. AddsUses (uses z) (f z)))) → uses_of_parts shared (map part ys) ≡ map uses (map (λ y. y.0) ys)
    uses_are [] = refl
    uses_are (y ∷ ys) = ap (λ us. uses y.0 ∷ us) (uses_are ys)

    adds_all : (ys : List (With (λ z. AddsUses (uses z) (f z)))) →
        AddsUses (numbered Ordered 0 (map uses (map (λ y. y.0) ys))) (in_turn (map f (map (λ y. y.0) ys)))
    adds_all ys =
        good_equal (ap (numbered Ordered 0) (sym (uses_are ys))) (ap in_turn (sym (gathers_are ys)))
        (adds_in_turn shared 0 (map part ys))

    adds_all_and_last : (ys : List (With (λ z. AddsUses (uses z) (f z)))) (last : With CommandAdds) →
        AddsUses (numbered Ordered 0 (map uses (map (λ y. y.0) ys) ++ uses_of last.0 ∷ [])) (λ g. gathering variables last.0 (in_turn (map f (map (λ y. y.0) ys)) g))
    adds_all_and_last ys last =
        good_equal (ap (λ us. numbered Ordered 0 (us ++ uses_of last.0 ∷ [])) (sym (uses_are ys))) (ap (λ fs g. gathering variables last.0 (in_turn fs g)) (sym (gathers_are ys)))
        (adds_with_last shared 0 (map part ys) (record { gathers = gathering variables last.0; uses = uses_of last.0; good = last.1 }))

    adds_beside : (ys : List (With (λ z. AddsUses (uses z) (f z)))) →
        AddsUses (numbered Branch 0 (map uses (map (λ y. y.0) ys))) (side_by_side variables (map f (map (λ y. y.0) ys)))
    adds_beside ys =
        good_equal (ap (numbered Branch 0) (sym (uses_are ys))) (ap (side_by_side variables) (sym (gathers_are ys)))
        (adds_parallel variables (map part ys))

  -- a command whose uses are those of its parts
  abbrev Built : Action-F (With ActionAdds) (With ArmAdds) (With CommandAdds) (With GuardedAdds) (With LabelledAdds) → Type 0
  Built y =
      AddsUses
      (uses_layer (map-Action Action Arm Command Guarded Labelled Us Us Us Us Us action_uses uses_of_arm uses_of uses_of_guarded uses_of_labelled
      (map-Action (With ActionAdds) (With ArmAdds) (With CommandAdds) (With GuardedAdds) (With LabelledAdds) Action Arm Command Guarded Labelled
      (λ e. e.0) (λ e. e.0) (λ e. e.0) (λ e. e.0) (λ e. e.0) y)))
      (gathering_layer variables (map-Action Action Arm Command Guarded Labelled Gathers Gathers Gathers Gathers Gathers
      of_action (gathering_arm variables) (gathering variables) (gathering_guarded variables) (gathering_labelled variables)
      (map-Action (With ActionAdds) (With ArmAdds) (With CommandAdds) (With GuardedAdds) (With LabelledAdds) Action Arm Command Guarded Labelled
      (λ e. e.0) (λ e. e.0) (λ e. e.0) (λ e. e.0) (λ e. e.0) y)))

  layer_adds : (y : Action-F (With ActionAdds) (With ArmAdds) (With CommandAdds) (With GuardedAdds) (With LabelledAdds)) → Built y
  layer_adds Action-F.Continue = adds_nothing shared
  layer_adds Action-F.Halt = adds_nothing shared
  layer_adds (Action-F.Assign x w e) = adds_written x e
  layer_adds (Action-F.Send c w e) = adds_reads e
  layer_adds (Action-F.Receive c x) = adds_received x
  layer_adds (Action-F.Sync c) = adds_nothing shared
  layer_adds (Action-F.Loop body) = body.1
  layer_adds (Action-F.While e body) = adds_behind_reads e (uses_of body.0) (gathering variables body.0) body.1
  layer_adds (Action-F.If arms None) = adds_all (gathering_guarded variables) uses_of_guarded arms
  layer_adds (Action-F.If arms (Some last)) = adds_all_and_last (gathering_guarded variables) uses_of_guarded arms last
  layer_adds (Action-F.Case e arms None) = adds_behind_reads e _ _ (adds_all (gathering_labelled variables) uses_of_labelled arms)
  layer_adds (Action-F.Case e arms (Some last)) = adds_behind_reads e _ _ (adds_all_and_last (gathering_labelled variables) uses_of_labelled arms last)
  layer_adds (Action-F.Input c body) = body.1
  layer_adds (Action-F.Select arms) = adds_all (gathering_arm variables) uses_of_arm arms
  layer_adds (Action-F.Arbitrate arms) = adds_all (gathering_arm variables) uses_of_arm arms
  layer_adds (Action-F.Sequence children) = adds_all (gathering variables) uses_of children
  layer_adds (Action-F.Parallel children) = adds_beside (gathering variables) uses_of children

  -- a command adds its uses and their clashes
  pub command_adds : (c : Command) → CommandAdds c
  command_adds =
      ind-Command ActionAdds ArmAdds CommandAdds GuardedAdds LabelledAdds
      (λ z y e. subst (λ z. ActionAdds (roll-Action z)) e
      (good_equal (fold-roll-Action Us Us Us Us Us uses_layer arm_uses command_uses guarded_uses labelled_uses _)
      (fold-roll-Action Gathers Gathers Gathers Gathers Gathers (gathering_layer variables) arm_layer command_layer guarded_layer labelled_layer _) (layer_adds y)))
      (λ z y e. subst (λ z. ArmAdds (roll-Arm z)) e
      (good_equal (fold-roll-Arm Us Us Us Us Us uses_layer arm_uses command_uses guarded_uses labelled_uses _)
      (fold-roll-Arm Gathers Gathers Gathers Gathers Gathers (gathering_layer variables) arm_layer command_layer guarded_layer labelled_layer _) y.body.1))
      (λ z y e. subst (λ z. CommandAdds (roll-Command z)) e
      (good_equal (fold-roll-Command Us Us Us Us Us uses_layer arm_uses command_uses guarded_uses labelled_uses _)
      (fold-roll-Command Gathers Gathers Gathers Gathers Gathers (gathering_layer variables) arm_layer command_layer guarded_layer labelled_layer _) y.action.1))
      (λ z y e. subst (λ z. GuardedAdds (roll-Guarded z)) e
      (good_equal (fold-roll-Guarded Us Us Us Us Us uses_layer arm_uses command_uses guarded_uses labelled_uses _)
      (fold-roll-Guarded Gathers Gathers Gathers Gathers Gathers (gathering_layer variables) arm_layer command_layer guarded_layer labelled_layer _)
      (adds_behind_reads y.guard (uses_of y.body.0) (gathering variables y.body.0) y.body.1)))
      (λ z y e. subst (λ z. LabelledAdds (roll-Labelled z)) e
      (good_equal (fold-roll-Labelled Us Us Us Us Us uses_layer arm_uses command_uses guarded_uses labelled_uses _)
      (fold-roll-Labelled Gathers Gathers Gathers Gathers Gathers (gathering_layer variables) arm_layer command_layer guarded_layer labelled_layer _) y.body.1))

-- the least offset that is found in a system is that of a use that clashes with another one
pub least_is : (system : System) (least : Option ℕ) → least ≡ (gathering system.variables system.main (gathered [] None)).least →
    MatchOption least ((o : ℕ) → ClashesAt system o → ⊥) (λ o. Least (ClashesAt system) o)
least_is system least e = go least e
  where
    a : Adds (shared_in system.variables) (uses_of system.main) (gathered [] None) (gathering system.variables system.main (gathered [] None))
    a = command_adds system.variables system.main (gathered [] None) tt

    there : (o : ℕ) → ClashesAt system o → ClashIn (shared_in system.variables) (uses_of system.main) o
    there o k = (k.0, k.1, k.2, k.3, record { apart = k.4.apart; same = k.4.same; not_shared = k.4.not_shared; one_writes = k.4.one_writes }, k.5)

    back : (o : ℕ) → ClashIn (shared_in system.variables) (uses_of system.main) o → ClashesAt system o
    back o k = (k.0, k.1, k.2, k.3, record { apart = k.4.apart; same = k.4.same; not_shared = k.4.not_shared; one_writes = k.4.one_writes }, k.5)

    both_ways : (m n : ℕ) → m ≤ n → n ≤ m → m ≡ n
    both_ways m n h k = omega arith

    found : (least : Option ℕ) → least ≡ (gathering system.variables system.main (gathered [] None)).least → (o : ℕ) → ClashesAt system o → Reaches least o
    found least e o k = subst (λ l. Reaches l o) (sym e) (a.finds o (there o k))

    go : (least : Option ℕ) → least ≡ (gathering system.variables system.main (gathered [] None)).least →
        MatchOption least ((o : ℕ) → ClashesAt system o → ⊥) (λ o. Least (ClashesAt system) o)
    go None e = λ o k. found None e o k
    go (Some m) e =
        ⊎_elim
        (λ h. absurd h)
        (λ c. (subst (λ o. ClashesAt system o) (both_ways c.0 m c.2 (found (Some m) e c.0 (back c.0 c.1))) (back c.0 c.1), λ o k. found (Some m) e o k))
        (a.sound m (subst (λ l. Reaches l m) e (le_refl m)))
