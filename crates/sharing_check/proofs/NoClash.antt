-- In a command whose uses do not clash, a variable that one branch writes is used by no other.
use Rattle.std.proofs.Common.{◌≡◌, ◌⊎◌, inl, inr, ⊎_elim, ℕ, suc, List, [], ◌∷◌, ◌++◌, map, None, Some, refl, sym, ap, subst, false}
use Rattle.address.specs.declared.Entry.TheVariants.{Ordered, Branch}
use Rattle.syntax.specs.Lists.{In}
use Rattle.system.specs.Expression.{variables, variables_of_all, Decision, decision_variables}
use Rattle.system.specs.Residual.{Residual, Arms, test}
use Rattle.system.specs.Translation.{OnChannel, OnGuard, OnLabels, in_sequence, in_parallel, arms_of, if_of, choose_of, action_layer, arm_layer, command_layer, guarded_layer, labelled_layer, expression_of, residual_of}
use Rattle.system.specs.declared.expression.Expression.{Expression}
use Rattle.system.specs.declared.command.Action.{Action}
use Rattle.system.specs.declared.command.Arm.{Arm}
use Rattle.system.specs.declared.command.Command.{Command}
use Rattle.system.specs.declared.command.Guarded.{Guarded}
use Rattle.system.specs.declared.command.Labelled.{Labelled}
use Rattle.system.specs.declared.command.Action.TheOpen.{Action-F}
use Rattle.system.specs.declared.command.Action.TheFolds.{map-Action, fold-Action, fold-Arm, fold-Guarded, fold-Labelled, fold-roll-Action, fold-roll-Arm, fold-roll-Command, fold-roll-Guarded, fold-roll-Labelled, ind-Command}
use Rattle.system.specs.declared.command.Action.TheViews.{roll-Action, roll-Arm, roll-Command, roll-Guarded, roll-Labelled}
use Rattle.sharing_check.specs.Uses.{VariableUse, numbered, reads, uses_layer, arm_uses, command_uses, guarded_uses, labelled_uses, uses_of}
use Rattle.sharing_rule.specs.Rule.{is_shared}
use Rattle.sharing_check.specs.Laws.{ClashFreeKeepsTheRule}
use Rattle.sharing_check.proofs.FitsParts.{Used, Fits, FitsArms, fits_right, used_left, used_right, used_behind, written_right, free_right}
use Rattle.sharing_check.proofs.FitsLists.{Part, fits_sequence, fits_parallel, fits_arms, fits_arms_else}
use Rattle.sharing_check.proofs.NamesRead.{reads-used}

abbrev pub Us : Type 0
Us = List VariableUse

-- what each part of a command is to do
abbrev of_action : Action → Residual
of_action = fold-Action Residual OnChannel Residual OnGuard OnLabels action_layer arm_layer command_layer guarded_layer labelled_layer

abbrev of_arm : Arm → OnChannel
of_arm = fold-Arm Residual OnChannel Residual OnGuard OnLabels action_layer arm_layer command_layer guarded_layer labelled_layer

abbrev of_guarded : Guarded → OnGuard
of_guarded = fold-Guarded Residual OnChannel Residual OnGuard OnLabels action_layer arm_layer command_layer guarded_layer labelled_layer

abbrev of_labelled : Labelled → OnLabels
of_labelled = fold-Labelled Residual OnChannel Residual OnGuard OnLabels action_layer arm_layer command_layer guarded_layer labelled_layer

-- and its uses
abbrev pub action_uses : Action → Us
action_uses = fold-Action Us Us Us Us Us uses_layer arm_uses command_uses guarded_uses labelled_uses

abbrev pub uses_of_arm : Arm → Us
uses_of_arm = fold-Arm Us Us Us Us Us uses_layer arm_uses command_uses guarded_uses labelled_uses

abbrev pub uses_of_guarded : Guarded → Us
uses_of_guarded = fold-Guarded Us Us Us Us Us uses_layer arm_uses command_uses guarded_uses labelled_uses

abbrev pub uses_of_labelled : Labelled → Us
uses_of_labelled = fold-Labelled Us Us Us Us Us uses_layer arm_uses command_uses guarded_uses labelled_uses

-- equal heads and equal rests
cons_same : {X : Type 0} {a b : X} {xs ys : List X} → a ≡ b → xs ≡ ys → a ∷ xs ≡ b ∷ ys
cons_same e f = cc

-- an element with its proof
abbrev pub With : {X : Type 0} → (X → Type 0) → Type 0
With {X = X} P = (x : X) × P x

module _ (x : ℕ) where
  abbrev FitsAction : Action → Type 0
  FitsAction a = Fits x (of_action a) (action_uses a)

  abbrev FitsArm : Arm → Type 0
  FitsArm a = Fits x (of_arm a).body (uses_of_arm a)

  abbrev FitsCommand : Command → Type 0
  FitsCommand c = Fits x (residual_of c) (uses_of c)

  abbrev FitsGuarded : Guarded → Type 0
  FitsGuarded a = Fits x (of_guarded a).body (uses_of_guarded a) × (In x (variables (of_guarded a).guard) → Used x (uses_of_guarded a))

  abbrev FitsLabelled : Labelled → Type 0
  FitsLabelled a = Fits x (of_labelled a).body (uses_of_labelled a)

  -- a command as a part
  abbrev command_part : With FitsCommand → Part x
  command_part y = record { residual = residual_of y.0; uses = uses_of y.0; fits = y.1 }

  abbrev arm_part : With FitsArm → Part x
  arm_part y = record { residual = (of_arm y.0).body; uses = uses_of_arm y.0; fits = y.1 }

  abbrev guarded_part : With FitsGuarded → Part x
  guarded_part y = record { residual = (of_guarded y.0).body; uses = uses_of_guarded y.0; fits = y.1.0 }

  abbrev labelled_part : With FitsLabelled → Part x
  labelled_part y = record { residual = (of_labelled y.0).body; uses = uses_of_labelled y.0; fits = y.1 }

  -- lists that were made in three steps are those of the parts
  command_residuals : (ys : List (With FitsCommand)) → map (λ (p : Part x). p.residual) (map command_part ys) ≡ map residual_of (map (λ y. y.0) ys)
  command_residuals [] = refl
  command_residuals (y ∷ ys) = ap (λ rs. residual_of y.0 ∷ rs) (command_residuals ys)

  command_lists : (ys : List (With FitsCommand)) → map (λ (p : Part x). p.uses) (map command_part ys) ≡ map uses_of (map (λ y. y.0) ys)
  command_lists [] = refl
  command_lists (y ∷ ys) = ap (λ us. uses_of y.0 ∷ us) (command_lists ys)

  bodies : {Z D : Type 0} (P : Z → Type 0) (part : With P → Part x) (f : Z → D) (body : D → Residual) →
      ((y : With P) → (part y).residual ≡ body (f y.0)) → (ys : List (With P)) →
      map (λ (p : Part x). p.residual) (map part ys) ≡ map body (map f (map (λ y. y.0) ys))
  bodies P part f body same [] = refl
  bodies P part f body same (y ∷ ys) = cons_same (same y) (bodies P part f body same ys)

  lists : {Z : Type 0} (P : Z → Type 0) (part : With P → Part x) (uses : Z → Us) →
      ((y : With P) → (part y).uses ≡ uses y.0) → (ys : List (With P)) →
      map (λ (p : Part x). p.uses) (map part ys) ≡ map uses (map (λ y. y.0) ys)
  lists P part uses same [] = refl
  lists P part uses same (y ∷ ys) = cons_same (same y) (lists P part uses same ys)

  -- arms and an else
  arms_fit : {Z D : Type 0} (P : Z → Type 0) (part : With P → Part x) (f : Z → D) (body : D → Residual) (uses : Z → Us) →
      ((y : With P) → (part y).residual ≡ body (f y.0)) → ((y : With P) → (part y).uses ≡ uses y.0) →
      (ys : List (With P)) →
      FitsArms x (arms_of (map body (map f (map (λ y. y.0) ys))) None) (numbered Ordered 0 (map uses (map (λ y. y.0) ys)))
  arms_fit P part f body uses same same' ys =
      subst (λ rs. FitsArms x (arms_of rs None) (numbered Ordered 0 (map uses (map (λ y. y.0) ys)))) (bodies P part f body same ys)
      (subst (λ us. FitsArms x (arms_of (map (λ (p : Part x). p.residual) (map part ys)) None) (numbered Ordered 0 us)) (lists P part uses same' ys)
      (fits_arms x 0 (map part ys)))

  arms_fit_else : {Z D : Type 0} (P : Z → Type 0) (part : With P → Part x) (f : Z → D) (body : D → Residual) (uses : Z → Us) →
      ((y : With P) → (part y).residual ≡ body (f y.0)) → ((y : With P) → (part y).uses ≡ uses y.0) →
      (ys : List (With P)) (last : With FitsCommand) →
      FitsArms x (arms_of (map body (map f (map (λ y. y.0) ys))) (Some (residual_of last.0))) (numbered Ordered 0 (map uses (map (λ y. y.0) ys) ++ uses_of last.0 ∷ []))
  arms_fit_else P part f body uses same same' ys last =
      subst (λ rs. FitsArms x (arms_of rs (Some (residual_of last.0))) (numbered Ordered 0 (map uses (map (λ y. y.0) ys) ++ uses_of last.0 ∷ []))) (bodies P part f body same ys)
      (subst (λ us. FitsArms x (arms_of (map (λ (p : Part x). p.residual) (map part ys)) (Some (residual_of last.0))) (numbered Ordered 0 (us ++ uses_of last.0 ∷ []))) (lists P part uses same' ys)
      (fits_arms_else x 0 (map part ys) (command_part last)))

  -- a variable of the guards is used in the arms
  guards_used : (n : ℕ) (ys : List (With FitsGuarded)) (tail : List Us) →
      In x (variables_of_all (map (λ (a : OnGuard). a.guard) (map of_guarded (map (λ y. y.0) ys)))) →
      Used x (numbered Ordered n (map uses_of_guarded (map (λ y. y.0) ys) ++ tail))
  guards_used n [] tail h = absurd h
  guards_used n (y ∷ ys) tail h =
      let us = uses_of_guarded y.0 in
      let vs = numbered Ordered (suc n) (map uses_of_guarded (map (λ y. y.0) ys) ++ tail) in
      ⊎_elim
      (λ k. used_left x _ vs (used_behind x (Ordered n) us (y.1.1 k)))
      (λ k. used_right x _ vs (guards_used (suc n) ys tail k))
      (in_both x _ _ h)
    where
      in_both : (x : ℕ) (ns ms : List ℕ) → In x (ns ++ ms) → In x ns ⊎ In x ms
      in_both x [] ms h = inr h
      in_both x (n ∷ ns) ms (inl e) = inl (inl e)
      in_both x (n ∷ ns) ms (inr h) = ⊎_elim (λ k. inl (inr k)) (λ k. inr k) (in_both x ns ms h)

  -- an `if` without else
  if_fits : (arms : List (With FitsGuarded)) →
      Fits x (if_of (map of_guarded (map (λ y. y.0) arms)) None) (numbered Ordered 0 (map uses_of_guarded (map (λ y. y.0) arms)))
  if_fits arms =
      let f = arms_fit FitsGuarded guarded_part of_guarded (λ (a : OnGuard). a.body) uses_of_guarded (λ y. refl) (λ y. refl) arms in record {
        mentions = ⊎_elim
            (λ k. subst (λ us. Used x (numbered Ordered 0 us)) (append-nil (map uses_of_guarded (map (λ y. y.0) arms))) (guards_used 0 arms [] k))
            (λ k. f.mentions k);
        writes = λ h. f.writes h;
        clear = λ h. f.clear h;
      }
    where
      append-nil : {X : Type 0} (xs : List X) → xs ++ [] ≡ xs
      append-nil [] = refl
      append-nil (y ∷ ys) = ap (λ zs. y ∷ zs) (append-nil ys)

  -- a `case` over its arms
  case_fits : (e : Expression) (d : Decision) (arms : Arms) (us : Us) → decision_variables d ≡ variables (expression_of e) → FitsArms x arms us → Fits x (test d arms) (reads e ++ us)
  case_fits e d arms us same f = record {
    mentions = ⊎_elim
        (λ k. used_left x (reads e) us (reads-used x e (subst (λ ns. In x ns) same k)))
        (λ k. used_right x (reads e) us (f.mentions k));
    writes = λ h. written_right x (reads e) us (f.writes h);
    clear = λ h. f.clear (free_right x (reads e) us h);
  }

  -- arms that wait
  choose_fits : (arms : List (With FitsArm)) → Fits x (choose_of (map of_arm (map (λ y. y.0) arms))) (numbered Ordered 0 (map uses_of_arm (map (λ y. y.0) arms)))
  choose_fits arms =
      let f = arms_fit FitsArm arm_part of_arm (λ (a : OnChannel). a.body) uses_of_arm (λ y. refl) (λ y. refl) arms in
      record { mentions = λ h. f.mentions h; writes = λ h. f.writes h; clear = λ h. f.clear h }

  -- a command whose uses are those of its parts
  abbrev Built : Action-F (With FitsAction) (With FitsArm) (With FitsCommand) (With FitsGuarded) (With FitsLabelled) → Type 0
  Built y =
      Fits x
      (action_layer (map-Action Action Arm Command Guarded Labelled Residual OnChannel Residual OnGuard OnLabels of_action of_arm residual_of of_guarded of_labelled
      (map-Action (With FitsAction) (With FitsArm) (With FitsCommand) (With FitsGuarded) (With FitsLabelled) Action Arm Command Guarded Labelled
      (λ e. e.0) (λ e. e.0) (λ e. e.0) (λ e. e.0) (λ e. e.0) y)))
      (uses_layer (map-Action Action Arm Command Guarded Labelled Us Us Us Us Us action_uses uses_of_arm uses_of uses_of_guarded uses_of_labelled
      (map-Action (With FitsAction) (With FitsArm) (With FitsCommand) (With FitsGuarded) (With FitsLabelled) Action Arm Command Guarded Labelled
      (λ e. e.0) (λ e. e.0) (λ e. e.0) (λ e. e.0) (λ e. e.0) y)))

  layer_fits : (y : Action-F (With FitsAction) (With FitsArm) (With FitsCommand) (With FitsGuarded) (With FitsLabelled)) → Built y
  layer_fits Action-F.Continue = record { mentions = λ h. absurd h; writes = λ h. absurd h; clear = λ h. tt }
  layer_fits Action-F.Halt = record { mentions = λ h. absurd h; writes = λ h. absurd h; clear = λ h. tt }
  layer_fits (Action-F.Assign v w e) = record {
    mentions = ⊎_elim (λ k. (_, inl refl, sym k)) (λ k. let u = reads-used x e k in (u.0, inr u.1, u.2));
    writes = λ k. (_, inl refl, sym k, refl);
    clear = λ h. tt;
  }
  layer_fits (Action-F.Send c w e) = record { mentions = λ k. reads-used x e k; writes = λ h. absurd h; clear = λ h. tt }
  layer_fits (Action-F.Receive c v) = record { mentions = λ k. (_, inl refl, sym k); writes = λ k. (_, inl refl, sym k, refl); clear = λ h. tt }
  layer_fits (Action-F.Sync c) = record { mentions = λ h. absurd h; writes = λ h. absurd h; clear = λ h. tt }
  layer_fits (Action-F.Loop body) = record { mentions = λ h. body.1.mentions h; writes = λ h. body.1.writes h; clear = λ h. body.1.clear h }
  layer_fits (Action-F.While e body) =
      let f = fits_right x (residual_of body.0) (reads e) (uses_of body.0) body.1 in record {
        mentions = ⊎_elim (λ k. used_left x (reads e) (uses_of body.0) (reads-used x e k)) (λ k. f.mentions k);
        writes = λ h. f.writes h;
        clear = λ h. f.clear h;
      }
  layer_fits (Action-F.If arms None) = if_fits arms
  layer_fits (Action-F.If arms (Some last)) =
      let f = arms_fit_else FitsGuarded guarded_part of_guarded (λ (a : OnGuard). a.body) uses_of_guarded (λ y. refl) (λ y. refl) arms last in record {
        mentions = ⊎_elim (λ k. guards_used 0 arms (uses_of last.0 ∷ []) k) (λ k. f.mentions k);
        writes = λ h. f.writes h;
        clear = λ h. f.clear h;
      }
  layer_fits (Action-F.Case e arms None) =
      case_fits e _ _ _ refl (arms_fit FitsLabelled labelled_part of_labelled (λ (a : OnLabels). a.body) uses_of_labelled (λ y. refl) (λ y. refl) arms)
  layer_fits (Action-F.Case e arms (Some last)) =
      case_fits e _ _ _ refl (arms_fit_else FitsLabelled labelled_part of_labelled (λ (a : OnLabels). a.body) uses_of_labelled (λ y. refl) (λ y. refl) arms last)
  layer_fits (Action-F.Input c body) = record {
    mentions = ⊎_elim (λ k. body.1.mentions k) (λ k. absurd k);
    writes = ⊎_elim (λ k. body.1.writes k) (λ k. absurd k);
    clear = λ h. (body.1.clear h, tt);
  }
  layer_fits (Action-F.Select arms) = choose_fits arms
  layer_fits (Action-F.Arbitrate arms) = choose_fits arms
  layer_fits (Action-F.Sequence children) =
      subst (λ rs. Fits x (in_sequence 0 rs) (numbered Ordered 0 (map uses_of (map (λ y. y.0) children)))) (command_residuals children)
      (subst (λ us. Fits x (in_sequence 0 (map (λ (p : Part x). p.residual) (map command_part children))) (numbered Ordered 0 us)) (command_lists children)
      (fits_sequence x 0 (map command_part children)))
  layer_fits (Action-F.Parallel children) =
      subst (λ rs. Fits x (in_parallel 0 rs) (numbered Branch 0 (map uses_of (map (λ y. y.0) children)))) (command_residuals children)
      (subst (λ us. Fits x (in_parallel 0 (map (λ (p : Part x). p.residual) (map command_part children))) (numbered Branch 0 us)) (command_lists children)
      (fits_parallel x 0 (map command_part children)))

  -- what a command is to do, and its uses
  pub command_fits : (c : Command) → Fits x (residual_of c) (uses_of c)
  command_fits =
      ind-Command FitsAction FitsArm FitsCommand FitsGuarded FitsLabelled
      (λ z y e. subst (λ z. FitsAction (roll-Action z)) e
      (fits_equal (fold-roll-Action Residual OnChannel Residual OnGuard OnLabels action_layer arm_layer command_layer guarded_layer labelled_layer _)
      (fold-roll-Action Us Us Us Us Us uses_layer arm_uses command_uses guarded_uses labelled_uses _) (layer_fits y)))
      (λ z y e. subst (λ z. FitsArm (roll-Arm z)) e
      (fits_equal (ap (λ (a : OnChannel). a.body) (fold-roll-Arm Residual OnChannel Residual OnGuard OnLabels action_layer arm_layer command_layer guarded_layer labelled_layer _))
      (fold-roll-Arm Us Us Us Us Us uses_layer arm_uses command_uses guarded_uses labelled_uses _) y.body.1))
      (λ z y e. subst (λ z. FitsCommand (roll-Command z)) e
      (fits_equal (fold-roll-Command Residual OnChannel Residual OnGuard OnLabels action_layer arm_layer command_layer guarded_layer labelled_layer _)
      (fold-roll-Command Us Us Us Us Us uses_layer arm_uses command_uses guarded_uses labelled_uses _) y.action.1))
      (λ z y e. subst (λ z. FitsGuarded (roll-Guarded z)) e
      (guarded_equal (fold-roll-Guarded Residual OnChannel Residual OnGuard OnLabels action_layer arm_layer command_layer guarded_layer labelled_layer _)
      (fold-roll-Guarded Us Us Us Us Us uses_layer arm_uses command_uses guarded_uses labelled_uses _) (
        fits_right x (residual_of y.body.0) (reads y.guard) (uses_of y.body.0) y.body.1,
        λ k. used_left x (reads y.guard) (uses_of y.body.0) (reads-used x y.guard k),
      )))
      (λ z y e. subst (λ z. FitsLabelled (roll-Labelled z)) e
      (fits_equal (ap (λ (a : OnLabels). a.body) (fold-roll-Labelled Residual OnChannel Residual OnGuard OnLabels action_layer arm_layer command_layer guarded_layer labelled_layer _))
      (fold-roll-Labelled Us Us Us Us Us uses_layer arm_uses command_uses guarded_uses labelled_uses _) y.body.1))
    where
      fits_equal : {r q : Residual} {us vs : Us} → r ≡ q → us ≡ vs → Fits x q vs → Fits x r us
      fits_equal {r = r} {q = q} {us = us} e f h = subst (λ (q : Residual). Fits x q us) (sym e) (subst (λ (vs : Us). Fits x q vs) (sym f) h)

      guarded_equal : {a b : OnGuard} {us vs : Us} → a ≡ b → us ≡ vs → Fits x b.body vs × (In x (variables b.guard) → Used x vs) → Fits x a.body us × (In x (variables a.guard) → Used x us)
      guarded_equal {b = b} {us = us} e f h = subst (λ (a : OnGuard). Fits x a.body us × (In x (variables a.guard) → Used x us)) (sym e) (subst (λ (us : Us). Fits x b.body us × (In x (variables b.guard) → Used x us)) (sym f) h)

-- where no two uses clash, one branch alone uses what it writes
pub clash_free : ClashFreeKeepsTheRule
clash_free system clear x not_shared =
    (command_fits x system.main).clear
    (λ u v i j apart is is' w. clear u v i j (record {
      apart = apart;
      same = subst (λ n. u.variable ≡ n) (sym is') is;
      not_shared = subst (λ n. is_shared system n ≡ false) (sym is) not_shared;
      one_writes = w;
    }))
