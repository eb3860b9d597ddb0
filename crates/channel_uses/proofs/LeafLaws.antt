-- Leaves on a channel, and on others.
use Rattle.std.proofs.Common.{◌≡◌, ℕ, List, [], ◌∷◌, Bool, true, cond, sym, ap, ◌∙◌, eq-eqb, ne_eqb}
use Rattle.system.specs.Expression.{Store}
use Rattle.process_tree.specs.Code.{Sender, sending, syncing}
use Rattle.process_tree.specs.Remaining.{Received, residual_sender, channel_of}
use Rattle.process_tree.specs.internal.Received.{puts_sender}
use Rattle.local_actions.specs.internal.Listed.{actions_of_residual}
use Rattle.local_actions.specs.Walk.{Walk, added}
use Rattle.local_actions.specs.declared.action.LocalAction.{LocalAction}
use Rattle.local_actions.proofs.public.Walks.{added-none}
use Rattle.channel_uses.specs.OnChannel.{on}
use Rattle.channel_uses.proofs.OnChannel.{dropped}

kept : (b : Bool) (r : LocalAction) (rs : List LocalAction) → b ≡ true → cond b (r ∷ rs) rs ≡ r ∷ rs
kept b r rs h = ap (λ c. cond c (r ∷ rs) rs) h

-- nothing is added
pub none-added : (rs : List LocalAction) (w v : Walk) → rs ≡ [] → v ≡ w → v ≡ added rs w
none-added rs w v e h = h ∙ sym (added-none w) ∙ ap (λ l. added l w) (sym e)

-- all is
pub all-added : (rs qs : List LocalAction) (w v : Walk) → qs ≡ rs → v ≡ added rs w → v ≡ added qs w
all-added rs qs w v e h = h ∙ ap (λ l. added l w) (sym e)

pub sender-there : (e : ℕ) (s : Store) (env : Received) (x : Sender) → channel_of x ≡ e
    → on e (actions_of_residual s (residual_sender (puts_sender env x))) ≡ actions_of_residual s (residual_sender (puts_sender env x))
sender-there e s env (sending d w v) same = kept _ _ [] (eq-eqb d e same)
sender-there e s env (syncing d) same = kept _ _ [] (eq-eqb d e same)

pub sender-elsewhere : (e : ℕ) (s : Store) (env : Received) (x : Sender) → (channel_of x ≡ e → ⊥) → on e (actions_of_residual s (residual_sender (puts_sender env x))) ≡ []
sender-elsewhere e s env (sending d w v) other = dropped _ _ [] (ne_eqb d e other)
sender-elsewhere e s env (syncing d) other = dropped _ _ [] (ne_eqb d e other)
