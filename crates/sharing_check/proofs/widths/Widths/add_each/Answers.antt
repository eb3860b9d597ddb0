use Rattle.std.proofs.Common.{ℕ, ◌∷◌, nat_eq, sym, ap, ◌∙◌, subst}
use Rattle.std.proofs.lemmas.Map.Keys.{IsDistinct-tail}
use Rattle.std.specs.List.{IsDistinct}
use Rattle.std.specs.Map.{keys_of}
use Rattle.sharing_check.specs.declared.widths.Width.{Width}
use Rattle.sharing_check.specs.internal.Counting.{join, table_of_widths, listed}
use Rattle.sharing_check.proofs.CountTables.{join_none, join_entry}
use Rattle.sharing_check.proofs.widths.Widths.add_each.Goals as goal

-- the entry goes in
pub loop-channel-preserved : goal.loop-channel-preserved
loop-channel-preserved c =
    let how = c.args.how in
    let l = c.loop-channel in
    let e : ℕ × Width = (c.in-Some.channel.now, c.in-Some.width.now) in
    let rest = c.next.new.self in
    let apart : IsDistinct nat_eq (keys_of (e ∷ rest)) = subst (λ es. IsDistinct nat_eq (keys_of es)) c.in-Some.ensures.steps l.invariant.apart in
    record {
      both = ap (λ t. join how t (listed rest)) c.in_ok-add.ensures
          ∙ (join_entry how l.self.by_channel.entries e rest apart
          ∙ (ap (λ es. join how (table_of_widths l.self) (listed es)) (sym c.in-Some.ensures.steps) ∙ l.invariant.both));
      apart = IsDistinct-tail nat_eq e.0 (keys_of rest) apart;
    }

-- no entry is left
pub returns : goal.returns
returns c =
    let l = c.loop-channel in
    sym (join_none c.args.how l.self.by_channel.entries)
    ∙ (ap (λ es. join c.args.how (table_of_widths l.self) (listed es)) (sym c.in-None.ensures.steps.0) ∙ l.invariant.both)
