use Rattle.std.proofs.Common.{◌≡◌, ◌∙◌, ◌<◌, ℕ, Some, length, length-set, refl, sym, subst, inl, inr, arith}
use Rattle.std.specs.Prelude.{slice_get, slice_set}
use Rattle.std.proofs.lemmas.Bool.{cases_eq}
use Rattle.std.proofs.lemmas.Option.{slice_get-get_or, slice_get_within}
use Rattle.slots.proofs.public.CountLaws.{written-here, written-other}
use Rattle.slots.proofs.edits.count_all.Goals as goal

pub loop-number-init : goal.loop-number-init
loop-number-init c = record { size = refl; left = omega arith; told = λ b n less at. absurd (omega arith) }

pub loop-number-preserved : goal.loop-number-preserved
loop-number-preserved c =
    let number : ℕ = c.loop-number.number in
    let here : ℕ = c.within_block-here.result in
    let inv = c.loop-number.invariant in
    let test = c.loop-number-test.true in
    let left = inv.left in
    let size : length c.loop-number.counts ≡ length c.args.counts.now = inv.size in
    let within : number < length c.loop-number.counts = omega arith in
    let old = slice_get-get_or c.loop-number.counts number 0 within in
    record {
      size = length-set c.loop-number.counts number here ∙ inv.size;
      left = elim c.within_block-here.ensures [
        | inl a ↦ let low = a.0 in let is = a.1 in omega arith
        | inr a ↦ let high = a.0 in let is = a.1 in omega arith
      ];
      told = λ b n less at. elim (cases_eq b number) [
        | inl same ↦
            let value : n ≡ here =
            written-here c.loop-number.counts number here n _ old (subst (λ (k : ℕ). slice_get (slice_set c.loop-number.counts number here) k ≡ Some n) same at) in
            elim c.within_block-here.ensures [
              | inl a ↦ let low = a.0 in let is = a.1 in inr (omega arith, omega arith)
              | inr a ↦ let high = a.0 in let is = a.1 in inl (omega arith, omega arith)
            ]
        | inr differs ↦
            let before : b < number = omega arith in
            inv.told b n before (sym (written-other c.loop-number.counts number b here differs) ∙ at)
      ];
    }

pub returns-clause-counted : goal.returns-clause-counted
returns-clause-counted c = λ b n at.
    let inside = slice_get_within c.loop-number.counts b n at in
    let size = c.loop-number.invariant.size in
    let test = c.loop-number-test.false in
    c.loop-number.invariant.told b n (omega arith) at
