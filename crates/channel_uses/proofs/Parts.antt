-- The numbers of the uses within the parts of a command.
use Rattle.std.proofs.Common.{◌≡◌, ℕ, List, [], ◌∷◌, ◌++◌, length, map, refl, sym, ap, ◌∙◌, subst, append_assoc, append-nil, length-append, Option, option_map, rules}
use Rattle.process_tree.specs.Code.{Sender, Code, continues, halts, moves_once, may_be_held, repeats, decides, awaits, in_turn, side_by_side, drains, Codes, no_code, code}
use Rattle.process_tree.specs.Remaining.{channel_of}
use Rattle.system.specs.Expression.{Expression, Decision}
use Rattle.system.specs.Translation.{expression_of, decision_of}
use Rattle.process_tree.specs.Translation.{row_of}
use Rattle.process_tree.specs.View.{sender_view, code_view}
use Rattle.process_tree.specs.declared.code.Sender as made_sender
use Rattle.process_tree.specs.declared.code.Await.{Await}
use Rattle.process_tree.specs.declared.code.Code as made
use Rattle.process_tree.specs.declared.code.Code.TheFolds.{the_lemmas}
use Rattle.process_tree.specs.declared.code.Decide.{Decide}
use Rattle.process_tree.specs.declared.code.Repeat.{Repeat}
use Rattle.process_tree.specs.declared.code.Row.{Row}
use Rattle.channel_uses.specs.Uses.{used, all_used}
use Rattle.channel_uses.specs.internal.Parts.{first, end, parts, Spans, IsPart, AreParts, AddedUses, Numbered, NumberedRow}
use Rattle.channel_uses.specs.declared.part.Part.{Part}

-- a part has the uses of its command
pub part-spans : (c : Code) (n : ℕ) (p : Part) → IsPart c n p → Spans n (used c) p
part-spans continues n p h = h
part-spans halts n p h = h
part-spans (moves_once o) n p h = h
part-spans (may_be_held s) n p h = h
part-spans (repeats g c) n p h = part-spans c n p h
part-spans (decides d cs) n p h = h.0
part-spans (awaits ds cs) n p h = h.0
part-spans (in_turn cs) n p h = h.0
part-spans (side_by_side cs) n p h = h.0
part-spans (drains c) n p h = h

-- some commands of a row are numbered, and the rest not yet
pub record RowSoFar (all rest : Codes) (old new : List ℕ) (ps : List Part) : Type 0 where
  pub added : new ++ all_used rest ≡ old ++ all_used all
  pub are : (rs : List Part) → AreParts rest (length new) rs → AreParts all (length old) (ps ++ rs)

-- none is
pub row-start : (all : Codes) (old : List ℕ) → RowSoFar all all old old []
row-start all old = record { added = refl; are = λ rs h. h }

-- one more is
pub row-more : (all rest : Codes) (c : Code) (old new newer : List ℕ) (ps : List Part) (p : Part) → RowSoFar all (code c rest) old new ps → Numbered c new newer p → RowSoFar all rest old newer (ps ++ p ∷ [])
row-more all rest c old new newer ps p h k = record {
  added = ap (λ xs. xs ++ all_used rest) k.added ∙ append_assoc new (used c) (all_used rest) ∙ h.added;
  are = λ rs r.
      subst (AreParts all (length old)) (sym (append_assoc ps (p ∷ []) rs))
      (h.are (p ∷ rs) (k.is, subst (λ n. AreParts rest n rs) (ap length k.added ∙ length-append new (used c)) r));
}

-- all are
pub row-end : (all rest : Codes) (from : ℕ) (old new : List ℕ) (ps : List Part) (p : Part) → RowSoFar all rest old new ps → rest ≡ no_code → first p ≡ from → end p ≡ length new
    → parts p ≡ ps → NumberedRow all from old new p
row-end all rest from old new ps p h none f e is = record {
  added = sym (append-nil new) ∙ ap (λ r. new ++ all_used r) (sym none) ∙ h.added;
  begins = f;
  ends = e;
  are = subst (AreParts all (length old)) (append-nil ps ∙ sym is) (h.are [] (subst (λ r. AreParts r (length new) []) (sym none) refl));
}

-- what may be held, and what is in others
pub repeat-numbered : (g : Option Expression) (c : Code) (old new : List ℕ) (p : Part) → Numbered c old new p → Numbered (repeats g c) old new p
repeat-numbered g c old new p h = record { added = h.added; is = h.is }

pub sender-numbered : (s : Sender) (old new : List ℕ) (p : Part) → AddedUses (channel_of s ∷ []) old new p → Numbered (may_be_held s) old new p
sender-numbered s old new p h = record { added = h.added; is = h.spans }

-- a row that begins with its first command spans what was added
row-spans : (cs : Codes) (n : ℕ) (old new : List ℕ) (p : Part) → n ≡ length old → NumberedRow cs n old new p → Spans (length old) (all_used cs) p
row-spans cs n old new p is h = (h.begins ∙ is, h.ends ∙ ap length h.added ∙ length-append old (all_used cs))

-- arms of a test
pub decides-numbered : (d : Decision) (cs : Codes) (n : ℕ) (old new : List ℕ) (p : Part) → n ≡ length old → NumberedRow cs n old new p → Numbered (decides d cs) old new p
decides-numbered d cs n old new p is h = record { added = h.added; is = (row-spans cs n old new p is h, h.are) }

-- children one after another
pub in-turn-numbered : (cs : Codes) (n : ℕ) (old new : List ℕ) (p : Part) → n ≡ length old → NumberedRow cs n old new p → Numbered (in_turn cs) old new p
in-turn-numbered cs n old new p is h = record { added = h.added; is = (row-spans cs n old new p is h, h.are) }

-- and side by side
pub side-by-side-numbered : (cs : Codes) (n : ℕ) (old new : List ℕ) (p : Part) → n ≡ length old → NumberedRow cs n old new p → Numbered (side_by_side cs) old new p
side-by-side-numbered cs n old new p is h = record { added = h.added; is = (row-spans cs n old new p is h, h.are) }

-- and arms that wait
pub awaits-numbered : (ds : List ℕ) (cs : Codes) (n : ℕ) (old new : List ℕ) (p : Part) → n ≡ length old → NumberedRow cs n old new p → Numbered (awaits ds cs) old new p
awaits-numbered ds cs n old new p is h = record { added = h.added; is = (row-spans cs n old new p is h, h.are) }

-- by what a command is
pub numbered-as : (c d : Code) (old new : List ℕ) (p : Part) → c ≡ d → Numbered d old new p → Numbered c old new p
numbered-as c d old new p e h = subst (λ k. Numbered k old new p) (sym e) h

-- what the commands in memory are
pub is-sender : (c : made.Code) (s g : made_sender.Sender) → c ≡ made.Sender s → g ≡ s → code_view c ≡ may_be_held (sender_view g)
is-sender c s g e f = ap code_view (e ∙ ap made.Sender (sym f)) ∙ search (rules, the_lemmas)

pub is-repeat : (c : made.Code) (r g : Repeat) → c ≡ made.Repeat r → g ≡ r → code_view c ≡ repeats (option_map expression_of g.guard) (code_view g.body)
is-repeat c r g e f = ap code_view (e ∙ ap made.Repeat (sym f)) ∙ search (rules, the_lemmas)

decide-view : (d : Decide) → code_view (made.Decide d) ≡ decides (decision_of d.decision) (row_of (map code_view d.arms))
decide-view d = search (rules, the_lemmas)

pub is-decide : (c : made.Code) (d g : Decide) (xs : List made.Code) → c ≡ made.Decide d → g ≡ d → xs ≡ g.arms → code_view c ≡ decides (decision_of g.decision) (row_of (map code_view xs))
is-decide c d g xs e f is = ap code_view (e ∙ ap made.Decide (sym f)) ∙ decide-view g ∙ ap (λ ys. decides (decision_of g.decision) (row_of (map code_view ys))) (sym is)

await-view : (a : Await) → code_view (made.Await a) ≡ awaits a.channels (row_of (map code_view a.arms))
await-view a = search (rules, the_lemmas)

pub is-await : (c : made.Code) (a g : Await) (xs : List made.Code) → c ≡ made.Await a → g ≡ a → xs ≡ g.arms → code_view c ≡ awaits g.channels (row_of (map code_view xs))
is-await c a g xs e f is = ap code_view (e ∙ ap made.Await (sym f)) ∙ await-view g ∙ ap (λ ys. awaits g.channels (row_of (map code_view ys))) (sym is)

in-turn-view : (r : Row) → code_view (made.InTurn r) ≡ in_turn (row_of (map code_view r.codes))
in-turn-view r = search (rules, the_lemmas)

pub is-in-turn : (c : made.Code) (r g : Row) (xs : List made.Code) → c ≡ made.InTurn r → g ≡ r → xs ≡ g.codes → code_view c ≡ in_turn (row_of (map code_view xs))
is-in-turn c r g xs e f is = ap code_view (e ∙ ap made.InTurn (sym f)) ∙ in-turn-view g ∙ ap (λ ys. in_turn (row_of (map code_view ys))) (sym is)

side-by-side-view : (r : Row) → code_view (made.SideBySide r) ≡ side_by_side (row_of (map code_view r.codes))
side-by-side-view r = search (rules, the_lemmas)

pub is-side-by-side : (c : made.Code) (r g : Row) (xs : List made.Code) → c ≡ made.SideBySide r → g ≡ r → xs ≡ g.codes → code_view c ≡ side_by_side (row_of (map code_view xs))
is-side-by-side c r g xs e f is = ap code_view (e ∙ ap made.SideBySide (sym f)) ∙ side-by-side-view g ∙ ap (λ ys. side_by_side (row_of (map code_view ys))) (sym is)
