-- Two moves now and a possible third, all at places apart, add up in the width of a channel without data.
use Rattle.std.proofs.Common.{ℕ, ◌+◌, ◌*◌, ◌≤◌, List, [], inl, inr, ⊎_elim, subst, arith, le_trans}
use Rattle.std.proofs.Math.Nat.{le-max_left}
use Rattle.runs.specs.Moves.{Place, Move, Local}
use Rattle.address.specs.Places.{Apart}
use Rattle.system.specs.Residual.{Residual, done, halted, inside, beside, assign, send, receive, sync, held, loop, while, test, choose, closing, drain}
use Rattle.runs.specs.Events.{Located}
use Rattle.sharing_rule.specs.Measure.{amount, syncing}
use Rattle.runs.proofs.public.WellFormed.{WellFormed}
use Rattle.runs.proofs.Adding.{sums}
use Rattle.runs.proofs.Later.{Later, later_inside, later_beside, after_child}
use Rattle.runs.proofs.Clash.{count, counted, later_counted, clash, lone, bare, under_ordered, under_branch}

-- what three moves count
abbrev pub three_count : ℕ → Move → Move → Move → ℕ
three_count d m n o = count (syncing d) m + count (syncing d) n + count (syncing d) o

-- two moves possible now and a possible third, all apart, add up
pub three : (d : ℕ) (r : Residual) (a : Place) (m : Move) (t : Residual) (b : Place) (n : Move) (q : Residual) (ls : List Located) (z : Place) (o : Move) →
    WellFormed r → Local r a m t → Local r b n q → Later r ls z o → Apart a b → Apart a z → Apart b z → three_count d m n o ≤ amount (syncing d) r
three d done a m t b n q ls z o w h k j p p' p'' = elim h [ ]
three d halted a m t b n q ls z o w h k j p p' p'' = elim h [ ]
three d (inside i child next) a m t b n q ls z o w (c, s, e, h, _) (x, u, f, k, _) j p p' p'' =
    ⊎_elim
    (λ y. le_trans
    (three d child c m s x n u y.1 y.0 o w.0 h k y.3 (under_ordered i a b c x e f p) (under_ordered i a z c y.0 e y.2 p')
    (under_ordered i b z x y.0 f y.2 p''))
    (le-max_left _ _))
    (λ y. absurd (after_child i next y.0 c z o w.1 w.2 y.1 (subst (λ v. Apart v z) e p')))
    (later_inside i child next ls z o j)
three d (beside i child rest) a m t b n q ls z o w (inl (c, s, e, h, _)) (inl (x, u, f, k, _)) j p p' p'' =
    ⊎_elim
    (λ y. let one = three d child c m s x n u y.1 y.0 o w.0 h k y.3 (under_branch i a b c x e f p) (under_branch i a z c y.0 e y.2 p')
    (under_branch i b z x y.0 f y.2 p'') in
    omega arith)
    (λ y. let one = clash (syncing d) sums child c m s [] x n w.0 h (u, k) (under_branch i a b c x e f p) in
    let other = later_counted (syncing d) sums rest y.0 z o y.1 in
    omega arith)
    (later_beside i child rest ls z o j)
three d (beside i child rest) a m t b n q ls z o w (inl (c, s, e, h, _)) (inr (u, k, _)) j p p' p'' =
    ⊎_elim
    (λ y. let one = clash (syncing d) sums child c m s y.1 y.0 o w.0 h y.3 (under_branch i a z c y.0 e y.2 p') in
    let other = counted (syncing d) sums rest b n u k in
    omega arith)
    (λ y. let one = counted (syncing d) sums child c m s h in
    let other = clash (syncing d) sums rest b n u y.0 z o w.1 k y.1 p'' in
    omega arith)
    (later_beside i child rest ls z o j)
three d (beside i child rest) a m t b n q ls z o w (inr (s, h, _)) (inl (x, u, f, k, _)) j p p' p'' =
    ⊎_elim
    (λ y. let one = clash (syncing d) sums child x n u y.1 y.0 o w.0 k y.3 (under_branch i b z x y.0 f y.2 p'') in
    let other = counted (syncing d) sums rest a m s h in
    omega arith)
    (λ y. let one = counted (syncing d) sums child x n u k in
    let other = clash (syncing d) sums rest a m s y.0 z o w.1 h y.1 p' in
    omega arith)
    (later_beside i child rest ls z o j)
three d (beside i child rest) a m t b n q ls z o w (inr (s, h, _)) (inr (u, k, _)) j p p' p'' =
    ⊎_elim
    (λ y. let one = clash (syncing d) sums rest a m s [] b n w.1 h (u, k) p in
    let other = later_counted (syncing d) sums child y.1 y.0 o y.3 in
    omega arith)
    (λ y. let one = three d rest a m s b n u y.0 z o w.1 h k y.1 p p' p'' in
    omega arith)
    (later_beside i child rest ls z o j)
three d (assign x w e) a m t b n q ls z o _ (f, _, _) k j p p' p'' = bare a b _ f p
three d (send c w e) a m t b n q ls z o _ (f, _) k j p p' p'' = lone 0 a b _ f p
three d (receive c x) a m t b n q ls z o w (f, _, _) k j p p' p'' = bare a b _ f p
three d (sync c) a m t b n q ls z o w (f, _) k j p p' p'' = lone 0 a b _ f p
three d (held c) a m t b n q ls z o w (f, _, _) k j p p' p'' = lone 1 a b _ f p
three d (loop i body) a m t b n q ls z o w (f, _, _) k j p p' p'' = lone (2 * i) a b _ f p
three d (while i e body) a m t b n q ls z o w (f, _) k j p p' p'' = lone (2 * i) a b _ f p
three d (test g arms) a m t b n q ls z o w (f, _) k j p p' p'' = lone 0 a b _ f p
three d (choose channels arms) a m t b n q ls z o w (f, _, _, _, _, _, _) k j p p' p'' = lone 0 a b _ f p
three d (closing c) a m t b n q ls z o w (f, _, _) k j p p' p'' = lone 2 a b _ f p
three d (drain c i) a m t b n q ls z o w (f, _, _) k j p p' p'' = lone i a b _ f p
