-- The word of a good tree with two open edges is nested.
--
--   Nests, nests      how the test `nested` goes on over a tree: the edges left open begin at its vertices
--   whole_nested      the whole word is nested
--   whole_valid       and valid for kind 2
use Prim.Native.Nat.{ℕ, suc, ◌<◌}
use native.Mathlib.Nat.{le_refl}
use native.Mathlib.Omega.{arith}
use mathlib.Core.Path.{◌≡◌, refl, sym, ap, subst, ◌∙◌}
use mathlib.Core.Bool.{true, false, false≢true}
use mathlib.Core.List.{List, [], ◌∷◌, ◌++◌, append-nil, append_assoc}
use lib.ListN.{length, length-append}
use borrow.Author.Tests.{lt-ltb}
use Rattle.model.specs.Numbers.{elem}
use Rattle.model.specs.Map.{is_family, dart_count_fits}
use Rattle.model.specs.Traversal.{Letter, up, first, second}
use Rattle.words.specs.Word.{nested, valid}
use Rattle.words.proofs.Validity.{valid_of}
use Rattle.node_types.specs.Tree.{Tree, fork, free, late, soon, tips, letters, whole, net, good}
use Rattle.node_types.specs.Above.{Above, nil, one}
use Rattle.node_types.proofs.Above.{above_append, above_less, above_head, above_tail, long_cons}
use Rattle.node_types.proofs.Trees.{good_left, good_right, free_net, free_good, late_good, soon_good}

-- over the tree t, from the state n, here, below, opens: `later` vertices are entered then, and edges from `news` are open
pub record Nests (t : Tree) (n here : ℕ) (below opens : List ℕ) (w : List Letter) : Type 0 where
  pub later : ℕ
  pub news : List ℕ
  pub more : n < later
  pub many : length news ≡ net t
  pub above : Above n news
  pub same : nested false n here below opens (letters t w) ≡ nested false later here below (news ++ opens) w

pub nests : (t : Tree) → good t ≡ true → (n here : ℕ) (below opens : List ℕ) (w : List Letter) → Nests t n here below opens w
unfolding nested letters net
nests (fork a b) g n here below opens w =
    let i = nests a (good_left a b g) (suc n) n (here ∷ below) opens (letters b (up ∷ w)) in
    let j = nests b (good_right a b g) i.later n (here ∷ below) (i.news ++ opens) (up ∷ w) in
    let m = i.more in
    record {
      later = j.later;
      news = j.news ++ i.news;
      more = let k = j.more in omega arith;
      many = let x = i.many in let y = j.many in let z = length-append j.news i.news in omega arith;
      above = above_append (above_less (omega arith) j.above) (above_less (omega arith) i.above);
      same = i.same ∙ j.same ∙ ap (λ (x : List ℕ). nested false j.later here below x w) (sym (append_assoc j.news i.news opens));
    }
nests (free a) g n here below opens w =
    let i = nests a (free_good a g) (suc n) n (here ∷ below) opens (second ∷ up ∷ w) in
    let two = free_net a g in
    let many = i.many in
    let (y, ys, e) = long_cons i.news (omega arith) in
    let high : Above (suc n) (y ∷ ys) = subst (Above (suc n)) e i.above in
    let low = above_head high in
    record {
      later = i.later;
      news = ys;
      more = let k = i.more in omega arith;
      many = let x : length (y ∷ ys) ≡ net a = ap length (sym e) ∙ many in omega arith;
      above = above_less (omega arith) (above_tail high);
      same = i.same ∙ ap (λ (x : List ℕ). nested false i.later n (here ∷ below) (x ++ opens) (second ∷ up ∷ w)) e
          ∙ rw (lt-ltb n y low);
    }
nests (late a) g n here below opens w =
    let i = nests a (late_good a g) (suc n) n (here ∷ below) opens (first ∷ up ∷ w) in
    record {
      later = i.later;
      news = n ∷ i.news;
      more = let k = i.more in omega arith;
      many = ap suc i.many;
      above = one (le_refl n) (above_less (omega arith) i.above);
      same = i.same;
    }
nests (soon a) g n here below opens w =
    let i = nests a (soon_good a g) (suc n) n (here ∷ below) (n ∷ opens) (up ∷ w) in
    record {
      later = i.later;
      news = i.news ++ (n ∷ []);
      more = let k = i.more in omega arith;
      many = let x = i.many in let y = length-append i.news (n ∷ []) in omega arith;
      above = above_append (above_less (omega arith) i.above) (one (le_refl n) nil);
      same = i.same ∙ ap (λ (x : List ℕ). nested false i.later here below x w) (sym (append_assoc i.news (n ∷ []) opens));
    }
nests tips g n here below opens w = record {
  later = suc n;
  news = n ∷ n ∷ [];
  more = omega arith;
  many = refl;
  above = one (le_refl n) (one (le_refl n) nil);
  same = refl;
}

pub whole_nested : (t : Tree) → good t ≡ true → net t ≡ 2 → nested false 1 0 [] [] (whole t) ≡ true
unfolding whole nested
whole_nested t g two =
    let i = nests t g 1 0 [] [] (second ∷ second ∷ []) in
    i.same ∙ ap (λ (x : List ℕ). nested false i.later 0 [] x (second ∷ second ∷ [])) (append-nil i.news) ∙ go i.later i.news (i.many ∙ two) i.above
  where
    go : (n : ℕ) (xs : List ℕ) → length xs ≡ 2 → Above 1 xs → nested false n 0 [] xs (second ∷ second ∷ []) ≡ true
    go n (x ∷ y ∷ []) e (one h (one k nil)) = rw (lt-ltb 0 x h, lt-ltb 0 y k)
    go n [] e a = absurd (omega arith)
    go n (x ∷ []) e a = absurd (omega arith)
    go n (x ∷ y ∷ z ∷ xs) e a = absurd (omega arith)

pub whole_valid : (t : Tree) → good t ≡ true → net t ≡ 2 → dart_count_fits (length (whole t)) ≡ true → valid 2 (whole t) ≡ true
unfolding is_family elem
whole_valid t g two fits = valid_of 2 (whole t) refl fits (whole_nested t g two) (λ e. absurd (false≢true e))
