-- The run does not depend on how the vertices are named. Assumes nothing.
--
--   turn_named            a turn of the machine with other names is the turn with other names
--   run_named             and so is the run
--   run_raised            the name of the next vertex may be any that is higher
--   turn_low              a turn keeps the names low
--   reads_on, reads_paced   the run is a turn, with another name for the next vertex before it and after it, and the run from there
use Prim.Native.Nat.{ℕ, zero, suc, ◌+◌, ◌-◌, ◌≤◌, ◌<◌}
use native.Mathlib.Decide.{dec_lt}
use native.Mathlib.Omega.{arith}
use mathlib.Core.Path.{◌≡◌, refl, sym, ap, ◌∙◌, subst}
use mathlib.Core.Bool.{Bool, true, false, cond}
use mathlib.Core.List.{List, [], ◌∷◌, map}
use lib.Dec.{eqb, ltb}
use lib.ListN.{length}
use borrow.Author.Tests.{lt-ltb, le-ltb}
use Rattle.model.specs.Numbers.{all_below}
use Rattle.model.specs.LabelledTree.{star}
use Rattle.model.specs.Traversal.{Letter, down, up, first, second}
use Rattle.model.proofs.Below.{below_cons, below_head, below_tail, below_mono}
use Rattle.words.specs.Word.{Machine, Turn, done, stuck, goes, close_edge, finish, go_up, go_down, read_bit, turn, closed, leafed, backed, entered}
use Rattle.words.specs.Word.{after, follow, decode}
use Rattle.machine.specs.Reading.{left, run}
use Rattle.machine.proofs.Turns.{Step, closes, rises, leafs, backs, enters, finishes, halts, step}
use Rattle.machine.proofs.Turns.{turn_close, turn_up, turn_star, turn_back, turn_tree, turn_done}
use Rattle.machine.proofs.Runs.{turn_left, run_goes}
use Rattle.naming.specs.Named.{named, enters_at, Names, Low}

length_names : (f : ℕ → ℕ) (xs : List ℕ) → length (map f xs) ≡ length xs
length_names f [] = refl
length_names f (x ∷ xs) = ap suc (length_names f xs)

-- ---- one turn

unfoldable pub turned : (ℕ → ℕ) → Turn → Turn
turned f done = done
turned f stuck = stuck
turned f (goes ls t) = goes ls (named f t)

module _ (f : ℕ → ℕ) (s : Machine) (g : Names f s.n) where
  same_order : (a b : ℕ) → ltb (f a) (f b) ≡ ltb a b
  same_order a b = elim (dec_lt a b) [
    | yes h ↦ lt-ltb (f a) (f b) (g.rises a b h) ∙ sym (lt-ltb a b h)
    | no h ↦ le-ltb (f a) (f b) (not_after h) ∙ sym (le-ltb a b (omega arith))
  ]
    where
      not_after : (a < b → ⊥) → f b ≤ f a
      not_after h = elim (dec_lt b a) [
        | yes l ↦ (let r = g.rises b a l in omega arith)
        | no l ↦ (let e : b ≡ a = omega arith in subst (λ (x : ℕ). f b ≤ f x) e (omega arith))
      ]

  close_named : (opens : List ℕ) → close_edge (named f s) (map f opens) ≡ turned f (close_edge s opens)
  unfolding close_edge turned
  close_named [] = refl
  close_named (o ∷ os) = rw (same_order s.here o) (go (ltb s.here o))
    where
      go : (b : Bool) → cond b (goes (second ∷ []) (closed (named f s) (map f os))) stuck ≡ turned f (cond b (goes (second ∷ []) (closed s os)) stuck)
      go true = refl
      go false = refl

  finish_named : (below opens labels : List ℕ) → finish (map f below) (map f opens) labels ≡ turned f (finish below opens labels)
  unfolding finish turned
  finish_named [] [] [] = refl
  finish_named [] [] (l ∷ ls) = refl
  finish_named [] (o ∷ os) labels = refl
  finish_named (v ∷ vs) opens labels = refl

  up_named : (bs below : List ℕ) → go_up (named f s) bs (map f below) ≡ turned f (go_up s bs below)
  unfolding go_up turned
  up_named bs [] = refl
  up_named bs (v ∷ vs) = refl

  down_named : (bs labels : List ℕ) → go_down (named f s) bs labels ≡ turned f (go_down s bs labels)
  unfolding go_down turned
  down_named [] labels = refl
  down_named (b ∷ bs) [] = refl
  down_named (b ∷ bs) (l ∷ ls) = rw (sym (g.goes_on s.n (omega arith))) (go (eqb l star) (eqb b 0))
    where
      go : (x y : Bool)
          → cond x (goes (down ∷ up ∷ []) (named f (leafed s b bs ls)))
          (cond y (goes (first ∷ []) (backed (named f s) l bs ls)) (goes (down ∷ []) (named f (entered s l (b ∷ bs) ls))))
          ≡ turned f (cond x (goes (down ∷ up ∷ []) (leafed s b bs ls))
          (cond y (goes (first ∷ []) (backed s l bs ls)) (goes (down ∷ []) (entered s l (b ∷ bs) ls))))
      go true y = refl
      go false true = refl
      go false false = refl

  read_named : (bits : List ℕ) → read_bit (named f s) bits ≡ turned f (read_bit s bits)
  unfolding read_bit turned
  read_named [] = finish_named s.below s.opens s.labels
  read_named (b ∷ bs) = rw (up_named bs s.below, down_named bs s.labels) (go (eqb b 0))
    where
      go : (x : Bool) → cond x (turned f (go_up s bs s.below)) (turned f (go_down s bs s.labels))
          ≡ turned f (cond x (go_up s bs s.below) (go_down s bs s.labels))
      go true = refl
      go false = refl

  pub turn_named : turn (named f s) ≡ turned f (turn s)
  unfolding turn turned
  turn_named = rw (close_named s.opens, read_named s.bits) (go (eqb s.label 1))
    where
      go : (x : Bool) → cond x (turned f (close_edge s s.opens)) (turned f (read_bit s s.bits))
          ≡ turned f (cond x (close_edge s s.opens) (read_bit s s.bits))
      go true = refl
      go false = refl

-- ---- the run

-- no vertex is forgotten
Grows : Machine → Turn → Type 0
Grows s done = Unit
Grows s stuck = Unit
Grows s (goes ls t) = s.n ≤ t.n

grows : (s : Machine) → Grows s (turn s)
unfolding Grows
grows s = go (step s)
  where
    as_turn : (t : Turn) → turn s ≡ t → Grows s t → Grows s (turn s)
    as_turn t e h = subst (Grows s) (sym e) h

    go : Step s → Grows s (turn s)
    go (closes o os t e h) = as_turn _ (turn_close s o os t e h) (omega arith)
    go (rises v vs bs t e q) = as_turn _ (turn_up s v vs bs t e q) (omega arith)
    go (leafs b l c bs ls t e z q h) = as_turn _ (turn_star s b l c bs ls t e z q h) (omega arith)
    go (backs b l c bs ls t e z q h k) = as_turn _ (turn_back s b l c bs ls t e z q h k) (omega arith)
    go (enters b l c bs ls t e z q h k) = as_turn _ (turn_tree s b l c bs ls t e z q h k) (omega arith)
    go (finishes t e p q r) = as_turn done (turn_done s t e p q r) tt
    go (halts e) = as_turn stuck e tt

decode_named : (k : ℕ) (f : ℕ → ℕ) (s : Machine) → Names f s.n → decode k (named f s) ≡ decode k s
unfolding decode Grows turned
decode_named zero f s g = refl
decode_named (suc k) f s g = rw (turn_named f s g) (go (turn s) (grows s) (decode_named k f))
  where
    go : (t : Turn) → Grows s t → ((r : Machine) → Names f r.n → decode k (named f r) ≡ decode k r) → follow (decode k) (turned f t) ≡ follow (decode k) t
    go done h ih = refl
    go stuck h ih = refl
    go (goes ls r) h ih = ap (after ls) (ih r (record { rises = g.rises; goes_on = λ a l. g.goes_on a (omega arith) }))

pub run_named : (f : ℕ → ℕ) (s : Machine) → Names f s.n → run (named f s) ≡ run s
unfolding run
run_named f s g = rw (length_names f s.opens) (decode_named _ f s g)

-- ---- a higher name for the next vertex

-- from n on k - n higher
raised : ℕ → ℕ → ℕ → ℕ
raised n k a = cond (ltb a n) a (a + (k - n))

module _ (n k : ℕ) (h : n ≤ k) where
  low : (a : ℕ) → a < n → raised n k a ≡ a
  unfolding raised
  low a l = rw (lt-ltb a n l)

  high : (a : ℕ) → n ≤ a → raised n k a ≡ a + (k - n)
  unfolding raised
  high a l = rw (le-ltb a n l)

  raised_names : Names (raised n k) n
  raised_names = record {
    rises = λ a b l. elim (dec_lt b n) [
      | yes q ↦ (let x = low a (omega arith) in let y = low b q in omega arith)
      | no q ↦ elim (dec_lt a n) [
        | yes p ↦ (let x = low a p in let y = high b (omega arith) in omega arith)
        | no p ↦ (let x = high a (omega arith) in let y = high b (omega arith) in omega arith)
      ]
    ];
    goes_on = λ a l. let x = high a l in let y = high (suc a) (omega arith) in omega arith;
  }

  all_low : (xs : List ℕ) → all_below n xs ≡ true → map (raised n k) xs ≡ xs
  all_low [] e = refl
  all_low (x ∷ xs) e = rw (low x (below_head n x xs e), all_low xs (below_tail n x xs e))

pub run_raised : (k : ℕ) (s : Machine) → Low s → s.n ≤ k → run (enters_at k s) ≡ run s
run_raised k s l h = sym (ap run same) ∙ run_named (raised s.n k) s (raised_names s.n k h)
  where
    same : named (raised s.n k) s ≡ enters_at k s
    same =
        let top : s.n + (k - s.n) ≡ k = omega arith in
        rw (
          high s.n k h s.n (omega arith) ∙ top,
          low s.n k h s.here l.here_in,
          all_low s.n k h s.below l.below_in,
          all_low s.n k h s.opens l.opens_in,
        )

low_raised : (k : ℕ) (s : Machine) → Low s → s.n ≤ k → Low (enters_at k s)
low_raised k s l h = let i = l.here_in in record {
  here_in = omega arith;
  below_in = below_mono s.n k h s.below l.below_in;
  opens_in = below_mono s.n k h s.opens l.opens_in;
}

LowIn : Turn → Type 0
LowIn done = Unit
LowIn stuck = Unit
LowIn (goes ls t) = Low t

turn_low : (s : Machine) → Low s → LowIn (turn s)
unfolding LowIn
turn_low s l = go (step s)
  where
    as_turn : (t : Turn) → turn s ≡ t → LowIn t → LowIn (turn s)
    as_turn t e h = subst LowIn (sym e) h

    one_more : (xs : List ℕ) → all_below s.n xs ≡ true → all_below (suc s.n) xs ≡ true
    one_more xs = below_mono s.n (suc s.n) (omega arith) xs

    same : (xs ys : List ℕ) → xs ≡ ys → all_below s.n xs ≡ true → all_below s.n ys ≡ true
    same xs ys e h = subst (λ (zs : List ℕ). all_below s.n zs ≡ true) e h

    go : Step s → LowIn (turn s)
    go (closes o os t e h) = as_turn _ (turn_close s o os t e h)
        (record { here_in = l.here_in; below_in = l.below_in; opens_in = below_tail s.n o os (same _ _ e l.opens_in) })
    go (rises v vs bs t e q) = as_turn _ (turn_up s v vs bs t e q)
        (let b = same _ _ q l.below_in in record { here_in = below_head s.n v vs b; below_in = below_tail s.n v vs b; opens_in = l.opens_in })
    go (leafs b x c bs ls t e z q h) = as_turn _ (turn_star s b x c bs ls t e z q h)
        (let i = l.here_in in record { here_in = omega arith; below_in = one_more _ l.below_in; opens_in = one_more _ l.opens_in })
    go (backs b x c bs ls t e z q h k) = as_turn _ (turn_back s b x c bs ls t e z q h k)
        (record { here_in = l.here_in; below_in = l.below_in; opens_in = below_cons s.n s.here s.opens l.here_in l.opens_in })
    go (enters b x c bs ls t e z q h k) = as_turn _ (turn_tree s b x c bs ls t e z q h k)
        (let i = l.here_in in record {
          here_in = omega arith;
          below_in = below_cons (suc s.n) s.here s.below (omega arith) (one_more _ l.below_in);
          opens_in = one_more _ l.opens_in;
        })
    go (finishes t e p q r) = as_turn done (turn_done s t e p q r) tt
    go (halts e) = as_turn stuck e tt

-- a turn where the next vertex is named j, and k after it
module _ (j k : ℕ) (s t : Machine) (ls : List Letter) (l : Low s) (h : s.n ≤ j) (e : turn (enters_at j s) ≡ goes ls t) (i : t.n ≤ k) where
  pub reads_on : run s ≡ after ls (run (enters_at k t))
  unfolding LowIn
  reads_on =
      sym (run_raised j s l h) ∙ run_goes (enters_at j s) t ls e
      ∙ ap (after ls) (sym (run_raised k t (subst LowIn e (turn_low (enters_at j s) (low_raised j s l h))) i))

  pub reads_paced : (length ls + left (enters_at k t) ≡ left s) × (0 < length ls)
  reads_paced = turn_left (enters_at j s) t ls e
