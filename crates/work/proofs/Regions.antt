-- Laws of parts of a list. "Fits" is a + length xs ≤ length w.
--
--   length_region, getD-region          a region's length and entries
--   region_region                       a region of a region
--   region_is, region_split             a region by its end; a region in two adjacent ones
--   region_set, region_set_other        a store inside the region, and outside it
--   length_placed                       placing what fits keeps the length
--   region_placed, region_placed_other  the region where it was placed, and one beside it
--   placed_placed, placed_region        placing twice; placing what is there
--   set_placed, placed_snoc             a store into what was placed; a store just behind it
--   placed_part                         a part that goes back with other entries
--   placed_none                         placing nothing
--   placed_beside                       entries placed in two parts, in either order
--   placed_cons                         the first entry placed is a store
--   placed_next                         what is placed just behind other entries is placed with them
--   region_grow, region_push            entries placed, or one stored, just behind a region make it longer
--   sets_placed                         a run of stores places the entries
--   front_placed                        placing at 0 is `front`
use mathlib.Core.Path.{◌≡◌, refl, sym, ap, ◌∙◌}
use mathlib.Core.List.{List, [], ◌∷◌, ◌++◌, append_assoc}
use Prim.Native.Nat.{ℕ, zero, suc, ◌+◌, ◌-◌, ◌≤◌, ◌<◌}
use native.Mathlib.Nat.{suc-add, add-suc, zero-add, add-zero, sub-zero, lt_of_not-le}
use native.Mathlib.Decide.{dec_le}
use native.Mathlib.Omega.{arith}
use lib.ListN.{length, get_or, set, take, drop, length-append, length-drop, length-set, take-append-drop}
use lib.Seq.{length-take-le, take_at, drop_at, take-take, take-add, drop-drop, drop-append_seam, get_or-take, get_or-drop}
use lib.Seq.{set-append_left, append_snoc, take-set-lt, take-set-le, drop-set-add, drop-set-lt, take-nil}
use lib.Seq.{sets, sets-eq, take-suc-set}
use Rattle.model.specs.Calls.{front}
use Rattle.model.proofs.Stores.{set_append_right}
use Rattle.work.specs.Area.{region, placed}

-- one of two cases
le_or : {C : Type 0} (a b : ℕ) → (a ≤ b → C) → (b < a → C) → C
le_or a b l g = elim (dec_le a b) [ yes h ↦ l h | no h ↦ g (lt_of_not-le h) ]

-- ---- regions

pub length_region : (a n : ℕ) (w : List ℕ) → a + n ≤ length w → length (region a n w) ≡ n
unfolding region
length_region a n w h = length-take-le n (drop a w) (let e = length-drop a w in omega arith)

pub getD-region : (a n : ℕ) (w : List ℕ) (i : ℕ) → i < n → get_or (region a n w) i 0 ≡ get_or w (a + i) 0
unfolding region
getD-region a n w i h = get_or-take n (drop a w) i 0 h ∙ get_or-drop a w i 0

drop_take : (b n : ℕ) (w : List ℕ) → drop b (take n w) ≡ take (n - b) (drop b w)
drop_take zero n w = rw sub-zero
drop_take (suc b) zero w = let z : 0 - suc b ≡ 0 = omega arith in rw z
drop_take (suc b) (suc n) [] = sym (take-nil (suc n - suc b))
drop_take (suc b) (suc n) (x ∷ xs) = let e : suc n - suc b ≡ n - b = omega arith in rw e (drop_take b n xs)

drop_region : (a n j : ℕ) (w : List ℕ) → drop j (region a n w) ≡ region (a + j) (n - j) w
unfolding region
drop_region a n j w = drop_take j n (drop a w) ∙ ap (take (n - j)) (drop-drop j a w)

pub region_region : (a n b k : ℕ) (w : List ℕ) → b + k ≤ n → region b k (region a n w) ≡ region (a + b) k w
unfolding region
region_region a n b k w h = ap (take k) (drop_region a n b w) ∙ take-take k (n - b) (drop (a + b) w) (omega arith)

pub region_is : (a n : ℕ) (w : List ℕ) → region a n w ≡ drop a (take (a + n) w)
unfolding region
region_is a n w = let e : a + n - a ≡ n = omega arith in rw (drop_take a (a + n) w, e)

pub region_split : (a n k : ℕ) (w : List ℕ) → region a (n + k) w ≡ region a n w ++ region (a + n) k w
unfolding region
region_split a n k w = rw (take-add n k (drop a w), drop-drop n a w)

pub region_set : (a n : ℕ) (w : List ℕ) (i v : ℕ) → i < n → region a n (set w (a + i) v) ≡ set (region a n w) i v
unfolding region
region_set a n w i v h = rw (drop-set-add a w i v, take-set-lt n (drop a w) i v h)

-- place i is not in the region: if it is not before it, it is behind it
pub region_set_other : (a n : ℕ) (w : List ℕ) (i v : ℕ) → (a ≤ i → a + n ≤ i) → region a n (set w i v) ≡ region a n w
unfolding region
region_set_other a n w i v out =
    le_or a i (λ h. rw (region_is a n (set w i v), region_is a n w, take-set-le (a + n) w i v (out h))) (λ h. rw (drop-set-lt a w i v h))

-- ---- what is placed

module _ (a : ℕ) (xs w : List ℕ) (fits : a + length xs ≤ length w) where
  before_it : length (take a w) ≡ a
  before_it = length-take-le a w (omega arith)

  take_placed : take a (placed a xs w) ≡ take a w
  unfolding placed
  take_placed = take_at (take a w) (xs ++ drop (a + length xs) w) a before_it

  drop_placed : drop a (placed a xs w) ≡ xs ++ drop (a + length xs) w
  unfolding placed
  drop_placed = drop_at (take a w) (xs ++ drop (a + length xs) w) a before_it

  drop_placed_end : drop (a + length xs) (placed a xs w) ≡ drop (a + length xs) w
  drop_placed_end = rw (← drop-drop (length xs) a (placed a xs w), drop_placed) (drop-append_seam xs (drop (a + length xs) w))

  pub length_placed : length (placed a xs w) ≡ length w
  unfolding placed
  length_placed =
      let e = length-append (take a w) (xs ++ drop (a + length xs) w) in
      let f = length-append xs (drop (a + length xs) w) in
      let g = length-drop (a + length xs) w in
      let h = before_it in
      omega arith

  pub region_placed : (n : ℕ) → n ≡ length xs → region a n (placed a xs w) ≡ xs
  unfolding region
  region_placed n e = rw drop_placed (take_at xs (drop (a + length xs) w) n (sym e))

  -- the two parts are disjoint: if the region is not before the placed entries, it is behind them
  pub region_placed_other : (b n : ℕ) → (a < b + n → a + length xs ≤ b) → region b n (placed a xs w) ≡ region b n w
  unfolding region
  region_placed_other b n out = le_or (b + n) a before behind
    where
      before : b + n ≤ a → region b n (placed a xs w) ≡ region b n w
      before h = rw (region_is b n (placed a xs w), region_is b n w, ← take-take (b + n) a (placed a xs w) h, take_placed, take-take (b + n) a w h)

      behind : a < b + n → take n (drop b (placed a xs w)) ≡ take n (drop b w)
      behind h =
          let o = out h in
          let k = b - (a + length xs) in
          let e : b ≡ a + length xs + k = omega arith in
          rw (e, ← drop-drop k (a + length xs) (placed a xs w), ← drop-drop k (a + length xs) w, drop_placed_end)

  pub placed_placed : (ys : List ℕ) → length ys ≡ length xs → placed a ys (placed a xs w) ≡ placed a ys w
  unfolding placed
  placed_placed ys e = rw (e, take_placed, drop_placed_end)

  pub set_placed : (i v : ℕ) → i < length xs → set (placed a xs w) (a + i) v ≡ placed a (set xs i v) w
  unfolding placed
  set_placed i v h =
      let rest = drop (a + length xs) w in
      rw (length-set xs i v, ← set-append_left xs rest i v h) (rw before_it at (set_append_right (take a w) (xs ++ rest) i v))

pub placed_region : (a n : ℕ) (w : List ℕ) → a + n ≤ length w → placed a (region a n w) w ≡ w
unfolding placed region
placed_region a n w h = rw (length_region a n w h, ← drop-drop n a w, take-append-drop n (drop a w)) (take-append-drop a w)

pub placed_part : (a n : ℕ) (xs w : List ℕ) → length xs ≡ n → take a w ++ (xs ++ drop n (drop a w)) ≡ placed a xs w
unfolding placed
placed_part a n xs w e = rw (drop-drop n a w, e)

pub placed_none : (a : ℕ) (w : List ℕ) → placed a [] w ≡ w
unfolding placed
placed_none a w = rw add-zero (take-append-drop a w)

set_before : (a y b : ℕ) (xs w : List ℕ) → a < b → b + length xs ≤ length w → set (placed b xs w) a y ≡ placed b xs (set w a y)
unfolding placed
set_before a y b xs w l h =
    let t = length-take-le b w (omega arith) in
    set-append_left (take b w) (xs ++ drop (b + length xs) w) a y (omega arith)
    ∙ rw (take-set-lt b w a y l, drop-set-lt (b + length xs) w a y (omega arith))

-- ---- entries placed one after the other

pub placed_cons : (a x : ℕ) (xs w : List ℕ) → a < length w → placed a (x ∷ xs) w ≡ placed (suc a) xs (set w a x)
unfolding placed
placed_cons a x xs w h =
    rw (take-suc-set w a x h, append_snoc (take a w) x, drop-set-lt (suc a + length xs) w a x (omega arith), add-suc, suc-add)

pub placed_beside : (a b : ℕ) (ys xs w : List ℕ) → a + length ys ≤ b → b + length xs ≤ length w → placed a ys (placed b xs w) ≡ placed b xs (placed a ys w)
placed_beside a b [] xs w l h = rw (placed_none a (placed b xs w), placed_none a w)
placed_beside a b (y ∷ ys) xs w l h =
    let e = length-set w a y in
    let z = length_placed b xs w h in
    rw (placed_cons a y ys (placed b xs w) (omega arith), placed_cons a y ys w (omega arith), set_before a y b xs w (omega arith) h)
    (placed_beside (suc a) b ys xs (set w a y) (omega arith) (omega arith))

pub placed_next : (a : ℕ) (xs ys w : List ℕ) → a + length xs ≤ length w → placed (a + length xs) ys (placed a xs w) ≡ placed a (xs ++ ys) w
placed_next a [] ys w h = rw (placed_none, add-zero)
placed_next a (x ∷ xs) ys w h =
    let e = length-set w a x in
    rw (placed_cons a x xs w (omega arith), placed_cons a x (xs ++ ys) w (omega arith), add-suc a (length xs), ← suc-add a (length xs))
    (placed_next (suc a) xs ys (set w a x) (omega arith))

pub placed_snoc : (a : ℕ) (xs w : List ℕ) (v : ℕ) → a + length xs < length w → set (placed a xs w) (a + length xs) v ≡ placed a (xs ++ (v ∷ [])) w
placed_snoc a xs w v h =
    let l = length_placed a xs w (omega arith) in
    rw (← placed_next a xs (v ∷ []) w (omega arith), placed_cons (a + length xs) v [] (placed a xs w) (omega arith), placed_none)

pub region_grow : (a n k : ℕ) (ys w : List ℕ) → length ys ≡ k → a + n + k ≤ length w → region a (n + k) (placed (a + n) ys w) ≡ region a n w ++ ys
region_grow a n k ys w e h = rw (
  region_split a n k (placed (a + n) ys w),
  region_placed_other (a + n) ys w (omega arith) a n (λ l. absurd (omega arith)),
  region_placed (a + n) ys w (omega arith) k (sym e),
)

pub region_push : (a k x : ℕ) (w : List ℕ) → a + k < length w → region a (k + 1) (set w (a + k) x) ≡ region a k w ++ (x ∷ [])
region_push a k x w h = rw (placed_cons (a + k) x [] w h, placed_none) at (region_grow a k 1 (x ∷ []) w refl (omega arith))

pub sets_placed : (xs w : List ℕ) (a : ℕ) → a + length xs ≤ length w → sets w a xs ≡ placed a xs w
unfolding placed
sets_placed xs w a h = sets-eq xs w a h ∙ append_assoc (take a w) xs (drop (a + length xs) w)

pub front_placed : (xs w : List ℕ) → placed 0 xs w ≡ front xs w
unfolding placed front
front_placed xs w = rw zero-add
