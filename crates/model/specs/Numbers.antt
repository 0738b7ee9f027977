-- Counts, permutations and their cycles, on numbers and lists: what the definitions of maps and records are made of.
--
--   count f n           how many i < n pass the test f; tick counts one more
--   some f n            some i < n passes the test f
--   elem x xs           x is an entry of xs
--   distinct xs         no two entries of xs are equal
--   all_below n xs       every entry of xs is below n
--   is_permutation xs    the entries of xs are the numbers below its length, each once
--   position x xs       the first place where x stands in xs; its length if it does not
--   tabulate g i n      g i, g (i + 1), .., n of them
--   iter p j x          p applied j times to x
--   least p n x         the least of x, p x, .., pⁿ x: the name of x's cycle, for a permutation p below n
--   is_least p n x       x is the least of its cycle
--   cycles p n          how many cycles p has below n, counted by their least elements
--   cycle_size p n x     how many elements x's cycle has
--   sizes_below p n k    the sizes of the cycles whose least element is below k, in the order of these elements
--   cycle_sizes p n      the sizes of all of them
--   sum xs              the sum of the entries of xs
--   Check               a refusal's number with its condition; refuse makes one
--   first_refusal rs     the number of the first refusal whose condition holds; 0 if none does
use Rattle.std.specs.Prelude.{ℕ, zero, suc, min, ◌+◌, Bool, true, false, not, ◌&&◌, ◌||◌, cond, List, [], ◌∷◌, ◌++◌, eqb, ltb, length}

abbrev pub tick : Bool → ℕ → ℕ
tick true c = suc c
tick false c = c

unfoldable pub count : (ℕ → Bool) → ℕ → ℕ
count f zero = zero
count f (suc n) = tick (f n) (count f n)

unfoldable pub some : (ℕ → Bool) → ℕ → Bool
some f zero = false
some f (suc n) = f n || some f n

unfoldable pub elem : ℕ → List ℕ → Bool
elem x [] = false
elem x (y ∷ ys) = cond (eqb x y) true (elem x ys)

unfoldable pub distinct : List ℕ → Bool
distinct [] = true
distinct (x ∷ xs) = not (elem x xs) && distinct xs

unfoldable pub all_below : ℕ → List ℕ → Bool
all_below n [] = true
all_below n (x ∷ xs) = ltb x n && all_below n xs

unfoldable pub is_permutation : List ℕ → Bool
is_permutation xs = all_below (length xs) xs && distinct xs

unfoldable pub position : ℕ → List ℕ → ℕ
position x [] = 0
position x (y ∷ ys) = let r = suc (position x ys) in cond (eqb x y) 0 r

unfoldable pub tabulate : (ℕ → ℕ) → ℕ → ℕ → List ℕ
tabulate g i zero = []
tabulate g i (suc n) = g i ∷ tabulate g (suc i) n

unfoldable pub iter : (ℕ → ℕ) → ℕ → ℕ → ℕ
iter p zero x = x
iter p (suc j) x = iter p j (p x)

unfoldable pub least : (ℕ → ℕ) → ℕ → ℕ → ℕ
least p zero x = x
least p (suc n) x = min x (least p n (p x))

-- x is the least element of its cycle
abbrev pub is_least : (ℕ → ℕ) → ℕ → ℕ → Bool
is_least p n x = eqb (least p n x) x

unfoldable pub cycles : (ℕ → ℕ) → ℕ → ℕ
cycles p n = count (is_least p n) n

unfoldable pub cycle_size : (ℕ → ℕ) → ℕ → ℕ → ℕ
cycle_size p n x = count (λ y. eqb (least p n y) (least p n x)) n

unfoldable pub sizes_below : (ℕ → ℕ) → ℕ → ℕ → List ℕ
sizes_below p n zero = []
sizes_below p n (suc x) = let sizes = sizes_below p n x in cond (is_least p n x) (sizes ++ (cycle_size p n x ∷ [])) sizes

unfoldable pub cycle_sizes : (ℕ → ℕ) → ℕ → List ℕ
cycle_sizes p n = sizes_below p n n

unfoldable pub sum : List ℕ → ℕ
sum [] = 0
sum (x ∷ xs) = x + sum xs

pub record Check : Type 0 where
  pub number : ℕ
  pub holds : Bool

-- "The first whose condition holds is returned, none without it."
unfoldable pub first_refusal : List Check → ℕ
first_refusal [] = 0
first_refusal (r ∷ rs) = let rest = first_refusal rs in cond r.holds r.number rest

abbrev pub refuse : ℕ → Bool → Check
refuse n b = record { number = n; holds = b }
