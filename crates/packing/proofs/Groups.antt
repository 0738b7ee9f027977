-- Payloads under a table and before it: the one relabelling that carries what is known of values over to every table.
--
--   groups_length, groups_sized, groups_bits   whatever is done to the groups, the length and the tree bits stay
--   relabelled_sized, undone_sized, undone_bits   so they do under a table
--   payload_relabelled    a payload under a table is the payload of values, relabelled
--   relabelled_bytes, undone_bytes   entries are bytes
--   undone_relabelled     undoing gives the values back
--   relabelled_undone     bytes that are undone to values are theirs
--   clean_values          the groups of a clean payload are values
--   values_length, values_at, values_drop   the values of bytes, one by one, and from a place on
--   relabelled_other, relabelled-two   what is relabelled, by family
--   undone_other          nothing is undone in a family without groups
--   undone_front, undone_back   what stands before the groups, and the groups
--   undone_codes          the codewords of a mesh stay
use Prim.Native.Nat.{ℕ, zero, suc, ◌+◌, ◌*◌, ◌-◌, ◌/◌, ◌≤◌, ◌<◌}
use native.Mathlib.Nat.{le_refl, not-suc-le-zero, le_of_suc-le-suc}
use native.Mathlib.Omega.{arith}
use mathlib.Core.Path.{◌≡◌, refl, sym, ap, ap₂, ◌∙◌}
use mathlib.Core.Logic.{◌≢◌}
use mathlib.Core.Bool.{Bool, true, false}
use mathlib.Core.List.{List, [], ◌∷◌, ◌++◌, map, append-nil}
use lib.Dec.{eqb}
use lib.ListN.{length, get_or, take, drop, length-append, length-map, take-append-drop}
use lib.Seq.{take_all, drop-length, take_at, drop_at, length-take-le, take-append-le}
use borrow.Author.Tests.{eqb-true, eqb-false, eq-eqb, ne_eqb}
use Rattle.model.specs.declared.Table.{Table}
use Rattle.model.specs.Numbers.{all_below}
use Rattle.model.specs.Groups.{byte_for}
use Rattle.model.specs.Record.{pack, bytes_for, payload_length, payload}
use Rattle.model.specs.Calls.{table_refused}
use Rattle.model.proofs.Booleans.{and_left, and_right}
use Rattle.model.proofs.Below.{below_cons, below_head, below_tail, below_append, below_take, below_drop}
use Rattle.model.proofs.Tables.{byte_bound, value_bound, undone_byte, undone_value}
use Rattle.packing.specs.Unpack.{bits}
use Rattle.packing.specs.Payload.{has_labels, Sized, value_payload, payload_bits, payload_clean}
use Rattle.packing.specs.Types.{read_codes, code_bytes}
use Rattle.packing.specs.Groups.{groups_from, on_groups, relabelled, undone, values_of, Values}
use Rattle.packing.proofs.Labelled.{labelled_cases, labelled_not_three}
use Rattle.packing.proofs.Codewords.{code_bytes_bound, read_codes_same, code_bytes_same}
use Rattle.packing.proofs.Packed.{pack_length, length_unpack, unpack_append}

-- ---- lists

map_back : (g h : ℕ → ℕ) (n : ℕ) (xs : List ℕ) → all_below n xs ≡ true → ((x : ℕ) → x < n → h (g x) ≡ x) → map h (map g xs) ≡ xs
map_back g h n [] e back = refl
map_back g h n (x ∷ xs) e back = ap₂ (λ (y : ℕ) (ys : List ℕ). y ∷ ys) (back x (below_head n x xs e)) (map_back g h n xs (below_tail n x xs e) back)

map_at : (g : ℕ → ℕ) (xs : List ℕ) (k : ℕ) → k < length xs → get_or (map g xs) k 0 ≡ g (get_or xs k 0)
map_at g [] k h = absurd (not-suc-le-zero h)
map_at g (x ∷ xs) zero h = refl
map_at g (x ∷ xs) (suc k) h = map_at g xs k (le_of_suc-le-suc h)

map_drop : (g : ℕ → ℕ) (n : ℕ) (xs : List ℕ) → map g (drop n xs) ≡ drop n (map g xs)
map_drop g zero xs = refl
map_drop g (suc n) [] = refl
map_drop g (suc n) (x ∷ xs) = map_drop g n xs

map_below : (g : ℕ → ℕ) (n k : ℕ) (xs : List ℕ) → all_below n xs ≡ true → ((x : ℕ) → x < n → g x < k) → all_below k (map g xs) ≡ true
unfolding all_below
map_below g n k [] e low = refl
map_below g n k (x ∷ xs) e low = below_cons k (g x) (map g xs) (low x (below_head n x xs e)) (map_below g n k xs (below_tail n x xs e) low)

-- as `map_back`, for entries that g takes below a bound
map_back_low : (g h : ℕ → ℕ) (n k : ℕ) (xs : List ℕ) → all_below n xs ≡ true → all_below k (map g xs) ≡ true → ((x : ℕ) → x < n → g x < k → h (g x) ≡ x)
    → map h (map g xs) ≡ xs
map_back_low g h n k [] e l back = refl
map_back_low g h n k (x ∷ xs) e l back = ap₂ (λ (y : ℕ) (ys : List ℕ). y ∷ ys)
    (back x (below_head n x xs e) (below_head k (g x) (map g xs) l)) (map_back_low g h n k xs (below_tail n x xs e) (below_tail k (g x) (map g xs) l) back)

nothing_mapped : (g : ℕ → ℕ) (n : ℕ) (xs : List ℕ) → n ≡ length xs → take n xs ++ map g (drop n xs) ≡ xs
nothing_mapped g n xs e = rw (e, drop-length xs) (append-nil (take (length xs) xs) ∙ take_all (length xs) xs (le_refl (length xs)))

-- the tree bits stand in the bytes before the groups
bits_in_front : (m : ℕ) (xs ys : List ℕ) → length xs ≡ bytes_for (2 * m) 8 → payload_bits m (xs ++ ys) ≡ take (2 * m) (bits xs)
unfolding payload_bits bits
bits_in_front m xs ys l =
    let u = length_unpack 2 8 (length xs) xs in
    ap (take (2 * m)) (unpack_append 2 8 xs ys) ∙ take-append-le (2 * m) (bits xs) (bits ys) (omega arith)

-- ---- where the groups begin

module _ (f m : ℕ) (ps : List ℕ) where
  pub groups_two : f ≡ 2 → groups_from f m ps ≡ bytes_for (2 * m) 8
  unfolding groups_from
  groups_two two = rw (eq-eqb f 2 two)

  pub groups_three : f ≡ 3 → groups_from f m ps ≡ code_bytes m ps
  unfolding groups_from
  groups_three three = rw three

  pub groups_none : f ≢ 2 → f ≢ 3 → groups_from f m ps ≡ length ps
  unfolding groups_from
  groups_none d e = rw (ne_eqb f 2 d, ne_eqb f 3 e)

  by_groups : {P : Type 0} → (f ≡ 2 → P) → (f ≡ 3 → P) → (f ≢ 2 → f ≢ 3 → P) → P
  by_groups {P} two three none = go (eqb f 2) (eqb f 3) refl refl
    where
      go : (b c : Bool) → eqb f 2 ≡ b → eqb f 3 ≡ c → P
      go true c d e = two (eqb-true f 2 d)
      go false true d e = three (eqb-true f 3 e)
      go false false d e = none (eqb-false f 2 d) (eqb-false f 3 e)

  -- the payload has the bytes before its groups
  pub groups_bound : Sized f m ps → groups_from f m ps ≤ length ps
  unfolding payload_length
  groups_bound s = by_groups
      (λ two. let l = s.long (rw two) in let g = groups_two two in let z = rw two at l in omega arith)
      (λ three. let b = code_bytes_bound m ps in let g = groups_three three in omega arith)
      (λ d e. let g = groups_none d e in omega arith)

-- ---- any function on the groups

pub on_groups_at : (g : ℕ → ℕ) (f m : ℕ) (ps : List ℕ) (n : ℕ) → groups_from f m ps ≡ n → on_groups g f m ps ≡ take n ps ++ map g (drop n ps)
unfolding on_groups
on_groups_at g f m ps n e = rw e

module _ (g : ℕ → ℕ) (f m : ℕ) (ps : List ℕ) where
  abbrev n : ℕ
  n = groups_from f m ps

  pub groups_length : length (on_groups g f m ps) ≡ length ps
  unfolding on_groups
  groups_length = length-append (take n ps) (map g (drop n ps)) ∙ ap (λ (l : ℕ). length (take n ps) + l) (length-map (drop n ps) g)
      ∙ sym (length-append (take n ps) (drop n ps)) ∙ ap length (take-append-drop n ps)

  pub groups_sized : Sized f m ps → Sized f m (on_groups g f m ps)
  groups_sized s = record { is_family = s.is_family; some_edge = s.some_edge; few_edges = s.few_edges; long = λ v. groups_length ∙ s.long v }

  module _ (s : Sized f m ps) where
    front_long : length (take n ps) ≡ n
    front_long = length-take-le n ps (groups_bound f m ps s)

    -- what the groups and the bytes before them then are
    pub groups_front : take n (on_groups g f m ps) ≡ take n ps
    unfolding on_groups
    groups_front = take_at (take n ps) (map g (drop n ps)) n front_long

    pub groups_are : drop n (on_groups g f m ps) ≡ map g (drop n ps)
    unfolding on_groups
    groups_are = drop_at (take n ps) (map g (drop n ps)) n front_long

    pub groups_same : groups_from f m (on_groups g f m ps) ≡ groups_from f m ps
    groups_same = by_groups f m ps
        (λ two. groups_two f m (on_groups g f m ps) two ∙ sym (groups_two f m ps two))
        (λ three. groups_three f m (on_groups g f m ps) three
        ∙ code_bytes_same m ps (on_groups g f m ps) groups_length (rw (← groups_three f m ps three) groups_front) ∙ sym (groups_three f m ps three))
        (λ d e. groups_none f m (on_groups g f m ps) d e ∙ groups_length ∙ sym (groups_none f m ps d e))

    again : (h : ℕ → ℕ) → on_groups h f m (on_groups g f m ps) ≡ take n (on_groups g f m ps) ++ map h (drop n (on_groups g f m ps))
    again h = on_groups_at h f m (on_groups g f m ps) n groups_same

    pub groups_back : (h : ℕ → ℕ) → map h (map g (drop n ps)) ≡ drop n ps → on_groups h f m (on_groups g f m ps) ≡ ps
    groups_back h back =
        again h ∙ ap₂ (λ (xs ys : List ℕ). xs ++ ys) groups_front (ap (map h) groups_are ∙ back) ∙ take-append-drop n ps

    pub groups_bits : has_labels f ≡ true → payload_bits m (on_groups g f m ps) ≡ payload_bits m ps
    unfolding on_groups
    groups_bits has = by_groups f m ps
        (λ two. let k = front_long ∙ groups_two f m ps two in
        bits_in_front m (take n ps) (map g (drop n ps)) k ∙ sym (bits_in_front m (take n ps) (drop n ps) k) ∙ ap (payload_bits m) (take-append-drop n ps))
        (λ three. absurd (labelled_not_three f has three))
        (λ d e. ap (payload_bits m) (nothing_mapped g n ps (groups_none f m ps d e)))

-- ---- bytes undone

module _ (inv bs : List ℕ) where
  pub values_length : length (values_of inv bs) ≡ length bs
  unfolding values_of
  values_length = length-map bs (λ b. get_or inv b 0)

  pub values_at : (k : ℕ) → k < length bs → get_or (values_of inv bs) k 0 ≡ get_or inv (get_or bs k 0) 0
  unfolding values_of
  values_at k h = map_at (λ b. get_or inv b 0) bs k h

  pub values_drop : (n : ℕ) → values_of inv (drop n bs) ≡ drop n (values_of inv bs)
  unfolding values_of
  values_drop n = map_drop (λ b. get_or inv b 0) n bs

  pub undone_other : (f m : ℕ) → f ≢ 2 → f ≢ 3 → undone inv f m bs ≡ bs
  unfolding undone on_groups
  undone_other f m d e = nothing_mapped (λ b. get_or inv b 0) (groups_from f m bs) bs (groups_none f m bs d e)

  -- the codewords of a mesh stay
  pub undone_codes : (m : ℕ) → read_codes (2 * (m / 3) - 1) (bits (undone inv 3 m bs)) ≡ read_codes (2 * (m / 3) - 1) (bits bs)
  unfolding undone on_groups groups_from
  undone_codes m = read_codes_same m bs (undone inv 3 m bs) (groups_length (λ b. get_or inv b 0) 3 m bs)
      (take_at (take (code_bytes m bs) bs) _ (code_bytes m bs) (length-take-le (code_bytes m bs) bs (code_bytes_bound m bs)))

  module _ (f m : ℕ) (s : Sized f m bs) where
    pub undone_front : take (groups_from f m bs) (undone inv f m bs) ≡ take (groups_from f m bs) bs
    unfolding undone
    undone_front = groups_front (λ b. get_or inv b 0) f m bs s

    pub undone_back : drop (groups_from f m bs) (undone inv f m bs) ≡ drop (groups_from f m bs) (values_of inv bs)
    unfolding undone values_of
    undone_back = groups_are (λ b. get_or inv b 0) f m bs s ∙ map_drop (λ b. get_or inv b 0) (groups_from f m bs) bs

-- ---- under a table

pub payload_relabelled : (t : Table) (f m : ℕ) (bs ls : List ℕ) → has_labels f ≡ true → payload t f m bs ls ≡ relabelled t.bytes f m (value_payload f m bs ls)
unfolding payload value_payload byte_for relabelled on_groups groups_from
payload_relabelled t f m bs ls =
    let front = pack 2 8 (bytes_for (2 * m) 8) bs in
    let back = pack 3 5 (bytes_for m 5) ls in
    let l = pack_length 2 8 (bytes_for (2 * m) 8) bs in
    labelled_cases (λ (x : ℕ). payload t x m bs ls ≡ relabelled t.bytes x m (value_payload x m bs ls))
    (sym (nothing_mapped (byte_for t) _ (pack 2 8 (bytes_for (3 * m) 8) (bs ++ ls)) refl))
    (rw (take_at front back (bytes_for (2 * m) 8) l, drop_at front back (bytes_for (2 * m) 8) l)) f

module _ (f m : ℕ) (ps : List ℕ) where
  pub relabelled_other : (bs : List ℕ) → f ≢ 2 → f ≢ 3 → relabelled bs f m ps ≡ ps
  unfolding relabelled on_groups
  relabelled_other bs d e = nothing_mapped (λ v. get_or bs v 0) (groups_from f m ps) ps (groups_none f m ps d e)

  pub relabelled_at : (bs : List ℕ) (n : ℕ) → groups_from f m ps ≡ n → relabelled bs f m ps ≡ take n ps ++ map (λ v. get_or bs v 0) (drop n ps)
  unfolding relabelled
  relabelled_at bs n e = on_groups_at (λ v. get_or bs v 0) f m ps n e

  pub relabelled_sized : (bs : List ℕ) → Sized f m ps → Sized f m (relabelled bs f m ps)
  unfolding relabelled
  relabelled_sized bs = groups_sized (λ v. get_or bs v 0) f m ps

  pub relabelled_length : (bs : List ℕ) → length (relabelled bs f m ps) ≡ length ps
  unfolding relabelled
  relabelled_length bs = groups_length (λ v. get_or bs v 0) f m ps

  pub undone_sized : (inv : List ℕ) → Sized f m ps → Sized f m (undone inv f m ps)
  unfolding undone
  undone_sized inv = groups_sized (λ b. get_or inv b 0) f m ps

  pub undone_bits : (inv : List ℕ) → Sized f m ps → has_labels f ≡ true → payload_bits m (undone inv f m ps) ≡ payload_bits m ps
  unfolding undone
  undone_bits inv = groups_bits (λ b. get_or inv b 0) f m ps

  pub clean_values : has_labels f ≡ true → payload_clean f m ps ≡ true → Values f m ps
  unfolding payload_clean groups_from all_below
  clean_values = labelled_cases (λ (x : ℕ). payload_clean x m ps ≡ true → all_below 243 (drop (groups_from x m ps) ps) ≡ true)
      (λ e. rw (drop-length ps))
      (λ e. let rest = and_right (all_below 1 (drop (2 * m) (bits (take (bytes_for (2 * m) 8) ps)))) _ e in
      and_left (all_below 243 (drop (bytes_for (2 * m) 8) ps)) _ rest) f

  module _ (t : Table) (stands : table_refused t ≡ false) (s : Sized f m ps) where
    abbrev from : ℕ
    from = groups_from f m ps

    pub relabelled_bytes : all_below 256 ps ≡ true → Values f m ps → all_below 256 (relabelled t.bytes f m ps) ≡ true
    unfolding relabelled on_groups byte_for
    relabelled_bytes e low =
        below_append 256 _ _ (below_take 256 from ps e) (map_below (byte_for t) 243 256 (drop from ps) low (byte_bound t stands))

    pub undone_bytes : all_below 256 ps ≡ true → all_below 256 (undone t.inverse f m ps) ≡ true
    unfolding undone on_groups
    undone_bytes e = below_append 256 _ _ (below_take 256 from ps e)
        (map_below (λ b. get_or t.inverse b 0) 256 256 (drop from ps) (below_drop 256 from ps e) (value_bound t stands))

    pub undone_relabelled : Values f m ps → undone t.inverse f m (relabelled t.bytes f m ps) ≡ ps
    unfolding relabelled undone byte_for
    undone_relabelled low = groups_back (byte_for t) f m ps s (λ b. get_or t.inverse b 0)
        (map_back (byte_for t) (λ b. get_or t.inverse b 0) 243 (drop from ps) low (undone_byte t stands))

    pub relabelled_undone : all_below 256 ps ≡ true → Values f m (undone t.inverse f m ps) → relabelled t.bytes f m (undone t.inverse f m ps) ≡ ps
    unfolding relabelled undone byte_for
    relabelled_undone e low = groups_back (λ b. get_or t.inverse b 0) f m ps s (byte_for t)
        (map_back_low (λ b. get_or t.inverse b 0) (byte_for t) 256 243 (drop from ps) (below_drop 256 from ps e)
        (ap (all_below 243) (sym (groups_are (λ b. get_or t.inverse b 0) f m ps s)
        ∙ ap (λ (k : ℕ). drop k (undone t.inverse f m ps)) (sym (groups_same (λ b. get_or t.inverse b 0) f m ps s))) ∙ low) (undone_value t stands))
