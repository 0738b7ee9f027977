-- The walk from its beginning to its end.
--
--   clear_ground, clear_marks   what is filled with zeros is a ground with no marks
--   walking_start        after the round of the root's vertex
--   finished             where all darts are met, the last entry completes the standard rotation
use mathlib.Core.Path.{◌≡◌, refl, sym, ap, ◌∙◌, subst}
use mathlib.Core.Bool.{true}
use mathlib.Core.List.{List}
use Prim.Native.Nat.{ℕ, zero, suc, ◌+◌, ◌*◌, ◌≤◌, ◌<◌}
use native.Mathlib.Omega.{arith}
use lib.ListN.{length, get_or, set, replicate, length-set, length-replicate}
use lib.Seq.{ext_get_or}
use Rattle.model.specs.Numbers.{is_permutation, count}
use Rattle.model.specs.Map.{connected, dart_count_fits}
use Rattle.model.specs.Traversal.{standard_numbers, standard_rotation, standard_plan}
use Rattle.words.specs.Position.{opened}
use Rattle.traversal.specs.Steps.{at, start, dart}
use Rattle.traversal.proofs.Marks.{zeros_at}
use Rattle.traversal.proofs.Toured.{walk_toured}
use Rattle.traversal.proofs.Positions.{back_at}
use Rattle.standard.proofs.Numbering.{numbers_root}
use Rattle.standard.proofs.Entries.{standard_darts}
use Rattle.work.specs.Area.{region, placed}
use Rattle.work.proofs.Regions.{length_region, getD-region, length_placed, region_placed}
use Rattle.marks.specs.Marks.{Rounded}
use Rattle.trace_steps.specs.Steps.{Ground, Circled}
use Rattle.tracing.specs.Tracing.{from}
use Rattle.tracing.proofs.Places.{mark_at}
use Rattle.numbering.specs.declared.Stand.{Stand}
use Rattle.numbering.specs.Numbering.{Numbering}
use Rattle.numbering.proofs.Numbers.{covered}
use Rattle.numbering.proofs.Marking.{start_marks}
use Rattle.numbering.proofs.Entries.{stored}

-- ---- the beginning

module _ (rot w : List ℕ) (fits : dart_count_fits (length rot) ≡ true) (perm : is_permutation rot ≡ true) (room : 16 * length rot ≤ length w) (w₁ : List ℕ)
    (filled : w₁ ≡ placed 0 (replicate (length rot) 0) w) where
  abbrev n : ℕ
  n = length rot

  zeros_size : length {A = ℕ} (replicate n 0) ≡ n
  zeros_size = length-replicate n 0

  size : length w₁ ≡ length w
  size = ap length filled ∙ length_placed 0 (replicate n 0) w (omega (arith, room, zeros_size))

  pub clear_ground : Ground rot w₁
  clear_ground = record { count = fits; perm = perm; room = omega (arith, room, size) }

  none : region 0 n w₁ ≡ replicate n 0
  none = ap (region 0 n) filled ∙ region_placed 0 (replicate n 0) w (omega (arith, room, zeros_size)) n (sym zeros_size)

  pub clear_marks : (z : ℕ) → z < n → get_or w₁ z 0 ≡ 0
  clear_marks z h = sym (mark_at n w₁ z h) ∙ ap (λ (b : List ℕ). get_or b z 0) none ∙ zeros_at n z

  pub walking_start : (r : ℕ) → r < n → connected rot ≡ true → (w₂ : List ℕ) → Circled rot r 32768 w₁ w₂
      → Numbering rot r 0 w₂ (record { dart = r; edges = 0; place = 0 })
  unfolding dart at start opened count
  walking_start r hr joined w₂ c = record {
    ground = record { count = fits; perm = perm; room = omega (arith, room, size, c.kept) };
    root_in = hr;
    toured = walk_toured (from rot r) fits hr perm joined;
    here = refl;
    edges = refl;
    marks = start_marks rot r fits perm hr (region 0 n w₂) (subst (λ (b : List ℕ). Rounded rot r 32768 b (region 0 n w₂)) none c.marks);
    place_in = omega arith;
    place = λ j e. absurd (omega arith);
    entries = λ j h. absurd (omega arith);
  }

-- ---- the end

module _ (rot : List ℕ) (r : ℕ) (w : List ℕ) (s : Stand) (g : Numbering rot r (length rot) w s) where
  abbrev m : ℕ
  m = length rot

  abbrev std : List ℕ
  std = standard_rotation (from rot r)

  -- the root comes after the last dart
  last : (i : ℕ) → i ≡ m → 0 < i → 0 ≡ get_or (standard_numbers (from rot r)) (dart rot r i) 0
  last zero e h = absurd (omega arith)
  last (suc j) e h =
      sym (ap (λ (d : ℕ). get_or (standard_numbers (from rot r)) d 0) (back_at (from rot r) g.ground.count g.root_in g.ground.perm g.toured j e)
      ∙ numbers_root (from rot r) g.toured g.ground.count)

  abbrev w' : List ℕ
  w' = set w (m + s.place) 0

  std_size : length std ≡ m
  unfolding standard_plan
  std_size = standard_darts (from rot r)

  whole : region m m (set w (m + s.place) 0) ≡ standard_rotation (from rot r)
  whole =
      let long : length (region m m w') ≡ m = length_region m m w' (omega (arith, g.ground.room, length-set w (m + s.place) 0)) in
      ext_get_or 0 (region m m w') std (long ∙ sym std_size) (λ y h.
      let hy : y < m = omega (arith, long) in
      let (j, hj, e) = covered rot r g.ground.count g.ground.perm g.root_in g.toured y hy in
      getD-region m m w' y hy
      ∙ subst (λ (x : ℕ). get_or w' (m + x) 0 ≡ get_or std x 0) e (stored rot r m w s g 0 (last m refl (omega arith)) j (omega arith)))

pub finished : (rot : List ℕ) (r k : ℕ) (w : List ℕ) (s : Stand) → Numbering rot r k w s → k ≡ length rot
    → region (length rot) (length rot) (set w (length rot + s.place) 0) ≡ standard_rotation (from rot r)
finished rot r k w s g all = whole rot r w s (subst (λ (i : ℕ). Numbering rot r i w s) all g)
