-- A face that is a triangle of three edges is marked.
--
--   triangle_on          a triangle, from its next dart
--   face_rounded         its three darts are its vertex in the dual, and no other dart is marked
--   face_good            all of them are darts of triangles
--   faced, unfaced       what the test answers
--   next_below           the next dart of a face is a dart
use Prim.Native.Nat.{ℕ, ◌/◌, ◌<◌}
use native.Mathlib.Omega.{arith}
use mathlib.Core.Path.{◌≡◌, refl, sym, ap, ap₂, subst, ◌∙◌}
use mathlib.Core.Logic.{◌⊎◌, ⊎_elim, ◌≢◌}
use mathlib.Core.Bool.{true, false}
use mathlib.Core.List.{List}
use lib.ListN.{length, get_or, set, length-set}
use lib.Seq.{get_or-set_same, get_or-set_other}
use Rattle.model.specs.Numbers.{is_permutation}
use Rattle.model.specs.Map.{next, face_next, vertex_of, dart_count_fits, is_triangle}
use Rattle.model.proofs.Booleans.{not_intro}
use Rattle.model.proofs.Fitness.{count_even}
use Rattle.orbits.specs.Permutation.{Perm}
use Rattle.orbits.proofs.Order.{eq_split}
use Rattle.orbits.proofs.Maps.{face_perm}
use Rattle.meshes.proofs.Triangles.{triangle_parts, parts_triangle}
use Rattle.marks.specs.Marks.{Rounded}
use Rattle.marks.proofs.Round.{Round, round_start, round_step, rounded}
use Rattle.trace_steps.specs.Steps.{Ground}
use Rattle.mesh_first_places.specs.Faces.{face_area, Faced}

pub triangle_on : (order : List ℕ) (d : ℕ) → is_triangle order d ≡ true → is_triangle order (face_next order d) ≡ true
triangle_on order d e =
    let t = triangle_parts order d e in
    let back = ap (λ (x : ℕ). x / 2) t.round in
    parts_triangle order (face_next order d) (record {
      round = ap (face_next order) t.round;
      one_two = t.two_three;
      two_three = λ q. t.three_one (q ∙ back);
      three_one = λ q. t.one_two (sym back ∙ q);
    })

module _ (rot : List ℕ) (turn : Perm (length rot) (next rot)) (o : ℕ) (below : o < length rot) (b : List ℕ) (size : length b ≡ length rot)
    (blank : (z : ℕ) → z < length rot → vertex_of rot z ≡ vertex_of rot o → get_or b z 0 ≡ 0)
    (x y : ℕ) (one : next rot o ≡ x) (two : next rot x ≡ y) (three : next rot y ≡ o) where
  abbrev b' : List ℕ
  b' = set (set (set b o 32768) x 32768) y 32768

  far : (z : ℕ) → z ≢ o → z ≢ x → z ≢ y → get_or b' z 0 ≡ get_or b z 0
  far z p q s =
      get_or-set_other (set (set b o 32768) x 32768) y z 32768 0 s ∙ get_or-set_other (set b o 32768) x z 32768 0 q ∙ get_or-set_other b o z 32768 0 p

  marked : get_or b' o 0 ≢ 0
  marked e =
      let l : length (set b o 32768) ≡ length rot = length-set b o 32768 ∙ size in
      let m : length (set (set b o 32768) x 32768) ≡ length rot = length-set (set b o 32768) x 32768 ∙ l in
      eq_split o y
      (λ q. let z : get_or b' o 0 ≡ 32768 = ap (λ (i : ℕ). get_or b' i 0) q ∙ get_or-set_same (set (set b o 32768) x 32768) y 32768 0 (omega arith) in omega arith)
      (λ n. eq_split o x
      (λ q. let z : get_or b' o 0 ≡ 32768 = get_or-set_other (set (set b o 32768) x 32768) y o 32768 0 n
      ∙ ap (λ (i : ℕ). get_or (set (set b o 32768) x 32768) i 0) q ∙ get_or-set_same (set b o 32768) x 32768 0 (omega arith) in omega arith)
      (λ m. let z : get_or b' o 0 ≡ 32768 = get_or-set_other (set (set b o 32768) x 32768) y o 32768 0 n
      ∙ get_or-set_other (set b o 32768) x o 32768 0 m ∙ get_or-set_same b o 32768 0 (omega arith) in omega arith))

  pub face_rounded : Rounded rot o 32768 b (set (set (set b o 32768) x 32768) y 32768)
  unfolding vertex_of
  face_rounded =
      let some : ◌≢◌ {A = ℕ} 32768 0 = λ e. omega arith in
      let n = length rot in
      let f = next rot in
      let s₀ = round_start f n turn o below 32768 some b blank size in
      let s₁ = subst (Round f n o 32768 b (set b o 32768)) one (round_step f n turn o below 32768 some b blank b o s₀) in
      let s₂ = subst (Round f n o 32768 b (set (set b o 32768) x 32768)) two (round_step f n turn o below 32768 some b blank (set b o 32768) x s₁) in
      let s₃ = subst (Round f n o 32768 b b') three (round_step f n turn o below 32768 some b blank (set (set b o 32768) x 32768) y s₂) in
      rounded rot turn o below 32768 some b size blank b' o s₃ marked

  pub face_good : (P : ℕ → Type 0) → P o → P x → P y → (z : ℕ) → z < length rot → vertex_of rot z ≡ vertex_of rot o → P z
  face_good P po px py z h v = eq_split z o (λ e. subst P (sym e) po) (λ p. eq_split z x (λ e. subst P (sym e) px) (λ q. eq_split z y (λ e. subst P (sym e) py)
      (λ s. let m = face_rounded.own z h v in let k = blank z h v in let i = far z p q s in absurd (omega arith))))

pub faced : (order : List ℕ) (o x y z : ℕ) → x ≡ face_next order o → y ≡ face_next order x → z ≡ face_next order y → z ≡ o → o / 2 ≢ x / 2 → x / 2 ≢ y / 2 → y / 2 ≢ o / 2
    → (w : List ℕ) → Faced order o w true (set (set (set w o 32768) x 32768) y 32768)
unfolding Faced face_area
faced order o x y z ex ey ez back p q s w =
    let second : y ≡ face_next order (face_next order o) = ey ∙ ap (face_next order) ex in (
      parts_triangle order o (record {
        round = ap (face_next order) (sym second) ∙ sym ez ∙ back;
        one_two = λ e. p (e ∙ ap (λ (i : ℕ). i / 2) (sym ex));
        two_three = λ e. q (ap (λ (i : ℕ). i / 2) ex ∙ e ∙ ap (λ (i : ℕ). i / 2) (sym second));
        three_one = λ e. s (ap (λ (i : ℕ). i / 2) second ∙ e);
      }),
      ap₂ (λ (i j : ℕ). set (set (set w o 32768) i 32768) j 32768) ex second,
    )

pub unfaced : (order : List ℕ) (o x y z : ℕ) → x ≡ face_next order o → y ≡ face_next order x → z ≡ face_next order y
    → (z ≢ o) ⊎ ((o / 2 ≡ x / 2) ⊎ ((x / 2 ≡ y / 2) ⊎ (y / 2 ≡ o / 2))) → (w : List ℕ) → Faced order o w false w
unfolding Faced
unfaced order o x y z ex ey ez wrong w = (
  not_intro _ (λ good.
      let t = triangle_parts order o good in
      let second : y ≡ face_next order (face_next order o) = ey ∙ ap (face_next order) ex in
      let half : (i j : ℕ) → i ≡ j → i / 2 ≡ j / 2 = λ i j e. ap (λ (k : ℕ). k / 2) e in
      ⊎_elim (λ u. u (ez ∙ ap (face_next order) second ∙ t.round)) (⊎_elim (λ e. t.one_two (e ∙ half _ _ ex))
      (⊎_elim (λ e. t.two_three (half _ _ (sym ex) ∙ e ∙ half _ _ second)) (λ e. t.three_one (half _ _ (sym second) ∙ e)))) wrong),
  refl,
)

-- the next dart of a face is a dart
pub next_below : (order : List ℕ) → dart_count_fits (length order) ≡ true → is_permutation order ≡ true → (x : ℕ) → x < length order → face_next order x < length order
next_below order count perm x h = (face_perm order perm (count_even (length order) count)).bound x h

-- so the darts that follow o on its face are darts
module _ {order w : List ℕ} {o x : ℕ} (g : Ground order w) (here : o < length order) (ex : x ≡ face_next order o) where
  pub x_in : x < length order
  x_in = subst (λ (i : ℕ). i < length order) (sym ex) (next_below order g.count g.perm o here)

  pub y_in : {y : ℕ} → y ≡ face_next order x → y < length order
  y_in ey = subst (λ (i : ℕ). i < length order) (sym ey) (next_below order g.count g.perm x x_in)
