-- Small meshes.
--
--   triangle_dual, triangle_plan   what its types build: the dual's own numbers, and the standard ones, are two things
use mathlib.Core.Path.{◌≡◌, refl}
use mathlib.Core.List.{[], ◌∷◌}
use Rattle.model.specs.Numbers.{least, tabulate}
use Rattle.model.specs.Map.{Plan, opposite, next, vertex_of, face_next}
use Rattle.model.specs.Traversal.{down, up, first, second, letter_at, onward, seen_after, walk, visits}
use Rattle.model.specs.Traversal.{number, standard_numbers, renumbered, standard_rotation}
use Rattle.model.specs.Mesh.{dual_of, dual_plan}
use Rattle.words.specs.Word.{word_darts, place_of, link, rotation_of, plan_of}

abbrev triangle : Plan
triangle = record { rotation = 5 ∷ 2 ∷ 1 ∷ 4 ∷ 3 ∷ 0 ∷ []; root = 0; outside = 0 }

triangle_dual : (dual_plan (plan_of (down ∷ first ∷ first ∷ up ∷ second ∷ second ∷ []))).rotation ≡ 2 ∷ 5 ∷ 0 ∷ 4 ∷ 3 ∷ 1 ∷ []
unfolding dual_plan dual_of tabulate face_next next opposite plan_of rotation_of word_darts link place_of
triangle_dual = refl

triangle_plan : standard_rotation (record { rotation = 2 ∷ 5 ∷ 0 ∷ 4 ∷ 3 ∷ 1 ∷ []; root = 0; outside = 0 }) ≡ triangle.rotation
unfolding standard_rotation standard_numbers number renumbered visits walk letter_at opposite vertex_of least next onward seen_after
triangle_plan = refl
