-- What the letters of small meshes' duals tell.
--
--   triangle_told     of a triangle the one type
--   three_told        of a mesh of six edges three, that of the second node last
use mathlib.Core.Path.{◌≡◌, refl}
use mathlib.Core.List.{[], ◌∷◌}
use Rattle.model.specs.Numbers.{count}
use Rattle.model.specs.Traversal.{down, up, first, second}
use Rattle.model.specs.Mesh.{node_type}
use Rattle.orbits.specs.Stack.{stack}
use Rattle.words.specs.Brackets.{letter}
use Rattle.words.specs.Position.{vertex_count, vertex_no}
use Rattle.mesh_walks.specs.Told.{told_after, told, tell, written}

triangle_told : written (letter (down ∷ first ∷ first ∷ up ∷ second ∷ second ∷ [])) (0 ∷ []) 6 ≡ 5 ∷ []
unfolding written tell told told_after node_type vertex_no vertex_count stack count
triangle_told = refl

three_told : written (letter (down ∷ first ∷ down ∷ down ∷ first ∷ first ∷ up ∷ second ∷ up ∷ up ∷ second ∷ second ∷ [])) (0 ∷ 0 ∷ 0 ∷ []) 12
    ≡ 4 ∷ 2 ∷ 5 ∷ []
unfolding written tell told told_after node_type vertex_no vertex_count stack count
three_told = refl
