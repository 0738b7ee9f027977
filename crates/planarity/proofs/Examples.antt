-- A plan of four vertices and six edges: where its traversal enters each vertex.
--
--   example             the plan
--   example_entries     the entry of each of its twelve positions
--   example_downs       its downs
use mathlib.Core.Path.{◌≡◌, refl}
use mathlib.Core.List.{[], ◌∷◌, map}
use Rattle.model.specs.Numbers.{count, least}
use Rattle.model.specs.Map.{Plan, opposite, next, vertex_of}
use Rattle.model.specs.Traversal.{letter_at, onward, seen_after, walk, visits, word}
use Rattle.orbits.specs.Stack.{stack}
use Rattle.words.specs.Toured.{letter_of}
use Rattle.words.specs.Entered.{downs, entered_at}

abbrev pub example : Plan
example = record { rotation = 9 ∷ 2 ∷ 11 ∷ 4 ∷ 6 ∷ 0 ∷ 3 ∷ 8 ∷ 10 ∷ 5 ∷ 7 ∷ 1 ∷ []; root = 0; outside = 0 }

-- its word is down down first down first first up up second up second second
pub example_entries : map (entered_at example) (0 ∷ 1 ∷ 2 ∷ 3 ∷ 4 ∷ 5 ∷ 6 ∷ 7 ∷ 8 ∷ 9 ∷ 10 ∷ 11 ∷ [])
    ≡ 0 ∷ 1 ∷ 2 ∷ 2 ∷ 4 ∷ 4 ∷ 4 ∷ 2 ∷ 1 ∷ 1 ∷ 0 ∷ 0 ∷ []
unfolding entered_at stack letter_of word visits walk letter_at onward seen_after vertex_of least opposite next
example_entries = refl

pub example_downs : downs example ≡ 3
unfolding downs count letter_of word visits walk letter_at onward seen_after vertex_of least opposite next
example_downs = refl
