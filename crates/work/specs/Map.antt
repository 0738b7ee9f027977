-- The map of the work area, in units of the number of darts.
--
--   MET, SEEN, LETTERS, FACES    writing: letters by dart, vertices seen, letters by position, names of faces; names of vertices stand from 0 on
--   DEGREES, LENGTHS             writing and measuring: the sizes of vertices and of faces
--   WAITING                      the walk by marks, which stand from 0 on: the stack of edges outside the tree that wait for their end
--   BITS, LABELS                 writing: the tree bits, and the labels, in reading too
--   BELOW, TREES, BEGUN, OPENS   reading: stacks of the vertices that the present one hangs from, of open tree edges, of the vertices where other open
--                                edges began, and of those edges; the rotation stands from 0 on
--   TYPES                        meshes: the node types
--   BASES, PLACES                meshes, reading: stacks of the nodes that are not complete, the open edges when each was entered and what is to come at its
--                                second place
use Rattle.std.specs.Prelude.{ℕ}

abbrev pub MET : ℕ
MET = 1

abbrev pub SEEN : ℕ
SEEN = 2

abbrev pub LETTERS : ℕ
LETTERS = 3

abbrev pub FACES : ℕ
FACES = 4

abbrev pub WAITING : ℕ
WAITING = 1

abbrev pub BITS : ℕ
BITS = 8

abbrev pub LABELS : ℕ
LABELS = 9

abbrev pub DEGREES : ℕ
DEGREES = 10

abbrev pub LENGTHS : ℕ
LENGTHS = 11

abbrev pub BELOW : ℕ
BELOW = 5

abbrev pub TREES : ℕ
TREES = 6

abbrev pub BEGUN : ℕ
BEGUN = 7

abbrev pub OPENS : ℕ
OPENS = 8

abbrev pub TYPES : ℕ
TYPES = 7

abbrev pub BASES : ℕ
BASES = 5

abbrev pub PLACES : ℕ
PLACES = 6
