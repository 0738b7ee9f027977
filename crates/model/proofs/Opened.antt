-- The definitions that a proof by computation runs, opened together: to unfold one of these names is to unfold all that its line names.
--
--   map_opened           the parts and properties of a map
--   fit_opened           whether a plan is fit
--   walk_opened          the contour walk and the standard plan
--   labels_opened        the labelled tree
--   mesh_opened          the dual and its node types
--   record_opened        whether a plan is fit, and its record
--   writing_opened       writing's answer and output past the test of the table, and what a line says of them
--   measuring_opened     measuring's answer and the list after it
use Rattle.model.specs.Numbers.{count, some, elem, distinct, all_below, is_permutation, position, least, cycles, cycle_size, sizes_below, cycle_sizes, tabulate}
use Rattle.model.specs.Numbers.{first_refusal}
use Rattle.model.specs.Map.{opposite, next, vertex_of, face_next, face_of, edges, vertices, faces, face_lengths, degree_one, spread, spreads, reached, connected}
use Rattle.model.specs.Map.{characteristic, planar, has_loop, has_dead_end, is_family, stores_outside, is_kind, family, dart_count_fits, outside_refused, loop_refused, is_triangle, has_other_face, face_refused, degree_refused, fit}
use Rattle.model.specs.Traversal.{letter_at, onward, seen_after, walk, visits, word, number, standard_numbers, renumbered, standard_rotation, standard_face, standard_plan}
use Rattle.model.specs.LabelledTree.{codes_of, codes, unlabelled, is_upper, gone, before, label_one, remove_cut, take_leaf, take_one, take_leaves}
use Rattle.model.specs.LabelledTree.{tree_labels, label_of, bits_of, along, labels, tree_bits}
use Rattle.model.specs.Mesh.{dual_of, dual_plan, letter_on, node_type, type_from, type_at, types, code_a, type_bits, digit_of, type_digits}
use Rattle.model.specs.Groups.{byte_for, loaded, standard_table}
use Rattle.model.specs.Record.{digits_from, pack, le16, head_length, payload_length, record_length, payload, mesh_payload, contour_bits, headed, payload_of, outside_bytes, record_of}
use Rattle.model.specs.Shelf.{same}
use Rattle.model.specs.Refusals.{numbered}
use Rattle.model.specs.Calls.{front, early_refusals, late_refusals, last_refusals, answer_of, measure_refusal, measure_answer, measured_list}
use Rattle.model.proofs.Line.{writes, refuses, agrees, held_by, held}

unfoldable pub map_opened : Unit {0}
unfolding opposite next vertex_of least face_next face_of edges vertices faces cycles count degree_one spread spreads reached some connected characteristic planar
map_opened = tt

unfoldable pub fit_opened : Unit {0}
unfolding map_opened fit is_family stores_outside is_kind family dart_count_fits is_permutation all_below distinct elem outside_refused loop_refused has_loop face_refused has_other_face
    is_triangle degree_refused has_dead_end
fit_opened = tt

unfoldable pub walk_opened : Unit {0}
unfolding map_opened letter_at onward seen_after walk visits number standard_numbers renumbered standard_rotation standard_face standard_plan
walk_opened = tt

unfoldable pub labels_opened : Unit {0}
unfolding walk_opened codes_of codes position unlabelled is_upper gone before label_one remove_cut take_leaf take_one take_leaves tree_labels label_of bits_of along labels tree_bits
labels_opened = tt

unfoldable pub mesh_opened : Unit {0}
unfolding walk_opened labels_opened tabulate position dual_of dual_plan word letter_on node_type type_from type_at types code_a type_bits digit_of type_digits
mesh_opened = tt

unfoldable pub record_opened : Unit {0}
unfolding fit_opened labels_opened mesh_opened digits_from pack le16 head_length payload_length record_length byte_for loaded standard_table tabulate payload mesh_payload
    contour_bits headed payload_of outside_bytes record_of same
record_opened = tt

unfoldable pub writing_opened : Unit {0}
unfolding record_opened front first_refusal early_refusals late_refusals last_refusals numbered answer_of writes refuses agrees held_by held
writing_opened = tt

unfoldable pub measuring_opened : Unit {0}
unfolding fit_opened cycle_size sizes_below cycle_sizes face_lengths front first_refusal measure_refusal numbered measure_answer measured_list
measuring_opened = tt
