-- Letters as brackets.
--
--   is_down_lem, is_up, is_first_lem, is_second_lem   the letter of each bracket
--   flat_chord                a letter of another edge is no bracket of a tree edge
use mathlib.Core.Path.{◌≡◌, refl, sym}
use mathlib.Core.Bool.{false, true≢false}
use Rattle.model.specs.Traversal.{Letter, down, up, first, second}
use Rattle.orbits.specs.Stack.{flat, open', close}
use Rattle.orbits.proofs.Decode.{flat≢open, close≢open, flat≢close}
use Rattle.words.specs.Toured.{is_tree}
use Rattle.words.specs.Brackets.{tree_kind, chord_kind}

pub is_down_lem : (l : Letter) → tree_kind l ≡ open' → l ≡ down
is_down_lem down e = refl
is_down_lem up e = absurd (close≢open e)
is_down_lem first e = absurd (flat≢open e)
is_down_lem second e = absurd (flat≢open e)

pub is_up : (l : Letter) → tree_kind l ≡ close → l ≡ up
is_up down e = absurd (close≢open (sym e))
is_up up e = refl
is_up first e = absurd (flat≢close e)
is_up second e = absurd (flat≢close e)

pub is_first_lem : (l : Letter) → chord_kind l ≡ open' → l ≡ first
is_first_lem down e = absurd (flat≢open e)
is_first_lem up e = absurd (flat≢open e)
is_first_lem first e = refl
is_first_lem second e = absurd (close≢open e)

pub is_second_lem : (l : Letter) → chord_kind l ≡ close → l ≡ second
is_second_lem down e = absurd (flat≢close e)
is_second_lem up e = absurd (flat≢close e)
is_second_lem first e = absurd (close≢open (sym e))
is_second_lem second e = refl

pub flat_chord : (l : Letter) → is_tree l ≡ false → tree_kind l ≡ flat
flat_chord down e = absurd (true≢false e)
flat_chord up e = absurd (true≢false e)
flat_chord first e = refl
flat_chord second e = refl
