-- The word that is found, step by step, whatever the work area holds. Assumes nothing.
--
--   with_type t v          the type t before those that are left
--   ends_up, ends_stuck   a node ends where a leaf of it is open, else there is no word
--   nothing_is            all other numbers say that nothing is to come
--   child_comes, gap_comes, leaf_comes, nothing_comes   a tree is complete below a node, by what is to come at the node's second place
--   start_ends, start_stuck, start_early   a tree is complete below the start node
use Prim.Native.Nat.{ℕ, suc, ◌-◌, ◌≤◌, ◌<◌}
use mathlib.Core.Path.{◌≡◌, refl, sym}
use mathlib.Core.Logic.{◌≢◌}
use mathlib.Core.List.{List, [], ◌∷◌, append_assoc}
use borrow.Author.Tests.{lt-ltb, le-ltb, ne_eqb}
use Rattle.model.specs.Traversal.{up, first, second}
use Rattle.words.specs.Word.{found, none}
use Rattle.words.proofs.Found.{after_none, after_found, after_append}
use Rattle.node_types.specs.Machine.{nothing, climb}
use Rattle.node_ends.specs.Steps.{View, place_for, with_letter, with_node, reading, climbing, ending}

unfoldable pub with_type : ℕ → View → View
with_type t v = record { letters = v.letters; nodes = v.nodes; types = t ∷ v.types }

-- ---- a tree is complete

pub nothing_is : (x : ℕ) → x ≢ 1 → x ≢ 2 → x ≢ 3 → place_for x ≡ nothing
unfolding place_for
nothing_is x p q r = rw (ne_eqb x 1 p, ne_eqb x 2 q, ne_eqb x 3 r)

module _ (v : View) (b h : ℕ) where
  pub ends_up : b < h → ending v b h ≡ climbing (with_letter up v) h
  unfolding ending climbing with_letter
  ends_up l = rw (lt-ltb b h l) (sym (after_append v.letters (up ∷ []) _))

  pub ends_stuck : h ≤ b → ending v b h ≡ none
  unfolding ending
  ends_stuck l = rw (le-ltb b h l) (after_none v.letters)

  pub child_comes : climbing (with_node b 1 v) h ≡ reading (with_node b 0 v) h
  unfolding climbing reading with_node place_for climb
  child_comes = refl

  pub gap_comes : climbing (with_node b 2 v) h ≡ ending (with_letter second v) b (h - 1)
  unfolding climbing ending with_node with_letter place_for climb
  gap_comes = sym (after_append v.letters (second ∷ []) _)

  pub leaf_comes : climbing (with_node b 3 v) h ≡ ending (with_letter first v) b (suc h)
  unfolding climbing ending with_node with_letter place_for climb
  leaf_comes = sym (after_append v.letters (first ∷ []) _)

  pub nothing_comes : (x : ℕ) → x ≢ 1 → x ≢ 2 → x ≢ 3 → climbing (with_node b x v) h ≡ ending v b h
  unfolding climbing ending with_node climb
  nothing_comes x p q r = rw (nothing_is x p q r)

module _ (v : View) (h : ℕ) (e : v.nodes ≡ []) where
  pub start_early : (t : ℕ) (ts : List ℕ) → v.types ≡ t ∷ ts → climbing v h ≡ none
  unfolding climbing climb
  start_early t ts f = rw (e, f) (after_none v.letters)

  pub start_stuck : h ≢ 2 → v.types ≡ [] → climbing v h ≡ none
  unfolding climbing climb
  start_stuck d f = rw (e, f, ne_eqb h 2 d) (after_none v.letters)

  pub start_ends : h ≡ 2 → v.types ≡ [] → climbing v h ≡ found (with_letter second (with_letter second v)).letters
  unfolding climbing climb with_letter
  start_ends d f = rw (e, f, d, append_assoc) (after_found v.letters (second ∷ second ∷ []))
