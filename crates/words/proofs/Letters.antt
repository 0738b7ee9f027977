-- Letters and their fellows.
--
--   opens_fellow, tree_fellow    of two fellows one opens their edge; both are of the tree or neither
--   fellow_opens, fellow_closes  the same, by which of them opens
--   is_down_lem                      a letter that passes `is_down_lem` is down
--   apart                        a letter is one letter: its code tells which
--   onward_is                    where the traversal goes on: across tree edges
--   onward_tree, onward_flat     the same for a letter of a tree edge, and for another
use Prim.Native.Nat.{ℕ}
use mathlib.Core.Path.{◌≡◌, refl, sym, ap, ◌∙◌}
use mathlib.Core.Bool.{Bool, true, false, not, cond, false≢true}
use mathlib.Core.List.{List}
use Rattle.model.specs.Map.{opposite, next}
use Rattle.model.specs.Traversal.{Letter, down, up, first, second, code, opens, onward}
use Rattle.words.specs.Toured.{fellow, is_tree}
use Rattle.words.specs.Entered.{is_down}

pub opens_fellow : (l : Letter) → opens (fellow l) ≡ not (opens l)
opens_fellow down = refl
opens_fellow up = refl
opens_fellow first = refl
opens_fellow second = refl

pub tree_fellow : (l : Letter) → is_tree (fellow l) ≡ is_tree l
tree_fellow down = refl
tree_fellow up = refl
tree_fellow first = refl
tree_fellow second = refl

pub fellow_opens : (l : Letter) → opens l ≡ false → opens (fellow l) ≡ true
fellow_opens l e = opens_fellow l ∙ ap not e

pub fellow_closes : (l : Letter) → opens l ≡ true → opens (fellow l) ≡ false
fellow_closes l e = opens_fellow l ∙ ap not e

pub is_down_lem : (l : Letter) → is_down l ≡ true → l ≡ down
is_down_lem down e = refl
is_down_lem up e = absurd (false≢true e)
is_down_lem first e = absurd (false≢true e)
is_down_lem second e = absurd (false≢true e)

pub apart : (l : Letter) {a b : Letter} → l ≡ a → l ≡ b → code a ≡ code b
apart l e f = ap code (sym e ∙ f)

pub onward_is : (rot : List ℕ) (l : Letter) (d : ℕ) → onward rot l d ≡ cond (is_tree l) (next rot (opposite d)) (next rot d)
unfolding onward
onward_is rot down d = refl
onward_is rot up d = refl
onward_is rot first d = refl
onward_is rot second d = refl

module _ (rot : List ℕ) (l : Letter) (d : ℕ) where
  pub onward_tree : is_tree l ≡ true → onward rot l d ≡ next rot (opposite d)
  onward_tree e = onward_is rot l d ∙ ap (λ (b : Bool). cond b (next rot (opposite d)) (next rot d)) e

  pub onward_flat : is_tree l ≡ false → onward rot l d ≡ next rot d
  onward_flat e = onward_is rot l d ∙ ap (λ (b : Bool). cond b (next rot (opposite d)) (next rot d)) e
