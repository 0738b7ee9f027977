-- Isomorphisms of maps without roots, and the lists that make them.
--
--   Isomorphism rot rot' f   f carries the map with rotation rot to the one with rotation rot'
--   inverse_of f           partners the other way round
--   composed f g          the partner in g of the partner in f
use Rattle.std.specs.Prelude.{ℕ, ◌<◌, ◌≡◌, true, List, length, get_or}
use Rattle.model.specs.Numbers.{is_permutation, position}
use Rattle.model.specs.Map.{opposite, next}
use Rattle.model.specs.Numbers.{tabulate}

-- a renumbering but for the roots
pub record Isomorphism (rot rot' f : List ℕ) : Type 0 where
  pub size : length f ≡ length rot
  pub same_darts : length rot ≡ length rot'
  pub partners : is_permutation f ≡ true
  pub opposites : (d : ℕ) → d < length rot → get_or f (opposite d) 0 ≡ opposite (get_or f d 0)
  pub rotations : (d : ℕ) → d < length rot → get_or f (next rot d) 0 ≡ next rot' (get_or f d 0)

unfoldable pub inverse_of : List ℕ → List ℕ
inverse_of f = tabulate (λ d. position d f) 0 (length f)

unfoldable pub composed : List ℕ → List ℕ → List ℕ
composed f g = tabulate (λ d. get_or g (get_or f d 0) 0) 0 (length f)
