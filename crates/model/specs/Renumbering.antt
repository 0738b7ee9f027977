-- A renumbering (document 01) from one plan to another: an isomorphism of rooted maps, as a list that gives each dart its partner.
--
--   Renumbering p q f     f is a renumbering from p to q that carries root, opposites and rotation
--   Carries k p q f       f is one that kind k asks for: where the outside is stored, it carries the outer face too
use Rattle.std.specs.Prelude.{ℕ, ◌<◌, ◌≡◌, true, List, length, get_or}
use Rattle.model.specs.Numbers.{is_permutation}
use Rattle.model.specs.Map.{Plan, darts, opposite, next, face_of, stores_outside}

pub record Renumbering (p q : Plan) (f : List ℕ) : Type 0 where
  -- "a list that gives each dart of the first plan a partner, and the partners are the darts of the second, each once"
  pub size : length f ≡ darts p
  pub same_darts : darts p ≡ darts q
  pub partners : is_permutation f ≡ true
  -- "It carries start to start when the first start's partner is the second start"
  pub root_to_root : get_or f p.root 0 ≡ q.root
  -- "for every dart, the partner of its opposite is the opposite of its partner"
  pub opposites : (d : ℕ) → d < darts p → get_or f (opposite d) 0 ≡ opposite (get_or f d 0)
  -- "for every dart, the partner of the next dart counterclockwise is the next one counterclockwise from its partner"
  pub rotations : (d : ℕ) → d < darts p → get_or f (next p.rotation d) 0 ≡ next q.rotation (get_or f d 0)

-- document 02 (e): "For the new kinds a renumbering must also carry outside area to outside area": the first outside dart's partner lies on the second
-- outside area, and so do the partners of that area's other darts, and no others
pub record Carries (k : ℕ) (p q : Plan) (f : List ℕ) : Type 0 where
  pub renumbering : Renumbering p q f
  pub outsides : stores_outside k ≡ true → face_of q.rotation (get_or f p.outside 0) ≡ face_of q.rotation q.outside
