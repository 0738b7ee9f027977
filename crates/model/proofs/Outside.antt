-- What does not ask where the outside is. Assumes nothing.
--
--   with_outside p o      the plan p with another outside
--   same_word, same_dead_ends   its contour word, and whether it has a dead end
--   fit_outside          it is fit as p is, if the outside is a dart where it is stored
--   fit_widest           a plan that is fit for a kind that stores the outside is fit for 104h
use Prim.Native.Nat.{ℕ, ◌<◌}
use mathlib.Core.Path.{◌≡◌, refl}
use mathlib.Core.Bool.{true}
use Rattle.model.specs.Numbers.{elem}
use Rattle.model.specs.Map.{Plan, darts, has_dead_end, is_family, stores_outside, is_kind, family, loop_refused, face_refused, degree_refused, fit}
use Rattle.model.specs.Traversal.{visits, word}
use Rattle.model.proofs.Fitness.{fit_parts, parts_fit, outside_dart, dart_outside}

abbrev pub with_outside : Plan → ℕ → Plan
with_outside p o = record { rotation = p.rotation; root = p.root; outside = o }

module _ (p : Plan) (o : ℕ) where
  pub same_word : word (with_outside p o) ≡ word p
  unfolding word visits
  same_word = refl

  pub same_dead_ends : has_dead_end (with_outside p o) ≡ has_dead_end p
  unfolding has_dead_end
  same_dead_ends = refl

  pub fit_outside : (k : ℕ) → fit k p ≡ true → (stores_outside k ≡ true → o < darts p) → fit k (with_outside p o) ≡ true
  unfolding degree_refused
  fit_outside k e h =
      let a = fit_parts k p e in
      parts_fit k (with_outside p o) (record {
        kind = a.kind;
        count = a.count;
        root = a.root;
        outside = dart_outside k (with_outside p o) h;
        entries = a.entries;
        joined = a.joined;
        flat = a.flat;
        loops = a.loops;
        triangles = a.triangles;
        degrees = rw same_dead_ends a.degrees;
      })

pub fit_widest : (k : ℕ) (p : Plan) → fit k p ≡ true → stores_outside k ≡ true → fit 0x104 p ≡ true
unfolding is_kind is_family stores_outside family elem loop_refused face_refused degree_refused
fit_widest k p e s =
    let a = fit_parts k p e in
    parts_fit 0x104 p (record {
      kind = refl;
      count = a.count;
      root = a.root;
      outside = dart_outside 0x104 p (λ t. outside_dart k p a.outside s);
      entries = a.entries;
      joined = a.joined;
      flat = a.flat;
      loops = refl;
      triangles = refl;
      degrees = refl;
    })
