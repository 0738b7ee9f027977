-- The parts of the work area after a store, and after an entry leaves a stack.
--
--   view_mark, view_open, view_type   a mark; an edge waits; a type
--   top_is, rest_is      what is on top of a stack, and what below
--   open_count, half_count   how many edges wait, and how many second places are still to come
--   open_top             the edge that waits last
--   view_close           it waits no longer
use Prim.Native.Nat.{ℕ, suc, ◌+◌, ◌-◌, ◌*◌, ◌≤◌, ◌<◌}
use native.Mathlib.Nat.{zero-add}
use native.Mathlib.Omega.{arith}
use mathlib.Core.Path.{◌≡◌, sym, ap, ◌∙◌}
use mathlib.Core.List.{List, ◌∷◌}
use lib.ListN.{length, get_or, set, length-set}
use Rattle.words.specs.Word.{head, tail}
use Rattle.work.specs.Map.{TYPES}
use Rattle.work.specs.Area.{stack}
use Rattle.work.proofs.Regions.{region_set, region_set_other}
use Rattle.work.proofs.Stacks.{length_stack, stack_set, stack_push, stack_pop}
use Rattle.mesh_second_places.specs.Areas.{WAITING, HALVES, OWNERS, ENTRIES, View}

module _ (n c h : ℕ) (w b waits ps fs es ts : List ℕ) (v : View n c h w b waits ps fs es ts) (ch : c ≤ n) (hh : h ≤ n) where
  pub view_mark : (d x : ℕ) → d < n → View n c h (set w d x) (set b d x) waits ps fs es ts
  view_mark d x l = record {
    marks = rw zero-add at (region_set 0 n w d x l) ∙ ap (λ (a : List ℕ). set a d x) v.marks;
    opens = stack_set (WAITING * n) c w d x (λ g. omega arith) ∙ v.opens;
    places = stack_set (HALVES * n) h w d x (λ g. omega arith) ∙ v.places;
    owners = stack_set (OWNERS * n) h w d x (λ g. omega arith) ∙ v.owners;
    entries = stack_set (ENTRIES * n) h w d x (λ g. omega arith) ∙ v.entries;
    types = region_set_other (TYPES * n) n w d x (λ g. omega arith) ∙ v.types;
    room = simp length-set v.room;
  }

  pub view_open : (x : ℕ) → c < n → View n (suc c) h (set w (WAITING * n + c) x) b (x ∷ waits) ps fs es ts
  view_open x l =
      let i = WAITING * n + c in
      record {
        marks = region_set_other 0 n w i x (λ g. omega arith) ∙ v.marks;
        opens = stack_push (WAITING * n) c w x (omega (arith, v.room)) ∙ ap (λ (a : List ℕ). x ∷ a) v.opens;
        places = stack_set (HALVES * n) h w i x (λ g. omega arith) ∙ v.places;
        owners = stack_set (OWNERS * n) h w i x (λ g. omega arith) ∙ v.owners;
        entries = stack_set (ENTRIES * n) h w i x (λ g. omega arith) ∙ v.entries;
        types = region_set_other (TYPES * n) n w i x (λ g. omega arith) ∙ v.types;
        room = simp length-set v.room;
      }

  pub view_type : (i t : ℕ) → i < n → View n c h (set w (TYPES * n + i) t) b waits ps fs es (set ts i t)
  view_type i t l =
      let x = TYPES * n + i in
      record {
        marks = region_set_other 0 n w x t (λ g. omega arith) ∙ v.marks;
        opens = stack_set (WAITING * n) c w x t (λ g. omega arith) ∙ v.opens;
        places = stack_set (HALVES * n) h w x t (λ g. omega arith) ∙ v.places;
        owners = stack_set (OWNERS * n) h w x t (λ g. omega arith) ∙ v.owners;
        entries = stack_set (ENTRIES * n) h w x t (λ g. omega arith) ∙ v.entries;
        types = region_set (TYPES * n) n w i t l ∙ ap (λ (a : List ℕ). set a i t) v.types;
        room = simp length-set v.room;
      }

-- ---- the tops of stacks

module _ (a k x : ℕ) (w xs : List ℕ) (some : 0 < k) (e : stack a k w ≡ x ∷ xs) where
  pub top_is : get_or w (a + (k - 1)) 0 ≡ x
  top_is = ap head (sym (stack_pop a k w some) ∙ e)

  pub rest_is : stack a (k - 1) w ≡ xs
  rest_is = ap tail (sym (stack_pop a k w some) ∙ e)

module _ (n c h : ℕ) (w b waits ps fs es ts : List ℕ) (v : View n c h w b waits ps fs es ts) where
  pub open_count : length waits ≡ c
  open_count = sym (ap length v.opens) ∙ length_stack (WAITING * n) c w

  pub half_count : length ps ≡ h
  half_count = sym (ap length v.places) ∙ length_stack (HALVES * n) h w

  module _ (x : ℕ) (xs : List ℕ) (e : waits ≡ x ∷ xs) where
    some_open : 0 < c
    some_open = let z = open_count in let y = ap length e in omega arith

    pub open_top : get_or w (WAITING * n + (c - 1)) 0 ≡ x
    open_top = top_is (WAITING * n) c x w xs some_open (v.opens ∙ e)

    pub view_close : View n (c - 1) h w b xs ps fs es ts
    view_close = record {
      marks = v.marks;
      opens = rest_is (WAITING * n) c x w xs some_open (v.opens ∙ e);
      places = v.places;
      owners = v.owners;
      entries = v.entries;
      types = v.types;
      room = v.room;
    }
