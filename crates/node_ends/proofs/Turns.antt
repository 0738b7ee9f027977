-- A tree is complete: each step of the code finds the word that its step of the machine finds. Assumes nothing.
--
--   turned_from           a step after a store or another step
--   stuck                 there is no word
--   putting               the work area with a letter put
--   put_kept, put_view    its length, and what it holds
--   ended, not_ended      complete: up is put, if a leaf of the node is open
--   child_turn            ascend: a child is to be read
--   gap_stands, gap_turn, leaf_stands, leaf_turn, nothing_stands, nothing_turn   ascend: what else is to come is put, and the node ends
--   early, other_height, finished   finish: types are left; more or fewer than two leaves are open; the last two letters are put
use Prim.Native.Nat.{ℕ, suc, ◌+◌, ◌-◌, ◌*◌, ◌≤◌, ◌<◌}
use native.Mathlib.Numerals.{add-one}
use native.Mathlib.Omega.{arith}
use mathlib.Core.Path.{◌≡◌, refl, sym, ap, ◌∙◌}
use mathlib.Core.Logic.{◌≢◌}
use mathlib.Core.List.{List, []}
use lib.ListN.{length, get_or, set, length-set}
use Rattle.model.specs.Traversal.{Letter, up, first, second, code}
use Rattle.words.specs.Word.{Found, found, none}
use Rattle.work.specs.Map.{LETTERS, BASES, PLACES}
use Rattle.work.specs.Area.{stack}
use Rattle.std.specs.Prelude.{Option, Some, None}
use Rattle.node_ends.specs.declared.State.{State}
use Rattle.node_ends.specs.declared.Outcome.{Outcome}
use Rattle.node_ends.specs.declared.Outcome.TheVariants.{Reads, Climbs, Whole}
use Rattle.node_ends.specs.Steps.{type_count, place_for, frames, View, view_of, view_at, with_letter, with_node, climbing, ending, left}
use Rattle.node_ends.specs.Steps.{owes, owed, Coded, popped, Standing, Stands, Turned}
use Rattle.node_ends.proofs.Founds.{with_type, ends_up, ends_stuck, child_comes, gap_comes, leaf_comes, nothing_comes}
use Rattle.node_ends.proofs.Founds.{start_early, start_stuck, start_ends}
use Rattle.node_ends.proofs.Views.{letter_put, coded_put, node_popped, child_taken, type_read, types_out}
use Rattle.node_ends.proofs.Standings.{counted, owes_two, owes_one, put_stands, popped_stands, taken_stands}

-- ---- steps after one another

pub turned_from : {m i d : ℕ} {f f' : Found} {r : Option Outcome} {w₁ w w' : List ℕ} → Turned m i d f r w₁ w' → f ≡ f' → length w₁ ≡ length w
    → Turned m i d f' r w w'
turned_from t q l = record { finds = t.finds ∙ q; stands = t.stands; kept = t.kept ∙ l }

pub stuck : {m i d : ℕ} {f : Found} {w : List ℕ} → f ≡ none → Turned m i d f None w w
unfolding left Stands
stuck e = record { finds = sym e; stands = tt; kept = refl }

-- ---- letters put

-- the work area with the letter l put
abbrev pub putting : ℕ → List ℕ → ℕ → Letter → List ℕ
putting m w k l = set w (LETTERS * (2 * m) + k) (code l)

pub put_kept : (m : ℕ) (w : List ℕ) (k : ℕ) (l : Letter) → length (putting m w k l) ≡ length w
put_kept m w k l = length-set w (LETTERS * (2 * m) + k) (code l)

pub put_view : (m : ℕ) (w : List ℕ) (c : ℕ) (s : State) → Standing m (suc c) w s → (l : Letter) (k : ℕ) → k ≡ s.put + 1
    → view_of m (putting m w s.put l) s.read k s.depth ≡ with_letter l (view_at m w s)
put_view m w c s g l k e =
    let u = g.within in let n : k ≡ suc s.put = omega arith in
    rw n (letter_put m w s.read s.put s.depth g.room l (omega arith))

module _ (m : ℕ) (w : List ℕ) (s : State) (b d : ℕ) where
  pub ended : Standing m 1 w s → b < s.height → s.depth < d
      → Turned m s.read d (ending (view_at m w s) b s.height) (Some (Climbs (counted s.read (s.put + 1) s.height s.depth))) w
      (putting m w s.put up)
  unfolding left Stands
  ended g h n = let l = g.low in record {
    finds = rw (put_view m w 0 s g up _ refl) (sym (ends_up (view_at m w s) b s.height h));
    stands = (put_stands m w s 0 g up _ s.height refl (omega arith) (omega arith), refl, n);
    kept = put_kept m w s.put up;
  }

  pub not_ended : s.height ≤ b → Turned m s.read d (ending (view_at m w s) b s.height) None w w
  not_ended h = stuck (ends_stuck (view_at m w s) b s.height h)

-- ---- a tree is complete below the node on top

module _ (m : ℕ) (w : List ℕ) (s : State) (g : Standing m 0 w s) (some : 0 < s.depth) where
  abbrev top : ℕ
  top = s.depth - 1

  abbrev base : ℕ
  base = get_or w (BASES * (2 * m) + top) 0

  abbrev place : ℕ
  place = get_or w (PLACES * (2 * m) + top) 0

  abbrev under : State
  under = popped s s.put s.height

  climbs : (x : ℕ) → place ≡ x → left m w (Some (Climbs s)) ≡ climbing (with_node base x (view_at m w under)) s.height
  unfolding left
  climbs x e = rw (node_popped m w s.read s.put s.depth g.room some, e)

  pub child_turn : place ≡ 1 → Turned m s.read s.depth (left m w (Some (Climbs s))) (Some (Reads s)) w (set w (PLACES * (2 * m) + top) 0)
  unfolding left Stands
  child_turn e =
      let u = g.within in
      let o : owes (place_for place) ≡ 2 = owes_two place (omega arith) (omega arith) in
      record {
        finds = rw (child_taken m w s.read s.put s.depth g.room some (omega arith) (omega arith))
            (sym (child_comes (view_at m w under) base s.height)) ∙ sym (climbs 1 e);
        stands = (taken_stands m w s g some o, refl);
        kept = length-set w (PLACES * (2 * m) + top) 0;
      }

  -- a letter is to come besides up
  one_comes : 0 < place → place < 4 → Standing m 2 w under
  one_comes l h = popped_stands m w s g some 2 (owes_two place l h)

  pub gap_stands : place ≡ 2 → Standing m 1 (putting m w s.put second) (popped s (s.put + 1) (s.height - 1))
  gap_stands e =
      let l = g.low in
      put_stands m w under 1 (one_comes (omega arith) (omega arith)) second _ (s.height - 1) refl (omega arith) (omega arith)

  pub gap_turn : place ≡ 2
      → ending (view_at m (putting m w s.put second) (popped s (s.put + 1) (s.height - 1))) base (s.height - 1)
      ≡ left m w (Some (Climbs s))
  gap_turn e =
      let p = one_comes (omega arith) (omega arith) in
      rw (put_view m w 1 under p second _ refl) (sym (gap_comes (view_at m w under) base s.height)) ∙ sym (climbs 2 e)

  pub leaf_stands : place ≡ 3 → Standing m 1 (putting m w s.put first) (popped s (s.put + 1) (s.height + 1))
  leaf_stands e =
      let l = g.low in
      put_stands m w under 1 (one_comes (omega arith) (omega arith)) first _ (s.height + 1) refl (omega arith) (omega arith)

  pub leaf_turn : place ≡ 3
      → ending (view_at m (putting m w s.put first) (popped s (s.put + 1) (s.height + 1))) base (s.height + 1)
      ≡ left m w (Some (Climbs s))
  leaf_turn e =
      let p = one_comes (omega arith) (omega arith) in
      rw (put_view m w 1 under p first _ refl, add-one s.height) (sym (leaf_comes (view_at m w under) base s.height)) ∙ sym (climbs 3 e)

  pub nothing_stands : place ≢ 1 → place ≢ 2 → place ≢ 3 → Standing m 1 w under
  nothing_stands p q r = popped_stands m w s g some 1 (owes_one place p q r)

  pub nothing_turn : place ≢ 1 → place ≢ 2 → place ≢ 3 → ending (view_at m w under) base s.height ≡ left m w (Some (Climbs s))
  nothing_turn p q r = sym (nothing_comes (view_at m w under) base s.height place p q r) ∙ sym (climbs place refl)

-- ---- a tree is complete below the start node

nodes_none : (m : ℕ) (w : List ℕ) (s : State) → s.depth ≡ 0 → (view_at m w s).nodes ≡ []
unfolding view_of frames stack
nodes_none m w s e = rw e refl

module _ (m : ℕ) (w : List ℕ) (s : State) (g : Standing m 0 w s) (none_open : s.depth ≡ 0) where
  pub early : s.read < type_count m → Turned m s.read 0 (left m w (Some (Climbs s))) None w w
  unfolding left with_type
  early h =
      let t = ap (λ (v : View). v.types) (type_read m w s.read s.put s.depth g.room h) in
      stuck (start_early (view_at m w s) s.height (nodes_none m w s none_open) _ _ t)

  module _ (read_all : type_count m ≤ s.read) where
    no_type : (view_at m w s).types ≡ []
    no_type = types_out m w s.read s.put s.depth g.room read_all

    pub other_height : s.height ≢ 2 → Turned m s.read 0 (left m w (Some (Climbs s))) None w w
    unfolding left
    other_height h = stuck (start_stuck (view_at m w s) s.height (nodes_none m w s none_open) h no_type)

    last_put : s.put + 2 ≡ 2 * m
    unfolding owed
    last_put =
        let o = ap owed (nodes_none m w s none_open) in
        let b = g.balance in let t = g.types_in in let a = g.some_edges in let h = g.thirds in omega arith

    two_put : (k : ℕ) → k ≡ suc (suc s.put) → k ≤ 2 * m
        → let w₂ = putting m (putting m w s.put second) (s.put + 1) second in
        (view_of m w₂ s.read k s.depth ≡ with_letter second (with_letter second (view_at m w s))) × Coded m k w₂
    two_put k e l =
        let w₁ = putting m w s.put second in
        let same = put_kept m w s.put second in
        let r = g.room in
        let v = letter_put m w s.read s.put s.depth r second (omega arith) in
        let v' = letter_put m w₁ s.read (suc s.put) s.depth (omega arith) second (omega arith) in
        let c = coded_put m w s.read s.put s.depth r second (omega arith) g.coded in
        let c' = coded_put m w₁ s.read (suc s.put) s.depth (omega arith) second (omega arith) c in
        (rw (e, add-one s.put) (v' ∙ ap (with_letter second) v), rw (e, add-one s.put) c')

    pub finished : s.height ≡ 2
        → Turned m s.read 0 (left m w (Some (Climbs s))) (Some Whole) w (putting m (putting m w s.put second) (s.put + 1) second)
    unfolding left Stands view_of
    finished h =
        let w₁ = putting m w s.put second in
        let all = last_put in
        let two = two_put (2 * m) (omega arith) (omega arith) in
        record {
          finds = ap (λ (v : View). found v.letters) two.0 ∙ sym (start_ends (view_at m w s) s.height (nodes_none m w s none_open) h no_type);
          stands = two.1;
          kept = put_kept m w₁ (s.put + 1) second ∙ put_kept m w s.put second;
        }
