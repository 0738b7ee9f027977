-- A type is read: each step of the code finds the word that its step of the machine finds. Assumes nothing.
--
--   opened                a node is not complete
--   none_turn, big_turn   enter: there is no such type
--   node_turn, soon_turn  node, soon: the node's first letters are put, and it is not complete
--   tips_stand, tips_turn, tips_kept   tips: the node's letters are put
use Prim.Native.Nat.{ℕ, suc, ◌+◌, ◌*◌, ◌<◌}
use native.Mathlib.Numerals.{add-one}
use native.Mathlib.Omega.{arith}
use mathlib.Core.Path.{◌≡◌, refl, sym, ◌∙◌}
use mathlib.Core.List.{List}
use lib.ListN.{length, set, length-set}
use Rattle.model.specs.Traversal.{down, up, first}
use Rattle.work.specs.Map.{BASES, PLACES}
use Rattle.std.specs.Prelude.{Some, None}
use Rattle.node_ends.specs.declared.State.{State}
use Rattle.node_ends.specs.declared.Outcome.TheVariants.{Reads, Climbs}
use Rattle.node_ends.specs.Steps.{place_for, view_at, with_letter, with_node, reading, left, owes, Standing, Stands, Turned}
use Rattle.mesh_decoder.specs.Spelled.{Entering}
use Rattle.node_ends.proofs.Founds.{with_type, ends_up}
use Rattle.node_ends.proofs.Views.{type_read}
use Rattle.node_ends.proofs.Standings.{counted, owes_zero, owes_two, put_stands}
use Rattle.node_ends.proofs.Turns.{turned_from, stuck, putting, put_kept, put_view}
use Rattle.mesh_decoder.proofs.Founds.{reads_zero, reads_bad, reads_node, reads_soon, reads_tips}
use Rattle.mesh_decoder.proofs.Standings.{node_pushed, pushed_stands, read_stands}

opened : (m : ℕ) (w : List ℕ) (s : State) (b x : ℕ) → Standing m (1 + owes (place_for x)) w s
    → Turned m s.read 0 (reading (with_node b x (view_at m w s)) s.height) (Some (Reads (counted s.read s.put s.height (s.depth + 1)))) w
    (set (set w (BASES * (2 * m) + s.depth) b) (PLACES * (2 * m) + s.depth) x)
unfolding left Stands
opened m w s b x g =
    let w₁ = set w (BASES * (2 * m) + s.depth) b in
    let u = g.within in
    record {
      finds = rw (add-one s.depth, node_pushed m w s.read s.put s.depth g.room b x (omega arith) (omega arith));
      stands = (pushed_stands m w s b x g, refl);
      kept = length-set w₁ (PLACES * (2 * m) + s.depth) x ∙ length-set w (BASES * (2 * m) + s.depth) b;
    }

module _ (m t : ℕ) (w : List ℕ) (s : State) (g : Entering m t w s) where
  abbrev h : ℕ
  h = s.height

  -- the state where the type is read and k of its letters are put
  abbrev with : ℕ → ℕ → State
  with k height = counted (s.read + 1) (s.put + k) height s.depth

  abbrev taken : State
  taken = counted (s.read + 1) s.put h s.depth

  takes : left m w (Some (Reads s)) ≡ reading (with_type t (view_at m w taken)) h
  unfolding left
  takes = rw (add-one s.read, type_read m w s.read s.put s.depth g.standing.room g.more, g.next)

  -- ---- no such type

  pub none_turn : t ≡ 0 → Turned m (s.read + 1) 0 (left m w (Some (Reads s))) None w w
  none_turn e = stuck (takes ∙ rw e (reads_zero (view_at m w taken) h))

  pub big_turn : 5 < t → Turned m (s.read + 1) 0 (left m w (Some (Reads s))) None w w
  big_turn l = stuck (takes ∙ reads_bad (view_at m w taken) h t l)

  -- ---- down

  abbrev w₁ : List ℕ
  w₁ = putting m w s.put down

  taken_stands : Standing m 4 w taken
  taken_stands = read_stands m w s g.standing g.more

  down_stands : Standing m 3 w₁ (with 1 h)
  down_stands = let l = g.standing.low in put_stands m w taken 3 taken_stands down _ h refl (omega arith) (omega arith)

  down_view : view_at m w₁ (with 1 h) ≡ with_letter down (view_at m w taken)
  down_view = put_view m w 3 taken taken_stands down _ refl

  pub node_turn : 0 < t → t < 4
      → Turned m (s.read + 1) 0 (left m w (Some (Reads s))) (Some (Reads (counted (s.read + 1) (s.put + 1) h (s.depth + 1)))) w
      (set (set w₁ (BASES * (2 * m) + s.depth) h) (PLACES * (2 * m) + s.depth) t)
  node_turn p l = turned_from
      (opened m w₁ (with 1 h) h t (rw (owes_two t p l) down_stands))
      (rw down_view (sym (reads_node (view_at m w taken) h t p l)) ∙ sym takes)
      (put_kept m w s.put down)

  -- ---- down and first

  abbrev w₂ : List ℕ
  w₂ = putting m w₁ (s.put + 1) first

  leaf_stands : Standing m 2 w₂ (with 2 (h + 1))
  leaf_stands =
      let l = g.standing.low in put_stands m w₁ (with 1 h) 2 down_stands first _ (h + 1) (omega arith) (omega arith) (omega arith)

  leaf_view : view_at m w₂ (with 2 (h + 1)) ≡ with_letter first (with_letter down (view_at m w taken))
  leaf_view = rw (put_view m w₁ 2 (with 1 h) down_stands first (s.put + 2) (omega arith), down_view)

  leaf_kept : length w₂ ≡ length w
  leaf_kept = put_kept m w₁ (s.put + 1) first ∙ put_kept m w s.put down

  pub soon_turn : t ≡ 4
      → Turned m (s.read + 1) 0 (left m w (Some (Reads s))) (Some (Reads (counted (s.read + 1) (s.put + 2) (h + 1) (s.depth + 1)))) w
      (set (set w₂ (BASES * (2 * m) + s.depth) h) (PLACES * (2 * m) + s.depth) 0)
  soon_turn e = turned_from
      (opened m w₂ (with 2 (h + 1)) h 0 (rw owes_zero leaf_stands))
      (rw (leaf_view, add-one h) (sym (reads_soon (view_at m w taken) h)) ∙ sym (rw e at takes))
      leaf_kept

  -- ---- all four letters

  abbrev w₃ : List ℕ
  w₃ = putting m w₂ (s.put + 2) first

  abbrev w₄ : List ℕ
  w₄ = putting m w₃ (s.put + 3) up

  leaves_stand : Standing m 1 w₃ (with 3 (h + 2))
  leaves_stand =
      let l = g.standing.low in put_stands m w₂ (with 2 (h + 1)) 1 leaf_stands first _ (h + 2) (omega arith) (omega arith) (omega arith)

  pub tips_stand : Standing m 0 w₄ (with 4 (h + 2))
  tips_stand =
      let l = g.standing.low in put_stands m w₃ (with 3 (h + 2)) 0 leaves_stand up _ (h + 2) (omega arith) (omega arith) (omega arith)

  tips_view : view_at m w₄ (with 4 (h + 2)) ≡ with_letter up (with_letter first (with_letter first (with_letter down (view_at m w taken))))
  tips_view = rw (
    put_view m w₃ 0 (with 3 (h + 2)) leaves_stand up (s.put + 4) (omega arith),
    put_view m w₂ 1 (with 2 (h + 1)) leaf_stands first (s.put + 3) (omega arith),
    leaf_view,
  )

  pub tips_turn : t ≡ 5 → left m w₄ (Some (Climbs (with 4 (h + 2)))) ≡ left m w (Some (Reads s))
  unfolding left
  tips_turn e =
      let v = with_letter first (with_letter first (with_letter down (view_at m w taken))) in
      let n : h + 2 ≡ suc (suc h) = omega arith in
      rw (tips_view, n) (sym (ends_up v h (suc (suc h)) (omega arith)) ∙ sym (reads_tips (view_at m w taken) h)) ∙ sym (rw e at takes)

  pub tips_kept : length w₄ ≡ length w
  tips_kept = put_kept m w₃ (s.put + 3) up ∙ put_kept m w₂ (s.put + 2) first ∙ leaf_kept
