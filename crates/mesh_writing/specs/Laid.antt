-- From the codes of types in the work area to the payload.
--
--   Ready                bits and digits of types are in the work area
--   payload_size s        how many bytes they take
--   tabled_payload        their payload, under the bytes of a table
use Rattle.std.specs.Prelude.{ℕ, ◌+◌, ◌*◌, ◌≤◌, ◌≡◌, true, List, ◌++◌, map, length, get_or}
use Rattle.model.specs.Numbers.{all_below}
use Rattle.model.specs.Record.{pack, bytes_for}
use Rattle.work.specs.Map.{BITS, LABELS}
use Rattle.work.specs.Area.{region}
use Rattle.mesh_encoder.specs.declared.Sizes.{Sizes}

pub record Ready (n : ℕ) (s : Sizes) (w : List ℕ) : Type 0 where
  pub few : n ≤ 8192
  pub room : 16 * n ≤ length w
  pub bits_fit : s.bits ≤ n
  pub digits_fit : s.digits ≤ n
  pub bits_low : all_below 2 (region (BITS * n) s.bits w) ≡ true
  pub digits_low : all_below 3 (region (LABELS * n) s.digits w) ≡ true

abbrev pub payload_size : Sizes → ℕ
payload_size s = bytes_for s.bits 8 + bytes_for s.digits 5

unfoldable pub tabled_payload : List ℕ → ℕ → Sizes → List ℕ → List ℕ
tabled_payload bs n s w =
    pack 2 8 (bytes_for s.bits 8) (region (BITS * n) s.bits w)
    ++ map (λ v. get_or bs v 0) (pack 3 5 (bytes_for s.digits 5) (region (LABELS * n) s.digits w))
