-- The reading machine's states on the way through a word.
--
--   ToRead s w          in state s the word w is still to be read: its bits and labels are left, and the labels of the edges that it ends are at hand
--   left s             the bits and the open edges outside the tree that are left: each letter takes one
--   run s              the word that the machine reads from s on
use Rattle.std.specs.Prelude.{ℕ, suc, ◌+◌, ◌≡◌, true, false, List, length}
use Rattle.model.specs.Traversal.{Letter}
use Rattle.words.specs.Word.{nested, starts_second, ends, word_bits, Found, Machine, decode}

pub record ToRead (s : Machine) (w : List Letter) : Type 0 where
  pub nests : nested false s.n s.here s.below s.opens w ≡ true
  pub ups_are : s.ups ≡ (ends w).ups
  pub seconds_are : s.seconds ≡ (ends w).seconds
  pub label_is : s.label ≡ starts_second w
  pub bits_are : s.bits ≡ word_bits false w
  pub labels_are : s.labels ≡ (ends w).labels

-- ---- the run

abbrev pub left : Machine → ℕ
left s = length s.bits + length s.opens

unfoldable pub run : Machine → Found
run s = decode (suc (left s)) s
