-- A list of rows is filled from the front: it begins with rows of zeros, and each row that is stored is one more of the bytes' rows.
use mathlib.Core.Path.{◌≡◌, refl, ◌∙◌}
use mathlib.Core.List.{List}
use Prim.Native.Nat.{ℕ, zero, suc, ◌+◌, ◌<◌}
use native.Mathlib.Nat.{not-suc-le-zero}
use native.Mathlib.Omega.{arith}
use lib.ListN.{length, replicate, set}
use lib.Seq.{get_or-set_same, get_or-set_other}
use borrow.Author.Count.{below_more}
use Rattle.store.specs.declared.rows.Row.{Row}
use Rattle.store.specs.Reading.{row_of, zero_row, nth, Unpacked}

-- every row of a list of zero rows is one, and past its end too
zeros_nth : (n k : ℕ) → nth (replicate n zero_row) k ≡ zero_row
zeros_nth zero k = refl
zeros_nth (suc n) zero = refl
zeros_nth (suc n) (suc k) = zeros_nth n k

pub listed_none : {bytes : List ℕ} (n : ℕ) → Unpacked bytes 0 (replicate n zero_row)
listed_none n = record { read = λ k l. absurd (not-suc-le-zero l); rest = λ k l. zeros_nth n k }

pub listed_next : {bytes : List ℕ} (rows : List Row) (i : ℕ) (r : Row) → i < length rows → r ≡ row_of bytes i → Unpacked bytes i rows
    → Unpacked bytes (i + 1) (set rows i r)
listed_next {bytes} rows i r l e h =
    record {
      read =
          below_more (λ k. nth (set rows i r) k ≡ row_of bytes k) i
          (λ k lt. get_or-set_other rows i k r zero_row (λ q. omega arith) ∙ h.read k lt)
          (get_or-set_same rows i r zero_row l ∙ e);
      rest = λ k lt. get_or-set_other rows i k r zero_row (λ q. omega arith) ∙ h.rest k (omega arith);
    }
