-- How a number is written (document 01, "Numbers"), and what writing one leaves in a slice.
use Rattle.std.specs.Prelude.{ℕ, zero, suc, ◌+◌, ◌/◌, ◌%◌, List, [], ◌∷◌, Bool, false, length, ltb, leb}
use Rattle.std.proofs.lemmas.List.Edits.{sets}
use Rattle.numbers.specs.Reading.{pick}

-- value in at most `left` groups of seven bits, the least significant first; the top bit is set on all but the last
unfoldable pub groups_of : ℕ → ℕ → List ℕ
groups_of zero value = []
groups_of (suc left) value = pick (ltb value 128) (value ∷ []) ((value % 128 + 128) ∷ groups_of left (value / 128))

-- the bytes of a number below 2^28
unfoldable pub bytes_of : ℕ → List ℕ
bytes_of value = groups_of 4 value

-- value is a number, and its bytes have room at `at`
unfoldable pub has_room : List ℕ → ℕ → ℕ → Bool
has_room d at value = pick (ltb value 268435456) (leb (at + length (bytes_of value)) (length d)) false

-- the place past the number, or `at` where it was not written
unfoldable pub put_next : List ℕ → ℕ → ℕ → ℕ
put_next d at value = pick (has_room d at value) (at + length (bytes_of value)) at

-- the slice with the number in it, or as it was
unfoldable pub put_into : List ℕ → ℕ → ℕ → List ℕ
put_into d at value = pick (has_room d at value) (sets d at (bytes_of value)) d
