-- A line is its word, its numbers one after the other, and the line feed. The loop that writes the numbers keeps how far it is.
use mathlib.Core.Path.{◌≡◌}
use mathlib.Core.List.{List, [], ◌∷◌, ◌++◌, append_assoc, append-nil}
use Prim.Native.Nat.{ℕ, ◌+◌, ◌*◌, ◌≤◌, ◌<◌}
use native.Mathlib.Omega.{arith}
use lib.ListN.{length, take, get_or}
use lib.Seq.{take_all}
use Rattle.words.specs.Text.{line_feed, field, fields, line}
use Rattle.words.specs.Writing.{Wrote}
use Rattle.words.specs.declared.writer.Writer.{Writer}
use Rattle.words.specs.Room.{field_room}
use Rattle.std.proofs.lemmas.List.{take_more}
use Rattle.words.proofs.WritingLaws.{wrote_none, wrote_then}

fields_snoc : (vs : List ℕ) (v : ℕ) → fields (vs ++ (v ∷ [])) ≡ fields vs ++ field v
unfolding fields
fields_snoc [] v = append-nil (field v)
fields_snoc (x ∷ vs) v = rw (fields_snoc vs v, append_assoc)

-- the first i numbers are written
pub record WroteFirst (numbers : List ℕ) (i : ℕ) (old new : Writer) : Type 0 where
  pub text : Wrote (fields (take i numbers)) old new
  pub most : new.at ≤ old.at + field_room * i

module _ {numbers : List ℕ} {a : Writer} where
  pub numbers_none : WroteFirst numbers 0 a a
  unfolding fields
  numbers_none = record { text = wrote_none a; most = omega arith }

  module _ {i : ℕ} {b c : Writer} (p : WroteFirst numbers i a b) where
    pub numbers_more : i < length numbers → Wrote (field (get_or numbers i 0)) b c → c.at ≤ b.at + field_room
        → WroteFirst numbers (i + 1) a c
    numbers_more l q h =
        record {
          text = rw (take_more numbers i 0 l, fields_snoc) (wrote_then p.text q);
          most = omega (arith, p.most);
        }

    -- between the word and the line feed
    pub line_whole : {word : List ℕ} {o : Writer} → Wrote word o a → length numbers ≤ i → Wrote (line_feed ∷ []) b c → Wrote (line word numbers) o c
    unfolding line
    line_whole w l q = rw (take_all i numbers l) at (wrote_then (wrote_then w p.text) q)
