-- Text as bytes: words, numbers in decimal, and lines, as document 01 prints them; and what writing a text leaves in a buffer.
use Rattle.std.specs.Prelude.{◌≡◌, cond, List, [], ◌∷◌, ◌++◌, ℕ, zero, suc, ◌+◌, ◌/◌, ◌%◌, ◌≤◌, ltb, length, take}
use Prim.Native.Char.{code}
use Prim.Native.String.{String}
use Prim.Native.String as string
use Rattle.std.proofs.lemmas.List.Edits.{sets}

-- ---- words

-- the bytes of a word: its characters are ASCII, a byte each
abbrev pub bytes : String → List ℕ
bytes string.[] = []
bytes (string.◌∷◌ c s) = code c ∷ bytes s

abbrev pub blank : ℕ
blank = code " "

abbrev pub line_feed : ℕ
line_feed = code "\n"

-- ---- numbers

abbrev pub digit : ℕ → ℕ
digit d = code "0" + d

-- v in at most `most` decimal digits: one digit, or the digits of v / 10 and one more
unfoldable pub digits : ℕ → ℕ → List ℕ
digits zero v = []
digits (suc most) v = let more = digits most (v / 10) ++ (digit (v % 10) ∷ []) in cond (ltb v 10) (digit v ∷ []) more

-- a number in decimal, with no leading zero; v + 1 digits are enough for it
unfoldable pub decimal : ℕ → List ℕ
decimal v = digits (suc v) v

-- ---- lines

-- numbers, "one blank before each"
abbrev pub field : ℕ → List ℕ
field v = blank ∷ decimal v

unfoldable pub fields : List ℕ → List ℕ
fields [] = []
fields (v ∷ vs) = field v ++ fields vs

-- a word, its numbers, and a line feed
unfoldable pub line : List ℕ → List ℕ → List ℕ
line word numbers = word ++ fields numbers ++ (line_feed ∷ [])

-- a word, one number, the rest of the sentence, and a line feed, as "byte 14: bytes after the end"
unfoldable pub note : List ℕ → ℕ → List ℕ → List ℕ
note word number rest = word ++ field number ++ rest ++ (line_feed ∷ [])

-- ---- writing

-- r counts bytes at the start of a buffer. The second part follows from the first; it is what lending `&out[..r]` asks.
abbrev pub Counts : ℕ → List ℕ → Type 0
Counts r out = (r ≤ length out) × (r ≡ length (take r out))

-- A text is written: `after` is `before` with the text at its start and no other byte changed. r is how many bytes that is; all have room.
pub record Written (text before after : List ℕ) (r : ℕ) : Type 0 where
  pub bytes : after ≡ sets before 0 text
  pub count : r ≡ length text
  pub room : Counts r after
