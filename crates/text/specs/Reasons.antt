-- What a refusal says in words: a line for each number of document 01's table ("What comes back"). The first word says what its value counts.
use Rattle.std.specs.Prelude.{cond, List, [], ◌∷◌, ℕ, eqb, get_or, Option, None, Some}
use Rattle.words.specs.Text.{bytes, note}

-- The lines of the numbers from 0 to 12, in this order, with the value v. 0 is done and has none. From 1 to 6 the value is a place in a file, the
-- table or the claim: `byte` says which.
unfoldable pub reasons : List ℕ → ℕ → List (Option (List ℕ))
reasons byte v =
    None
    ∷ Some (note byte v (bytes ": the file ends here, and more is due"))
    ∷ Some (note byte v (bytes ": a number too long or not in its shortest form"))
    ∷ Some (note byte v (bytes ": the version is not 1"))
    ∷ Some (note byte v (bytes ": outside its column's range"))
    ∷ Some (note byte v (bytes ": this row is not above the one before it"))
    ∷ Some (note byte v (bytes ": bytes after the end"))
    ∷ Some (note (bytes "bytes") v (bytes ": the working memory is shorter than this"))
    ∷ Some (note (bytes "budget") v (bytes ": there are more facts than this"))
    ∷ Some (note (bytes "thread") v (bytes ": the claim lacks its start fact"))
    ∷ Some (note (bytes "position") v (bytes ": a rule gives this fact, and the claim lacks it"))
    ∷ Some (note (bytes "row") v (bytes ": the claim allows this error"))
    ∷ Some (note (bytes "bytes") v (bytes ": the space for the claim is shorter than this"))
    ∷ []

-- the line of a number; one above 12 has none
abbrev pub reason_of : List ℕ → ℕ → ℕ → Option (List ℕ)
reason_of byte value number = get_or (reasons byte value) number None

-- the file whose byte a value is, by the origin of the answer: 1 is the claim's
abbrev pub byte_of : ℕ → List ℕ
byte_of origin = cond (eqb origin 1) (bytes "claim byte") (bytes "byte")

-- the line of an answer by its number, value and origin
abbrev pub reason_line : ℕ → ℕ → ℕ → Option (List ℕ)
reason_line number value origin = reason_of (byte_of origin) value number
