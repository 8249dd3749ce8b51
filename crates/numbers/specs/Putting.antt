-- What the functions that write a part of a file promise: its bytes are put at a place of a buffer. Only private ones cite it.
use Rattle.std.specs.Prelude.{◌≡◌, List, ℕ, ◌+◌, length}
use Rattle.std.proofs.lemmas.List.Edits.{sets}

-- `after` is `before` with the text from `at` on, and r is the place past it
pub record Put (text : List ℕ) (at : ℕ) (before after : List ℕ) (r : ℕ) : Type 0 where
  pub bytes : after ≡ sets before at text
  pub next : r ≡ at + length text
