-- A buffer that a file was read into.
use Rattle.std.specs.Prelude.{◌≡◌, ◌≤◌, List, ℕ, length, take, Result, Ok, Err}

-- `&xs[..n]` is within xs, and has n bytes. The second follows from the first, and spares a caller that lends `&buf[..n]` on a proof of its own.
abbrev pub IsPrefixLen : ℕ → List ℕ → Type 0
IsPrefixLen n xs = (n ≤ length xs) × (n ≡ length (take n xs))

-- What was read stands at the start of the buffer: so many bytes, all of them within it. Which they are the system decides.
abbrev pub Filled : {E : Type 0} → Result ℕ E → List ℕ → Type 0
Filled (Ok count) buf = IsPrefixLen count buf
Filled (Err why) buf = Unit
