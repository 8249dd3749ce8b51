-- What may be left unprinted.
use Rattle.std.specs.Prelude.{List, ℕ, ◌<◌, length, Result, Ok, Err}
use Rattle.inputs.specs.declared.telling.Said.{Said}

-- Only some bytes can be left unprinted. Whether they are the system decides.
abbrev pub Printed : List ℕ → Result Unit Said → Type 0
Printed bytes (Ok _) = Unit
Printed bytes (Err said) = 0 < length bytes
