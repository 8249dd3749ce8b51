-- The room that a line takes. The contracts of `put_line` and `put_note`, which ask for room, and those of private functions cite it.
use Rattle.std.specs.Prelude.{ℕ}

-- a blank and a number of 64 bits, which has at most 20 digits
abbrev pub field_room : ℕ
field_room = 21
