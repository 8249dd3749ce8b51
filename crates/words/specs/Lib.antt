-- Text as bytes (document 01, "Reference tables and results"). The contracts of the lines cite
--   Text     words, numbers in decimal, lines; what writing a text leaves in a buffer
-- and those of `put_line` and `put_note`, which ask for room, besides
--   Room     the room that a field takes
-- Those of private functions alone cite
--   Writing  what writing a part of a text does: numbers' `Put`, past what was written
pub mod Text
pub mod Room
pub mod Writing
