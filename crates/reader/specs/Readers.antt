-- A reader (document 01, "Numbers": "The reader keeps the file and its place together as one thing, and moves on only past whole numbers").
use Rattle.numbers.specs.Reading.{number_at, part_of}
use Rattle.reader.specs.declared.Reader.{Reader}
use Rattle.reader.specs.Places.{past_of}

-- the same bytes, at the place past the number that stands there; a number that is refused moves nothing
abbrev pub moved_on : Reader → Reader
moved_on r = record { src = r.src; at = past_of r.at (part_of (number_at r.src.now r.at)) }
