-- `words::writer::Writer::field` meets its contract: a blank and then the digits, of which there are at most 20.
use native.Mathlib.Omega.{arith}
use Rattle.words.proofs.DecimalLaws.{field_room_lem}
use Rattle.words.proofs.WritingLaws.{wrote_then}
use Rattle.words.proofs.writer.Writer.field.Goals as goal

pub decimal-requires : goal.decimal-requires
decimal-requires c = omega (arith, field_room_lem c.args.v c.ranges.v.fits)

pub returns : goal.returns
returns c = (wrote_then c.byte.ensures c.decimal.ensures, omega (arith, field_room_lem c.args.v c.ranges.v.fits))
