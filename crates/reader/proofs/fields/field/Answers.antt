-- `reader::fields::field` meets its contract: the range is asked of the number that `number_at` gave.
use Rattle.reader.proofs.RangeLaws.{ranged_field}
use Rattle.reader.proofs.fields.field.Goals as goal

pub returns : goal.returns
returns c = rw (← ranged_field _ _ _ _, ← c.number_at.ensures) c.ranged.ensures
