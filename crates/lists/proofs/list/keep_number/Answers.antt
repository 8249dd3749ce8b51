-- `lists::list::keep_number` meets its contract: the number is found and fits a byte, so it is its first byte, and ends within the bytes.
use mathlib.Core.Path.{refl}
use native.Mathlib.Omega.{arith}
use Rattle.lists.proofs.RowKeeping.{byte_here, byte_read, byte_past}
use Rattle.lists.proofs.list.keep_number.Goals as goal

pub bounds-src-at : goal.bounds-src-at
bounds-src-at c = byte_here _ _ c.requires.0

pub overflow_add-result : goal.overflow_add-result
overflow_add-result c = omega (arith, byte_past _ _ c.requires.0 (omega (arith, c.type_inv.src c.args.at)))

pub overflow_add-result-2 : goal.overflow_add-result-2
overflow_add-result-2 c = omega (arith, byte_past _ _ c.requires.0 (omega (arith, c.type_inv.src c.args.at)))

pub returns : goal.returns
returns c =
    record { value = _; was = rw (c.from.ensures) (byte_read _ _ c.requires.0 (omega (arith, c.type_inv.src c.args.at))); held = refl }
