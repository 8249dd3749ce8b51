-- `files_run::File::put_number` keeps the file within its room: the place past a number that was put is within the bytes, and else it stays.
use mathlib.Core.Bool.{Bool, true, false}
use mathlib.Core.Path.{◌≡◌, refl}
use mathlib.Core.List.{List}
use Prim.Native.Nat.{ℕ, ◌+◌, ◌≤◌}
use native.Mathlib.Omega.{arith}
use borrow.Author.Tests.{leb-true}
use lib.ListN.{length}
use lib.Dec.{ltb, leb}
use Rattle.std.proofs.Common.{rules}
use Rattle.numbers.specs.Reading.{pick}
use Rattle.numbers.specs.Writing.{bytes_of, has_room, put_next}
use Rattle.files_run.proofs.File.put_number.Goals as goal

within : (at n most : ℕ) (t u : Bool) → leb (at + n) most ≡ u → at ≤ most → pick (pick t u false) (at + n) at ≤ most
within at n most true true e h = leb-true (at + n) most e
within at n most true false e h = h
within at n most false u e h = h

put_within : (d : List ℕ) (at value : ℕ) → at ≤ length d → put_next d at value ≤ length d
unfolding put_next has_room
put_within d at value h = within at (length (bytes_of value)) (length d) (ltb value 268435456) (leb (at + length (bytes_of value)) (length d)) refl h

pub invariant_of-self : goal.invariant_of-self
invariant_of-self c =
    let file = c.args.self.now in
    let long : length file.bytes ≡ 8192 = search rules in
    let past = put_within file.bytes file.len c.args.number (omega (arith, long, file.within)) in
    record { within = omega (arith, c.put_number-self.ensures.0, long, past) }
