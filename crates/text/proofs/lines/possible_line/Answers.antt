-- `text::lines::possible_line` meets its contract: the numbers that are put are the row, the store and the first n of the four local stores.
use mathlib.Core.Path.{ap}
use Rattle.std.proofs.Common.{rules}
use Rattle.words.specs.Text.{line}
use Rattle.text.proofs.LineLaws.{first_of_four}
use Rattle.text.proofs.lines.possible_line.Goals as goal

pub returns : goal.returns
returns c =
    let four = rw c.copy_from_slice.ensures.after at c.copy_from_slice.ensures.len in
    rw (c.new.ensures, c.copy_from_slice.ensures.after) (ap (line _) (search (rules, four, first_of_four)))
