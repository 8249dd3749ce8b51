-- `report::facts::next_fact` meets its contract: the header that is read is the file's, and its sizes make the plan.
use mathlib.Core.Path.{sym, ◌∙◌}
use Rattle.numbers.proofs.ReadingLaws.{part_got, part_bad}
use Rattle.files.specs.Header.{header_at}
use Rattle.report.specs.Listed.{read, refused}
use Rattle.report.proofs.ListedLaws.{header_sizes}
use Rattle.report.proofs.facts.next_fact.Goals as goal

pub of-requires : goal.of-requires
of-requires c = header_sizes _ (part_got (header_at _) (sym c.in-Ok.is ∙ c.read_header.ensures))

pub returns-in-Ok : goal.returns-in-Ok
returns-in-Ok c =
    read (part_got (header_at _) (sym c.in-Ok.is ∙ c.read_header.ensures)) (c.next_in.ensures _ c.of.ensures.0)

pub returns-in-Err : goal.returns-in-Err
returns-in-Err c = refused (part_bad (header_at _) (sym c.in-Err.is ∙ c.read_header.ensures))
