-- `text::line::Line::new` meets its contract: the line's text is what was written, and the memory past it is zeros still.
use mathlib.Core.Path.{◌∙◌}
use Rattle.std.proofs.lemmas.List.{drop-replicate}
use Rattle.text.specs.declared.line.TheConstants.{ROOM}
use Rattle.text.proofs.LineLaws.{written_text, written_rest}
use Rattle.text.proofs.line.Line.new.Goals as goal

pub returns : goal.returns
returns c = written_text c.put_line-len.ensures

pub invariant_of-result : goal.invariant_of-result
invariant_of-result c = (c.put_line-len.ensures.room.0, written_rest c.put_line-len.ensures ∙ drop-replicate _ ROOM 0)
