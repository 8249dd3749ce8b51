-- `files::header::w_of` meets its contract: W's formula, from the bytes on.
use Rattle.std.proofs.Common.{rules}
use Rattle.files.specs.Table.{w_of}
use Rattle.files.proofs.header.w_of.Goals as goal

pub returns : goal.returns
unfolding w_of
returns c = search rules
