-- `check_call::check::check` meets its contract: the reader refuses, or the table that it stored is checked.
use Rattle.std.proofs.lemmas.Result.{err_from_is_err_and}
use Rattle.check_call.specs.Checking.{refused, read}
use Rattle.check_call.proofs.ReadTable.{read_stored, read_refused}
use Rattle.check_call.proofs.check.check.Goals as goal

pub returns-in_err-read : goal.returns-in_err-read
returns-in_err-read c =
    let (_, is, by) = err_from_is_err_and c.from_residual.result c.from_residual.ensures.1 in
    rw (is, by) (refused (read_refused c.in_err-read.ensures))

pub check_stored-requires : goal.check_stored-requires
check_stored-requires c =
    let got = read_stored c.new-rows.ensures c.in_ok-read.ensures in
    (got.table, got.stored)

pub returns : goal.returns
returns c =
    let got = read_stored c.new-rows.ensures c.in_ok-read.ensures in
    read got.is (c.check_stored.ensures got.table got.stored)
