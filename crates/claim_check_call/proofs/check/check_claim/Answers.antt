-- `claim_check_call::check::check_claim` meets its contract: the table's reader refuses, or the claim is checked against the table that it stored.
use mathlib.Core.Path.{refl}
use Rattle.std.proofs.lemmas.Result.{err_from_is_err_and}
use Rattle.check_call.proofs.ReadTable.{read_stored, read_refused}
use Rattle.claim_check_call.specs.ClaimChecking.{table_refused, table_read}
use Rattle.claim_check_call.specs.declared.answer.ClaimRefusal.TheVariants.{Table}
use Rattle.claim_check_call.proofs.MappedLaws.{mapped_ok, mapped_err}
use Rattle.claim_check_call.proofs.check.check_claim.Goals as goal

pub returns-in_err-read : goal.returns-in_err-read
returns-in_err-read c =
    let (_, is, by) = err_from_is_err_and c.from_residual.result c.from_residual.ensures.1 in
    let (_, was, told) = mapped_err Table _ c.in_err-read.ensures.cases in
    rw (is, by, told) (table_refused (read_refused (rw was at c.read_table.ensures)))

pub check_stored-requires : goal.check_stored-requires
check_stored-requires c =
    let was = mapped_ok _ refl c.in_ok-read.ensures.cases in
    let got = read_stored c.new-rows.ensures (rw was at c.read_table.ensures) in
    (got.table, got.stored)

pub returns : goal.returns
returns c =
    let was = mapped_ok _ refl c.in_ok-read.ensures.cases in
    let got = read_stored c.new-rows.ensures (rw was at c.read_table.ensures) in
    table_read {T = got.table} got.is (c.check_stored.ensures got.table got.stored)
