-- `claim_check_call::check::check_stored` meets its contract: the room is the table's W, and the claim's reader refuses or gives the claim that is
-- checked.
use mathlib.Core.Path.{refl, sym, ◌∙◌}
use native.Mathlib.Omega.{arith}
use Rattle.std.proofs.lemmas.Result.{err_from_is_err_and}
use Rattle.files.proofs.WLaws.{W_max}
use Rattle.claim_reader.proofs.ClaimLaws.{claimed_read}
use Rattle.claim_check_call.specs.declared.answer.ClaimRefusal.TheVariants.{Claim}
use Rattle.claim_check_call.proofs.ClaimOutcomes.{answer_short, answer_refused, read_lent, answer_read}
use Rattle.claim_check_call.proofs.MappedLaws.{mapped_ok, mapped_err}
use Rattle.claim_check_call.proofs.check.check_stored.Goals as goal

pub returns-then-mem-w : goal.returns-then-mem-w
returns-then-mem-w c = λ T st. answer_short (c.w-w.ensures.of_table T st) c.if-mem-w.true

pub read_claim-requires : goal.read_claim-requires
read_claim-requires c =
    let (T, st) = c.requires in
    omega (arith, c.w-w.ensures.of_table T st, W_max T st.sound)

pub returns : goal.returns
returns c =
    let (i, e) = claimed_read _ _ _ (sym (mapped_ok _ refl c.in_ok-count.ensures.cases) ∙ c.read_claim.ensures) in
    λ T st.
    let wide = c.w-w.ensures.of_table T st in
    answer_read wide i c.if-mem-w.false (c.check_facts.ensures T i.positions (read_lent wide i st e))

pub returns-in_err-count : goal.returns-in_err-count
returns-in_err-count c =
    let (_, is, by) = err_from_is_err_and c.from_residual.result c.from_residual.ensures.1 in
    let (_, was, told) = mapped_err Claim _ c.in_err-count.ensures.cases in
    λ T st. rw (is, by, told) (answer_refused (c.w-w.ensures.of_table T st) c.if-mem-w.false (sym was ∙ c.read_claim.ensures))
