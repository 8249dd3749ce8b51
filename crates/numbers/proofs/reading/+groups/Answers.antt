-- `numbers::reading::groups` meets its contract: each way out is a law of `groups_at`. The measure is `left`.
use mathlib.Core.Path.{sym, ◌∙◌}
use native.Mathlib.Omega.{arith}
use Rattle.std.proofs.lemmas.Result.{err_from_is_err_and}
use Rattle.numbers.proofs.NumberLaws.{groups_none, one_less, groups_cut, groups_short, groups_last, groups_more, groups_room}
use Rattle.numbers.proofs.reading.+groups.Goals as goal

pub returns-then-left-eq0 : goal.returns-then-left-eq0
returns-then-left-eq0 t c = sym (groups_none _ _ _ _ c.if-left-eq0.true)

pub returns-then-src-at : goal.returns-then-src-at
returns-then-src-at t c = sym (groups_cut _ _ _ _ _ (one_less c.if-left-eq0.false) c.if-src-at.true)

pub returns-in_err-above : goal.returns-in_err-above
returns-in_err-above t c =
    let p = err_from_is_err_and c.from_residual.result c.from_residual.ensures.1 in
    rw (p.1, p.2)
    (sym (groups_more _ _ _ _ _ (one_less c.if-left-eq0.false) (search) c.from-b.ensures c.if-b-ge128.true (sym c.in_err-above.was ∙ c.groups.ensures)))

pub overflow_mul-value : goal.overflow_mul-value
overflow_mul-value t c =
    omega (arith, groups_room _ _ _ _ _ _ (omega arith) (sym c.groups.ensures ∙ c.in_ok-above.was))

pub overflow_add-value : goal.overflow_add-value
overflow_add-value t c =
    omega (arith, groups_room _ _ _ _ _ _ (omega arith) (sym c.groups.ensures ∙ c.in_ok-above.was))

pub returns-then-b-ge128 : goal.returns-then-b-ge128
returns-then-b-ge128 t c =
    sym (groups_more _ _ _ _ _ (one_less c.if-left-eq0.false) (search) c.from-b.ensures c.if-b-ge128.true (sym c.in_ok-above.was ∙ c.groups.ensures))

pub returns-then-b-least : goal.returns-then-b-least
returns-then-b-least t c =
    sym (groups_short _ _ _ _ _ (one_less c.if-left-eq0.false) (search) c.from-b.ensures c.if-b-ge128.false c.if-b-least.true)

pub returns : goal.returns
returns t c = sym (groups_last _ _ _ _ _ (one_less c.if-left-eq0.false) (search) c.from-b.ensures c.if-b-ge128.false c.if-b-least.false)
