-- One use, by its cases: nothing is to do, since x has no mark, y has one, or none is left; y is put; y is looked at.
use mathlib.Core.Path.{refl}
use native.Mathlib.Omega.{arith}
use Rattle.std.proofs.Common.{rules}
use Rattle.store.proofs.MarkLaws.{is_true, is_false}
use Rattle.uses.proofs.PassLaws.{swept_none, one_without, one_there, one_put, one_looks}
use Rattle.uses.proofs.lines.one.Goals.{then-not-has-via-then-not-has, then-not-has-via-else-not-has+then-has, then-not-has-via-else-not-has+else-has+then-pass-eq0}
use Rattle.uses.proofs.lines.one.Goals as goal

pub returns-then-not-has : goal.returns-then-not-has
returns-then-not-has c =
    elim c.then-not-has.branch [
      | then-not-has-via-then-not-has w ↦ one_without _ (is_false _ c.has.ensures w.if-not-has.true)
      | then-not-has-via-else-not-has+then-has w ↦ one_there _ (is_true _ w.has-else-not-has.ensures w.if-has.true)
      | then-not-has-via-else-not-has+else-has+then-pass-eq0 w ↦ swept_none _ w.if-pass-eq0.true
    ]

pub returns-then-put : goal.returns-then-put
returns-then-put c =
    rw c.put_mark.ensures
    (one_put c.if-put.true c.requires.1 (is_true _ c.has.ensures c.if-not-has.false)
    (is_false _ c.has-else-not-has.ensures c.if-has.false) refl (omega arith))

pub returns : goal.returns
returns c =
    one_looks c.if-put.false (is_true _ c.has.ensures c.if-not-has.false) (is_false _ c.has-else-not-has.ensures c.if-has.false) (search rules)
