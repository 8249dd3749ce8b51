-- `report::facts::next_in` meets its contract: what the search comes to is what is listed next, of any table with the plan.
use mathlib.Core.Path.{sym, ◌∙◌}
use native.Mathlib.Omega.{arith}
use Rattle.report.proofs.ListedLaws.{next_short, next_none, next_line}
use Rattle.report.proofs.facts.next_in.Goals as goal

pub returns-then-mem-w : goal.returns-then-mem-w
returns-then-mem-w c T is = next_short T (c.s.view_is ∙ is) (omega arith)

pub returns-in_err-p : goal.returns-in_err-p
returns-in_err-p c T is = rw c.from_residual.ensures (next_none T (c.s.view_is ∙ is) c.in_err-p.ensures)

pub returns : goal.returns
returns c T is =
    next_line T (c.s.view_is ∙ is) (omega arith) c.in_ok-p.ensures (rw (sym c.s.view_is) at c.fact_line-line.ensures)
