-- Row 0 and the rows of the file, by cases.
use mathlib.Core.Path.{◌≡◌, refl}
use mathlib.Core.Bool.{Bool, true, false}
use mathlib.Core.List.{List}
use Prim.Native.Nat.{ℕ, suc}
use native.Mathlib.Omega.{arith}
use Rattle.std.specs.Bool.{then_some}
use Rattle.model.specs.Errors.{Cell}
use Rattle.positions.specs.Plans.{Plan}
use Rattle.store.specs.Marking.{Is}
use Rattle.reaching.specs.Reaching.{row_cell, Aimed, no_failed, picked, unfit, fit}
use Rattle.reaching.proofs.row_cells.ErrorRows.aim.Goals as goal

-- a row of the file is aimed at thread 0 if its shared cell fits
by_fit : (s : Plan) (failed : ℕ) (rows m : List ℕ) {row i : ℕ} (g : ℕ) → row ≡ suc i → (b : Bool) → Is (Cell (row_cell rows i 0) g) b
    → Aimed s failed rows m row g (then_some b 0)
by_fit s failed rows m {i = i} g is true h = fit i is h refl
by_fit s failed rows m {i = i} g is false h = unfit i is h refl

pub returns-then-row-gt0 : goal.returns-then-row-gt0
returns-then-row-gt0 c =
    let rows = c.args.self.now in
    let fits = rw c.cell.ensures at c.cell_fits.ensures in
    rw c.then_some.ensures
    (by_fit c.args.facts.now.plan rows.failed rows.rows.now c.args.facts.now.mem.now c.args.g (omega arith) c.cell_fits.result fits)

pub returns-in_err-checked_sub : goal.returns-in_err-checked_sub
returns-in_err-checked_sub c = no_failed (omega arith) (omega (arith, c.in_err-checked_sub.ensures)) c.from_residual.ensures

pub returns-in_ok-checked_sub : goal.returns-in_ok-checked_sub
returns-in_ok-checked_sub c =
    picked c.in_ok-checked_sub.field-0 (omega arith) (omega (arith, c.in_ok-checked_sub.ensures)) c.pick.ensures
