-- How far reading a row looks: four bytes for each of its columns. A column that is not there looks at none.
use mathlib.Core.Path.{ap}
use mathlib.Core.List.{List, [], ◌∷◌}
use Prim.Native.Nat.{ℕ, ◌*◌}
use native.Mathlib.Omega.{arith}
use lib.ListN.{length}
use Rattle.numbers.specs.Reading.{Out}
use Rattle.numbers.proofs.Looks.{Looks, looks_then, looks_got, looks_more, field_looks}
use Rattle.cells.specs.declared.columns.Column.{Column}
use Rattle.cells.specs.declared.columns.Column.TheVariants.{Within, Below, Absent}
use Rattle.cells.specs.Rows.{push, cell_at, row_at}
use Rattle.cells.proofs.RowFits.{pushed}

cell_looks : (c : Column) → Looks 4 (cell_at c)
unfolding cell_at
cell_looks (Within low most) = field_looks low _
cell_looks (Below end) = field_looks 0 end
cell_looks Absent = looks_more (omega arith) (looks_got 0)

-- what is put in front of what is read looks no further
pub looks_push : {A : Type 0} {c : ℕ} {f : List ℕ → ℕ → Out (List A)} (a : A) → Looks c f → Looks c (λ s at. push a (f s at))
looks_push {f = f} a l =
    record {
      same = λ s k at h. ap (push a) (l.same s k at h);
      past = λ s at as' n e. let p = pushed a (f s at) as' n e in l.past s at p.rest n p.was;
    }

pub row_looks : (cs : List Column) → Looks (4 * length cs) (row_at cs)
unfolding row_at
row_looks [] = looks_got []
row_looks (c ∷ cs) = looks_more (omega arith) (looks_then (cell_looks c) (λ s at v n e. looks_push v (row_looks cs)))
