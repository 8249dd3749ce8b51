-- Two results that a contract allows are equal: for each public function, of its contract as the prover reads it from the source (`Post`).
-- Every contract here is an equation for the answer and for each memory, so both results equal the same.
use mathlib.Core.Path.{◌≡◌}
use mathlib.Core.List.{List}
use Prim.Native.Nat.{ℕ}
use contract.Lifetimes.{Lfts}
use denote.Triple.Clauses.{AtExit}
use borrow.Fn.Kinds.{Dens, ended_of}
use Rattle.std.specs.Prelude.{Result}
use Rattle.numbers.specs.declared.refusals.Refusal.{Refusal}
use Rattle.files.specs.declared.table.TableRead.{TableRead}
use Rattle.files.specs.declared.table.TableRows.{TableRows}
use Rattle.files.proofs.table.TableRows.new.Reads as new_lem
use Rattle.files.proofs.table.TableRows.new.Kinds as new-kinds
use Rattle.files.specs.File.{TableIs}
use Rattle.files.proofs.header.w_of.Reads as w_of_lem
use Rattle.files.proofs.header.w_of.Kinds as w-of-kinds
use Rattle.files.proofs.header.read_header.Reads as read-header
use Rattle.files.proofs.header.read_header.Kinds as read-header-kinds
use Rattle.files.proofs.table.read_table.Reads as read_table
use Rattle.files.proofs.table.read_table.Kinds as read-table-kinds
use Rattle.numbers.proofs.Unique.{same, Fixes}

pub w_of_fixes : Fixes w-of-kinds.ps w-of-kinds.r w_of_lem.Post
w_of_fixes κs a x x' s s' = same

pub read_header_fixes : Fixes read-header-kinds.ps read-header-kinds.r read-header.Post
read_header_fixes κs a x x' s s' = same

pub new_fixes : Fixes new-kinds.ps new-kinds.r new_lem.Post
new_fixes κs a x x' s s' = same

-- the answer of the table reader, and every byte of the memory
pub table_is_unique : (s : List ℕ) (r r' : Result TableRead Refusal) (rows rows' rows'' : TableRows)
    → TableIs s r rows rows' → TableIs s r' rows rows'' → (r ≡ r') × (rows' ≡ rows'')
table_is_unique s r r' rows rows' rows'' t u = (
  same t.answer u.answer,
  λ i. record {
    steps = same t.steps u.steps i;
    pushes = same t.pushes u.pushes i;
    pops = same t.pops u.pops i;
    errors = same t.errors u.errors i;
  },
)

pub read_table_fixes : (κs : Lfts 2) (a : Dens κs read-table-kinds.ps) (x x' : Result TableRead Refusal)
    (s s' : AtExit (ended_of 2 read-table-kinds.ps read-table-kinds.r) κs)
    → read_table.Post κs a x s → read_table.Post κs a x' s' → (x ≡ x') × (s.1.0.now ≡ s'.1.0.now)
read_table_fixes κs a x x' s s' = table_is_unique _ x x' _ _ _
