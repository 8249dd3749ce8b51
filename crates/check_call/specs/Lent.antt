-- What functions over a table that was read are lent: its header and counts, and its rows in memory, as the table reader leaves them.
use Rattle.std.specs.Prelude.{◌≡◌, List, ℕ, ◌*◌, ◌≤◌, length}
use Rattle.std.proofs.lemmas.List.Edits.{sets}
use Rattle.files.specs.declared.header.Header.{Header}
use Rattle.files.specs.declared.table.Counts.{Counts}
use Rattle.files.specs.Table.{Table, Sound, step_cells, push_cells, pop_cells, error_cells, most_steps, most_pushes, most_pops, most_errors}
use Rattle.files.specs.File.{header_in, counts_in, row_bytes}
use Rattle.store.specs.declared.rows.RowLists.{RowLists}
use Rattle.check_call.specs.declared.stored.StoredTable.{StoredTable}

-- bytes stand at the start of a memory that has room for as many rows as its list may have
pub record Laid (most : ℕ) (bytes mem : List ℕ) : Type 0 where
  pub before : List ℕ
  pub room : 5 * most ≤ length before
  pub is : mem ≡ sets before 0 bytes

pub record Stored (T : Table) (h : Header) (k : Counts) (st pu po er : List ℕ) : Type 0 where
  pub sound : Sound T
  pub header : h ≡ header_in T
  pub counts : k ≡ counts_in T
  pub steps : Laid most_steps (row_bytes step_cells T.steps) st
  pub pushes : Laid most_pushes (row_bytes push_cells T.pushes) pu
  pub pops : Laid most_pops (row_bytes pop_cells T.pops) po
  pub errors : Laid most_errors (row_bytes error_cells T.errors) er

-- what is stored as one thing is the table T
abbrev pub StoredAs : Table → StoredTable → Type 0
StoredAs T s = Stored T s.header s.counts s.rows.now.steps s.rows.now.pushes s.rows.now.pops s.rows.now.errors

-- the rows of the steps, pushes and pops that are lent of it are its own
pub record LendsRows (s : StoredTable) (r : RowLists) : Type 0 where
  pub counts : (r.counts.steps ≡ s.counts.steps) × (r.counts.pushes ≡ s.counts.pushes) × (r.counts.pops ≡ s.counts.pops)
  pub steps : r.steps.now ≡ s.rows.now.steps
  pub pushes : r.pushes.now ≡ s.rows.now.pushes
  pub pops : r.pops.now ≡ s.rows.now.pops
