-- What the claim check's own functions are lent, and what they leave. Only contracts of private functions cite this file.
use Rattle.std.specs.Prelude.{◌≡◌, List, ℕ, length, take, drop}
use Rattle.numbers.specs.Reading.{got}
use Rattle.files.specs.Table.{Table, W}
use Rattle.check_call.specs.declared.stored.StoredTable.{StoredTable}
use Rattle.check_call.specs.Lent.{StoredAs}
use Rattle.claim_reader.specs.ClaimFile.{claim_at}
use Rattle.claim_reader.specs.Marks.{Marks}

-- a table that is stored, its W, and a claim c of `count` facts that is read as the positions ps
pub record Lent (T : Table) (ps : List ℕ) (s : StoredTable) (c : List ℕ) (count w : ℕ) : Type 0 where
  pub stored : StoredAs T s
  pub wide : w ≡ W T
  pub next : ℕ
  pub reads : claim_at w c ≡ got ps next
  pub counted : count ≡ length ps

-- the first w bytes mark the positions ps, and the others are as they were
pub record MarkedFirst (w : ℕ) (ps m m' : List ℕ) : Type 0 where
  pub marks : Marks w ps (take w m')
  pub rest : drop w m' ≡ drop w m
