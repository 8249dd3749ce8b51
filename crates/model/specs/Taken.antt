-- Which row is taken where. Runs and rules move a thread by the three relations below, 004's T, T⁺ and T⁻ (section 3), and by nothing
-- else; so whatever is said here of a row holds for both.
use mathlib.Core.List.{Memᴰ}
use Rattle.std.specs.Prelude.{ℕ, get_or}
use Rattle.files.specs.Table.{Table}

-- the local store in which thread t begins (01, "The table, in file order": initial local store, one per thread)
abbrev pub begins : Table → ℕ → ℕ
begins T t = get_or T.locals t 0

-- whether rows at local store l are taken: all are (01, "Runs and error states": "Rows leaving the failed store are followed like any
-- other.")
abbrev pub Taken : Table → ℕ → Type 0
Taken T l = Unit {0}

-- A row applies only at its g and l (01, "Runs and error states"). T: thread t at g, l steps to g', l'.
pub record Steps (T : Table) (t g l g' l' : ℕ) : Type 0 where
  pub row : Memᴰ (record { t = t; g = g; l = l; g' = g'; l' = l' }) T.steps
  pub taken : Taken T l

-- T⁺: thread t at g, l goes to l' and pushes f
pub record Pushes (T : Table) (t g l l' f : ℕ) : Type 0 where
  pub row : Memᴰ (record { t = t; g = g; l = l; l' = l'; f = f }) T.pushes
  pub taken : Taken T l

-- T⁻: thread t at g, l with f on top goes to l' and removes f
pub record Pops (T : Table) (t g l f l' : ℕ) : Type 0 where
  pub row : Memᴰ (record { t = t; g = g; l = l; f = f; l' = l' }) T.pops
  pub taken : Taken T l
