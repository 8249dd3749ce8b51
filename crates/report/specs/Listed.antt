-- The facts that a listing prints, "in position order", and the line of the next one (document 01, "Reference tables and results").
use Rattle.std.specs.Prelude.{◌≡◌, List, [], ℕ, ◌+◌, ◌≤◌, ◌<◌, length, Option, None, Some}
use Rattle.numbers.specs.declared.refusals.Refusal.{Refusal}
use Rattle.numbers.specs.Reading.{got, bad}
use Rattle.files.specs.declared.header.Header.{Header}
use Rattle.files.specs.Table.{Table, W}
use Rattle.files.specs.Header.{header_at}
use Rattle.files.specs.File.{table_of}
use Rattle.model.specs.Positions.{fact_at}
use Rattle.model.specs.Memory.{mark}
use Rattle.model.specs.Claims.{First}
use Rattle.fact_text.specs.FactLines.{fact_line}
use Rattle.report.specs.declared.facts.ListedFact.{ListedFact}

-- the fact at p is listed, from `from` on: p is a position of the table, and one of A
pub record Listed (T : Table) (A : ℕ → Type 0) (from p : ℕ) : Type 0 where
  pub past : from ≤ p
  pub below : p < W T
  pub here : A p

-- What comes next, where the positions A are listed: the line of the first fact from `from` on, and the position past it; or nothing, where there is
-- none.
pub data NextIn (T : Table) (A : ℕ → Type 0) (from : ℕ) : Option ListedFact → Type 0 where
  line : {p : ℕ} → First (Listed T A from) p → NextIn T A from (Some (record { line = fact_line (fact_at T p); next = p + 1 }))
  end : ((p : ℕ) → ¬ Listed T A from p) → NextIn T A from None

-- the positions that are marked, in a memory that has room for all facts of the table
pub record MarkedIn (T : Table) (mem : List ℕ) (p : ℕ) : Type 0 where
  pub enough : W T ≤ length mem
  pub one : mark mem p ≡ 1

-- What comes next, of a table file. Where the facts stand hangs on the sizes alone, so a table of its header and no rows serves; and where the
-- header is refused there is no fact.
pub data NextOf (s : List ℕ) (mem : List ℕ) (from : ℕ) : Option ListedFact → Type 0 where
  read : {h : Header} {past : ℕ} {r : Option ListedFact} → header_at s ≡ got h past
      → NextIn (table_of h [] [] [] []) (MarkedIn (table_of h [] [] [] []) mem) from r → NextOf s mem from r
  refused : {x : Refusal} → header_at s ≡ bad x → NextOf s mem from None
