-- What an answer of the search says of a table: the verdict on a set of facts (01, "The rules").
use Rattle.std.specs.Prelude.{◌≡◌, ℕ, ◌≤◌, length, get_or, take}
use Rattle.std.proofs.Math.Option.{Option, none, some}
use Rattle.files.specs.Table.{Table}
use Rattle.model.specs.Rules.{Fact}
use Rattle.model.specs.Errors.{Witness}
use Rattle.model.specs.Verdict as model
use Rattle.verdict.specs.declared.search.Verdict.{Verdict}
use Rattle.verdict.specs.declared.search.Verdict.TheVariants.{Safe, Possible}

-- the witness that an answer gives of n threads
abbrev pub shown : ℕ → Verdict → Option Witness
shown n Safe = none
shown n (Possible w) = some (record { row = w.row; shared = w.g; locals = take n w.locals })

-- four local stores stand there, and past the n threads 0
abbrev pub Padded : ℕ → Verdict → Type 0
Padded n Safe = Unit {0}
Padded n (Possible w) = (length w.locals ≡ 4) × ((t : ℕ) → n ≤ t → get_or w.locals t 0 ≡ 0)

-- r is the verdict on the set S of facts
pub record Answers (T : Table) (S : Fact → Type 0) (r : Verdict) : Type 0 where
  pub verdict : model.Verdict T S (shown T.n r)
  pub padded : Padded T.n r
