-- What reading a claim answers (document 01, "Working memory and claims"). Only contracts of functions that ask for the W of a table, a claim or a
-- memory cite it.
use Rattle.std.specs.Prelude.{ℕ, ◌≡◌, List, [], Result, Ok, Err, length}
use Rattle.numbers.specs.declared.refusals.Refusal.{Refusal}
use Rattle.numbers.specs.Reading.{Out, got, bad}
use Rattle.claim_reader.specs.ClaimFile.{claim_at}

-- s is read as a claim
pub record IsClaim (w : ℕ) (s : List ℕ) : Type 0 where
  pub positions : List ℕ
  pub next : ℕ
  pub reads : claim_at w s ≡ got positions next

-- how many positions were read, or the refusal
abbrev pub claimed_of : Out (List ℕ) → Result ℕ Refusal
claimed_of (got ps next) = Ok (length ps)
claimed_of (bad r) = Err r

-- the positions that were read; none where the file is refused
abbrev pub positions_of : Out (List ℕ) → List ℕ
positions_of (got ps next) = ps
positions_of (bad r) = []
