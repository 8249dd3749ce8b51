-- What writing a claim leaves and answers (document 01, "Working memory and claims"). Only contracts of functions that ask for space cite it.
use Rattle.std.specs.Prelude.{◌≡◌, List, ℕ, length}
use Rattle.std.proofs.lemmas.List.Edits.{sets}
use Rattle.claim_reader.specs.ClaimFile.{claim_bytes}

-- The claim of ps is written: `after` is `before` with its bytes at the start and no other byte changed, and r is how many bytes that is.
pub record ClaimPut (ps before after : List ℕ) (r : ℕ) : Type 0 where
  pub bytes : after ≡ sets before 0 (claim_bytes ps)
  pub count : r ≡ length (claim_bytes ps)
