-- Bytes that were read are within the buffer: what lending them asks.
use Rattle.std.proofs.Common.{◌≡◌, ℕ, List, Ok}
use Rattle.std.specs.Prelude.{Result}
use Rattle.inputs.specs.Inputs.{Filled, IsPrefixLen}

pub bytes_counted : {E : Type 0} {input : Result ℕ E} {count : ℕ} (buf : List ℕ) → Filled input buf → input ≡ Ok count → IsPrefixLen count buf
bytes_counted buf filled e = rw e at filled
