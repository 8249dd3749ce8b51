-- The positions of a claim, a walk over them, a memory while it is marked, and the bytes of a part of a claim. Only contracts of private functions,
-- here and in claim_of_marks, cite this file.
use Rattle.std.specs.Prelude.{List, [], ◌∷◌, ℕ}
use Rattle.store.specs.Marking.{marked}
use Rattle.numbers.specs.declared.reading.Part.{Part}
use Rattle.numbers.specs.Reading.{Out, got, bad}
use Rattle.claim_reader.specs.declared.reading.Claim.{Claim}
use Rattle.claim_reader.specs.declared.reading.Walk.{Walk}
use Rattle.claim_reader.specs.ClaimFile.{position_at, positions_at, distances_from, bytes_of_all}

-- the positions of a claim after its count
abbrev pub listed : Claim → Part ℕ → Out (List ℕ)
listed claim count = positions_at claim.w count.value 0 0 claim.src.now count.next

-- the next position of a walk
abbrev pub next_in : Walk → Out ℕ
next_in walk = position_at walk.claim.w walk.least walk.last walk.claim.src.now walk.at

-- past a position, from which the next is at least 1 away; one that is refused moves nothing
abbrev pub walked : Out ℕ → Walk → Walk
walked (got p next) walk = record { claim = walk.claim; at = next; least = 1; last = p }
walked (bad r) walk = walk

-- the memory with a mark put at each position of a list
unfoldable pub marked_all : List ℕ → List ℕ → List ℕ
marked_all mem [] = mem
marked_all mem (p ∷ ps) = marked_all (marked mem p) ps

-- the bytes of the positions of a claim, the first as its distance from `last`
unfoldable pub position_bytes : ℕ → List ℕ → List ℕ
position_bytes last ps = bytes_of_all (distances_from last ps)
