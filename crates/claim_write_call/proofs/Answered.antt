-- For every file, budget, memory and space there is an answer that claim writing's contract allows: there is one of the check, and where that is done,
-- the claim of the marks that it leaves has room in the space or not.
use mathlib.Core.Path.{refl}
use mathlib.Core.List.{List, ◌++◌}
use Prim.Native.Nat.{ℕ, ◌<◌}
use Rattle.std.specs.Prelude.{Ok}
use native.Mathlib.Decide.{dec_lt}
use native.Mathlib.Omega.{arith}
use lib.ListN.{length, drop, replicate}
use lib.Seq.{sets}
use Rattle.files.specs.Table.{Table, W}
use Rattle.store.proofs.MarkLaws.{first_cleared}
use Rattle.verdict.specs.declared.search.Verdict.{Verdict}
use Rattle.check_call.specs.Answer.{Answer}
use Rattle.check_call.specs.Answer as check
use Rattle.check_call.specs.Checking.{Checked}
use Rattle.check_call.proofs.Exactly.{check_done}
use Rattle.check_call.proofs.Answered.{check_answered}
use Rattle.claim_write_call.specs.WriteAnswer.{WriteAnswer, Written, Refused, Short, Over, NoSpace}
use Rattle.claim_write_call.specs.ClaimWriting.{ClaimOf, ClaimWritten, refused, short, over, no_space, written}
use Rattle.claim_write_call.proofs.PositionsOfFacts.{claim_of_marks}

module _ (s : List ℕ) (budget : ℕ) (m d : List ℕ) where
  abbrev Answered : Type 0
  Answered = (r : WriteAnswer) × (m' : List ℕ) × (d' : List ℕ) × ClaimWritten s budget m d r m' d'

  -- the claim has room in the space or not
  by_space : {count : ℕ} {verdict : Verdict} {m₁ : List ℕ} {T : Table} {bytes : List ℕ} → Checked s budget m (check.Done count verdict) m₁
      → ClaimOf s T bytes → Dec (length d < length bytes) → Answered
  by_space {T = T} {bytes} c of (yes l) =
      (NoSpace (length bytes), replicate (W T) 0 ++ drop (W T) m, d, no_space c of l (first_cleared m (W T) refl))
  by_space {count} {verdict} {m₁} {bytes = bytes} c of (no l) =
      (Written count verdict (length bytes), m₁, sets d 0 bytes, written c of (omega arith))

  after_check : (a : Answer) {m₁ : List ℕ} → Checked s budget m a m₁ → Answered
  after_check (Ok done) c = by_space c (claim_of_marks (check_done c)) (dec_lt _ _)
  after_check (check.Refused x) {m₁} c = (Refused x, m₁, d, refused c)
  after_check (check.Short w) {m₁} c = (Short w, m₁, d, short c)
  after_check (check.Over b) {m₁} c = (Over b, m₁, d, over c)

  pub claim_writing_answered : (r : WriteAnswer) × (m' : List ℕ) × (d' : List ℕ) × ClaimWritten s budget m d r m' d'
  claim_writing_answered = let (a, m₁, c) = check_answered s budget m in after_check a c
