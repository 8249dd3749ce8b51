-- For every file, budget and memory there is an answer that the check's contract allows. Of a table that is read and W bytes or more there is one by
-- the number of facts: within the budget a memory of the least relations with their verdict, and beyond it a cleared one.
use mathlib.Core.Path.{◌≡◌, refl}
use mathlib.Core.List.{List, ◌++◌}
use Prim.Native.Nat.{ℕ, ◌≤◌, ◌<◌}
use native.Mathlib.Decide.{dec_le, dec_lt}
use native.Mathlib.Omega.{arith}
use lib.ListN.{length, drop, replicate}
use Rattle.numbers.specs.Reading.{Out, got, bad}
use Rattle.files.specs.Table.{Table, Sound, W}
use Rattle.files.specs.File.{table_at}
use Rattle.files.proofs.TableLaws.{table_sound}
use Rattle.model.specs.Memory.{FactCount}
use Rattle.model.proofs.Memory.{held_before}
use Rattle.model.proofs.FactCounts.{relations_exist, fact_count_exists, beyond_exceeds}
use Rattle.store.proofs.MarkLaws.{first_cleared}
use Rattle.verdict.proofs.Answered.{answers_exist}
use Rattle.check_call.specs.Answer.{Answer, Done, Refused, Short, Over}
use Rattle.check_call.specs.Checking.{OfTable, short, over, done, Checked, refused, read}

module _ {T : Table} (sound : Sound T) (budget : ℕ) (m : List ℕ) where
  abbrev Answered : Type 0
  Answered = (a : Answer) × (m' : List ℕ) × OfTable T budget m a m'

  module _ {c : ℕ} (counted : FactCount T c) (room : W T ≤ length m) where
    within_answered : c ≤ budget → Answered
    within_answered l =
        let (mem, long, relations) = relations_exist sound in
        let (held, kept) = held_before long relations (drop (W T) m) in
        let (verdict, judged) = answers_exist sound in
        (Done c verdict, mem ++ drop (W T) m, done room (record { counted = counted; within = l; relations = held; rest = kept; judged = judged }))

    beyond_answered : budget < c → Answered
    beyond_answered l =
        (Over budget, replicate (W T) 0 ++ drop (W T) m, over room (beyond_exceeds sound counted l) (first_cleared m (W T) refl))

  table_answered : Answered
  table_answered = let (c, counted, most) = fact_count_exists sound in go counted (dec_lt (length m) (W T)) (dec_le c budget)
    where
      go : {c : ℕ} → FactCount T c → Dec (length m < W T) → Dec (c ≤ budget) → Answered
      go k (yes l) _ = (Short (W T), m, short l)
      go k (no l) (yes i) = within_answered k (omega arith) i
      go k (no l) (no i) = beyond_answered k (omega arith) (omega arith)

pub check_answered : (s : List ℕ) (budget : ℕ) (m : List ℕ) → (a : Answer) × (m' : List ℕ) × Checked s budget m a m'
check_answered s budget m = go (table_at s) refl
  where
    go : (o : Out Table) → table_at s ≡ o → (a : Answer) × (m' : List ℕ) × Checked s budget m a m'
    go (got T n) e = let (a, m', o) = table_answered (table_sound s T n e) budget m in (a, m', read e o)
    go (bad x) e = (Refused x, m, refused e)
