-- From the first W bytes to the whole memory: what the engine leaves in the part that is lent to it, with the verdict, is what the check answers.
--     over_here, done_here                           a cleared part; a part that holds the least relations, with the verdict
--     answer_short, answer_over, answer_done         the answer, by the plan and by what the engine answers
use mathlib.Core.Path.{◌≡◌, sym, ap, ◌∙◌}
use mathlib.Core.List.{List}
use Prim.Native.Nat.{ℕ, ◌≤◌, ◌<◌}
use Rattle.std.specs.Prelude.{Some, None}
use native.Mathlib.Omega.{arith}
use lib.ListN.{length, take, drop, replicate}
use lib.Seq.{length-take-le, get_or-take}
use Rattle.files.specs.Table.{Table, Sound, W}
use Rattle.model.specs.Rules.{Fact}
use Rattle.model.specs.Memory.{Holds, Relations, FactCount, Exceeds}
use Rattle.store.specs.Marking.{Clear}
use Rattle.positions.specs.Plans.{Plan, plan_of}
use Rattle.store.proofs.MarkLaws.{clear_zeros}
use Rattle.positions.proofs.PlanIsModel.{w_is}
use Rattle.engine.specs.Answers.{Ran}
use Rattle.verdict.specs.declared.search.Verdict.{Verdict}
use Rattle.verdict.specs.ErrorRows.{Judged}
use Rattle.verdict.proofs.Answers.{judged_least}
use Rattle.check_call.specs.Answer.{Done, Short, Over}
use Rattle.check_call.specs.Checking.{OfTable, short, over, done}

module _ (T : Table) (budget : ℕ) (m m' : List ℕ) (room : W T ≤ length m) (long : length m' ≡ length m) (rest : drop (W T) m' ≡ drop (W T) m) where
  pub over_here : Clear (take (W T) m') → Exceeds T budget → OfTable T budget m (Over budget) m'
  over_here c x =
      let e : length (take (W T) m') ≡ W T = length-take-le (W T) m' (omega arith) in
      over room x (record { zeros = clear_zeros (take (W T) m') c ∙ ap (λ (w : ℕ). replicate w 0) e; rest = rest })

  -- what the part holds, the whole holds
  whole_holds : {S : Fact → Type 0} → Holds T S (take (W T) m') → Holds T S m'
  whole_holds {S} h =
      record {
        long = omega arith;
        says = λ p l. rw (sym (get_or-take (W T) m' p 0 l)) (h.says p l);
      }

  pub done_here : {count : ℕ} {verdict : Verdict} → Sound T → Relations T (take (W T) m') → FactCount T count → count ≤ budget
      → Judged T m' verdict → OfTable T budget m (Done count verdict) m'
  done_here sound r k l j =
      done room (record { counted = k; within = l; relations = whole_holds r; rest = rest; judged = judged_least sound (whole_holds r) j })

-- ---- by the plan, and by what the engine answers

pub w_by : (T : Table) {s : Plan} → s ≡ plan_of T → s.w ≡ W T
w_by T plan = ap (λ (x : Plan). x.w) plan ∙ w_is T

module _ {T : Table} {w budget : ℕ} {m m' : List ℕ} (sound : Sound T) (wide : w ≡ W T) (room : w ≤ length m)
    (long : length m' ≡ length m) (rest : drop w m' ≡ drop w m) where
  pub answer_over : Ran T budget None (take w m') → OfTable T budget m (Over budget) m'
  answer_over ran =
      let (c, x) = rw wide at ran in
      over_here T budget m m' (rw wide at room) long (rw wide at rest) c x

  pub answer_done : {count : ℕ} {verdict : Verdict} → Ran T budget (Some count) (take w m') → Judged T m' verdict
      → OfTable T budget m (Done count verdict) m'
  answer_done ran j =
      let (h, k, l) = rw wide at ran in
      done_here T budget m m' (rw wide at room) long (rw wide at rest) sound h k l j

-- a memory that is shorter than the room
pub answer_short : {T : Table} {budget w : ℕ} {m : List ℕ} → w ≡ W T → length m < w → OfTable T budget m (Short w) m
answer_short e l = rw e (short (rw e at l))
