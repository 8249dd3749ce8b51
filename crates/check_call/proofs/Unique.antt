-- Two results of the check that its contract allows, for one file, budget and memory, are equal: the answer with its verdict and witness, and
-- every byte of the memory. So are two numbers, origins and values of one answer, and two Ws, two plans and two memories of facts of one stored table.
use mathlib.Core.Path.{◌≡◌, refl, sym, ap, ◌∙◌}
use mathlib.Core.List.{List}
use Prim.Native.Nat.{ℕ}
use native.Mathlib.Omega.{arith}
use lib.ListN.{length, take, drop}
use contract.Lifetimes.{Lfts}
use denote.Triple.Clauses.{AtExit}
use borrow.Fn.Kinds.{Dens, ended_of}
use Rattle.numbers.specs.declared.refusals.Refusal.{Refusal}
use Rattle.numbers.specs.Reading.{Out, got, bad}
use Rattle.numbers.proofs.ReadingLaws.{never}
use Rattle.numbers.proofs.Unique.{same, Fixes}
use Rattle.files.specs.Table.{Table, Sound, W}
use Rattle.files.specs.File.{table_at}
use Rattle.files.proofs.TableLaws.{table_sound}
use Rattle.model.proofs.Memory.{exceeds_count}
use Rattle.model.proofs.Unique.{holds_same, fact_count_same}
use Rattle.positions.specs.Plans.{Plan}
use Rattle.store.specs.declared.rows.RowLists.{RowLists}
use Rattle.store.proofs.Unique.{parts_same}
use Rattle.reaching.specs.declared.reach.Facts.{Facts}
use Rattle.reaching.specs.declared.row_cells.ErrorRows.{ErrorRows}
use Rattle.verdict.proofs.Answers.{answers_same}
use Rattle.check_call.specs.Answer.{Answer, Done, Refused}
use Rattle.check_call.proofs.answer.reply_of.Reads as reply-of
use Rattle.check_call.proofs.answer.reply_of.Kinds as reply-of-kinds
use Rattle.check_call.proofs.answer.Reply.plain.Reads as plain-reply
use Rattle.check_call.proofs.answer.Reply.plain.Kinds as plain-reply-kinds
use Rattle.check_call.proofs.answer.Reply.told.Reads as refusal-reply
use Rattle.check_call.proofs.answer.Reply.told.Kinds as refusal-reply-kinds
use Rattle.check_call.proofs.stored.StoredTable.w.Reads as w
use Rattle.check_call.proofs.stored.StoredTable.w.Kinds as w-kinds
use Rattle.check_call.proofs.stored.StoredTable.plan.Reads as plan
use Rattle.check_call.proofs.stored.StoredTable.plan.Kinds as plan-kinds
use Rattle.check_call.proofs.stored.StoredTable.lists.Reads as lists
use Rattle.check_call.proofs.stored.StoredTable.lists.Kinds as lists-kinds
use Rattle.check_call.proofs.stored.StoredTable.facts.Reads as facts
use Rattle.check_call.proofs.stored.StoredTable.facts.Kinds as facts-kinds
use Rattle.check_call.proofs.stored.StoredTable.errors.Reads as errors
use Rattle.check_call.proofs.stored.StoredTable.errors.Kinds as errors-kinds
use Rattle.check_call.proofs.answer.CheckRefusalFromRefusal.from.Reads as refusal-from
use Rattle.check_call.proofs.answer.CheckRefusalFromRefusal.from.Kinds as refusal-from-kinds
use Rattle.check_call.proofs.answer.ReplyFromCheckRefusal.from.Reads as reply-from
use Rattle.check_call.proofs.answer.ReplyFromCheckRefusal.from.Kinds as reply-from-kinds
use Rattle.check_call.proofs.check.check.Reads as check
use Rattle.check_call.proofs.check.check.Kinds as check-kinds
use Rattle.check_call.specs.Checking.{OfTable, short, over, done, Checked, refused, read}

-- the two results
abbrev Same : Answer → Answer → List ℕ → List ℕ → Type 0
Same a b m m' = (a ≡ b) × (m ≡ m')

-- ---- one table, for memories of one length

-- nothing is changed; or the first w bytes come out the same, and the others are as they were
pub data Alike (w : ℕ) (m n : List ℕ) : List ℕ → List ℕ → Type 0 where
  unchanged : Alike w m n m n
  changed : {m₁ n₁ : List ℕ} → take w m₁ ≡ take w n₁ → drop w m₁ ≡ drop w m → drop w n₁ ≡ drop w n → Alike w m n m₁ n₁

pub alike_same : {w : ℕ} {m m₁ m₂ : List ℕ} → Alike w m m m₁ m₂ → m₁ ≡ m₂
alike_same unchanged = refl
alike_same {w} (changed e r r') = parts_same w e (r ∙ sym r')

module _ {T : Table} (sound : Sound T) {budget : ℕ} where
  table_alike : {m n m₁ n₁ : List ℕ} {a b : Answer} → length m ≡ length n → OfTable T budget m a m₁ → OfTable T budget n b n₁
      → (a ≡ b) × Alike (W T) m n m₁ n₁
  table_alike e (short l) (short l') = (refl, unchanged)
  table_alike e (short l) (over h x c) = absurd (omega arith)
  table_alike e (short l) (done h f) = absurd (omega arith)
  table_alike e (over h x c) (short l) = absurd (omega arith)
  table_alike e (over h x c) (over h' x' c') = (refl, changed (c.zeros ∙ sym c'.zeros) c.rest c'.rest)
  table_alike e (over h x c) (done h' f) = let l = exceeds_count sound x f.counted in absurd (omega (arith, f.within))
  table_alike e (done h f) (short l) = absurd (omega arith)
  table_alike e (done h f) (over h' x c) = let l = exceeds_count sound x f.counted in absurd (omega (arith, f.within))
  table_alike e (done h f) (done h' f') =
      let q = fact_count_same T f.counted f'.counted in
      let v = answers_same f.judged f'.judged in
      (λ i. Done (q i) (v i), changed (holds_same f.relations f'.relations) f.rest f'.rest)

-- ---- one file

pub got_table : {T T' : Table} {n n' : ℕ} → got T n ≡ got T' n' → T ≡ T'
got_table e = cc

-- the table that a file holds is the one that was checked
pub was_read : {s : List ℕ} {budget : ℕ} {m m₁ : List ℕ} {a : Answer} {T : Table} {k : ℕ} → table_at s ≡ got T k → Checked s budget m a m₁
    → OfTable T budget m a m₁
was_read e (refused e') = let q = sym e ∙ e' in never (cc)
was_read {budget = budget} {m} {m₁} {a} e (read e' o) = rw (got_table (sym e ∙ e')) o

pub bad_refusal : {x y : Refusal} → ◌≡◌ {A = Out Table} (bad x) (bad y) → x ≡ y
bad_refusal e = cc

-- what the memory held before changes neither the answer nor what is worked out in it
pub checked_alike : {s : List ℕ} {budget : ℕ} {m n m₁ n₁ : List ℕ} {a b : Answer} {T : Table} {k : ℕ} → length m ≡ length n
    → table_at s ≡ got T k → Checked s budget m a m₁ → Checked s budget n b n₁ → (a ≡ b) × Alike (W T) m n m₁ n₁
checked_alike {s} {T = T} {k} long e r r' = table_alike (table_sound s T k e) long (was_read e r) (was_read e r')

pub checked_answer : {s : List ℕ} {budget : ℕ} {m n m₁ n₁ : List ℕ} {a b : Answer} → length m ≡ length n
    → Checked s budget m a m₁ → Checked s budget n b n₁ → a ≡ b
checked_answer long (refused e) (refused e') = ap Refused (bad_refusal (sym e ∙ e'))
checked_answer long (refused e) (read e' o) = let q = sym e ∙ e' in never (cc)
checked_answer long (read e o) r = (checked_alike long e (read e o) r).0

pub checked_same : {s : List ℕ} {budget : ℕ} {m m₁ m₂ : List ℕ} {a b : Answer}
    → Checked s budget m a m₁ → Checked s budget m b m₂ → Same a b m₁ m₂
checked_same (refused e) (refused e') = (ap Refused (bad_refusal (sym e ∙ e')), refl)
checked_same (refused e) (read e' o) = let q = sym e ∙ e' in never (cc)
checked_same (read e o) r = let (q, bytes) = checked_alike refl e (read e o) r in (q, alike_same bytes)

-- ---- the contracts as the prover reads them from the source

pub check_fixes : (κs : Lfts 2) (a : Dens κs check-kinds.ps) (x x' : Answer)
    (s s' : AtExit (ended_of 2 check-kinds.ps check-kinds.r) κs)
    → check.Post κs a x s → check.Post κs a x' s' → Same x x' s.1.0.now s'.1.0.now
check_fixes κs a x x' s s' = checked_same

pub reply_of_fixes : Fixes reply-of-kinds.ps reply-of-kinds.r reply-of.Post
reply_of_fixes κs a x x' s s' = same

pub plain_reply_fixes : Fixes plain-reply-kinds.ps plain-reply-kinds.r plain-reply.Post
plain_reply_fixes κs a x x' s s' = same

pub refusal_reply_fixes : Fixes refusal-reply-kinds.ps refusal-reply-kinds.r refusal-reply.Post
refusal_reply_fixes κs a x x' s s' = same

pub check_refusal_fixes : Fixes refusal-from-kinds.ps refusal-from-kinds.r refusal-from.Post
check_refusal_fixes κs a x x' s s' = same

pub reply_of_refusal_fixes : Fixes reply-from-kinds.ps reply-from-kinds.r reply-from.Post
reply_of_refusal_fixes κs a x x' s s' = same

-- ---- what a stored table lends: every number and byte of it

pub w_fixes : Fixes w-kinds.ps w-kinds.r w.Post
w_fixes κs a x x' s s' p q = same p.0 q.0

pub plan_fixes : (κs : Lfts 2) (a : Dens κs plan-kinds.ps) (x x' : Plan) (s s' : AtExit (ended_of 2 plan-kinds.ps plan-kinds.r) κs)
    → plan.Pre κs a → plan.Post κs a x s → plan.Post κs a x' s' → x ≡ x'
plan_fixes κs a x x' s s' (T, st) p q = same (p T st) (q T st)

pub lists_fixes : (κs : Lfts 2) (a : Dens κs lists-kinds.ps) (x x' : RowLists) (s s' : AtExit (ended_of 2 lists-kinds.ps lists-kinds.r) κs)
    → lists.Post κs a x s → lists.Post κs a x' s'
    → (x.counts ≡ x'.counts) × (x.steps.now ≡ x'.steps.now) × (x.pushes.now ≡ x'.pushes.now) × (x.pops.now ≡ x'.pops.now)
lists_fixes κs a x x' s s' p q =
    let (steps, pushes, pops) = p.0.counts in
    let (steps', pushes', pops') = q.0.counts in (
      λ i. record { steps = same steps steps' i; pushes = same pushes pushes' i; pops = same pops pops' i },
      same p.0.steps q.0.steps,
      same p.0.pushes q.0.pushes,
      same p.0.pops q.0.pops,
    )

pub facts_fixes : (κs : Lfts 3) (a : Dens κs facts-kinds.ps) (x x' : Facts) (s s' : AtExit (ended_of 3 facts-kinds.ps facts-kinds.r) κs)
    → facts.Pre κs a → facts.Post κs a x s → facts.Post κs a x' s' → (x.plan ≡ x'.plan) × (x.mem.now ≡ x'.mem.now)
facts_fixes κs a x x' s s' (T, st, room) p q = (same (p.0 T st) (q.0 T st), same p.1 q.1)

pub errors_fixes : (κs : Lfts 2) (a : Dens κs errors-kinds.ps) (x x' : ErrorRows)
    (s s' : AtExit (ended_of 2 errors-kinds.ps errors-kinds.r) κs)
    → errors.Post κs a x s → errors.Post κs a x' s' → (x.failed ≡ x'.failed) × (x.rows.now ≡ x'.rows.now) × (x.n ≡ x'.n)
errors_fixes κs a x x' s s' p q = (same p.0.0 q.0.0, same p.0.1 q.0.1, same p.0.2 q.0.2)
