-- Two results that a contract allows are equal: for each public function, of its contract as the prover reads it from the source.
-- Every contract here is an equation for the answer, and for the reader that was lent, so both results equal the same.
use mathlib.Core.Path.{◌≡◌, refl}
use mathlib.Core.List.{List}
use Prim.Native.Nat.{ℕ}
use seplogic.Ra.Ura.{Ura}
use base.Logic.{SProp}
use prog.Memory.{Memory}
use prog.Routine.{Routine}
use types.Logic.{Logic}
use contract.Lifetimes.{Lfts}
use contract.Monad.{Fun, fact}
use denote.Triple.Clauses.{AtExit}
use denote.Triple.Entry.{Args}
use Rattle.reader.specs.declared.Reader.{Reader}
use Rattle.cells.specs.declared.columns.Column.{Column}
use Rattle.std.specs.Prelude.{Result}
use Rattle.numbers.specs.declared.refusals.Refusal.{Refusal}
use Rattle.numbers.specs.declared.reading.Part.{Part}
use Rattle.numbers.specs.Reading.{part_of}
use Rattle.cells.specs.Rows.{row_at}
use Rattle.cells.specs.Passing.{past_row}
use Rattle.numbers.proofs.Unique.{same, Fixes}
use Rattle.cells.proofs.columns.Column.of_thread.Reads as of-thread
use Rattle.cells.proofs.columns.Column.of_thread.Kinds as of-thread-kinds
use Rattle.cells.proofs.columns.Column.range.Reads as range
use Rattle.cells.proofs.columns.Column.range.Kinds as range-kinds
use Rattle.cells.proofs.columns.Column.per_thread.Reads as per-thread
use Rattle.cells.proofs.columns.Column.per_thread.Kinds as per-thread-kinds
use Rattle.cells.proofs.columns.Sizes.step_columns.Reads as step-columns
use Rattle.cells.proofs.columns.Sizes.step_columns.Kinds as step-columns-kinds
use Rattle.cells.proofs.columns.Sizes.push_columns.Reads as push-columns
use Rattle.cells.proofs.columns.Sizes.push_columns.Kinds as push-columns-kinds
use Rattle.cells.proofs.columns.Sizes.pop_columns.Reads as pop-columns
use Rattle.cells.proofs.columns.Sizes.pop_columns.Kinds as pop-columns-kinds
use Rattle.cells.proofs.columns.Sizes.error_columns.Reads as error-columns
use Rattle.cells.proofs.columns.Sizes.error_columns.Kinds as error-columns-kinds
use Rattle.cells.proofs.row.no_row.Reads as no_row
use Rattle.cells.proofs.row.no_row.Kinds as no-row-kinds
use Rattle.cells.specs.contracts.row.row_through as row-through
use Rattle.cells.proofs.row.row.Reads as row
use Rattle.cells.proofs.row.row.Kinds as row-kinds
use Rattle.cells.proofs.row.row_after.Reads as row-after
use Rattle.cells.proofs.row.row_after.Kinds as row-after-kinds

-- ---- with plain parameters

pub of_thread_fixes : Fixes of-thread-kinds.ps of-thread-kinds.r of-thread.Post
of_thread_fixes κs a x x' s s' = same

pub range_fixes : Fixes range-kinds.ps range-kinds.r range.Post
range_fixes κs a x x' s s' p q = same p.0 q.0

pub per_thread_fixes : Fixes per-thread-kinds.ps per-thread-kinds.r per-thread.Post
per_thread_fixes κs a x x' s s' = same

pub step_columns_fixes : Fixes step-columns-kinds.ps step-columns-kinds.r step-columns.Post
step_columns_fixes κs a x x' s s' = same

pub push_columns_fixes : Fixes push-columns-kinds.ps push-columns-kinds.r push-columns.Post
push_columns_fixes κs a x x' s s' = same

pub pop_columns_fixes : Fixes pop-columns-kinds.ps pop-columns-kinds.r pop-columns.Post
pop_columns_fixes κs a x x' s s' = same

pub error_columns_fixes : Fixes error-columns-kinds.ps error-columns-kinds.r error-columns.Post
error_columns_fixes κs a x x' s s' = same

pub no_row_fixes : Fixes no-row-kinds.ps no-row-kinds.r no_row.Post
no_row_fixes κs a x x' s s' = same

pub row_fixes : Fixes row-kinds.ps row-kinds.r row.Post
row_fixes κs a x x' s s' = same

pub row_after_fixes : Fixes row-after-kinds.ps row-after-kinds.r row-after.Post
row_after_fixes κs a x x' s s' = same

-- ---- over a reader: what the contract says, in its text

-- the five cells with the place past them, or the refusal
abbrev Answer : Type 0
Answer = Result (Part (List ℕ)) Refusal

-- the answer of `row_through`, and the reader at exit
abbrev pub RowReadOn : List Column → Reader → Answer → Reader → Type 0
RowReadOn cs r x r' = (x ≡ part_of (row_at cs r.src.now r.at)) × (r' ≡ past_row cs r)

pub row_through_unique : (cs : List Column) (r : Reader) (x x' : Answer) (end end' : Reader)
    → RowReadOn cs r x end → RowReadOn cs r x' end' → (x ≡ x') × (end ≡ end')
row_through_unique cs r x x' end end' p q = (same p.0 q.0, same p.1 q.1)

-- and this is the contract: the clause that the prover reads from the source is that fact
module _ {M : Type 1} {𝓤 : Ura M} (𝓛 : Logic 𝓤) (mem : Memory → SProp 𝓤) (run : Routine → Fun 𝓤) where
  pub row_through_says : (κs : Lfts 2) (a : Args row-through.signature κs) (x : Answer) (s : AtExit row-through.ended κs)
      → (row-through.clauses 𝓛 mem run κs a).ensures tt x s ≡ fact 𝓤 (RowReadOn a.1.0 a.0.now x s.0.now)
  row_through_says κs a x s = refl
