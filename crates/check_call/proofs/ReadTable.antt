-- What a call of the table reader tells: the table that it stored, or its refusal.
--     read_refused    a refusal is the definition's
--     read_stored     a table that was read is stored in the reader's memory
use mathlib.Core.Path.{◌≡◌, refl, ap}
use mathlib.Core.List.{List}
use Prim.Native.Nat.{ℕ, ◌*◌}
use native.Mathlib.Omega.{arith}
use Rattle.std.specs.Prelude.{Ok, Err}
use Rattle.std.proofs.lemmas.List.{length-replicate}
use Rattle.numbers.specs.declared.refusals.Refusal.{Refusal}
use Rattle.numbers.specs.Reading.{Out, got, bad}
use Rattle.numbers.proofs.ReadingLaws.{never}
use Rattle.files.specs.declared.table.TableRead.{TableRead}
use Rattle.files.specs.declared.table.TableRows.{TableRows}
use Rattle.files.specs.Table.{Table, most_steps, most_pushes, most_pops, most_errors}
use Rattle.files.specs.File.{table_at, table_read_of, header_in, counts_in, no_rows, TableIs}
use Rattle.files.proofs.TableLaws.{table_sound}
use Rattle.check_call.specs.Lent.{Stored}

pub record ReadAs (s : List ℕ) (r : TableRead) (rows : TableRows) : Type 0 where
  pub table : Table
  pub next : ℕ
  pub is : table_at s ≡ got table next
  pub stored : Stored table r.header r.counts rows.steps rows.pushes rows.pops rows.errors

-- ---- which answer

was_refused : (o : Out Table) {x : Refusal} → Err x ≡ table_read_of o → o ≡ bad x
was_refused (got T next) e = never (cc)
was_refused (bad y) e = cc

was_accepted : (o : Out Table) {r : TableRead} → Ok r ≡ table_read_of o
    → (T : Table) × (next : ℕ) × (o ≡ got T next) × (r ≡ record { header = header_in T; counts = counts_in T })
was_accepted (got T next) e = (T, next, refl, cc)
was_accepted (bad x) e = never (cc)

-- ---- what is stored

pub read_refused : {s : List ℕ} {x : Refusal} {rows rows' : TableRows} → TableIs s (Err x) rows rows' → table_at s ≡ bad x
read_refused {s} t = was_refused (table_at s) t.answer

-- the reader is lent a memory with no rows
pub read_stored : {s : List ℕ} {r : TableRead} {lent rows : TableRows} → lent ≡ no_rows → TableIs s (Ok r) lent rows → ReadAs s r rows
read_stored {s} {lent = lent} empty t =
    let (T, next, e, read) = was_accepted (table_at s) t.answer in
    record {
      table = T;
      next = next;
      is = e;
      stored =
          record {
            sound = table_sound s T next e;
            header = ap (λ (x : TableRead). x.header) read;
            counts = ap (λ (x : TableRead). x.counts) read;
            steps = record { before = lent.steps; room = rw empty (omega (arith, length-replicate {A = ℕ} (5 * most_steps) 0)); is = rw e at t.steps };
            pushes = record { before = lent.pushes; room = rw empty (omega (arith, length-replicate {A = ℕ} (5 * most_pushes) 0)); is = rw e at t.pushes };
            pops = record { before = lent.pops; room = rw empty (omega (arith, length-replicate {A = ℕ} (5 * most_pops) 0)); is = rw e at t.pops };
            errors = record { before = lent.errors; room = rw empty (omega (arith, length-replicate {A = ℕ} (5 * most_errors) 0)); is = rw e at t.errors };
          };
    }
