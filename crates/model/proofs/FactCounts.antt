-- Every sound table has exactly one number of facts, at most W, and a memory of W bytes that holds its least relations: for it is decided which facts
-- are derivable. So a budget is exceeded exactly if it is below that number; and no budget of W or more is.
use mathlib.Core.Path.{◌≡◌}
use mathlib.Core.List.{List}
use Prim.Native.Nat.{ℕ, ◌≤◌, ◌<◌}
use native.Mathlib.Omega.{arith}
use lib.ListN.{length}
use Rattle.files.specs.Table.{Table, Sound, W}
use Rattle.model.specs.Memory.{Relations, FactCount, Exceeds}
use Rattle.model.proofs.Memory.{says_bit, marked_in, total_counts, exceeds_count}
use Rattle.model.proofs.Unique.{fact_count_same}
use Rattle.model.proofs.DecidedSets.{counts_le, decided_counted, decided_held}
use Rattle.model.proofs.Decide.Derivable.{derives?}

module _ {T : Table} (sound : Sound T) where
  pub relations_exist : (mem : List ℕ) × (length mem ≡ W T) × Relations T mem
  relations_exist = decided_held T (derives? sound)

  pub fact_count_exists : (c : ℕ) × FactCount T c × (c ≤ W T)
  fact_count_exists = let (c, k) = decided_counted T (derives? sound) in (c, k, counts_le k)

  pub exceeds_below_W : {budget : ℕ} → Exceeds T budget → budget < W T
  exceeds_below_W e = let (c, k, l) = fact_count_exists in omega (arith, exceeds_count sound e k)

  pub beyond_exceeds : {budget c : ℕ} → FactCount T c → budget < c → Exceeds T budget
  beyond_exceeds k l =
      let (mem, long, r) = relations_exist in
      record {
        mem = mem;
        bits = λ p h. says_bit (r.says p h);
        derivable = marked_in r;
        over = omega (arith, fact_count_same T k (total_counts r));
      }
