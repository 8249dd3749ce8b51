-- What is given of a sound table is in range.
use mathlib.Core.Path.{◌≡◌, sym, subst}
use mathlib.Core.List.{List}
use Prim.Native.Nat.{ℕ, ◌<◌}
use native.Mathlib.Omega.{arith}
use Rattle.files.specs.Table.{Table, Sound}
use Rattle.store.specs.declared.rows.RowCounts.{RowCounts}
use Rattle.positions.specs.Plans.{Plan, plan_of}
use Rattle.positions.proofs.PlanIsModel.{planned}
use Rattle.engine.specs.Given.{RowsOf, StartOf}
use Rattle.engine.specs.InRange.{Given, StartIn}

module _ {T : Table} {s : Plan} (sound : Sound T) (plan : s ≡ plan_of T) where
  pub start_given : {g₀ : ℕ} {locals : List ℕ} → StartOf T g₀ locals → StartIn s g₀ locals
  start_given {g₀} {locals} first =
      subst (λ (s : Plan). StartIn s g₀ locals) (sym plan)
      (record {
        long = first.long;
        shared = subst (λ (g : ℕ). g < T.G) first.shared sound.g₀;
        local = λ t h. subst (λ (l : ℕ). l < T.L) (first.local t h) (sound.locals t h);
      })

module _ {T : Table} {s : Plan} {n : RowCounts} {st pu po : List ℕ} (rows : RowsOf T s n st pu po) where
  pub rows_given : Given s n st pu po
  rows_given =
      subst (λ (s : Plan). Given s n st pu po) (sym rows.plan)
      (record {
        plan = planned T rows.sound;
        few = omega (arith, rows.count, rows.sound.steps.count);
        steps = record {
          long = rows.long.0;
          fit = λ i l. let f = rows.sound.steps.fits _ (rows.reads.steps.to i l) in
              record { t = f.t; g = f.g; l = f.l; u = f.g'; v = f.l' };
        };
        pushes = record {
          long = rows.long.1;
          fit = λ i l. let f = rows.sound.pushes.fits _ (rows.reads.pushes.to i l) in
              record { t = f.t; g = f.g; l = f.l; u = f.l'; v = f.f };
        };
        pops = record {
          long = rows.long.2;
          fit = λ i l. let f = rows.sound.pops.fits _ (rows.reads.pops.to i l) in
              record { t = f.t; g = f.g; l = f.l; u = f.f; v = f.l' };
        };
      })
