-- A memory that marks so many facts, all of them derivable. Every put of a rule keeps it so, with one more mark. If there are more marks than
-- the budget, the budget is exceeded; if nothing lacks and the start facts are marked, the memory holds the least relations.
use mathlib.Core.Path.{◌≡◌, refl, sym, subst, ◌∙◌}
use mathlib.Core.List.{List}
use Prim.Native.Nat.{ℕ, suc, ◌+◌, ◌<◌, ◌≤◌}
use native.Mathlib.Nat.{add-zero, add-suc}
use native.Mathlib.Decide.{ℕ_discrete}
use native.Mathlib.Omega.{arith}
use Rattle.files.specs.Table.{Table, Sound, W}
use Rattle.model.specs.Rules.{Fact, Starts, Closed, Derives}
use Rattle.model.specs.Positions.{Fits, pos}
use Rattle.model.specs.Memory.{Relations, Marked, total, FactCount, Exceeds}
use Rattle.model.proofs.Least.{derives_closed}
use Rattle.model.proofs.Monotone.{yields_mono}
use Rattle.model.proofs.Positions.{pos_lt, pos_inj}
use Rattle.model.proofs.InRange.{derives_fits}
use Rattle.model.proofs.Memory.{relations_held, relations_counted}
use Rattle.store.specs.declared.rows.RowCounts.{RowCounts}
use Rattle.store.specs.Marking.{room, Has, marked}
use Rattle.positions.specs.Plans.{plan_of}
use Rattle.store.specs.Reading.{Reads}
use Rattle.store.proofs.MarkLaws.{put_room, has?, has_before, BitsTo, bits_put, total_put, marked_has, has_marked}
use Rattle.uses.specs.Uses.{Uses, Lacks}
use Rattle.uses.specs.AllUses.{AllUses}
use Rattle.uses.specs.Passing.{Grew, none, more}
use Rattle.uses.proofs.PassLaws.{grew_has}
use Rattle.uses.proofs.Bridge.{used-lacks}
use Rattle.uses.proofs.UsesAreYields.{yields_used, lacks_yields}

-- c facts are marked, all of them derivable
pub record Derivable (T : Table) (c : ℕ) (m : List ℕ) : Type 0 where
  pub long : W T ≤ room m
  pub bits : BitsTo (W T) m
  pub derives : (f : Fact) → Marked T m f → Derives T f
  pub count : total m (W T) ≡ c

-- one more derivable fact is marked
pub derivable_put : {T : Table} {c : ℕ} {m : List ℕ} {y : ℕ} (f : Fact) → Fits T f → pos T f ≡ y → Derives T f → ¬ Has m y
    → Derivable T c m → Derivable T (suc c) (marked m y)
derivable_put {T} {c} {m} {y} f fits e d n h =
    record {
      long = omega (arith, put_room m y, h.long);
      bits = bits_put m y in_room h.bits;
      derives = λ f' k. derives' f' k (ℕ_discrete (pos T f') y);
      count = omega (arith, total_put m y (W T) in_room below h.bits n, h.count);
    }
  where
    below : y < W T
    below = subst (λ (z : ℕ). z < W T) e (pos_lt T f fits)

    in_room : y < room m
    in_room = omega (arith, below, h.long)

    derives' : (f' : Fact) → Marked T (marked m y) f' → Dec (pos T f' ≡ y) → Derives T f'
    derives' f' k (yes i) = subst (Derives T) (pos_inj T f f' fits k.fits (e ∙ sym i)) d
    derives' f' k (no i) = h.derives f' (has_marked f' k.fits refl (has_before m y (pos T f') i (marked_has k)))

pub exceeds : {T : Table} {c budget : ℕ} {m : List ℕ} → Derivable T c m → budget < c → Exceeds T budget
exceeds {m} h l = record { mem = m; bits = h.bits; derivable = h.derives; over = omega (arith, h.count) }

module _ {T : Table} (sound : Sound T) {n : RowCounts} {st pu po : List ℕ} (reads : Reads T n st pu po) where
  abbrev All : Uses
  All = AllUses (plan_of T) n st pu po

  -- what rules put is derivable
  pub derivable_grew : {c : ℕ} {m : List ℕ} {k : ℕ} {m' : List ℕ} → Derivable T c m → Grew All m k m' → Derivable T (c + k) m'
  derivable_grew h none = rw add-zero h
  derivable_grew h (more {m'} y g l u) =
      let h' = derivable_grew h g in
      let d = lacks_yields sound reads m' u in
      rw add-suc
      (derivable_put d.f d.fits d.here (derives_closed T d.f (yields_mono h'.derives d.f d.yields)) u.not h')

  pub starts_grew : {k : ℕ} {m m' : List ℕ} → Starts T (Marked T m) → Grew All m k m' → Starts T (Marked T m')
  starts_grew s g t h = let a = s t h in has_marked _ a.fits refl (grew_has g _ (marked_has a))

  module _ {c : ℕ} {m : List ℕ} (h : Derivable T c m) (closed : (y : ℕ) → ¬ Lacks All m y) where
    -- if nothing lacks, the marked facts are closed under the rules
    nothing_lacks : Closed T (Marked T m)
    nothing_lacks f y = go (has? m (pos T f))
      where
        fits : Fits T f
        fits = derives_fits sound f (derives_closed T f (yields_mono h.derives f y))

        go : Dec (Has m (pos T f)) → Marked T m f
        go (yes i) = has_marked f fits refl i
        go (no i) = absurd (closed (pos T f) (used-lacks (yields_used sound reads m f y) i))

    pub held : Starts T (Marked T m) → Relations T m
    held starts = relations_held sound h.bits h.derives h.long (record { starts = starts; closed = nothing_lacks })

    pub counted : Starts T (Marked T m) → FactCount T c
    counted starts =
        subst (FactCount T) h.count
        (relations_counted sound h.bits h.derives h.long (record { starts = starts; closed = nothing_lacks }))
