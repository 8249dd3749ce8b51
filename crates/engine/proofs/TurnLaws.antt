-- The turns: what the first one is, what follows on one, and when the work ends.
use mathlib.Core.Path.{◌≡◌, refl, subst}
use mathlib.Core.Bool.{Bool}
use mathlib.Core.Logic.{inl, inr}
use mathlib.Core.List.{List}
use Prim.Native.Nat.{ℕ, ◌+◌, ◌*◌, ◌-◌, ◌<◌, ◌≤◌}
use native.Mathlib.Nat.{not-suc-le-zero, mul-le-mul_right}
use native.Mathlib.Decide.{dec_lt}
use native.Mathlib.Omega.{arith}
use Rattle.std.specs.Prelude.{Some, None}
use Rattle.store.specs.declared.rows.RowCounts.{RowCounts}
use Rattle.positions.specs.Plans.{Plan, Planned}
use Rattle.uses.specs.declared.lines.Pass.{Pass}
use Rattle.engine.specs.declared.turns.Turn.{Turn}
use Rattle.engine.specs.InRange.{Given}
use Rattle.uses.specs.Uses.{Uses, Either, Under, Upto}
use Rattle.uses.specs.Passing.{Swept}
use Rattle.uses.specs.AllUses.{PStretch, AllQUses, AllUses}
use Rattle.engine.specs.Working.{Worked}
use Rattle.engine.specs.Turns.{stretch_count, Skipped, Covered, Turning, StretchesDone, Goes}
use Rattle.uses.proofs.PassLaws.{swept_idle}
use Rattle.engine.proofs.EmptyStretches.{p_stretch_some}
use Rattle.uses.proofs.StretchNumbers.{stretches_pos}
use Rattle.engine.proofs.Covering.{
  swept_fewer,
  covered_fewer,
  covered_none,
  covered_then,
  covered_same,
  covered_spent,
  covered_put,
  covered_new,
  covered_all,
}

-- ---- the number that falls, for R stretches: x is what is left and what was left before, r is the stretch

-- x falls
fewer_left : (R x y r r' : ℕ) → x < y → x * (R + 1) + (R - r') < y * (R + 1) + (R - r)
fewer_left R x y r r' l = omega (arith, mul-le-mul_right (R + 1) l)

-- it is not 0 before the end
some_left : (R x r : ℕ) → r < R → 0 < x * (R + 1) + (R - r)
some_left R x r l = omega (arith, l)

-- x does not rise, and the stretch comes nearer to the last
fewer_stretches : (R x y r r' : ℕ) → x ≤ y → r < r' → r' ≤ R → x * (R + 1) + (R - r') < y * (R + 1) + (R - r)
fewer_stretches R x y r r' l h e = omega (arith, mul-le-mul_right (R + 1) l)

module _ (s : Plan) (n : RowCounts) (st pu po : List ℕ) where
  abbrev All : Uses
  All = AllUses s n st pu po

  abbrev Stretches : ℕ → Uses
  Stretches = Upto (PStretch s n st pu)

  stretch_all : (stretch : ℕ) → stretch < stretch_count s → (q x y : ℕ) → PStretch s n st pu stretch q x y → All q x y
  stretch_all stretch l q x y u = inl (record { k = stretch; lt = l; given = u })

  none_before : (q x y : ℕ) → ¬ Stretches 0 q x y
  none_before q x y u = not-suc-le-zero u.lt

  -- ---- the first turn

  pub first_turning : Planned s → (put : Bool) (b : Pass) (m : List ℕ)
      → Turning s n st pu po put b (record { stretch = 0; before = b.left }) b m m
  first_turning plan put b m =
      record { covered = covered_none put none_before; within = stretches_pos plan }

  -- ---- what follows on a turn: p is what is carried after rules 4, 5 and 2 on its stretch

  module _ {put : Bool} {b : Pass} {turn : Turn} {had : Pass} {m₀ m : List ℕ} (t : Turning s n st pu po put b turn had m₀ m)
      {p : Pass} {m' : List ℕ}
      (swept : Swept (PStretch s n st pu turn.stretch) put had p m m') where
    -- its stretch was gone over too
    with_stretch : Covered All (Either (Stretches turn.stretch) (PStretch s n st pu turn.stretch)) put b turn.before p m₀ m'
    with_stretch = covered_then (stretch_all turn.stretch t.within) t.covered swept

    pub goes_spent : p.left ≡ 0 → Goes s n st pu po put b turn had None p m₀ m'
    goes_spent z =
        record { next = covered_all refl (covered_spent to z with_stretch); fewer = some_left (stretch_count s) _ turn.stretch t.within }
      where
        to : (q x y : ℕ) → Either (Stretches turn.stretch) (PStretch s n st pu turn.stretch) q x y → All q x y
        to q x y (inl u) = stretch_all u.k (omega (arith, u.lt, t.within)) q x y u.given
        to q x y (inr u) = stretch_all turn.stretch t.within q x y u

    pub goes_again : ¬ (p.left ≡ had.left)
        → Goes s n st pu po put b turn had (Some turn) p m₀ m'
    goes_again gave =
        record {
          next =
              record {
                covered = covered_put (λ e. gave (omega (arith, swept_fewer swept, covered_fewer t.covered))) with_stretch;
                within = t.within;
              };
          fewer = fewer_left (stretch_count s) _ _ turn.stretch turn.stretch (fewer (dec_lt p.left had.left));
        }
      where
        fewer : Dec (p.left < had.left) → p.left + turn.before < had.left + turn.before
        fewer (yes l) = omega arith
        fewer (no l) = absurd (gave (omega (arith, swept_fewer swept)))

    module _ (given : Given s n st pu po) {next : ℕ} (found : Skipped s m' (turn.stretch + 1) next) where
      -- the stretches between this one and the next have no mark
      abbrev Between : Uses
      Between = Upto (λ k. Under (turn.stretch < k) (PStretch s n st pu k)) next

      skipped : Swept Between put p p m' m'
      skipped =
          swept_idle put λ y l.
          let u = l.given in
          found.none u.k (omega (arith, u.given.0)) u.lt
          (p_stretch_some m' given (omega (arith, u.lt, found.upto)) u.given.1 l.has_q l.has_x)

      -- all stretches before the next were gone over
      stretches_before : Covered All (Stretches next) put b turn.before p m₀ m'
      stretches_before = covered_same to fro (covered_then part with_stretch skipped)
        where
          part : (q x y : ℕ) → Between q x y → All q x y
          part q x y u = stretch_all u.k (omega (arith, u.lt, found.upto)) q x y u.given.1

          to : (q x y : ℕ) → Either (Either (Stretches turn.stretch) (PStretch s n st pu turn.stretch)) Between q x y → Stretches next q x y
          to q x y (inl (inl u)) = record { k = u.k; lt = omega (arith, u.lt, found.from); given = u.given }
          to q x y (inl (inr u)) = record { k = turn.stretch; lt = omega (arith, found.from); given = u }
          to q x y (inr u) = record { k = u.k; lt = u.lt; given = u.given.1 }

          fro : (q x y : ℕ) → Stretches next q x y → Either (Either (Stretches turn.stretch) (PStretch s n st pu turn.stretch)) Between q x y
          fro q x y u = go (dec_lt u.k turn.stretch) (dec_lt turn.stretch u.k)
            where
              go : Dec (u.k < turn.stretch) → Dec (turn.stretch < u.k)
                  → Either (Either (Stretches turn.stretch) (PStretch s n st pu turn.stretch)) Between q x y
              go (yes l) d = inl (inl (record { k = u.k; lt = l; given = u.given }))
              go (no l) (yes h) = inr (record { k = u.k; lt = u.lt; given = (h, u.given) })
              go (no l) (no h) =
                  let e : u.k ≡ turn.stretch = omega arith in inl (inr (subst (λ (k : ℕ). PStretch s n st pu k q x y) e u.given))

      pub goes_next : p.left ≡ had.left → next < stretch_count s
          → Goes s n st pu po put b turn had (Some (record { stretch = next; before = turn.before })) p m₀ m'
      goes_next e l =
          record {
            next = record { covered = stretches_before; within = l };
            fewer = fewer_stretches (stretch_count s) _ _ turn.stretch next (omega arith) (omega (arith, found.from)) found.upto;
          }

      pub stretches_done : stretch_count s ≤ next → StretchesDone s n st pu po put b turn had p m₀ m'
      stretches_done l =
          record {
            covered =
                subst (λ (r : ℕ). Covered All (Stretches r) put b turn.before p m₀ m') (omega (arith, found.upto)) stretches_before;
            stretch = t.within;
            fewer = swept_fewer swept;
          }

  -- ---- the end of a round

  -- something was put, and the next round begins
  pub begins_anew : 0 < stretch_count s → {D : Uses} {put : Bool} {b : Pass} {turn : Turn} {had : Pass} {p : Pass} {m₀ m : List ℕ}
      → Covered All D put b turn.before p m₀ m → p.left ≤ had.left → ¬ (p.left ≡ turn.before)
      → Goes s n st pu po put b turn had (Some (record { stretch = 0; before = p.left })) p m₀ m
  begins_anew some {turn = turn} {had = had} {p = p} c le gave =
      record {
        next = record { covered = covered_new gave none_before c; within = some };
        fewer = fewer_left (stretch_count s) _ _ turn.stretch 0 (fewer (dec_lt p.left turn.before));
      }
    where
      fewer : Dec (p.left < turn.before) → p.left + p.left < had.left + turn.before
      fewer (yes l) = omega arith
      fewer (no l) = absurd (gave (omega (arith, covered_fewer c)))

  -- p is what is carried after the last stretch, and r after the Q facts
  module _ {put : Bool} {b : Pass} {turn : Turn} {had : Pass} {p : Pass} {m₀ m : List ℕ}
      (done : StretchesDone s n st pu po put b turn had p m₀ m) {r : Pass} {m' : List ℕ} (swept : Swept (AllQUses s n po) put p r m m') where
    -- every use was gone over
    pub all_covered : Covered All All put b turn.before r m₀ m'
    all_covered = covered_then (λ q x y. inr) done.covered swept

    pub all_fewer : r.left ≤ had.left
    all_fewer = omega (arith, swept_fewer swept, done.fewer)

    ends : Worked All put b r m₀ m' → Goes s n st pu po put b turn had None r m₀ m'
    ends w = record { next = w; fewer = some_left (stretch_count s) _ turn.stretch done.stretch }

    pub ends_settled : r.left ≡ turn.before → Goes s n st pu po put b turn had None r m₀ m'
    ends_settled e = ends (covered_all e all_covered)

    pub ends_spent : r.left ≡ 0 → Goes s n st pu po put b turn had None r m₀ m'
    ends_spent z = ends (covered_all refl (covered_spent (λ q x y u. u) z all_covered))
