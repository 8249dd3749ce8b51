-- A stretch of facts with no mark gives nothing: each use on it has a premise in it. The same holds of the stretches of Q facts
-- of a thread from one pair, taken together.
use mathlib.Core.Path.{◌≡◌, refl, sym, ap, subst}
use mathlib.Core.Bool.{Bool}
use mathlib.Core.Logic.{inl, inr}
use mathlib.Core.List.{List}
use Prim.Native.Nat.{ℕ, ◌+◌, ◌*◌, ◌/◌, ◌%◌, ◌<◌}
use native.Mathlib.Omega.{arith}
use Rattle.store.specs.declared.rows.RowCounts.{RowCounts}
use Rattle.store.specs.Marking.{Has, SomeIn}
use Rattle.positions.specs.Plans.{Plan, Planned, p_from, q_from}
use Rattle.positions.proofs.Places.{q_stretch}
use Rattle.uses.specs.declared.lines.Pass.{Pass}
use Rattle.uses.specs.Ranges.{RowsIn}
use Rattle.uses.specs.Passing.{Swept}
use Rattle.uses.proofs.PassLaws.{swept_empty, swept_idle}
use Rattle.uses.proofs.Premises.{some_part, steps_in_lem, pushes_in_lem, pops_in_lem, calls_in, moved_in}
use Rattle.engine.specs.InRange.{Given}
use Rattle.uses.specs.AllUses.{FrameUses, PStretch, QStretches, AllQUses}
use Rattle.uses.proofs.StretchNumbers.{p_begins, q_begins}

module _ (m : List ℕ) where
  -- stretch i of the P facts
  pub p_stretch_some : {s : Plan} {n : RowCounts} {st pu po : List ℕ} → Given s n st pu po → {i q z y : ℕ} → i < s.n * s.k
      → PStretch s n st pu i q z y → Has m q → Has m z → SomeIn m (s.p + i * s.k) s.k
  p_stretch_some {s} {n} {st} {pu} given {i} {q} {z} {y} l u hq hz = subst (λ x. SomeIn m x s.k) (p_begins given.plan l) (some_in u)
    where
      some_in : PStretch s n st pu i q z y → SomeIn m (p_from s (i / s.k) (i % s.k)) s.k
      some_in (inl u) = steps_in_lem m given.plan given.steps.fit _ _ u hz
      some_in (inr (inl u)) = pushes_in_lem m given.plan pu given.pushes.fit _ _ u hz
      some_in (inr (inr u)) = moved_in m given.plan _ _ u hz

  module _ {s : Plan} (h : Planned s) where
    -- the Q facts of t from pair a with frame f
    frame_in : (t a f q z y : ℕ) → FrameUses s t a f q z y → Has m q → Has m z → SomeIn m (q_from s t a + f * s.k) s.k
    frame_in t a f q z y (inl u) hq hz = calls_in m h t _ u hq
    frame_in t a f q z y (inr u) hq hz = moved_in m h t _ u hz

    pub frame_empty : (t a f : ℕ) {b : Pass} (put : Bool) → ¬ SomeIn m (q_from s t a + f * s.k) s.k → Swept (FrameUses s t a f) put b b m m
    frame_empty t a f put = swept_empty _ put (frame_in t a f)

    module _ (n : RowCounts) {po : List ℕ} (pops : RowsIn s s.f s.l po n.pops) where
      -- the stretches of Q facts from one pair
      q_stretches_some : (i q z y : ℕ) → QStretches s n po i q z y → Has m q → Has m z → SomeIn m (q_from s (i / s.k) (i % s.k)) (s.f * s.k)
      q_stretches_some i q z y (inl u) hq hz = some_part m _ _ (u.k * s.k) refl (q_stretch h u.lt) (frame_in _ _ u.k q z y u.given hq hz)
      q_stretches_some i q z y (inr u) hq hz = pops_in_lem m h po pops.fit _ _ u hz

      pub q_stretches_empty : {i : ℕ} → i < s.n * s.k → {b : Pass} (put : Bool) → ¬ SomeIn m (s.q + i * (s.f * s.k)) (s.f * s.k)
          → Swept (QStretches s n po i) put b b m m
      q_stretches_empty {i} l put empty =
          swept_empty (q_from s (i / s.k) (i % s.k)) put (q_stretches_some i)
          (subst (λ x. SomeIn m x (s.f * s.k) → ⊥) (sym (q_begins h l)) empty)

      -- no frames, no Q facts
      pub no_frames : s.f ≡ 0 → {b : Pass} (put : Bool) → Swept (AllQUses s n po) put b b m m
      no_frames e put =
          swept_idle put λ y l.
          let u = l.given in
          let v = q_stretches_some u.k _ _ _ u.given l.has_q l.has_x in
          let z = ap (λ f. f * s.k) e in
          absurd (omega (arith, v.lt))
