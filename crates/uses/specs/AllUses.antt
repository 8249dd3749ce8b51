-- Every use of rules 2 to 7, by a table's plan s (01, "The rules"). There are n * k stretches of P facts: stretch i is that of thread i / k
-- from pair i % k. The stretches of Q facts of a thread from one pair, one for each frame, are counted together, in the same order.
use Rattle.std.specs.Prelude.{List, ℕ, ◌+◌, ◌*◌, ◌/◌, ◌%◌}
use Rattle.store.specs.declared.rows.RowCounts.{RowCounts}
use Rattle.positions.specs.Plans.{Plan, p_from, q_from}
use Rattle.store.specs.Reading.{row_of}
use Rattle.uses.specs.Uses.{Uses, Either, Upto}
use Rattle.uses.specs.RuleUses.{StepUses, PushUses, PopUses, CallUse, MovedFrom}

-- on the P facts of t from pair a: rules 5 and 2
abbrev pub RestUses : Plan → RowCounts → List ℕ → ℕ → ℕ → Uses
RestUses s n pushes t a = Either (PushUses s t a pushes n.pushes) (Upto (MovedFrom s t (p_from s t a)) s.g)

-- rule 4 too
abbrev pub PUses : Plan → RowCounts → List ℕ → List ℕ → ℕ → ℕ → Uses
PUses s n steps pushes t a = Either (StepUses s t a (row_of steps) n.steps) (RestUses s n pushes t a)

-- on the Q facts of t from pair a with frame f: rules 6 and 3
abbrev pub FrameUses : Plan → ℕ → ℕ → ℕ → Uses
FrameUses s t a f = Either (Upto (CallUse s t (q_from s t a + f * s.k)) s.k) (Upto (MovedFrom s t (q_from s t a + f * s.k)) s.g)

-- on the Q facts of t from pair a: these for each frame, and rule 7
abbrev pub QUses : Plan → RowCounts → List ℕ → ℕ → ℕ → Uses
QUses s n pops t a = Either (Upto (FrameUses s t a) s.f) (PopUses s t a pops n.pops)

-- on stretch i of the P facts
abbrev pub PStretch : Plan → RowCounts → List ℕ → List ℕ → ℕ → Uses
PStretch s n steps pushes i = PUses s n steps pushes (i / s.k) (i % s.k)

-- on the stretches of Q facts from one pair
abbrev pub QStretches : Plan → RowCounts → List ℕ → ℕ → Uses
QStretches s n pops i = QUses s n pops (i / s.k) (i % s.k)

-- on all Q facts
abbrev pub AllQUses : Plan → RowCounts → List ℕ → Uses
AllQUses s n pops = Upto (QStretches s n pops) (s.n * s.k)

-- on all P facts and on all Q facts
abbrev pub AllUses : Plan → RowCounts → List ℕ → List ℕ → List ℕ → Uses
AllUses s n steps pushes pops = Either (Upto (PStretch s n steps pushes) (s.n * s.k)) (AllQUses s n pops)
