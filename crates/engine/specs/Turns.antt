-- Turns of the stretches of P facts, in rounds. Only the engine's own functions cite this file.
use Rattle.std.specs.Prelude.{◌≡◌, Bool, true, false, List, Option, Some, None, ℕ, ◌+◌, ◌*◌, ◌-◌, ◌/◌, ◌%◌, ◌<◌, ◌≤◌}
use Rattle.positions.specs.Plans.{Plan}
use Rattle.store.specs.declared.rows.RowCounts.{RowCounts}
use Rattle.store.specs.Marking.{SomeIn}
use Rattle.store.specs.Reading.{row_of}
use Rattle.uses.specs.declared.lines.Pass.{Pass}
use Rattle.engine.specs.declared.turns.Turn.{Turn}
use Rattle.engine.specs.InRange.{Given}
use Rattle.engine.specs.Working.{Worked}
use Rattle.uses.specs.Uses.{Upto, Lacks}
use Rattle.uses.specs.RuleUses.{StepUses}
use Rattle.uses.specs.Passing.{Puts, Looked, Swept}
use Rattle.uses.specs.AllUses.{PStretch, AllUses}

-- how many stretches of P facts there are
abbrev pub stretch_count : Plan → ℕ
stretch_count s = s.n * s.k

-- of stretches of k facts from p on, none from i up to j has a mark
abbrev pub NoneBetween : ℕ → ℕ → List ℕ → ℕ → ℕ → Type 0
NoneBetween p k m i j = (stretch : ℕ) → i ≤ stretch → stretch < j → ¬ SomeIn m (p + stretch * k) k

-- stretch r is one from i on, or the number of stretches, and none before it from i on has a mark
pub record Skipped (s : Plan) (m : List ℕ) (i r : ℕ) : Type 0 where
  pub from : i ≤ r
  pub upto : r ≤ stretch_count s
  pub none : NoneBetween s.p s.k m i r

-- the next stretch from i on that has a mark, or that none has
abbrev pub NextStretch : Plan → List ℕ → ℕ → Option ℕ → Type 0
NextStretch s m i (Some r) = Skipped s m i r × (r < stretch_count s) × SomeIn m (s.p + r * s.k) s.k
NextStretch s m i None = Skipped s m i (stretch_count s)

-- Work under way: it carried b at first and p now. D are the uses that this round went over; `before` is how many marks could still be put when
-- the round began. If none was put since, none of D lacks.
pub data Covered (All D : ℕ → ℕ → ℕ → Type 0) : Bool → Pass → ℕ → Pass → List ℕ → List ℕ → Type 0 where
  looking : {b p : Pass} {before : ℕ} {m : List ℕ} → Looked D b p m → p.left ≡ before → Covered All D false b before p m m
  putting : {b p : Pass} {before : ℕ} {m₀ m : List ℕ} → Puts All b p m₀ m → p.left ≤ before
      → (0 < p.left → p.left ≡ before → (y : ℕ) → ¬ Lacks D m y) → Covered All D true b before p m₀ m

-- Whose turn it is: this round went over the stretches of P facts before it. The work carries p.
pub record Turning (s : Plan) (n : RowCounts) (st pu po : List ℕ) (put : Bool) (b : Pass) (turn : Turn) (p : Pass) (m₀ m : List ℕ)
    : Type 0 where
  pub covered : Covered (AllUses s n st pu po) (Upto (PStretch s n st pu) turn.stretch) put b turn.before p m₀ m
  pub within : turn.stretch < stretch_count s

-- the work goes on with a turn, or it has ended
abbrev pub Next : Plan → RowCounts → List ℕ → List ℕ → List ℕ → Bool → Pass → Option Turn → Pass → List ℕ → List ℕ → Type 0
Next s n st pu po put b (Some turn) p m₀ m = Turning s n st pu po put b turn p m₀ m
Next s n st pu po put b None p m₀ m = Worked (AllUses s n st pu po) put b p m₀ m

-- the last turn of a round, which carried `had` at first: rules 2, 4 and 5 were gone over on every stretch
pub record StretchesDone (s : Plan) (n : RowCounts) (st pu po : List ℕ) (put : Bool) (b : Pass) (turn : Turn) (had p : Pass)
    (m₀ m : List ℕ) : Type 0 where
  pub covered : Covered (AllUses s n st pu po) (Upto (PStretch s n st pu) (stretch_count s)) put b turn.before p m₀ m
  pub stretch : turn.stretch < stretch_count s
  pub fewer : p.left ≤ had.left

-- a number that falls with each turn: with each mark, with each stretch, and with each round, and to 0 where the work ends
abbrev pub turns_left : Plan → Option Turn → ℕ → ℕ
turns_left s None left = 0
turns_left s (Some turn) left = (left + turn.before) * (stretch_count s + 1) + (stretch_count s - turn.stretch)

-- rule 4 on the turn's stretch, from m to m₁
abbrev pub Stepped : Plan → RowCounts → List ℕ → Bool → Turn → Pass → Pass → List ℕ → List ℕ → Type 0
Stepped s n st put turn had stepped m m₁ =
    Swept (StepUses s (turn.stretch / s.k) (turn.stretch % s.k) (row_of st) n.steps) put had stepped m m₁

-- what follows on a turn, r: a turn or the end; the work carried `had` at that turn, and carries p at r
pub record Goes (s : Plan) (n : RowCounts) (st pu po : List ℕ) (put : Bool) (b : Pass) (turn : Turn) (had : Pass) (r : Option Turn) (p : Pass)
    (m₀ m : List ℕ) : Type 0 where
  pub next : Next s n st pu po put b r p m₀ m
  pub fewer : turns_left s r p.left < turns_left s (Some turn) had.left

-- The end of a round, from the work's point of view: what follows, r, of work that carried p in m, and carries q in m', follows on the last turn
-- of a round. The work began with b in m₀.
abbrev pub Ends : Plan → RowCounts → List ℕ → Bool → Turn → Pass → List ℕ → Option Turn → Pass → List ℕ → Type 0
Ends s n po put turn p m r q m' =
    (st pu : List ℕ) (b had : Pass) (m₀ : List ℕ) → StretchesDone s n st pu po put b turn had p m₀ m → Goes s n st pu po put b turn had r q m₀ m'

-- likewise on a turn of which rule 4 is done, before which so many marks could still be put
abbrev pub Follows : Plan → RowCounts → List ℕ → List ℕ → Bool → Turn → ℕ → Pass → List ℕ → Option Turn → Pass → List ℕ → Type 0
Follows s n pu po put turn left p m r q m' =
    (st : List ℕ) (b had : Pass) (m₀ m₁ : List ℕ) → had.left ≡ left → Given s n st pu po → Turning s n st pu po put b turn had m₀ m₁
    → Stepped s n st put turn had p m₁ m → Goes s n st pu po put b turn had r q m₀ m'
