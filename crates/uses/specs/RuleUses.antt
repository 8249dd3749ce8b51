-- The uses of each rule at positions (01, "The rules"), by a table's plan s. Facts stand in stretches: the P facts of a thread t from a pair a,
-- and the Q facts of t from a with a frame, each stretch with a place for every pair where a fact may end. So uses are told stretch by stretch.
use Rattle.std.specs.Prelude.{◌≡◌, List, ℕ, ◌+◌, ◌*◌}
use Rattle.store.specs.declared.rows.Row.{Row}
use Rattle.positions.specs.Plans.{Plan, pair, p_from, q_from, g_at}
use Rattle.store.specs.Reading.{row_of}
use Rattle.uses.specs.Uses.{Uses, Single, Either, Upto, With, Under, Line}

-- ---- rules 4, 5 and 7: the rules with a row, on the facts of t from pair a

-- where the P fact to the place of a row stands
abbrev pub place_of : Plan → ℕ → ℕ → Row → ℕ
place_of s t a r = p_from s t a + pair s r.g r.l

-- rule 4: the P fact that ends at the row's place gives a P fact and a G fact
abbrev pub StepUse : Plan → ℕ → ℕ → Row → Uses
StepUse s t a r =
    Either (Single (place_of s t a r) (p_from s t a + pair s r.u r.v))
    (Single (place_of s t a r) (g_at s t r.g r.u))

-- rule 5: it gives a Q fact, and the P fact of the callee's start
abbrev pub PushUse : Plan → ℕ → ℕ → Row → Uses
PushUse s t a r =
    Either (Single (place_of s t a r) (q_from s t a + r.v * s.k + pair s r.g r.u))
    (Single (place_of s t a r) (p_from s t (pair s r.g r.u) + pair s r.g r.u))

-- rule 7: the Q fact with the row's frame that ends at its place gives a P fact
abbrev pub PopUse : Plan → ℕ → ℕ → Row → Uses
PopUse s t a r = Single (q_from s t a + r.u * s.k + pair s r.g r.l) (p_from s t a + pair s r.g r.v)

-- ---- rows

-- a row of t, and its uses U
abbrev pub OfRow : ℕ → (Row → Uses) → Row → Uses
OfRow t U r = Under (r.t ≡ t) (U r)

-- those of the first n of a sequence of rows
abbrev pub OfRows : ℕ → (Row → Uses) → (ℕ → Row) → ℕ → Uses
OfRows t U row n = Upto (λ i. OfRow t U (row i)) n

-- rule 4
abbrev pub StepRowUse : Plan → ℕ → ℕ → Row → Uses
StepRowUse s t a = OfRow t (StepUse s t a)

abbrev pub StepUses : Plan → ℕ → ℕ → (ℕ → Row) → ℕ → Uses
StepUses s t a = OfRows t (StepUse s t a)

-- rules 5 and 7: those of the first n rows of a list of bytes
abbrev pub PushUses : Plan → ℕ → ℕ → List ℕ → ℕ → Uses
PushUses s t a rows n = OfRows t (PushUse s t a) (row_of rows) n

abbrev pub PopUses : Plan → ℕ → ℕ → List ℕ → ℕ → Uses
PopUses s t a rows n = OfRows t (PopUse s t a) (row_of rows) n

-- ---- rule 6

-- the Q fact to pair b in the stretch of Q facts from y on, with the P facts from b
abbrev pub CallUse : Plan → ℕ → ℕ → ℕ → Uses
CallUse s t y b = With (y + b) (Upto (Line (p_from s t b) y) s.k)

-- ---- rules 2 and 3

-- the G fact of e from g to g', and the stretch of facts of t from x on, if the guarantee is another thread's
abbrev pub MovedUse : Plan → ℕ → ℕ → ℕ → ℕ → ℕ → Uses
MovedUse s t x g g' e = With (g_at s e g g') (Under (e ≡ t → ⊥) (Upto (Line (x + g * s.l) (x + g' * s.l)) s.l))

-- those of each thread, from g to g'
abbrev pub MovedTo : Plan → ℕ → ℕ → ℕ → ℕ → Uses
MovedTo s t x g g' = Upto (MovedUse s t x g g') s.n

-- and from g to each shared store
abbrev pub MovedFrom : Plan → ℕ → ℕ → ℕ → Uses
MovedFrom s t x g = Upto (MovedTo s t x g) s.g
