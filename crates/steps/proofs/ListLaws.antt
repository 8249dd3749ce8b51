-- The first n of a list of rows that was read from bytes are the rows of those bytes: so they are in range, and their uses are the same.
use mathlib.Core.Path.{◌≡◌, sym, subst, ◌∙◌}
use mathlib.Core.Bool.{Bool}
use mathlib.Core.List.{List}
use Prim.Native.Nat.{ℕ, ◌<◌, ◌≤◌}
use native.Mathlib.Omega.{arith}
use lib.ListN.{length, take}
use lib.Seq.{length-take-le, get_or-take}
use Rattle.positions.specs.Plans.{Plan}
use Rattle.store.specs.declared.rows.Row.{Row}
use Rattle.store.specs.Reading.{row_of, zero_row, nth, Unpacked}
use Rattle.uses.specs.declared.lines.Pass.{Pass}
use Rattle.uses.specs.Ranges.{RowIn, EachIn}
use Rattle.uses.specs.Uses.{Uses}
use Rattle.uses.specs.Passing.{Swept}
use Rattle.uses.specs.RuleUses.{StepUse, OfRow, OfRows, StepUses}
use Rattle.uses.proofs.PassLaws.{swept_same}

-- equal rows have the same uses
rows_same : (t : ℕ) (U : Row → Uses) {row row' : ℕ → Row} {n n' : ℕ} → n ≡ n' → ((k : ℕ) → k < n → row k ≡ row' k) → (q x y : ℕ)
    → OfRows t U row n q x y → OfRows t U row' n' q x y
rows_same t U e h q x y u =
    record { k = u.k; lt = omega (arith, u.lt); given = subst (λ (r : Row). OfRow t U r q x y) (h u.k u.lt) u.given }

module _ {bytes : List ℕ} {n : ℕ} (rows : List Row) (listed : Unpacked bytes n rows) (long : n ≤ length rows) where
  pub taken_length : length (take n rows) ≡ n
  taken_length = length-take-le n rows long

  pub taken_nth : (k : ℕ) → k < n → nth (take n rows) k ≡ row_of bytes k
  taken_nth k l = get_or-take n rows k zero_row l ∙ listed.read k l

  -- what the walker asks of the rows that it is lent
  pub taken_in : {s : Plan} {a b : ℕ} → EachIn s a b (row_of bytes) n → EachIn s a b (nth (take n rows)) (length (take n rows))
  taken_in {s} {a} {b} fit i l =
      let lt : i < n = omega (arith, taken_length) in
      subst (λ (r : Row). RowIn s a b r) (sym (taken_nth i lt)) (fit i lt)

  -- what it did with them
  pub taken_swept : (s : Plan) (t a : ℕ) {put : Bool} {b r : Pass} {m m' : List ℕ}
      → Swept (StepUses s t a (nth (take n rows)) (length (take n rows))) put b r m m' → Swept (StepUses s t a (row_of bytes) n) put b r m m'
  taken_swept s t a =
      let at : (k : ℕ) → k < length (take n rows) → nth (take n rows) k ≡ row_of bytes k = λ k l. taken_nth k (omega (arith, taken_length)) in
      swept_same (rows_same t (StepUse s t a) taken_length at) (rows_same t (StepUse s t a) (sym taken_length) (λ k l. sym (taken_nth k l)))
