-- The verdict on a set of facts, with the smallest witness (01, "The rules").
use Rattle.std.specs.Prelude.{◌≡◌, List, [], ◌∷◌, ℕ, ◌<◌}
use Rattle.std.proofs.Math.Option.{Option, none, some}
use Rattle.files.specs.Table.{Table}
use Rattle.model.specs.Rules.{Fact}
use Rattle.model.specs.Errors.{Witness, Allows, Safe}

infix 4 ◌≼◌
-- lists of one length, compared number by number from the left
pub data ◌≼◌ : List ℕ → List ℕ → Type 0 where
  end : [] ≼ []
  less : {x y : ℕ} {xs ys : List ℕ} → x < y → (x ∷ xs) ≼ (y ∷ ys)
  more : {x y : ℕ} {xs ys : List ℕ} → x ≡ y → xs ≼ ys → (x ∷ xs) ≼ (y ∷ ys)

-- "Witness: smallest row number, then smallest g, then the smallest list of local stores compared from thread 0."
abbrev pub numbers : Witness → List ℕ
numbers w = w.row ∷ w.shared ∷ w.locals

-- w is the smallest of the errors that S allows
pub record SmallestWitness (T : Table) (S : Fact → Type 0) (w : Witness) : Type 0 where
  pub allowed : Allows T S w
  pub least : (v : Witness) → Allows T S v → numbers w ≼ numbers v

-- "possible", with its smallest witness, if S allows some error; else "safe"
pub data Verdict (T : Table) (S : Fact → Type 0) : Option Witness → Type 0 where
  safe : Safe T S → Verdict T S none
  possible : {w : Witness} → SmallestWitness T S w → Verdict T S (some w)
