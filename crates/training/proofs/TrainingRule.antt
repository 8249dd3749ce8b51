-- The tables of Simple follow their rule. One test goes through a list and the rule's numbers side by side, and antt computes it over the whole
-- table. One law turns the passed test into what holds at each entry: it is the rule's number, and below 128.
use mathlib.Core.Path.{◌≡◌, refl, ap₂}
use mathlib.Core.Bool.{Bool, true, false, ◌&&◌, and-eq-true_iff, false≢true}
use mathlib.Core.List.{List, [], ◌∷◌}
use Prim.Native.Nat.{ℕ, zero, suc, ◌<◌}
use native.Mathlib.Nat.{le_of_suc-le-suc, not-suc-le-zero}
use borrow.Author.Tests.{eqb-true, ltb-true}
use lib.Dec.{eqb, ltb}
use lib.ListN.{length, get_or}
use Rattle.files.specs.Table.{Table, W}
use Rattle.files.specs.Layout.{numbers_of}
use Rattle.training.specs.Training.{training, mutex}

-- ---- the test

-- a number is the rule's, and below 128
abbrev right : ℕ → ℕ → Bool
right x rule = eqb x rule && ltb x 128

-- so is each number of a list
all_right : List ℕ → List ℕ → Bool
all_right [] [] = true
all_right [] (r ∷ rs) = false
all_right (x ∷ xs) [] = false
all_right (x ∷ xs) (r ∷ rs) = right x r && all_right xs rs

-- each is right by the rule of a table
unfoldable pub by_rule : Table → List ℕ → Bool
unfolding all_right numbers_of
by_rule T xs = all_right xs (numbers_of T)

-- ---- its law

right_means : (x rule : ℕ) → right x rule ≡ true → (x ≡ rule) × (x < 128)
right_means x rule t =
    let both = (and-eq-true_iff (eqb x rule) (ltb x 128)).0 t in
    (eqb-true x rule both.0, ltb-true x 128 both.1)

module _ (x r : ℕ) (xs rs : List ℕ) (t : right x r && all_right xs rs ≡ true) where
  first : (x ≡ r) × (x < 128)
  first = right_means x r ((and-eq-true_iff (right x r) (all_right xs rs)).0 t).0

  rest : all_right xs rs ≡ true
  rest = ((and-eq-true_iff (right x r) (all_right xs rs)).0 t).1

-- the numbers are the rule's
right_same : (xs rs : List ℕ) → all_right xs rs ≡ true → xs ≡ rs
unfolding all_right
right_same [] [] t = refl
right_same [] (r ∷ rs) t = absurd (false≢true t)
right_same (x ∷ xs) [] t = absurd (false≢true t)
right_same (x ∷ xs) (r ∷ rs) t = ap₂ (λ (y : ℕ) (ys : List ℕ). y ∷ ys) (first x r xs rs t).0 (right_same xs rs (rest x r xs rs t))

-- and each is below 128
right_small : (xs rs : List ℕ) → all_right xs rs ≡ true → (k : ℕ) → k < length xs → get_or xs k 0 < 128
unfolding all_right
right_small [] rs t k l = absurd (not-suc-le-zero l)
right_small (x ∷ xs) [] t k l = absurd (false≢true t)
right_small (x ∷ xs) (r ∷ rs) t zero l = (first x r xs rs t).1
right_small (x ∷ xs) (r ∷ rs) t (suc k) l = right_small xs rs (rest x r xs rs t) k (le_of_suc-le-suc l)

-- so a list that passes is the table's
pub by_rule_same : (T : Table) (xs : List ℕ) → by_rule T xs ≡ true → xs ≡ numbers_of T
unfolding by_rule
by_rule_same T xs t = right_same xs (numbers_of T) t

-- ---- the rule's own numbers

pub training_numbers : length (numbers_of training) ≡ 576
unfolding numbers_of training
training_numbers = refl

pub training_small : (k : ℕ) → k < 576 → get_or (numbers_of training) k 0 < 128
unfolding by_rule training
training_small k l = right_small (numbers_of training) (numbers_of training) refl k l

pub mutex_numbers : length (numbers_of mutex) ≡ 173
unfolding numbers_of mutex
mutex_numbers = refl

pub training_steps : length training.steps ≡ 90
unfolding training
training_steps = refl

pub training_errors : length training.errors ≡ 28
unfolding training
training_errors = refl

pub training_w : W training ≡ 9600
unfolding W training
training_w = refl
