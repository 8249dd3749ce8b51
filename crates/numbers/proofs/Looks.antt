-- How far reading looks. Of a file that is cut past there it gives the same, refusals too: a file that the cut changes is longer than the cut, so no
-- number that ends before the cut is cut short, in the part as in the whole.
--     Looks                           reading at a place looks at no more than so many bytes
--     cut_same                        only a cut within the file may change what is read
--     then_same, looks_then           what is read in two parts is the same where both are, and looks as far as both together
--     looks_got, _bad, _pick, _more   what reads nothing looks at nothing; one of two; and any larger number will do
--     number_looks, field_looks       a number, whatever its range, looks at four bytes
--     version_looks                   and so does the version
use mathlib.Core.Path.{◌≡◌, refl, ap, ◌∙◌}
use mathlib.Core.List.{List}
use mathlib.Core.Bool.{Bool, true, false}
use Prim.Native.Nat.{ℕ, zero, suc, ◌+◌, ◌%◌, ◌≤◌}
use native.Mathlib.Decide.{dec_le}
use native.Mathlib.Omega.{arith}
use borrow.Author.Tests.{lt-ltb}
use lib.ListN.{length, get_or, take}
use lib.Seq.{length-take-le, take_all, get_or-take}
use lib.Dec.{ltb, eqb}
use Rattle.numbers.specs.declared.refusals.Refusal.{Refusal}
use Rattle.numbers.specs.declared.refusals.Refusal.TheVariants.{Version, Outside}
use Rattle.std.specs.Prelude.{Result, Ok, Err}
use Rattle.numbers.specs.declared.reading.Flaw.{Flaw}
use Rattle.numbers.specs.declared.reading.Part.{Part}
use Rattle.numbers.specs.declared.reading.Flaw.TheVariants.{Long}
use Rattle.numbers.specs.Reading.{Out, got, bad, part, then, pick, onto, groups_at, out_of, number_at, field_at, version_at}
use Rattle.numbers.proofs.ReadingLaws.{never, parts, pick_either}
use Rattle.numbers.proofs.NumberLaws.{number_past}

-- Reading by f looks at no more than c bytes: of a file that is cut past them it gives the same, and what it reads ends by there.
pub record Looks {A : Type 0} (c : ℕ) (f : List ℕ → ℕ → Out A) : Type 0 where
  pub same : (s : List ℕ) (k at : ℕ) → at + c ≤ k → f (take k s) at ≡ f s at
  pub past : (s : List ℕ) (at : ℕ) (a : A) (n : ℕ) → f s at ≡ got a n → n ≤ at + c

-- a cut past the end of the file changes nothing
pub cut_same : {A : Type 0} (f : List ℕ → A) (s : List ℕ) (k : ℕ) → (k ≤ length s → f (take k s) ≡ f s) → f (take k s) ≡ f s
cut_same f s k same = by (dec_le k (length s))
  where
    by : Dec (k ≤ length s) → f (take k s) ≡ f s
    by (yes h) = same h
    by (no h) = ap f (take_all k s (omega arith))

-- ---- what is read in parts

pub then_same : {A B : Type 0} (o : Out A) {o' : Out A} {f f' : A → ℕ → Out B} → o' ≡ o
    → ((a : A) (n : ℕ) → o ≡ got a n → f' a n ≡ f a n) → then o' f' ≡ then o f
then_same (got a n) e same = rw e (same a n refl)
then_same (bad r) e same = rw e

module _ {A B : Type 0} {c d : ℕ} {f : List ℕ → ℕ → Out A} {g : ℕ → A → List ℕ → ℕ → Out B} where
  pub looks_then : Looks c f → ((s : List ℕ) (at : ℕ) (a : A) (n : ℕ) → f s at ≡ got a n → Looks d (g at a))
      → Looks (c + d) (λ s at. then (f s at) (λ a next. g at a s next))
  looks_then l m =
      record {
        same = λ s k at h.
            then_same (f s at) (l.same s k at (omega arith)) (λ a n e. (m s at a n e).same s k n (omega (arith, l.past s at a n e)));
        past = λ s at b n e.
            let p = parts (f s at) (λ a next. g at a s next) b n e in
            let was = p.was in
            omega (arith, l.past s at p.first p.place was, (m s at p.first p.place was).past s p.place b n p.rest);
      }

module _ {A : Type 0} where
  pub looks_got : (a : A) → Looks 0 (λ s at. got a at)
  looks_got a = record { same = λ s k at h. refl; past = λ s at b n e. let i : at ≡ n = cc in omega arith }

  pub looks_bad : (r : Refusal) → Looks {A = A} 0 (λ s at. bad r)
  looks_bad r = record { same = λ s k at h. refl; past = λ s at b n e. never (cc) }

  pub looks_pick : {c : ℕ} {f g : List ℕ → ℕ → Out A} (t : Bool) → Looks c f → Looks c g → Looks c (λ s at. pick t (f s at) (g s at))
  looks_pick true l m = l
  looks_pick false l m = m

  -- what is read at the start of a file, wherever it is asked for
  looks_start : {c : ℕ} {f : List ℕ → ℕ → Out A} → Looks c f → Looks c (λ s at. f s 0)
  looks_start l = record { same = λ s k at h. l.same s k 0 (omega arith); past = λ s at a n e. omega (arith, l.past s 0 a n e) }

  pub looks_more : {c d : ℕ} {f : List ℕ → ℕ → Out A} → c ≤ d → Looks c f → Looks d f
  looks_more h l = record { same = λ s k at i. l.same s k at (omega arith); past = λ s at a n e. omega (arith, l.past s at a n e) }

-- ---- a number

-- the bytes do not end before the number does
data Whole : Result (Part ℕ) Flaw → Type 0 where
  whole_value : {v n : ℕ} → Whole (Ok (part v n))
  whole_long : Whole (Err Long)

whole_onto : (low : ℕ) {r : Result (Part ℕ) Flaw} → Whole r → Whole (onto low r)
whole_onto low whole_value = whole_value
whole_onto low whole_long = whole_long

groups_whole : (left least : ℕ) (s : List ℕ) (at : ℕ) → at + left ≤ length s → Whole (groups_at left least s at)
unfolding groups_at
groups_whole zero least s at h = whole_long
groups_whole (suc left) least s at h =
    rw (lt-ltb at (length s) (omega arith))
    (pick_either Whole (ltb (get_or s at 0) 128) (pick_either Whole (ltb (get_or s at 0) least) whole_long whole_value)
    (whole_onto (get_or s at 0 % 128) (groups_whole left 1 s (at + 1) (omega arith))))

whole_same : {r : Result (Part ℕ) Flaw} (a b at : ℕ) → Whole r → out_of a at r ≡ out_of b at r
whole_same a b at whole_value = refl
whole_same a b at whole_long = refl

module _ (s : List ℕ) (k : ℕ) (h : k ≤ length s) where
  groups_same : (left least at : ℕ) → at + left ≤ k → groups_at left least (take k s) at ≡ groups_at left least s at
  unfolding groups_at
  groups_same zero least at l = refl
  groups_same (suc left) least at l =
      rw (
        lt-ltb at (length s) (omega arith),
        lt-ltb at (length (take k s)) (omega (arith, length-take-le k s h)),
        get_or-take k s at 0 (omega arith),
        groups_same left 1 (at + 1) (omega arith),
      )

  number_same : (at : ℕ) → at + 4 ≤ k → number_at (take k s) at ≡ number_at s at
  unfolding number_at
  number_same at l =
      whole_same (length (take k s)) (length s) at (groups_whole 4 0 (take k s) at (omega (arith, length-take-le k s h)))
      ∙ ap (out_of (length s) at) (groups_same 4 0 at l)

pub number_looks : Looks 4 number_at
number_looks =
    record {
      same = λ s k at l. cut_same (λ s. number_at s at) s k (λ h. number_same s k h at l);
      past = λ s at v n e. omega (arith, number_past s at v n e);
    }

-- one that is to pass a test after it was read
pub field_looks : (low end : ℕ) → Looks 4 (λ s at. field_at s at low end)
unfolding field_at
field_looks low end =
    looks_then number_looks λ s at v n e.
    looks_pick (ltb v low) (looks_bad (Outside at)) (looks_pick (ltb v end) (looks_got v) (looks_bad (Outside at)))

-- the version, wherever it is asked for, is read at the start of the file
pub version_looks : Looks 4 (λ s at. version_at s)
unfolding version_at
version_looks = looks_then (looks_start number_looks) (λ s at v n e. looks_pick (eqb v 1) (looks_got v) (looks_bad Version))
