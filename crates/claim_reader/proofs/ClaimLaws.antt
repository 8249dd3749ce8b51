-- Laws of a claim that is read, and what the code's answers tell of it.
--     rest_listed                      where the positions were read to the end of the file, they were read
--     rest_read, _more, _refused       what `rest_at` gives, by where its positions end
--     claim_counted, _uncounted        what `claim_at` gives, by its count
--     Read, claim_got                  where a claim was read, its count was, and its positions up to the end of the file
--     claimed_read                     what the answer of `read_claim` tells
use mathlib.Core.Path.{◌≡◌, refl, sym, ap, ◌∙◌}
use mathlib.Core.Bool.{Bool, true, false}
use mathlib.Core.List.{List}
use Prim.Native.Nat.{ℕ, ◌≤◌}
use native.Mathlib.Omega.{arith}
use borrow.Author.Tests.{ltb-false}
use lib.Dec.{ltb}
use lib.ListN.{length}
use Rattle.numbers.specs.declared.refusals.Refusal.{Refusal}
use Rattle.numbers.specs.declared.refusals.Refusal.TheVariants.{After}
use Rattle.numbers.specs.Reading.{Out, got, bad, pick}
use Rattle.numbers.proofs.ReadingLaws.{never, parts}
use Rattle.std.specs.Prelude.{Ok, Err}
use Rattle.reader.specs.Ends.{at_end}
use Rattle.reader.proofs.EndLaws.{ends_for, goes_on_for}
use Rattle.claim_reader.specs.ClaimFile.{count_at, positions_at, rest_at, claim_at}
use Rattle.claim_reader.specs.ClaimAnswers.{IsClaim, claimed_of}
use Rattle.claim_reader.proofs.PositionLaws.{positions_count}

-- ---- what is known of an end

ended : (s ps qs : List ℕ) (p n : ℕ) (t : Bool) → ltb p (length s) ≡ t → pick t (bad (After p)) (got ps p) ≡ got qs n
    → (got ps p ≡ got qs n) × (length s ≤ n)
ended s ps qs p n true e h = never (cc)
ended s ps qs p n false e h = let i : p ≡ n = cc in (h, omega (arith, ltb-false p (length s) e))

-- ---- the positions and the end of the file

module _ (w k : ℕ) (s : List ℕ) (at : ℕ) where
  -- where the positions were read to the end, they were read
  pub rest_listed : {ps : List ℕ} {n : ℕ} → rest_at w k s at ≡ got ps n → (positions_at w k 0 0 s at ≡ got ps n) × (length s ≤ n)
  unfolding rest_at
  rest_listed {ps} {n} e =
      let l = parts (positions_at w k 0 0 s at) _ ps n e in
      let z = ended s l.first ps l.place n _ refl l.rest in
      (l.was ∙ z.0, z.1)

  -- the positions end where no byte is left, where bytes are left, or in a refusal
  pub rest_read : {ps : List ℕ} {n m : ℕ} → positions_at w k 0 0 s at ≡ got ps n → at_end (tt {0}) s n ≡ got (tt {0}) m → Ok k ≡ claimed_of (rest_at w k s at)
  unfolding rest_at
  rest_read {ps} {n} e z = rw (e, ends_for (tt {0}) ps s n z) (ap Ok (sym (positions_count w s k 0 0 at ps n e)))

  pub rest_more : {ps : List ℕ} {n : ℕ} {r : Refusal} → positions_at w k 0 0 s at ≡ got ps n → at_end (tt {0}) s n ≡ bad r → rest_at w k s at ≡ bad r
  unfolding rest_at
  rest_more {ps} {n} e z = rw e (goes_on_for (tt {0}) ps s n z)

  pub rest_refused : {r : Refusal} → positions_at w k 0 0 s at ≡ bad r → rest_at w k s at ≡ bad r
  unfolding rest_at
  rest_refused e = rw e

-- ---- a claim, by its count

module _ (w : ℕ) (s : List ℕ) where
  pub claim_counted : {k n : ℕ} → count_at w s ≡ got k n → claim_at w s ≡ rest_at w k s n
  unfolding claim_at
  claim_counted e = rw e

  pub claim_uncounted : {r : Refusal} → count_at w s ≡ bad r → claim_at w s ≡ bad r
  unfolding claim_at
  claim_uncounted e = rw e

-- ---- what is known of a claim that was read

-- its count k, the place `at` past that, and its positions from there to the end of the file
pub record Read (w : ℕ) (s ps : List ℕ) (n : ℕ) : Type 0 where
  pub k : ℕ
  pub at : ℕ
  pub counted : count_at w s ≡ got k at
  pub listed : positions_at w k 0 0 s at ≡ got ps n
  pub end : length s ≤ n

pub claim_got : (w : ℕ) (s ps : List ℕ) (n : ℕ) → claim_at w s ≡ got ps n → Read w s ps n
unfolding claim_at
claim_got w s ps n e =
    let c = parts (count_at w s) _ ps n e in
    let l = rest_listed w c.first s c.place c.rest in
    record { k = c.first; at = c.place; counted = c.was; listed = l.0; end = l.1 }

module _ {w : ℕ} {s : List ℕ} (is : IsClaim w s) where
  -- the positions of a claim, from the place past its count
  pub claim_listed : {k at : ℕ} → count_at w s ≡ got k at → positions_at w k 0 0 s at ≡ got is.positions is.next
  claim_listed {k} {at} e =
      let r = claim_got w s is.positions is.next is.reads in
      let q : r.k ≡ k = cc (r.counted, e) in
      let p : r.at ≡ at = cc (r.counted, e) in
      rw (q, p) at r.listed

  -- its count is not refused
  pub claim_count : (k : ℕ) × (at : ℕ) × (count_at w s ≡ got k at)
  claim_count = let r = claim_got w s is.positions is.next is.reads in (r.k, r.at, r.counted)

-- ---- what the code's answer tells

pub claimed_read : (w : ℕ) (s : List ℕ) (k : ℕ) → Ok k ≡ claimed_of (claim_at w s) → (c : IsClaim w s) × (k ≡ length c.positions)
claimed_read w s k e = go (claim_at w s) refl e
  where
    go : (o : Out (List ℕ)) → claim_at w s ≡ o → Ok k ≡ claimed_of o → (c : IsClaim w s) × (k ≡ length c.positions)
    go (got ps n) q h = (record { positions = ps; next = n; reads = q }, cc)
    go (bad r) q h = never (cc)

pub claimed_refused : (w : ℕ) (s : List ℕ) (r : Refusal) → Err r ≡ claimed_of (claim_at w s) → claim_at w s ≡ bad r
claimed_refused w s r e = go (claim_at w s) e
  where
    go : (o : Out (List ℕ)) → Err r ≡ claimed_of o → o ≡ bad r
    go (got ps n) h = never (cc)
    go (bad q) h = cc
