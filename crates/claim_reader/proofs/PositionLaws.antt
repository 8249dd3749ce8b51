-- Laws of the count and of the positions of a claim that is read.
--     count_after, _bad                  what `count_at` gives, by its version
--     position_far, _bad                 what `position_at` gives, by its distance
--     position_got                       what is known of a position that was read
--     positions_none, _more, _stop       what `positions_at` gives, one position at a time
--     positions_first                    where positions were read, the first was, and the others from the place past it
--     positions_count                    they are as many as the count says
use mathlib.Core.Path.{◌≡◌, refl, ap, ◌∙◌}
use mathlib.Core.List.{List, [], ◌∷◌}
use Prim.Native.Nat.{ℕ, zero, suc, ◌+◌, ◌-◌, ◌≤◌, ◌<◌}
use native.Mathlib.Omega.{arith}
use lib.ListN.{length}
use Rattle.numbers.specs.declared.refusals.Refusal.{Refusal}
use Rattle.numbers.specs.Reading.{Out, got, bad, field_at, version_at}
use Rattle.numbers.proofs.ReadingLaws.{never, parts}
use Rattle.numbers.proofs.FieldLaws.{field_got}
use Rattle.cells.specs.Rows.{push}
use Rattle.claim_reader.specs.ClaimFile.{count_at, position_at, positions_at}

-- ---- the count

module _ (w : ℕ) (s : List ℕ) where
  pub count_after : {v n : ℕ} → version_at s ≡ got v n → count_at w s ≡ field_at s n 0 (w + 1)
  unfolding count_at
  count_after e = rw e

  pub count_bad : {r : Refusal} → version_at s ≡ bad r → count_at w s ≡ bad r
  unfolding count_at
  count_bad e = rw e

-- ---- a position

module _ (w least last : ℕ) (s : List ℕ) (at : ℕ) where
  pub position_far : {d n : ℕ} → field_at s at least (w - last) ≡ got d n → position_at w least last s at ≡ got (last + d) n
  unfolding position_at
  position_far e = rw e

  pub position_bad : {r : Refusal} → field_at s at least (w - last) ≡ bad r → position_at w least last s at ≡ bad r
  unfolding position_at
  position_bad e = rw e

  -- a position that was read, and its distance from `last`
  pub record Position (p n : ℕ) : Type 0 where
    pub distance : field_at s at least (w - last) ≡ got (p - last) n
    pub low : last + least ≤ p
    pub below : p < w

  pub position_got : (p n : ℕ) → position_at w least last s at ≡ got p n → Position p n
  unfolding position_at
  position_got p n e =
      let q = parts (field_at s at least (w - last)) _ p n e in
      let f = field_got s at least (w - last) q.first q.place q.was in
      let is : last + q.first ≡ p = cc q.rest in
      let m : q.place ≡ n = cc q.rest in
      let d : q.first ≡ p - last = omega arith in
      record { distance = q.was ∙ rw (d, m); low = omega arith; below = omega arith }

-- ---- positions

pub positions_none : (w least last : ℕ) (s : List ℕ) (at : ℕ) → positions_at w 0 least last s at ≡ got [] at
unfolding positions_at
positions_none w least last s at = refl

-- where something was pushed onto what was read, that was read
pub record Pushed (p : ℕ) (o : Out (List ℕ)) (ps : List ℕ) (n : ℕ) : Type 0 where
  pub rest : List ℕ
  pub was : o ≡ got rest n
  pub whole : ps ≡ p ∷ rest

pushed : (p : ℕ) (o : Out (List ℕ)) (ps : List ℕ) (n : ℕ) → push p o ≡ got ps n → Pushed p o ps n
pushed p (got qs m) ps n e = let i : m ≡ n = cc in record { rest = qs; was = rw i; whole = cc }
pushed p (bad r) ps n e = never (cc)

module _ (w k least last : ℕ) (s : List ℕ) (at : ℕ) where
  pub positions_more : {p n : ℕ} → position_at w least last s at ≡ got p n → positions_at w (suc k) least last s at ≡ push p (positions_at w k 1 p s n)
  unfolding positions_at
  positions_more e = rw e

  pub positions_stop : {r : Refusal} → position_at w least last s at ≡ bad r → positions_at w (suc k) least last s at ≡ bad r
  unfolding positions_at
  positions_stop e = rw e

  -- the first of the positions ps, and the others
  pub record Split (ps : List ℕ) (n : ℕ) : Type 0 where
    pub p : ℕ
    pub next : ℕ
    pub was : position_at w least last s at ≡ got p next
    pub others : Pushed p (positions_at w k 1 p s next) ps n

  pub positions_first : (ps : List ℕ) (n : ℕ) → positions_at w (suc k) least last s at ≡ got ps n → Split ps n
  unfolding positions_at
  positions_first ps n e =
      let q = parts (position_at w least last s at) _ ps n e in
      record {
        p = q.first;
        next = q.place;
        was = q.was;
        others = pushed q.first (positions_at w k 1 q.first s q.place) ps n q.rest;
      }

pub none_read : {ps : List ℕ} {at n : ℕ} → got [] at ≡ got ps n → ps ≡ []
none_read e = cc

module _ (w : ℕ) (s : List ℕ) where
  pub positions_count : (k least last at : ℕ) (ps : List ℕ) (n : ℕ) → positions_at w k least last s at ≡ got ps n → length ps ≡ k
  unfolding positions_at
  positions_count zero least last at ps n e = rw (none_read e)
  positions_count (suc k) least last at ps n e =
      let f = positions_first w k least last s at ps n e in
      rw f.others.whole (ap suc (positions_count k 1 f.p f.next f.others.rest n f.others.was))
