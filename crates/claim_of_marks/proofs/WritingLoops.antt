-- What is written of a claim: its positions, and the whole of it.
use mathlib.Core.Path.{◌≡◌, refl, sym, ap, ◌∙◌}
use mathlib.Core.List.{List, [], ◌∷◌}
use Prim.Native.Nat.{ℕ, ◌+◌, ◌*◌, ◌≤◌}
use native.Mathlib.Omega.{arith}
use native.Mathlib.Nat.{add-zero, zero-add}
use lib.ListN.{length, length-append}
use lib.Seq.{sets, length-sets}
use Rattle.numbers.specs.Writing.{bytes_of}
use Rattle.numbers.specs.Putting.{Put}
use Rattle.numbers.proofs.PutLaws.{sets_append, put_then}
use Rattle.claim_of_marks.specs.declared.writing.Totals.{Totals}
use Rattle.claim_reader.specs.ClaimFile.{claim_bytes, bytes_of_all}
use Rattle.claim_of_marks.specs.Writing.{ClaimPut}
use Rattle.claim_reader.specs.Marks.{positions_in}
use Rattle.claim_reader.specs.Stages.{position_bytes}
use Rattle.claim_of_marks.specs.Stages.{totals_of}
use Rattle.claim_reader.proofs.ClaimBytes.{bytes_claim, bytes_most}
use Rattle.claim_reader.proofs.MarkedPositions.{positions_most}
use Rattle.claim_of_marks.proofs.DistanceLaws.{no_bytes, more_bytes}

-- ---- numbers one after the other

-- of the numbers ns, which are written from `at` on, `rest` are still to be written, from `next` on
pub record Writing (ns : List ℕ) (at : ℕ) (space₀ rest : List ℕ) (next : ℕ) (space : List ℕ) : Type 0 where
  pub long : length space ≡ length space₀
  pub room : next + length (bytes_of_all rest) ≤ length space
  pub same : sets space₀ at (bytes_of_all ns) ≡ sets space next (bytes_of_all rest)
  pub past : at + length (bytes_of_all ns) ≡ next + length (bytes_of_all rest)

module _ {ns : List ℕ} {at : ℕ} {space₀ : List ℕ} where
  pub write_start : at + length (bytes_of_all ns) ≤ length space₀ → Writing ns at space₀ ns at space₀
  write_start h = record { long = refl; room = h; same = refl; past = refl }

  module _ {rest : List ℕ} {next : ℕ} {space : List ℕ} (s : Writing ns at space₀ rest next space) where
    pub write_room : {n : ℕ} {left : List ℕ} → rest ≡ n ∷ left → next + length (bytes_of n) ≤ length space
    write_room {n} {left} e = let h = rw (e, more_bytes n left, length-append) at s.room in omega arith

    pub write_more : {n next' : ℕ} {left space' : List ℕ} → rest ≡ n ∷ left → Put (bytes_of n) next space space' next'
        → Writing ns at space₀ left next' space'
    write_more {n} {next'} {left} {space'} e put =
        let room = rw (e, more_bytes n left, length-append) at s.room in
        let past = rw (e, more_bytes n left, length-append) at s.past in
        let long : length space' ≡ length space = ap length put.bytes ∙ length-sets space next (bytes_of n) in
        record {
          long = long ∙ s.long;
          room = omega (arith, put.next);
          same = rw (e, more_bytes n left, ← sets_append, ← put.bytes, ← put.next) at s.same;
          past = omega (arith, put.next);
        }

    pub write_end : rest ≡ [] → Put (bytes_of_all ns) at space₀ space next
    write_end e =
        record { bytes = sym (rw (e, no_bytes) at s.same); next = sym (rw (e, no_bytes) at s.past ∙ add-zero next) }

-- ---- the whole claim

claim_wide : (ps : List ℕ) → length (claim_bytes ps) ≡ length (bytes_of 1) + length (bytes_of (length ps)) + length (position_bytes 0 ps)
claim_wide ps =
    rw (bytes_claim ps) (simp length-append (omega arith))

module _ (mem : List ℕ) (w : ℕ) {r : Totals} (is : r ≡ totals_of (positions_in w mem)) where
  pub totals_count : r.count ≡ length (positions_in w mem)
  totals_count = ap (λ (x : Totals). x.count) is

  pub totals_width : r.width ≡ length (position_bytes 0 (positions_in w mem))
  totals_width = ap (λ (x : Totals). x.width) is

  pub totals_small : (r.count ≤ w) × (r.width ≤ 4 * w)
  totals_small =
      omega (arith, totals_count, totals_width, positions_most w mem, bytes_most 0 (positions_in w mem))

  -- the bytes of the claim, part by part
  pub totals_claim : length (claim_bytes (positions_in w mem)) ≡ length (bytes_of 1) + length (bytes_of r.count) + r.width
  totals_claim = claim_wide (positions_in w mem) ∙ rw (totals_count, totals_width)

-- the version, the count and the positions, one after the other, are the claim
pub claim_put : (ps : List ℕ) {d d₁ d₂ d₃ : List ℕ} {m n r : ℕ} → Put (bytes_of 1) 0 d d₁ m → Put (bytes_of (length ps)) m d₁ d₂ n
    → Put (position_bytes 0 ps) n d₂ d₃ r → ClaimPut ps d d₃ r
claim_put ps {d} v c l =
    let p = put_then v (put_then c l) in
    record { bytes = p.bytes ∙ rw (bytes_claim ps); count = p.next ∙ rw (bytes_claim ps, zero-add) }
