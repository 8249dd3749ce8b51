-- Reading and writing a claim undo one another.
--     claim_ascending     the positions that are read are strictly ascending and below w
--     claim_back          what is written for ascending positions is read as these positions
--     claim_one           the bytes of an accepted claim are those that are written for its positions: only the shortest form is accepted
--     claim_same_bytes    so two accepted claims with the same positions are the same bytes
--     claim_bytes_inj     and two lists of positions with the same bytes are the same
-- `Stands` says what stands in a file from a place on; what was written stands there part by part, and each part is read where it stands. The
-- other way, each number that is read takes its own bytes off the front of the file, and at the end no byte is left.
use mathlib.Core.Path.{◌≡◌, refl, sym, ◌∙◌}
use mathlib.Core.List.{List, [], ◌∷◌, ◌++◌, append-nil, append_assoc}
use Prim.Native.Nat.{ℕ, zero, suc, ◌+◌, ◌-◌, ◌≤◌, ◌<◌}
use native.Mathlib.Omega.{arith}
use native.Mathlib.Nat.{add-zero}
use borrow.Author.Tests.{le-ltb}
use lib.ListN.{length, drop, length-append, take-append-drop, drop_of_length-le}
use lib.Seq.{drop-drop}
use Rattle.numbers.specs.Reading.{got, number_at, field_at, version_at}
use Rattle.numbers.specs.Writing.{bytes_of}
use Rattle.numbers.proofs.ReadingLaws.{parts}
use Rattle.numbers.proofs.FieldLaws.{field_in, field_number}
use Rattle.numbers.proofs.VersionLaws.{version_one, version_got, version_number}
use Rattle.numbers.proofs.RoundTrip.{Stands, sets_stand, stands_read, Bytes, put_read}
use Rattle.files.specs.Table.{most_facts}
use Rattle.cells.proofs.RowMemory.{sets_whole}
use Rattle.claim_reader.specs.ClaimFile.{
  count_at,
  positions_at,
  rest_at,
  claim_at,
  claim_bytes,
  AscendingFrom,
  AscendingBelow,
}
use Rattle.claim_reader.specs.Stages.{position_bytes}
use Rattle.claim_reader.proofs.AscendingPositions.{positions_ascending}
use Rattle.claim_reader.proofs.PositionLaws.{
  count_after,
  position_far,
  position_got,
  positions_none,
  positions_more,
  positions_first,
  positions_count,
}
use Rattle.claim_reader.proofs.ClaimLaws.{claim_got, claim_counted}
use Rattle.claim_reader.proofs.ClaimBytes.{bytes_none, bytes_more, bytes_claim}

pub claim_ascending : (w : ℕ) (s ps : List ℕ) (n : ℕ) → claim_at w s ≡ got ps n → AscendingBelow w ps
claim_ascending w s ps n e = let r = claim_got w s ps n e in positions_ascending w s r.k 0 0 r.at ps n r.listed

-- ---- what is written stands in the file

stands_self : (s : List ℕ) → Stands s 0 s
stands_self s = rw (sets_whole s s refl) at (sets_stand s s 0 (omega arith))

stands_parts : (xs ys s : List ℕ) (at : ℕ) → Stands s at (xs ++ ys) → Stands s at xs × Stands s (at + length xs) ys
stands_parts [] ys s at st = (tt, rw (add-zero at) st)
stands_parts (x ∷ xs) ys s at st =
    let r = stands_parts xs ys s (at + 1) st.2 in
    let past : at + length (x ∷ xs) ≡ at + 1 + length xs = omega arith in
    ((st.0, st.1, r.0), rw past r.1)

-- ---- and is read

ascending_most : (w least : ℕ) (ps : List ℕ) → AscendingFrom w least ps → length ps ≤ w - least
ascending_most w least [] a = omega arith
ascending_most w least (p ∷ ps) a = omega (arith, ascending_most w (p + 1) ps a.2)

module _ (w : ℕ) (small : w ≤ most_facts) (s : List ℕ) where
  -- a number that stands in the file, in its range, is read
  stands_field : (at v low end : ℕ) → low ≤ v → v < end → end ≤ most_facts + 1 → Stands s at (bytes_of v)
      → field_at s at low end ≡ got v (at + length (bytes_of v))
  stands_field at v low end l h m st = field_in s at low end (stands_read s at v (omega arith) st) l h

  positions_back : (ps : List ℕ) (least last at : ℕ) → AscendingFrom w (last + least) ps → Stands s at (position_bytes last ps)
      → positions_at w (length ps) least last s at ≡ got ps (at + length (position_bytes last ps))
  positions_back [] least last at a st = positions_none w least last s at ∙ rw (bytes_none last, add-zero at)
  positions_back (p ∷ ps) least last at a st =
      let b = bytes_more last p ps in
      let t = stands_parts (bytes_of (p - last)) (position_bytes p ps) s at (rw b at st) in
      let f = stands_field at (p - last) least (w - last) (omega arith) (omega arith) (omega arith) t.0 in
      let here : last + (p - last) ≡ p = omega arith in
      let r = rw here at (position_far w least last s at f) in
      let past : at + length (position_bytes last (p ∷ ps)) ≡ at + length (bytes_of (p - last)) + length (position_bytes p ps)
      = rw (b, length-append) (omega arith) in
      positions_more w (length ps) least last s at r ∙ rw (positions_back ps 1 p _ a.2 t.1, past)

  claim_stands : (ps : List ℕ) → AscendingBelow w ps → Stands s 0 (claim_bytes ps) → length s ≤ length (claim_bytes ps)
      → claim_at w s ≡ got ps (length (claim_bytes ps))
  unfolding rest_at
  claim_stands ps a st long =
      let b = bytes_claim ps in
      let t = stands_parts (bytes_of 1) _ s 0 (rw b at st) in
      let u = stands_parts (bytes_of (length ps)) (position_bytes 0 ps) s _ t.1 in
      let v = version_one s (stands_read s 0 1 (omega arith) t.0) refl in
      let c = count_after w s v ∙ stands_field _ (length ps) 0 (w + 1) (omega arith) (omega (arith, ascending_most w 0 ps a)) (omega arith) u.0 in
      let l = positions_back ps 0 0 _ a u.1 in
      let end : length (claim_bytes ps) ≡ 0 + length (bytes_of 1) + length (bytes_of (length ps)) + length (position_bytes 0 ps)
      = rw b (simp length-append (omega arith)) in
      claim_counted w s c ∙ rw (l, ← end) (simp (le-ltb _ _ long))

pub claim_back : (w : ℕ) (ps : List ℕ) → w ≤ most_facts → AscendingBelow w ps → claim_at w (claim_bytes ps) ≡ got ps (length (claim_bytes ps))
claim_back w ps small a = claim_stands w small (claim_bytes ps) ps a (stands_self (claim_bytes ps)) (omega arith)

-- ---- an accepted claim is what is written for its positions

-- a position taken off, and then the others
off_more : (last p : ℕ) (rest z : List ℕ) {x y ps : List ℕ} → x ≡ bytes_of (p - last) ++ y → y ≡ position_bytes p rest ++ z → ps ≡ p ∷ rest
    → x ≡ position_bytes last ps ++ z
off_more last p rest z a b e = a ∙ rw (e, bytes_more, append_assoc, b)

module _ (s : List ℕ) (bytes : Bytes s) where
  -- a number that is read takes its bytes off the front
  number_off : (at v n : ℕ) → number_at s at ≡ got v n → drop at s ≡ bytes_of v ++ drop n s
  number_off at v n e =
      let p = put_read s at v n bytes e in
      sym (take-append-drop (length (bytes_of v)) (drop at s)) ∙ rw (p.1, drop-drop, ← p.0)

  field_off : (at low end v n : ℕ) → field_at s at low end ≡ got v n → drop at s ≡ bytes_of v ++ drop n s
  field_off at low end v n e = number_off at v n (field_number s at low end v n e)

  positions_off : (w k least last at : ℕ) (ps : List ℕ) (n : ℕ) → positions_at w k least last s at ≡ got ps n
      → drop at s ≡ position_bytes last ps ++ drop n s
  positions_off w zero least last at ps n e =
      let q = sym (positions_none w least last s at) ∙ e in
      let z : [] ≡ ps = cc in
      let m : at ≡ n = cc in
      rw (← z, bytes_none, m)
  positions_off w (suc k) least last at ps n e =
      let f = positions_first w k least last s at ps n e in
      let d = (position_got w least last s at f.p f.next f.was).distance in
      let rest = positions_off w k 1 f.p f.next f.others.rest n f.others.was in
      off_more last f.p f.others.rest (drop n s) (field_off at _ _ _ f.next d) rest f.others.whole

  count_off : (w k at : ℕ) → count_at w s ≡ got k at → s ≡ bytes_of 1 ++ (bytes_of k ++ drop at s)
  unfolding count_at
  count_off w k at e =
      let v = parts (version_at s) _ k at e in
      let one = (version_got s v.first v.place v.was).0 in
      let a = number_off 0 v.first v.place (version_number s v.first v.place v.was) in
      a ∙ rw (one, field_off v.place _ _ k at v.rest)

pub claim_one : (w : ℕ) (s ps : List ℕ) (n : ℕ) → Bytes s → claim_at w s ≡ got ps n → s ≡ claim_bytes ps
claim_one w s ps n bytes e =
    let r = claim_got w s ps n e in
    let all = positions_off s bytes w r.k 0 0 r.at ps n r.listed in
    let many = positions_count w s r.k 0 0 r.at ps n r.listed in
    count_off s bytes w r.k r.at r.counted
    ∙ rw (all, drop_of_length-le s r.end, append-nil, bytes_claim ps, many)

pub claim_same_bytes : (w : ℕ) (s s' ps : List ℕ) (n n' : ℕ) → Bytes s → Bytes s' → claim_at w s ≡ got ps n → claim_at w s' ≡ got ps n' → s ≡ s'
claim_same_bytes w s s' ps n n' b b' e e' = claim_one w s ps n b e ∙ sym (claim_one w s' ps n' b' e')

pub claim_bytes_inj : (w : ℕ) (ps qs : List ℕ) → w ≤ most_facts → AscendingBelow w ps → AscendingBelow w qs → claim_bytes ps ≡ claim_bytes qs → ps ≡ qs
claim_bytes_inj w ps qs small a b e =
    let p = claim_back w ps small a in
    let q : claim_at w (claim_bytes ps) ≡ got qs (length (claim_bytes qs)) = rw e (claim_back w qs small b) in
    cc
