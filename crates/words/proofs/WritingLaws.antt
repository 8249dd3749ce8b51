-- A text that is written, and then another, are their join that is written. So the writers go from left to right, and each adds its own part: a
-- byte, a word, a number.
use mathlib.Core.Path.{◌≡◌, refl, sym, ◌∙◌}
use mathlib.Core.List.{List, [], ◌∷◌, ◌++◌, append_assoc}
use Prim.Native.Nat.{ℕ, ◌+◌, ◌/◌, ◌%◌, ◌≤◌, ◌<◌}
use native.Mathlib.Nat.{add-zero}
use native.Mathlib.Omega.{arith}
use lib.ListN.{length, length-append}
use lib.Seq.{length-take-le, drop-drop}
use borrow.Rule.Slice.PartMut.{put_mid}
use Rattle.std.proofs.lemmas.List.Edits.{sets, sets-eq}
use Rattle.words.specs.Text.{digit, decimal, Written}
use Rattle.words.specs.Writing.{Wrote}
use Rattle.words.specs.declared.writer.Writer.{Writer}
use Rattle.numbers.proofs.PutLaws.{sets_append}
use Rattle.words.proofs.DecimalLaws.{decimal_one, decimal_more}

pub wrote_none : (w : Writer) → Wrote [] w w
wrote_none w = record { name = refl; long = refl; bytes = refl; next = sym (add-zero w.at) }

pub wrote_then : {xs ys : List ℕ} {a b c : Writer} → Wrote xs a b → Wrote ys b c → Wrote (xs ++ ys) a c
wrote_then {xs} {ys} {a} p q =
    record {
      name = q.name ∙ p.name;
      long = q.long ∙ p.long;
      bytes = q.bytes ∙ cc (p.bytes, p.next, sets_append xs ys a.out.now a.at);
      next = omega (arith, p.next, q.next, length-append xs ys);
    }

-- a text at the start of the buffer
pub written : {text : List ℕ} {old new : Writer} → old.at ≡ 0 → Wrote text old new → Written text old.out.now new.out.now new.at
written {new} z p =
    record {
      bytes = rw (← z) p.bytes;
      count = omega (arith, p.next, z);
      room = (new.within, sym (length-take-le new.at new.out.now new.within));
    }

-- a word, copied as it stands
pub bytes_copied : (at k : ℕ) (word d copy : List ℕ) → copy ≡ word → k ≡ length word → at + length word ≤ length d → put_mid at k d copy ≡ sets d at word
bytes_copied at k word d copy e l h = rw (e, l, sets-eq word d at h, drop-drop, append_assoc)

-- what stands before the last digit of a number: the digits of its tenth, if it has more than one
module _ {v : ℕ} {a b c : Writer} where
  pub wrote_one : v < 10 → b ≡ a → Wrote (digit (v % 10) ∷ []) b c → Wrote (decimal v) a c
  wrote_one h e p = let d : v % 10 ≡ v = omega arith in rw (decimal_one v h) (rw (d, e) at p)

  pub wrote_more : {m : Writer} → 10 ≤ v → b ≡ m → Wrote (decimal (v / 10)) a m → Wrote (digit (v % 10) ∷ []) b c → Wrote (decimal v) a c
  wrote_more h e p q = rw (decimal_more v h) (wrote_then p (rw e at q))
