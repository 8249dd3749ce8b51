-- What is written of the marks that a finished check leaves is the claim of the facts; and the room that the header gives is W.
use mathlib.Core.Path.{◌≡◌, sym, ap, subst, ◌∙◌}
use mathlib.Core.List.{List}
use Prim.Native.Nat.{ℕ, ◌≤◌, ◌<◌}
use Rattle.std.specs.Prelude.{Ok, Err}
use native.Mathlib.Omega.{arith}
use lib.ListN.{length}
use Rattle.files.specs.declared.header.Header.{Header}
use Rattle.files.specs.Table.{w_of, W, most_facts}
use Rattle.files.specs.Header.{header_at}
use Rattle.numbers.specs.declared.reading.Part.{Part}
use Rattle.numbers.specs.declared.refusals.Refusal.{Refusal}
use Rattle.numbers.specs.Reading.{got, part_of}
use Rattle.numbers.proofs.ReadingLaws.{never, part_got, part_bad}
use Rattle.files.proofs.WLaws.{W_max}
use Rattle.files.proofs.TableLaws.{table_got}
use Rattle.store.specs.Clearing.{Cleared}
use Rattle.verdict.specs.declared.search.Verdict.{Verdict}
use Rattle.check_call.specs.declared.answer.CheckRefusal.{CheckRefusal}
use Rattle.check_call.specs.declared.answer.CheckRefusal.TheVariants as check
use Rattle.check_call.specs.Answer.{Done}
use Rattle.check_call.specs.Checking.{Checked}
use Rattle.check_call.proofs.Exactly.{check_done}
use Rattle.claim_of_marks.specs.Writing.{ClaimPut}
use Rattle.claim_reader.specs.Marks.{positions_in}
use Rattle.claim_write_call.specs.WriteAnswer.{WriteAnswer, Written, NoSpace}
use Rattle.claim_write_call.specs.declared.answer.WriteRefusal.TheVariants.{Check}
use Rattle.claim_write_call.specs.ClaimWriting.{ClaimWritten, refused, short, over, no_space, written}
use Rattle.claim_write_call.specs.WriteStages.{WOf, marks_claim, MarksWritten, no_room, put}
use Rattle.claim_write_call.proofs.PositionsOfFacts.{claim_of_marks}

-- ---- the room, by the header

-- the room that a header's sizes give
abbrev w_in : Header → ℕ
w_in h = w_of h.sizes.threads h.sizes.shared h.sizes.locals h.sizes.frames

-- a header's value is the header of the table
header_same : (s : List ℕ) {h h' : Header} {p p' : ℕ} → header_at s ≡ got h p → header_at s ≡ got h' p' → h ≡ h'
header_same s e e' = let q = sym e ∙ e' in cc

pub header_w : (s : List ℕ) {h : Part Header} {w : ℕ} → Ok h ≡ part_of (header_at s) → w ≡ w_in h.value → WOf s w
unfolding W
header_w s e q T next is =
    let g = table_got s T next is in
    q ∙ ap w_in (header_same s (part_got (header_at s) e) g.header_was) ∙ ap W (sym g.is)

-- no table has a header that is refused
pub no_header_w : (s : List ℕ) {r : Refusal} {w : ℕ} → Err r ≡ part_of (header_at s) → WOf s w
no_header_w s e T next is =
    let g = table_got s T next is in
    let q = sym (part_bad (header_at s) e) ∙ g.header_was in
    never (cc)

-- ---- what is written of marks

module _ {w count : ℕ} {verdict : Verdict} {m d : List ℕ} where
  pub marks_no_room : {needed : ℕ} {m' : List ℕ} → needed ≡ length (marks_claim w m) → length d < needed → Cleared w m m'
      → MarksWritten w count verdict m d (NoSpace needed) m' d
  marks_no_room e l z = rw e (no_room (rw e at l) z)

  pub marks_put : {bytes : ℕ} {d' : List ℕ} → length (marks_claim w m) ≤ length d → ClaimPut (positions_in w m) d d' bytes
      → MarksWritten w count verdict m d (Written count verdict bytes) m d'
  marks_put l p = rw (p.count, p.bytes) (put l)

-- ---- a check that is not finished

pub passed_on : {s : List ℕ} {budget : ℕ} {m d : List ℕ} {m' : List ℕ} (x : CheckRefusal) → Checked s budget m (Err x) m'
    → ClaimWritten s budget m d (Err (Check x)) m' d
passed_on (check.File x) c = refused c
passed_on (check.Short w) c = short c
passed_on (check.Over budget) c = over c

-- ---- from the marks to the table

-- the room is W, no more than the largest, and no more than the memory that a finished check leaves
pub check_w : {s : List ℕ} {budget : ℕ} {m : List ℕ} {count : ℕ} {verdict : Verdict} {m₁ : List ℕ} {w : ℕ}
    → Checked s budget m (Done count verdict) m₁ → WOf s w → (w ≤ most_facts) × (w ≤ length m₁)
check_w c room =
    let k = check_done c in
    let e = room k.table k.next k.is in
    omega (arith, W_max k.table k.sound, k.finished.relations.long)

module _ {s : List ℕ} {budget : ℕ} {m : List ℕ} {count : ℕ} {verdict : Verdict} {m₁ d : List ℕ} (c : Checked s budget m (Done count verdict) m₁) where
  of_marks : {r : WriteAnswer} {m' d' : List ℕ} → MarksWritten (W (check_done c).table) count verdict m₁ d r m' d'
      → ClaimWritten s budget m d r m' d'
  of_marks (no_room l z) =
      let k = check_done c in
      no_space c (claim_of_marks k) l (record { zeros = z.zeros; rest = z.rest ∙ k.finished.rest })
  of_marks (put l) = written c (claim_of_marks (check_done c)) l

  pub marks_written : {w : ℕ} {r : WriteAnswer} {m' d' : List ℕ} → WOf s w → MarksWritten w count verdict m₁ d r m' d'
      → ClaimWritten s budget m d r m' d'
  marks_written {r = r} {m'} {d'} room w =
      let k = check_done c in
      of_marks (subst (λ (w : ℕ). MarksWritten w count verdict m₁ d r m' d') (room k.table k.next k.is) w)
