-- What an answer tells a caller. It is the only one that the contract allows; on a memory that holds a set of facts, such as the least relations
-- or a claim, it is the verdict on that set; and its row is the smallest of an allowed error.
use mathlib.Core.Path.{◌≡◌, refl, sym, ap, ◌∙◌}
use mathlib.Core.Option.{some}
use mathlib.Core.List.{List}
use Prim.Native.Nat.{ℕ, ◌≤◌, ◌<◌}
use native.Mathlib.Decide.{dec_lt}
use native.Mathlib.Omega.{arith}
use lib.ListN.{length, get_or, take}
use lib.Seq.{get_or-take, ext_get_or}
use contract.Lifetimes.{Lfts}
use denote.Triple.Clauses.{AtExit}
use borrow.Fn.Kinds.{Dens, ended_of}
use Rattle.files.specs.Table.{Table, Sound}
use Rattle.model.specs.Rules.{Fact, Derives}
use Rattle.model.specs.Errors.{Witness}
use Rattle.model.specs.Errors as model
use Rattle.model.specs.Verdict.{safe, possible}
use Rattle.model.specs.Positions.{Fits}
use Rattle.model.specs.Memory.{Holds, Relations}
use Rattle.model.specs.Claims.{First, AllowsRow}
use Rattle.model.proofs.Monotone.{verdict_cast}
use Rattle.model.proofs.InRange.{derives_fits}
use Rattle.model.proofs.Memory.{marked_in, in_marked}
use Rattle.model.proofs.Unique.{verdict_same}
use Rattle.model.proofs.Claims.{witness_row}
use Rattle.verdict.specs.declared.search.Witness as search
use Rattle.verdict.specs.declared.search.Verdict.{Verdict}
use Rattle.verdict.specs.declared.search.Verdict.TheVariants.{Safe, Possible}
use Rattle.verdict.specs.Judged.{shown, Padded, Answers}
use Rattle.verdict.specs.ErrorRows.{Judged}
use Rattle.verdict.proofs.search.judge.Reads as judge
use Rattle.verdict.proofs.search.judge.Kinds as judge-kinds

-- ---- the only answer

-- two lists with the same first n numbers, of the same length, and 0 after the first n
padded_same : (n : ℕ) (xs ys : List ℕ) → length xs ≡ length ys → take n xs ≡ take n ys → ((t : ℕ) → n ≤ t → get_or xs t 0 ≡ 0)
    → ((t : ℕ) → n ≤ t → get_or ys t 0 ≡ 0) → xs ≡ ys
padded_same n xs ys long e p q = ext_get_or 0 xs ys long (λ t l. go t (dec_lt t n))
  where
    go : (t : ℕ) → Dec (t < n) → get_or xs t 0 ≡ get_or ys t 0
    go t (yes l) = sym (get_or-take n xs t 0 l) ∙ ap (λ (zs : List ℕ). get_or zs t 0) e ∙ get_or-take n ys t 0 l
    go t (no l) = p t (omega arith) ∙ sym (q t (omega arith))

some_inj : {w v : Witness} → some w ≡ some v → w ≡ v
some_inj e = cc

shown_same : (n : ℕ) (r r' : Verdict) → shown n r ≡ shown n r' → Padded n r → Padded n r' → r ≡ r'
shown_same n Safe Safe e p q = refl
shown_same n Safe (Possible w) e p q = let z : ◌≡◌ {A = ℕ} 0 1 = cc in absurd (omega arith)
shown_same n (Possible w) Safe e p q = let z : ◌≡◌ {A = ℕ} 0 1 = cc in absurd (omega arith)
shown_same n (Possible w) (Possible w') e p q =
    let is = some_inj e in
    let locals = padded_same n w.locals w'.locals (p.0 ∙ sym q.0) (ap (λ (w : Witness). w.locals) is) p.1 q.1 in
    λ i. Possible (record { row = (is i).row; g = (is i).shared; locals = locals i })

module _ {T : Table} where
  pub answers_same : {S : Fact → Type 0} {r r' : Verdict} → Answers T S r → Answers T S r' → r ≡ r'
  answers_same {r} {r'} a b = shown_same T.n r r' (verdict_same a.verdict b.verdict) a.padded b.padded

  -- ---- the verdict on the facts that a memory holds

  pub judged_held : {S : Fact → Type 0} {mem : List ℕ} {r : Verdict} → Holds T S mem → ((f : Fact) → S f → Fits T f)
      → Judged T mem r → Answers T S r
  judged_held h fits j =
      record { verdict = verdict_cast (marked_in h) (λ f a. in_marked h f (fits f a) a) j.verdict; padded = j.padded }

  pub judged_least : {mem : List ℕ} {r : Verdict} → Sound T → Relations T mem → Judged T mem r → Answers T (Derives T) r
  judged_least sound h = judged_held h (derives_fits sound)

  -- ---- the smallest row of an allowed error

  module _ {S : Fact → Type 0} where
    pub possible_row : {w : search.Witness} → Answers T S (Possible w) → First (AllowsRow T S) w.row
    possible_row a = elim a.verdict [ possible w ↦ witness_row w ]

    pub safe_none : Answers T S Safe → model.Safe T S
    safe_none a = elim a.verdict [ safe s ↦ s ]

-- ---- the contract as the prover reads it from the source

pub judge_fixes : (κs : Lfts 4) (a : Dens κs judge-kinds.ps) (x x' : Verdict) (s s' : AtExit (ended_of 4 judge-kinds.ps judge-kinds.r) κs)
    → judge.Pre κs a → judge.Post κs a x s → judge.Post κs a x' s' → x ≡ x'
judge_fixes κs a x x' s s' (T, of) p q = answers_same (p T of) (q T of)
