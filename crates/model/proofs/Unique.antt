-- What is reported is determined: the first W bytes by the set of facts that they hold, the number of facts, the smallest number of a set
-- (a lacking thread, a missing position, an allowed row), the verdict with its witness, and the finding on a claim.
use mathlib.Core.Path.{◌≡◌, refl, ap}
use mathlib.Core.Option.{Option, some}
use mathlib.Core.List.{List}
use Prim.Native.Nat.{ℕ, suc, ◌<◌}
use native.Mathlib.Decide.{dec_lt}
use native.Mathlib.Omega.{arith}
use lib.ListN.{length, take}
use lib.Seq.{length-take-le, get_or-take, ext_get_or}
use Rattle.files.specs.Table.{Table, W}
use Rattle.model.specs.Rules.{Fact, Starts, ClosedWithStarts}
use Rattle.model.specs.Errors.{Witness, Safe}
use Rattle.model.specs.Verdict.{Verdict, safe, possible}
use Rattle.model.specs.Memory.{Says, holds, fails, Holds, Counts, none, one, skip, FactCount}
use Rattle.model.specs.Claims.{
  First,
  LacksStart,
  Missing,
  AllowsRow,
  Finding,
  lacks_start,
  not_closed,
  allows_error,
  Finds,
  whole,
  lacking,
  missing,
  allowing,
}
use Rattle.model.proofs.Order.{≼-antisym, witness_by_numbers}

-- ---- the memory

-- marks that say one thing are equal
pub says_same : {A : Type 0} {x y : ℕ} → Says A x → Says A y → x ≡ y
says_same (holds a) (holds b) = refl
says_same (holds a) (fails n) = absurd (n a)
says_same (fails n) (holds b) = absurd (n b)
says_same (fails n) (fails m) = refl

-- with the least relations for S this is Relations
pub holds_same : {T : Table} {S : Fact → Type 0} {mem mem' : List ℕ} → Holds T S mem → Holds T S mem'
    → take (W T) mem ≡ take (W T) mem'
holds_same {T} {mem} {mem'} h h' =
    let e : length (take (W T) mem) ≡ W T = length-take-le (W T) mem h.long in
    let e' : length (take (W T) mem') ≡ W T = length-take-le (W T) mem' h'.long in
    ext_get_or 0 (take (W T) mem) (take (W T) mem') (omega arith)
    (λ p l. let i : p < W T = omega arith in simp get_or-take (says_same (h.says p i) (h'.says p i)))

-- ---- the number of facts, and the smallest number of a set

counts_same : {A : ℕ → Type 0} {w c c' : ℕ} → Counts A w c → Counts A w c' → c ≡ c'
counts_same none none = refl
counts_same (one k a) (one k' a') = ap suc (counts_same k k')
counts_same (one k a) (skip k' n) = absurd (n a)
counts_same (skip k n) (one k' a) = absurd (n a)
counts_same (skip k n) (skip k' n') = counts_same k k'

pub fact_count_same : (T : Table) {c c' : ℕ} → FactCount T c → FactCount T c' → c ≡ c'
fact_count_same T = counts_same

pub first_same : {A : ℕ → Type 0} {p q : ℕ} → First A p → First A q → p ≡ q
first_same {p} {q} a b = go (dec_lt p q) (dec_lt q p)
  where
    go : Dec (p < q) → Dec (q < p) → p ≡ q
    go (yes h) _ = absurd (b.none p h a.here)
    go (no _) (yes h) = absurd (a.none q h b.here)
    go (no h) (no h') = omega arith

-- ---- the verdict

pub verdict_same : {T : Table} {S : Fact → Type 0} {v v' : Option Witness} → Verdict T S v → Verdict T S v' → v ≡ v'
verdict_same (safe _) (safe _) = refl
verdict_same (safe n) (possible s) = absurd (n _ s.allowed)
verdict_same (possible s) (safe n) = absurd (n _ s.allowed)
verdict_same (possible {w} s) (possible {w = v} s') =
    ap some (witness_by_numbers w v (≼-antisym (s.least v s'.allowed) (s'.least w s.allowed)))

-- ---- the finding on a claim

module _ {T : Table} {S : Fact → Type 0} where
  -- what is found at one stage rules out what the later stages take for granted
  lack_never : {t : ℕ} {A : Type 0} → First (LacksStart T S) t → Starts T S → A
  lack_never f s = absurd (f.here.not (s _ f.here.thread))

  missing_never : {p : ℕ} {A : Type 0} → First (Missing T S) p → ClosedWithStarts T S → A
  missing_never f c = absurd (f.here.not (c.closed _ f.here.yields))

  row_never : {row : ℕ} {A : Type 0} → First (AllowsRow T S) row → Safe T S → A
  row_never f s = absurd (s _ f.here.allows)

  pub finding_same : {a b : Finding} → Finds T S a → Finds T S b → a ≡ b
  finding_same (whole c s) (whole _ _) = refl
  finding_same (whole c s) (lacking f) = lack_never f c.starts
  finding_same (whole c s) (missing _ f) = missing_never f c
  finding_same (whole c s) (allowing _ f) = row_never f s
  finding_same (lacking f) (whole c _) = lack_never f c.starts
  finding_same (lacking f) (lacking f') = ap lacks_start (first_same f f')
  finding_same (lacking f) (missing s _) = lack_never f s
  finding_same (lacking f) (allowing c _) = lack_never f c.starts
  finding_same (missing s f) (whole c _) = missing_never f c
  finding_same (missing s f) (lacking f') = lack_never f' s
  finding_same (missing s f) (missing _ f') = ap not_closed (first_same f f')
  finding_same (missing s f) (allowing c _) = missing_never f c
  finding_same (allowing c f) (whole _ s) = row_never f s
  finding_same (allowing c f) (lacking f') = lack_never f' c.starts
  finding_same (allowing c f) (missing _ f') = missing_never f' c
  finding_same (allowing c f) (allowing _ f') = ap allows_error (first_same f f')
