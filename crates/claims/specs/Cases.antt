-- The cases that document 01 marks with P ("Reference tables and results"): one table of them, and what it means that each is as the document
-- says, by the definitions of the table's file, of the rules and of what is found of a claim.
--     Case     what the document says of a table's file, or of a claim's file for a table
--     Shown    that this is so
--     cases    the table
use Rattle.std.specs.Prelude.{◌≡◌, ◌↔◌, ℕ, length, take, set}
use Rattle.std.proofs.Math.Option.{Option, none, some}
use mathlib.Core.List.{List, [], ◌∷◌, map, Memᴰ}
use Rattle.numbers.specs.Reading.{Out, got, bad}
use Rattle.files.specs.Table.{Table, W}
use Rattle.files.specs.File.{table_at}
use Rattle.model.specs.Rules.{Fact, G, P, Q, Derives}
use Rattle.model.specs.Errors.{Witness}
use Rattle.model.specs.Verdict.{Verdict}
use Rattle.model.specs.Positions.{pos}
use Rattle.model.specs.Memory.{FactCount}
use Rattle.model.specs.Claims.{Claimed, Finding, Finds}
use Rattle.check_call.specs.Answers.{plain, told}
use Rattle.claim_reader.specs.ClaimFile.{claim_at}
use Rattle.claim_check_call.specs.Answers.{claim_reply_of, answer_of}

-- ---- what a case says

pub data Case : Type 0 where
  -- the table's file is refused, with this number and value: "Empty input: 1, value 0 (P)."
  refused : (table : List ℕ) (number value : ℕ) → Case
  -- the table is checked: its W, the number of its facts, these facts, their positions, and the verdict, with its witness if it is "possible":
  -- "safe, one fact, W = 2", "possible, row 0, g 0, local 0 (P)"
  checked : (table : List ℕ) (w count : ℕ) (facts : List Fact) (positions : List ℕ) (verdict : Option Witness) → Case
  -- the claim for the table claims these positions, and is answered with this number and value: "accepted, facts 1, 4, 7, 20, 23", where the
  -- number is 0 and the value the claim's count; "10, value 23"
  claimed : (table claim positions : List ℕ) (number value : ℕ) → Case

-- ---- that it is so

-- a table's file is refused, with this number and value and origin 0
abbrev pub RefusedAs : {A : Type 0} → ℕ → ℕ → Out A → Type 0
RefusedAs number value (got a next) = ⊥
RefusedAs number value (bad r) = told 0 r ≡ plain number value

-- a file is read, and what was read is in B
abbrev pub ReadAs : {A : Type 0} → (A → Type 0) → Out A → Type 0
ReadAs B (got a next) = B a
ReadAs B (bad r) = ⊥

-- of a table: its W, and of the least relations their number of facts, that they hold these facts and no others, where these stand, and the verdict
pub record CheckedAs (w count : ℕ) (facts : List Fact) (positions : List ℕ) (verdict : Option Witness) (T : Table) : Type 0 where
  pub wide : W T ≡ w
  pub counted : FactCount T count
  pub exactly : (f : Fact) → Derives T f ↔ Memᴰ f facts
  pub standing : map (pos T) facts ≡ positions
  pub judged : Verdict T (Derives T) verdict

-- of a claim for the table T that was read as ps: what is found of its facts, and the answer that tells it
pub record ClaimedAs (positions : List ℕ) (number value : ℕ) (T : Table) (ps : List ℕ) : Type 0 where
  pub same : ps ≡ positions
  pub finding : Finding
  pub finds : Finds T (Claimed T ps) finding
  pub answer : claim_reply_of (answer_of (length ps) finding) ≡ plain number value

-- a case is as the document says, by what the definitions read the two files as ("The cases marked P are shown of the definitions by a single table
-- and one statement", "How sharp the contracts are")
abbrev pub Shown : Case → Type 0
Shown (refused s number value) = RefusedAs number value (table_at s)
Shown (checked s w count facts positions verdict) = ReadAs (CheckedAs w count facts positions verdict) (table_at s)
Shown (claimed s c positions number value) = ReadAs (λ T. ReadAs (ClaimedAs positions number value T) (claim_at (W T) c)) (table_at s)

-- ---- the cases

-- "Recursion (29 bytes, marked P)"
abbrev pub recursion : List ℕ
recursion =
    1 ∷ 1 ∷ 2 ∷ 2 ∷ 1 ∷ 0 ∷ 0 ∷ 0 ∷ 1 ∷ 0 ∷ 0 ∷ 0 ∷ 1 ∷ 1 ∷ 1 ∷ 0 ∷ 0 ∷ 0 ∷ 0 ∷ 0 ∷ 1 ∷ 0 ∷ 1 ∷ 1 ∷ 0 ∷ 1 ∷ 1 ∷ 2 ∷ 1 ∷ []

-- "Smallest table (P)", 12 bytes
abbrev pub smallest : List ℕ
smallest = 1 ∷ 1 ∷ 1 ∷ 1 ∷ 0 ∷ 0 ∷ 0 ∷ 0 ∷ 0 ∷ 0 ∷ 0 ∷ 0 ∷ []

-- in the document's order: the recursion table, the five claims for it, the smallest table, three changes of it, and the empty input
unfoldable pub cases : List Case
cases =
    checked recursion 36 5 (G 0 0 1 ∷ P 0 0 0 0 0 ∷ P 0 0 0 1 1 ∷ Q 0 0 0 0 0 0 ∷ Q 0 0 0 0 1 1 ∷ []) (1 ∷ 4 ∷ 7 ∷ 20 ∷ 23 ∷ []) none
    ∷ claimed recursion (1 ∷ 5 ∷ 1 ∷ 3 ∷ 3 ∷ 13 ∷ 3 ∷ []) (1 ∷ 4 ∷ 7 ∷ 20 ∷ 23 ∷ []) 0 5  -- accepted
    ∷ claimed recursion (1 ∷ 6 ∷ 1 ∷ 3 ∷ 3 ∷ 12 ∷ 1 ∷ 3 ∷ []) (1 ∷ 4 ∷ 7 ∷ 19 ∷ 20 ∷ 23 ∷ []) 0 6  -- accepted though larger
    ∷ claimed recursion (1 ∷ 4 ∷ 1 ∷ 3 ∷ 3 ∷ 13 ∷ []) (1 ∷ 4 ∷ 7 ∷ 20 ∷ []) 10 23
    ∷ claimed recursion (1 ∷ 7 ∷ 1 ∷ 3 ∷ 2 ∷ 1 ∷ 13 ∷ 2 ∷ 1 ∷ []) (1 ∷ 4 ∷ 6 ∷ 7 ∷ 20 ∷ 22 ∷ 23 ∷ []) 11 1
    ∷ claimed recursion (1 ∷ 0 ∷ []) [] 9 0
    ∷ checked smallest 2 1 (P 0 0 0 0 0 ∷ []) (1 ∷ []) none
    ∷ checked (set smallest 5 1) 2 1 (P 0 0 0 0 0 ∷ []) (1 ∷ []) (some (record { row = 0; shared = 0; locals = 0 ∷ [] }))
    ∷ refused (take 11 smallest) 1 11
    ∷ refused (set smallest 1 5) 4 1
    ∷ refused [] 1 0
    ∷ []
