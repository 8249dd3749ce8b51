-- Every case that document 01 marks with P is as the document says: one statement over the table of specs/Cases.antt, shown of the definitions alone
-- by one computed test.
use mathlib.Core.Path.{◌≡◌, refl, ap}
use mathlib.Core.Logic.Dec
use mathlib.Core.Option.{Option, none, some, IsSome, get}
use mathlib.Core.List.{List, [], ◌∷◌, map, Memᴰ}
use Prim.Native.Nat.{ℕ}
use native.Mathlib.Decide.{ℕ_discrete, dec_lt, map_dec}
use native.Mathlib.Omega.{arith}
use lib.Dec.{eqb}
use lib.ListN.{length}
use Rattle.numbers.specs.Reading.{Out, got, bad, pick}
use Rattle.files.specs.Table.{Table, W}
use Rattle.files.proofs.Computed.{reads}
use Rattle.model.specs.Rules.{Fact}
use Rattle.model.specs.Errors.{Witness}
use Rattle.model.specs.Positions.{pos, base_p, base_q, fact_at}
use Rattle.model.specs.Claims.{Finding, accepted, lacks_start, not_closed, allows_error}
use Rattle.model.proofs.Decide.{decided, each?}
use Rattle.model.proofs.Decide.Least.{exact?, exact_listed, exact_count, exact_verdict}
use Rattle.model.proofs.Decide.Errors.{verdict?}
use Rattle.model.proofs.Decide.Claims.{finding?}
use Rattle.check_call.specs.declared.answer.Reply.{Reply}
use Rattle.check_call.specs.Answers.{plain, told}
use Rattle.claim_reader.proofs.Computed.{claims}
use Rattle.claim_check_call.specs.Answers.{claim_reply_of, answer_of}
use Rattle.claims.specs.Cases.{Case, refused, checked, claimed, RefusedAs, ReadAs, CheckedAs, ClaimedAs, Shown, cases}

-- ---- the test: where it passes, it gives the proof

given : {A B : Type 0} → Dec A → (A → Option B) → Option B
given (yes a) f = f a
given (no _) f = none

lists? : Discrete (List ℕ)
unfolding Dec.and ℕ_discrete
lists? [] [] = yes refl
lists? [] (y ∷ ys) = no (λ e. absurd (omega (arith, ap length e)))
lists? (x ∷ xs) [] = no (λ e. absurd (omega (arith, ap length e)))
lists? (x ∷ xs) (y ∷ ys) = map_dec (λ (e, es) i. e i ∷ es i) (λ e. (cc, cc)) (Dec.and (ℕ_discrete x y) (lists? xs ys))

reply? : (a b : Reply) → Dec (a ≡ b)
unfolding Dec.and ℕ_discrete
reply? a b =
    map_dec (λ (n, (o, v)) i. record { number = n i; origin = o i; value = v i })
    (λ e. (ap (λ x. x.number) e, (ap (λ x. x.origin) e, ap (λ x. x.value) e)))
    (Dec.and (ℕ_discrete a.number b.number) (Dec.and (ℕ_discrete a.origin b.origin) (ℕ_discrete a.value b.value)))

try_refused : {A : Type 0} (number value : ℕ) (o : Out A) → Option (RefusedAs number value o)
unfolding given reply?
try_refused number value (got a next) = none
try_refused number value (bad r) = given (reply? (told 0 r) (plain number value)) some

try_read : {A : Type 0} {B : A → Type 0} → ((a : A) → Option (B a)) → (o : Out A) → Option (ReadAs B o)
try_read try (got a next) = try a
try_read try (bad r) = none

-- a pass that finds nothing new is the last that matters, so as many passes as facts are enough
try_checked : (w count : ℕ) (facts : List Fact) (positions : List ℕ) (verdict : Option Witness) (T : Table)
    → Option (CheckedAs w count facts positions verdict T)
unfolding given ℕ_discrete lists? dec_lt exact? verdict? W pos base_p base_q
try_checked w count facts positions verdict T =
    given (dec_lt 0 T.n) λ threads.
    given (ℕ_discrete (W T) w) λ wide.
    given (exact? T (length facts) facts) λ exact.
    given (ℕ_discrete (length facts) count) λ counted.
    given (lists? (map (pos T) facts) positions) λ standing.
    given (verdict? T threads facts verdict) λ judged.
    some
    (record {
      wide = wide;
      counted = rw counted at (exact_count exact);
      exactly = exact_listed exact;
      standing = standing;
      judged = exact_verdict exact judged;
    })

-- the finding that a number and a value may tell
finding_by : ℕ → ℕ → Finding
finding_by number value =
    pick (eqb number 9) (lacks_start value) (pick (eqb number 10) (not_closed value) (pick (eqb number 11) (allows_error value) accepted))

try_claimed : (positions : List ℕ) (number value : ℕ) (T : Table) (ps : List ℕ) → Option (ClaimedAs positions number value T ps)
unfolding given lists? reply? dec_lt finding? finding_by fact_at
try_claimed positions number value T ps =
    let finding = finding_by number value in
    given (dec_lt 0 T.n) λ threads.
    given (lists? ps positions) λ same.
    given (finding? T threads (map (fact_at T) ps) finding) λ finds.
    given (reply? (claim_reply_of (answer_of (length ps) finding)) (plain number value)) λ answer.
    some (record { same = same; finding = finding; finds = finds; answer = answer })

try : (c : Case) → Option (Shown c)
unfolding reads claims try_refused try_read try_checked try_claimed
try (refused s number value) = try_refused number value (reads s)
try (checked s w count facts positions verdict) = try_read (try_checked w count facts positions verdict) (reads s)
try (claimed s c positions number value) = try_read (λ T. try_read (try_claimed positions number value T) (claims (W T) c)) (reads s)

passes? : {A : Type 0} (o : Option A) → Dec (IsSome o)
passes? none = no (λ x. x)
passes? (some a) = yes tt

-- ---- every case is as document 01 says

pub shown : (c : Case) → Memᴰ c cases → Shown c
unfolding cases each? passes? try
shown c m = get (try c) (decided (each? (λ c. passes? (try c)) cases) tt c m)
